-- The last job of a draft.
use Rattle.std.specs.Prelude.{ℕ, ◌+◌, cond, eqb, Option, Some, None}
use Rattle.draft.specs.declared.draft.LastJob.{LastJob}

-- the end of its record, before its segments
abbrev pub last_end : Option LastJob → ℕ
last_end None = 0
last_end (Some job) = job.at + 8

-- its line, where it has no segment
abbrev pub bare_line : Option LastJob → Option ℕ
bare_line None = None
bare_line (Some job) = cond (eqb job.segments 0) (Some job.line) None
