-- What the private functions promise: one record more in a table and in a scan, as the code adds it. No promise of a public function cites this.
use Rattle.std.specs.Prelude.{ℕ, ◌+◌, List, [], ◌∷◌, Option, Some, None, Result, Ok, Err, Bool, cond, not, set, ltb, eqb}
use Rattle.std.specs.Option.{option_or}
use Rattle.std.specs.Bool.{then_some}
use Rattle.table.specs.Limits.{most_jobs, most_segments}
use Rattle.table.specs.Records.{Placed, Reading, may_end}
use Rattle.table.specs.Refusal.{nothing, learn, outside, earlier, beyond, failing}
use Rattle.table.specs.declared.Job.{Job}
use Rattle.table.specs.declared.Segment.{Segment}
use Rattle.table.specs.declared.Table.{Table}
use Rattle.table.specs.declared.Fault.{Fault}
use Rattle.table.specs.declared.Fault.TheVariants.{Unreadable, OutOfBounds, OutOfOrder, Crowded}
use Rattle.table.specs.declared.Refused.{Refused}
use Rattle.table.specs.declared.scan.Known.{Known}
use Rattle.table.specs.declared.scan.Scan.{Scan}
use Rattle.table.specs.declared.records.Place.{Place}
use Rattle.table.specs.declared.records.Record.{Record}
use Rattle.table.specs.declared.records.Record.TheVariants as Say

-- v at place i, where i is below n
abbrev pub kept : {E : Type 0} → ℕ → List E → ℕ → E → List E
kept n xs i v = cond (ltb i n) (set xs i v) xs

unfoldable pub with_job : Table → Job → Table
with_job t v = record {
  frame = t.frame;
  jobs = t.jobs + 1;
  segments = t.segments;
  job = kept most_jobs t.job t.jobs v;
  segment = t.segment;
}

unfoldable pub with_segment : Table → Segment → Table
with_segment t v = record {
  frame = t.frame;
  jobs = t.jobs;
  segments = t.segments + 1;
  job = t.job;
  segment = kept most_segments t.segment t.segments v;
}

unfoldable pub added : Table → ℕ → Record → Table
added t at (Say.Frame f) = record { frame = f; jobs = t.jobs; segments = t.segments; job = t.job; segment = t.segment }
added t at (Say.Job r b n) = with_job t (record { mark = at; release = r; base = b; first = t.segments; count = n })
added t at (Say.Segment l h m) = with_segment t (record { shortest = l; longest = h; held = m })

-- what the records so far say, by the table and the release of the last job
abbrev pub known_by : Table → ℕ → Known
known_by t release = record { frame = t.frame; release = release; jobs = t.jobs; segments = t.segments }

unfoldable pub known_of : Known → List Placed → Known
known_of k [] = k
known_of k (r ∷ rs) = known_of (learn k r.what) rs

-- the first of these places
abbrev pub first_of : List ℕ → Option ℕ
first_of [] = None
first_of (at ∷ ats) = Some at

-- what is kept of the records for refusals 2 to 4
unfoldable pub scan_of : List Placed → Scan
scan_of rs = record {
  release = (known_of nothing rs).release;
  faulty = first_of (failing outside nothing rs);
  early = first_of (failing earlier nothing rs);
  beyond = first_of (failing beyond nothing rs);
}

unfoldable pub scanned : Scan → Known → ℕ → Record → Scan
scanned x k at r = record {
  release = (learn k r).release;
  faulty = option_or x.faulty (then_some (outside k r) at);
  early = option_or x.early (then_some (earlier k r) at);
  beyond = option_or x.beyond (then_some (beyond k r) at);
}

-- a reading that came to the end of the bytes at a place
unfoldable pub ended_at : List Placed → Place → ℕ → Reading
ended_at rs p end = record { records = rs; whole = may_end p; stop = end }

-- a fault at a place, where there is one; else what comes after it
abbrev pub fault_at : Fault → Option ℕ → Result (Unit {0}) Refused → Result (Unit {0}) Refused
fault_at f (Some at) later = Err (record { fault = f; place = at })
fault_at f None later = later

-- what such a reading is refused for, by what was kept of its records
abbrev pub judged : Bool → Scan → (jobs end : ℕ) → Result (Unit {0}) Refused
judged whole x jobs end =
    fault_at Unreadable (then_some (not whole) end)
    (fault_at OutOfBounds x.faulty (fault_at OutOfOrder x.early (fault_at Crowded (then_some (eqb jobs 0) end) (fault_at Crowded x.beyond (Ok tt)))))
