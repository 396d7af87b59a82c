-- The opening of a table: which refusal applies, or that none does.
use Rattle.std.proofs.Common.{◌≡◌, ℕ, ◌<◌, ◌≤◌, ◌≢◌, List, IsErrAnd, Ok, Err, Result, refl, ap, subst, arith}
use Rattle.table.specs.declared.Refused.{Refused}
use Rattle.table.specs.declared.Table.{Table}
use Rattle.table.specs.Refusal.{refusal, outcome_of, table_in, table_of}
use Rattle.table.specs.Sound.{Sound}
use Rattle.table.proofs.Whole.{ok_is, err_is}
use Rattle.table.proofs.Sound.{sound_table}
use Rattle.kernel.specs.declared.accepted.Accepted.{Accepted}
use Rattle.kernel.specs.Rules.{JobSet, SomeRunEndsLate}
use Rattle.kernel.specs.Held.{set_of}
use Rattle.kernel.specs.Laws.Tests.{split}
use Rattle.kernel.specs.Laws.Ending.{last_end, late_iff}
use Rattle.jobset.specs.Load.{Laid}
use Rattle.jobset.specs.Laws.Accepted.{accepted_lawful}
use Rattle.services.specs.Open.{jobs_in, Runnable, Answered, Opens}
use Rattle.services.specs.declared.runnable.Runnable.{Runnable as Opened}
use Rattle.services.specs.declared.refusal.Refusal.{Refusal}
use Rattle.services.specs.declared.refusal.Refusal.TheVariants.{Table as OfTable, Late}

module _ (bytes : List ℕ) where
  -- a table that draws none of 1 to 4
  pub whole_sound : (refusal bytes).number ≡ 0 → Sound (table_of bytes)
  whole_sound = sound_table bytes

  -- the test of the longest times decides 5
  pub late_test : (refusal bytes).number ≡ 0 → (jobs_in bytes).frame < last_end (jobs_in bytes) → SomeRunEndsLate (jobs_in bytes)
  late_test e h = (late_iff (jobs_in bytes) (accepted_lawful (table_of bytes) (whole_sound e))).0 h

  pub in_time : (refusal bytes).number ≡ 0 → last_end (jobs_in bytes) ≤ (jobs_in bytes).frame → SomeRunEndsLate (jobs_in bytes) → ⊥
  in_time e h s = let q = (late_iff (jobs_in bytes) (accepted_lawful (table_of bytes) (whole_sound e))).1 s in omega arith

  pub runs_in_frame : Runnable bytes → last_end (jobs_in bytes) ≤ (jobs_in bytes).frame
  runs_in_frame R = split (jobs_in bytes).frame (last_end (jobs_in bytes))
      (λ (h : (jobs_in bytes).frame < last_end (jobs_in bytes)). absurd (R.timely (late_test R.whole h)))
      (λ (h : last_end (jobs_in bytes) ≤ (jobs_in bytes).frame). h)

  module _ {Declined : ℕ → Type 0} {Said : Type 0} where
    -- 1 to 4
    pub declined_table : (refusal bytes).number ≢ 0 → Declined (refusal bytes).number → Answered bytes Declined Said
    declined_table n d = record { faulty = λ q. d; late = λ e s. absurd (n e); runnable = λ R. absurd (n R.whole) }

    -- 5
    pub declined_late : (refusal bytes).number ≡ 0 → (jobs_in bytes).frame < last_end (jobs_in bytes) → Declined 5 → Answered bytes Declined Said
    declined_late e h d = record { faulty = λ n. absurd (n e); late = λ q s. d; runnable = λ R. absurd (R.timely (late_test e h)) }

    pub not_declined : (refusal bytes).number ≡ 0 → last_end (jobs_in bytes) ≤ (jobs_in bytes).frame → Said → Answered bytes Declined Said
    not_declined e h s = record { faulty = λ n. absurd (n e); late = λ q s. absurd (in_time e h s); runnable = λ R. s }

  -- ---- as the code finds it: the answer of reading, and the job set

  pub refused_read : (f : Refused) → Err f ≡ outcome_of bytes → (r : Result Opened Refusal) → IsErrAnd r (λ e. e ≡ OfTable f.fault) → Opens bytes r
  refused_read f read (Err e) is = let (n, q, p) = err_is bytes f read in declined_table n (rw is q)
  refused_read f read (Ok x) is = absurd is

  module _ (t : Table) (read : Ok t ≡ outcome_of bytes) (set : Accepted) (L : Laid t set.jobs) where
    abbrev J : JobSet
    J = set_of set.jobs

    whole : (refusal bytes).number ≡ 0
    whole = (ok_is bytes t read).0

    laid_here : Laid (table_of bytes) set.jobs
    laid_here = subst (λ (x : Table). Laid x set.jobs) (ap table_in read) L

    pub late_read : J.frame < last_end J → Opens bytes (Err Late)
    late_read h = declined_late whole (rw laid_here.set at h) refl

    pub ready_read : (h : last_end J ≤ J.frame) → Opens bytes (Ok (record { set = set; in_frame = h }))
    ready_read h = not_declined whole (rw laid_here.set at h) laid_here
