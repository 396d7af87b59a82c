-- Ceilings: the base of a job by the segments that hold a lock, and the priority of a segment by the locks that it holds.
use Rattle.std.specs.Prelude.{ℕ, zero, suc, ◌+◌, ◌≤◌, ◌<◌, ◌≡◌, refl, max, Bool, true, false, cond, ◌||◌, List, length, get_or, take, drop}
use Rattle.std.specs.List.{list_any}
use Rattle.std.proofs.Common.{arith, add-one, ap, sym, ◌∙◌}
use Rattle.std.proofs.lemmas.List.{get_or-drop, length-drop}
use Rattle.std.proofs.lemmas.List.Folds.{list_any_more}
use Rattle.table.specs.Table.{the_job, the_segment, no_segment}
use Rattle.table.specs.Sound.{Sound}
use Rattle.table.specs.declared.Table.{Table}
use Rattle.table.specs.declared.Segment.{Segment}
use Rattle.kernel.specs.Jobs.{largest, holds, locks, base_of, count_of, number_of, held_by, user_base, ceilings, dispatched_priority}
use Rattle.kernel.specs.Laws.Largest.{largest_same}
use Rattle.jobset.specs.Load.{Ceilings, highest}
use Rattle.jobset.specs.Laws.Accepted.{segments_fit}

-- one number more
pub largest_next : (f : ℕ → ℕ) (k : ℕ) → largest f (k + 1) ≡ max (largest f k) (f k)
unfolding largest
largest_next f k = rw (add-one k)

max_cond : (a b : Bool) (x : ℕ) → max (cond a x 0) (cond b x 0) ≡ cond (a || b) x 0
max_cond true true x = omega arith
max_cond true false x = omega arith
max_cond false b x = omega arith

-- x if one of the first n of a list passes
largest_any : {E : Type 0} (p : E → Bool) (d : E) (ys : List E) (x n : ℕ) → n ≤ length ys
    → largest (λ k. cond (p (get_or ys k d)) x 0) n ≡ cond (list_any p (take n ys)) x 0
unfolding largest
largest_any p d ys x zero h = refl
largest_any p d ys x (suc n) h =
    ap (λ (m : ℕ). max m (cond (p (get_or ys n d)) x 0)) (largest_any p d ys x n (omega arith))
    ∙ max_cond (list_any p (take n ys)) (p (get_or ys n d)) x
    ∙ ap (λ (b : Bool). cond b x 0) (sym (rw (add-one n) at (list_any_more p ys n d (omega arith))))

pub user_base_is : (t : Table) (lock i : ℕ) → Sound t → i < t.jobs → length t.segment ≡ 64
    → user_base t lock i ≡ cond (list_any (λ (s : Segment). holds s.held lock) (take (count_of t i) (drop (the_job t i).first t.segment))) (base_of t i) 0
unfolding user_base
user_base_is t lock i S h l =
    let from : List Segment = drop (the_job t i).first t.segment in
    largest_same _ (λ k. cond (holds (get_or from k no_segment).held lock) (base_of t i) 0) (count_of t i)
    (λ k q. ap (λ (s : Segment). cond (holds s.held lock) (base_of t i) 0) (sym (get_or-drop (the_job t i).first t.segment k no_segment)))
    ∙ largest_any (λ (s : Segment). holds s.held lock) no_segment from (base_of t i) (count_of t i)
    (omega (arith, length-drop (the_job t i).first t.segment, segments_fit t S i h))

-- the priority of segment k of job i, by a row of the table's ceilings
pub dispatched_by : (t : Table) (row : List ℕ) (i number k : ℕ) → Ceilings t row → number ≡ number_of t i k
    → max (base_of t i) (highest row (the_segment t number).held) ≡ dispatched_priority t i k
unfolding highest ceilings dispatched_priority
dispatched_by t row i number k h e =
    rw e (ap (max (base_of t i)) (largest_same _ _ locks (λ lock q. ap (λ (x : ℕ). cond (holds (held_by t i k) lock) x 0) (h lock q))))
