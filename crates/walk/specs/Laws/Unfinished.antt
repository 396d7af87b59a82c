-- The first unfinished job stays so where the row changes for a job that has a key before and after.
use Rattle.kernel.specs.declared.jobs.Jobs.{Jobs}
use Rattle.std.specs.Prelude.{ℕ, ◌<◌, ◌≡◌, List, Some}
use Rattle.std.proofs.Common.{arith, ap, ◌∙◌}
use Rattle.std.proofs.Math.Decide.{ℕ_discrete}
use Rattle.kernel.specs.Rules.{JobSet, Kind}
use Rattle.kernel.specs.Held.{set_of}
use Rattle.kernel.specs.Laws.Control.{Control, mark, weight}
use Rattle.kernel.specs.Laws.Fall.{alive_seg, seg_alive}
use Rattle.kernel.specs.Laws.Key.{key_some}
use Rattle.kernel.specs.Laws.Step.{State, dispatch}
use Rattle.orders.specs.Laws.Box.{Box, Span, child}
use Rattle.std.proofs.Math.ListN.{set}
use Rattle.walk.specs.State.{Stands, key_at}
use Rattle.walk.specs.Choice.{Ended, First}
use Rattle.walk.specs.Descent.{Twig, Rep}
use Rattle.walk.specs.Laws.Standing.{key_other}
use Rattle.walk.specs.Laws.Twigs.{twig_some}
use Rattle.walk.specs.declared.state.Standing.{Standing}
use Rattle.walk.specs.declared.switches.Switch.{Switch}

-- ---- unfinished jobs have a key

pub some_key : {J : JobSet} {s : List Standing} {κ : Control} {least most : ℕ → ℕ → ℕ} → Stands J s κ least most → (i : ℕ) → i < J.jobs → 0 < weight J κ i → 0 < key_at s i
some_key {J} {κ = κ} S i h q = rw (S.keyed i h, key_some (weight J κ i) i q) (omega arith)

-- the running one
pub running_key : {w : Jobs} {s : List Standing} {j : ℕ} {S : State} {B : Box} → Rep w s j S B → 0 < key_at s j
running_key {S = S} R = rw R.job (some_key R.stands S.job R.sound.inside R.sound.alive)

-- the one that is to be dispatched
pub twig_key : {w : Jobs} {s : List Standing} {x : Switch} {kind : Kind} {κ : Control} {least most : ℕ → ℕ → ℕ} {p : Span} → Twig w s x kind κ least most p
    → {d : ℕ} → x.job ≡ Some d → 0 < key_at s d
unfolding child dispatch mark
twig_key {w} {κ = κ} {p = p} T h =
    let (e, l) = twig_some T h in
    let q : p.job < (set_of w).jobs = omega (arith, e) in
    rw e (some_key T.stands p.job q (seg_alive (set_of w) κ p.job (alive_seg (set_of w) (mark κ p.job) p.job (T.owes q).alive)))

-- ---- one job is put

module _ {w : Jobs} {s : List Standing} {i : ℕ} (j : ℕ) (x : Standing) (had : 0 < key_at s j) where
  pub put_ended : Ended w s i → Ended w (set s j x) i
  put_ended E = record {
    inside = E.inside;
    ended = λ m h. key_other s j x m (λ (e : m ≡ j). omega (arith, E.ended m h, ap (λ (n : ℕ). key_at s n) e)) ∙ E.ended m h;
  }

  pub put_first : 0 < key_at (set s j x) j → First w s i → First w (set s j x) i
  put_first has F = record {
    before = put_ended F.before;
    unfinished = λ h. elim (ℕ_discrete i j) [
      | yes e ↦ rw e has
      | no d ↦ rw (key_other s j x i d) (F.unfinished h)
    ];
  }
