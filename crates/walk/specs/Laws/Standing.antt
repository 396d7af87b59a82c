-- One job put into the row of a walk: what is read of it and of the others after that, and how it is put back.
use Rattle.std.specs.Prelude.{ℕ, ◌<◌, ◌≡◌, ◌≢◌, List, length, set}
use Rattle.std.proofs.Common.{ap, ◌∙◌, get_or-set_same, get_or-set_other}
use Rattle.std.proofs.lemmas.List.{set-set, set-get_or}
use Rattle.std.proofs.Math.Decide.{ℕ_discrete}
use Rattle.walk.specs.State.{no_standing, standing_at, key_at}
use Rattle.walk.specs.declared.state.Standing.{Standing}

module _ (s : List Standing) (i : ℕ) (x : Standing) where
  pub key_other : (m : ℕ) → m ≢ i → key_at (set s i x) m ≡ key_at s m
  key_other m h = ap (λ (y : Standing). y.key) (get_or-set_other s i m x no_standing h)

  -- at the job, and elsewhere
  pub standing_cases : i < length s
      → (P : ℕ → Standing → Type 0) → P i x → ((m : ℕ) → m ≢ i → P m (standing_at s m)) → (m : ℕ) → P m (standing_at (set s i x) m)
  standing_cases h P here other m = elim (ℕ_discrete m i) [
    | yes q ↦ rw (q, get_or-set_same s i x no_standing h) here
    | no q ↦ rw (get_or-set_other s i m x no_standing q) (other m q)
  ]

pub put_back : (s : List Standing) (i : ℕ) (x : Standing) → set (set s i x) i (standing_at s i) ≡ s
put_back s i x = set-set s i x (standing_at s i) ∙ set-get_or s i no_standing
