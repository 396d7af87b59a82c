-- The words that the code notes are those of the switches that the rules report.
use Rattle.std.proofs.Common.{ℕ, suc, ◌+◌, ◌<◌, arith, ◌≡◌, refl, ◌≢◌, List, [], ◌∷◌, ◌++◌, length, set, lt-ltb, le-ltb, ne_eqb}
use Rattle.std.proofs.lemmas.List.Edits.{sets}
use Rattle.kernel.specs.Rules.{JobSet, Switch, FIRST, CUT, reported, last_switch}
use Rattle.kernel.specs.Log.{switch_words, log_words}
use Rattle.kernel.specs.Code.{kind_of, due_of, last_words, last_count, note_words}
use Rattle.kernel.specs.declared.state.Due.{Due as CodeDue}
use Rattle.kernel.specs.declared.state.Due.TheVariants.{First as DueFirst, Cutting, Leaving}

pub sets_append : (b : List ℕ) (i : ℕ) (xs ys : List ℕ) → sets b i (xs ++ ys) ≡ sets (sets b i xs) (i + length xs) ys
sets_append b i [] ys = let e : i + 0 ≡ i = omega arith in rw e
sets_append b i (x ∷ xs) ys = let e : i + suc (length xs) ≡ suc i + length xs = omega arith in rw e (sets_append (set b i x) (suc i) xs ys)

-- one switch, then others
pub log_one : (J : JobSet) (s : Switch) (b : List Switch) → log_words J (s ∷ b) ≡ switch_words J s ++ log_words J b
unfolding log_words
log_one J s b = refl

-- what a dispatch of another job reports, as the code notes it
pub note_is : (J : JobSet) (D : CodeDue) (tick was d k : ℕ) → d < J.jobs → d ≢ was
    → (s : Switch) × (reported tick was d k (due_of D) ≡ s ∷ []) × (switch_words J s ≡ note_words D tick d k)
unfolding reported
note_is J DueFirst tick was d k h n = (record { kind = FIRST; tick = tick; job = d; segment = k; start = tick }, refl, rw (lt-ltb d J.jobs h))
note_is J Cutting tick was d k h n =
    (record { kind = CUT; tick = tick; job = d; segment = k; start = tick }, rw (ne_eqb d was n), rw (lt-ltb d J.jobs h))
note_is J (Leaving kind at) tick was d k h n =
    (record { kind = kind_of kind; tick = at; job = d; segment = k; start = tick }, refl, rw (lt-ltb d J.jobs h))

-- the last switch
pub last_is : (J : JobSet) (D : CodeDue) → (log_words J (last_switch J (due_of D)) ≡ last_words D) × (length (last_switch J (due_of D)) ≡ last_count D)
unfolding last_switch log_words
last_is J DueFirst = (refl, refl)
last_is J Cutting = (refl, refl)
last_is J (Leaving kind at) = (rw (le-ltb J.jobs J.jobs (omega arith)), refl)
