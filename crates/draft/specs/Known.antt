-- The lock names as the code holds them: a slice of the text for each.
use Rattle.std.specs.Prelude.{ℕ, ◌≡◌, ◌<◌, length, true, false, List, map, Option, Some, None}
use Rattle.std.specs.Borrow.{Bor}
use Rattle.draft.specs.Locks.{most_locks, number_in, knowing, names_with, held_from, too_many}
use Rattle.draft.specs.declared.locks.Names.{Names}

abbrev pub known : Names → List (List ℕ)
known names = map (λ (name : Bor (List ℕ)). name.now) names.names.items

-- the number of a name, and the names after it, where these are known before it; none where there is no room for one more
abbrev pub NumberIs : (names after : List (List ℕ)) → List ℕ → Option ℕ → Type 0
NumberIs names after name None = most_locks < length (knowing names name)
NumberIs names after name (Some k) = (k ≡ number_in names name) × (k < most_locks) × (after ≡ knowing names name)

-- the locks of these words, and the names after them, where these names are known before; none where the names are too many
abbrev pub LocksAre : (names after words : List (List ℕ)) → Option ℕ → Type 0
LocksAre names after words None = too_many names words ≡ true
LocksAre names after words (Some held) = (too_many names words ≡ false) × (held ≡ held_from names 0 words) × (after ≡ names_with names words)
