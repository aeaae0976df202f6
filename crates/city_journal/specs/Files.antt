-- What a crash of the machine may leave of a file that grows.
use Rattle.std.specs.Prelude.{◌≡◌, ◌≤◌, ◌<◌, ◌⊎◌, ℕ, List, ◌++◌, length, take, Option, None, Some}

-- after these bytes were appended to what was there: what might have been left before, or some of the bytes behind it
abbrev pub LeavesMore : (List ℕ → Type 0) → (List ℕ → Type 0) → List ℕ → List ℕ → Type 0
LeavesMore old new seen bytes =
    (c : List ℕ) → new c → old c ⊎ ((k : ℕ) × (k ≤ length bytes) × (c ≡ seen ++ take k bytes))

-- after these bytes couldn't be appended: what might have been left before, or some of the bytes behind it, not all
abbrev pub LeavesPart : (List ℕ → Type 0) → (List ℕ → Type 0) → List ℕ → List ℕ → Type 0
LeavesPart old new seen bytes =
    (c : List ℕ) → new c → old c ⊎ ((k : ℕ) × (k < length bytes) × (c ≡ seen ++ take k bytes))

-- what might be left might have been left before
abbrev pub LeavesAsBefore : (List ℕ → Type 0) → (List ℕ → Type 0) → Type 0
LeavesAsBefore old new = (c : List ℕ) → new c → old c

-- a crash leaves this and nothing else
abbrev pub LeavesOnly : (List ℕ → Type 0) → List ℕ → Type 0
LeavesOnly outcomes bytes = (c : List ℕ) → outcomes c → c ≡ bytes

-- a crash leaves all that is there, if that is known
abbrev pub IsKept : Option (List ℕ) → (List ℕ → Type 0) → Type 0
IsKept None outcomes = Unit {0}
IsKept (Some bytes) outcomes = LeavesOnly outcomes bytes

-- a crash leaves the first of these bytes, this many at least
abbrev pub LeavesFirst : ℕ → List ℕ → List ℕ → Type 0
LeavesFirst synced bytes c = (k : ℕ) × (synced ≤ k) × (k ≤ length bytes) × (c ≡ take k bytes)
