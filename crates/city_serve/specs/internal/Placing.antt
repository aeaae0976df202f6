-- A new file takes the name of another, or doesn't.
use Rattle.std.specs.Prelude.{◌≡◌, ◌≢◌, ◌⊎◌, ℕ, Bool, true, List, [], ◌∷◌, Option, None, if◌then◌else◌}
use Rattle.city_serve.specs.declared.fault.ServeFault.{ServeFault}
use Rattle.std.specs.Io.KnownBytes.{Appends}
use Rattle.city_serve.specs.Destinations.{Folder, IsPlaced, bytes_to_writer}
use Rattle.city_serve.specs.Steps.{Step, LookedAt, Renamed, GivenUp}

-- the name has the contents of the new file, where such are known, and all others have their texts
abbrev pub IsPut : List ℕ → Bool → Option (List ℕ) → Folder → Folder → Type 0
IsPut path known contents before after =
    (after path ≡ (if known then contents else None))
    × ((other : List ℕ) → other ≢ path → after other ≡ before other)

-- the writer has got its bytes and hasn't failed, and the file has the model, if it is for one
abbrev pub IsSent : Option (List ℕ) → Bool → List ℕ → List ℕ → Folder → Folder → Option (List ℕ) → Option (List ℕ)
    → Bool → Bool → Type 0
IsSent file nowhere report model before after old new failed_before failed =
    Appends old new (bytes_to_writer file nowhere report model) × IsPlaced file nowhere model before after
    × (failed ≡ failed_before)

-- the file isn't what was read, a step before the rename was refused, or the one behind it
abbrev pub IsUnplaced : List ℕ → Bool → Option (List ℕ) → Folder → Folder → Bool → List Step → ServeFault → Type 0
IsUnplaced path known contents before after files_failed steps ServeFault.Changed =
    (after ≡ before) × (steps ≡ GivenUp ∷ [])
IsUnplaced path known contents before after files_failed steps ServeFault.Write =
    ((after ≡ before) × (files_failed ≡ true) × ((steps ≡ GivenUp ∷ []) ⊎ (steps ≡ LookedAt path ∷ [])))
    ⊎ (IsPut path known contents before after × (files_failed ≡ true)
    × (steps ≡ LookedAt path ∷ Renamed path ∷ []))
IsUnplaced path known contents before after files_failed steps _ = ⊥
