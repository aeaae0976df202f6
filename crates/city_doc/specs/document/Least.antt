-- The least id of an object with a property.
use Rattle.std.specs.Prelude.{◌≡◌, ℕ, List, Bool, true, Some}
use Rattle.serde_json.specs.Data.{Data, Members}
use Rattle.serde_json.specs.Find.{get_member}
use Rattle.city_model.specs.Least.{IsLeast}

-- the object of this id has it
abbrev pub Has : (Data → Bool) → Members → List ℕ → Type 0
Has test objects id = (d : Data) × (get_member id objects ≡ Some d) × (test d ≡ true)

-- the object of this id has it, and none of a smaller id
abbrev pub IsLeastWith : (Data → Bool) → Members → List ℕ → Type 0
IsLeastWith test objects id = IsLeast (Has test objects) id
