-- Cities whose transform stands in a frame.
use Rattle.std.specs.Prelude.{◌≡◌, ℤ, pos, List, [], ◌∷◌, codes}
use Rattle.serde_json.specs.Data.{Members, no_members, member, object}
use Rattle.city_model.specs.declared.frame.Frame.{Frame}

abbrev pub three_of : ℤ → List ℤ
three_of n = n ∷ n ∷ n ∷ []

-- there is one member, an object under the tag
abbrev pub IsTaggedObject : Members → Type 0
IsTaggedObject ms = (inside : Members) × (ms ≡ member (codes "#") (object inside) no_members)

-- the transform is the identity, with an object under the tag
abbrev pub HasFrame : Frame → Type 0
HasFrame f = IsTaggedObject f.more × (f.scale ≡ three_of (pos 1)) × (f.translate ≡ three_of (pos 0))
