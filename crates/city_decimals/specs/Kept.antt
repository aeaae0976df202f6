-- The part of an encoded value that the editor keeps.
use Rattle.std.specs.Prelude.{◌≡◌, Some, true, codes}
use Rattle.json.specs.Json.{Json}
use Rattle.json.specs.Tree.{HasNumbers}
use Rattle.serde_json.specs.Data.{Data}
use Rattle.serde_json.specs.Read.{of_json}
use Rattle.serde_json.specs.Written.{outline}
use Rattle.city_decimals.specs.Shapes.{framed, is_frame}
use Rattle.city_decimals.specs.Encoded.{encoded}
use Rattle.city_decimals.specs.Decoded.{decoded, out_of_form}
use Rattle.city_decimals.specs.Arranged.{arranged}

-- The editor reads the encoded value of j as d. Its output for d is decoded to j as the editor arranges it.
pub record IsKept (j : Json) : Type 0 where
  pub d : Data
  pub read : of_json (encoded j) ≡ Some d
  pub back : decoded (outline d) ≡ arranged j

-- the value of each kept member comes back, with its numbers exactly as written
abbrev pub KeepsValues : Type 0
KeepsValues = (j : Json) → HasNumbers j → IsKept j

-- the transform comes back, from its frame in the editor
abbrev pub KeepsTransforms : Type 0
KeepsTransforms =
    (j : Json) → HasNumbers j → is_frame j ≡ true → (d : Data) → of_json (encoded j) ≡ Some d
    → out_of_form true (codes "transform") (framed (outline d)) (decoded (framed (outline d))) ≡ arranged j
