-- Data whose tokens are read as the same data.
use Rattle.std.specs.Prelude.{◌≡◌, ◌<◌, ◌^◌, List, Option, Some, None, length}
use Rattle.serde_json.specs.Data.{Data, Items, no_items, item, Members, no_members, member}
use Rattle.serde_json.specs.Read.{of_json}
use Rattle.serde_json.specs.Written.{outline}
use Rattle.city_model.specs.declared.object.Point.{Point}

-- the outline of the data is read as the data
pub record ReadsBack (d : Data) : Type 0 where
  pub same : of_json (outline d) ≡ Some d

abbrev pub ItemsReadBack : Items → Type 0
ItemsReadBack no_items = Unit {0}
ItemsReadBack (item d ds) = ReadsBack d × ItemsReadBack ds

abbrev pub MembersReadBack : Members → Type 0
MembersReadBack no_members = Unit {0}
MembersReadBack (member k d ms) = ReadsBack d × MembersReadBack ms

abbrev pub OwnReadsBack : Option Data → Type 0
OwnReadsBack None = Unit {0}
OwnReadsBack (Some d) = ReadsBack d

-- however the points are numbered
abbrev pub ReadsBackNumbered : (List Point → Data) → Type 0
ReadsBackNumbered d = (pool : List Point) → length pool < 2 ^ 63 → ReadsBack (d pool)
