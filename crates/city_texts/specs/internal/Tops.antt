-- A document's top, read so far or whole.
use Rattle.std.specs.Prelude.{◌≡◌, List, Some, codes}
use Rattle.serde_json.specs.Data.{Data, Members, object}
use Rattle.serde_json.specs.Find.{get_member}
use Rattle.serde_json.specs.View.{members_view}
use Rattle.city_model.specs.CityMap.{CityValue, Entries, object_at}
use Rattle.city_model.specs.internal.Faultless.{IsFaultless}
use Rattle.city_members.specs.Members.{without, AreOrdered}
use Rattle.city_texts.specs.declared.document.Top.{Top}
use Rattle.city_texts.specs.declared.document.TopParts.{TopParts}
use Rattle.city_texts.specs.declared.in_pieces.TopInPieces.{TopInPieces}
use Rattle.city_tokens.specs.declared.vertices.Vertex.{Vertex}
use Rattle.city_tokens.specs.document.Cities.{city_of}
use Rattle.city_tokens.specs.internal.Objects.{AreObjects, IsResolvedObject}
use Rattle.city_tokens.specs.internal.Positions.{IsVertex, points_of}
use Rattle.city_tokens.specs.internal.Standing.{Pairs, IsArrayOf, IsSlot}

pub record IsTopSoFar (parts : TopParts) (found kept : Members) : Type 0 where
  pub objects : IsSlot AreObjects parts.objects (get_member (codes "CityObjects") found)
  pub vertices : IsSlot (IsArrayOf IsVertex) parts.vertices (get_member (codes "vertices") found)
  pub ordered : AreOrdered found
  pub extra : kept ≡ without (codes "vertices") (without (codes "CityObjects") found)

-- the objects of a top, with points in place of their positions
abbrev pub AreResolved : TopParts → Entries → Type 0
AreResolved parts resolved =
    (vertices : List Vertex) × (listed : Entries) × (parts.vertices ≡ Some vertices) × (parts.objects ≡ Some listed)
    × Pairs (IsResolvedObject (points_of vertices)) listed resolved

-- parts read beforehand stand for nothing by themselves
abbrev pub IsTopInPieces : TopInPieces → Members → Members → Type 0
IsTopInPieces top found kept = IsTopSoFar top.parts found kept

abbrev pub IsTop : Top → Data → Type 0
IsTop top d = (found : Members) × (d ≡ object found) × IsTopSoFar top.parts found (members_view top.rest.entries)

-- the city of a document's tree, without a fault in a body
abbrev pub IsCity : CityValue → Data → Type 0
IsCity c d = (city_of d ≡ Some c) × IsFaultless (object_at c.1)
