-- What stands behind the objects of a city.
use Rattle.std.specs.Prelude.{◌++◌, ◌∷◌, [], List, codes, Some}
use Rattle.json.specs.Token.{Token, key}
use Rattle.serde_json.specs.Data.{Members, string}
use Rattle.city_model.specs.declared.frame.Frame.{Frame}
use Rattle.city_writer.specs.document.Canonical.{transform_data}
use Rattle.city_writer.specs.internal.tree.OwnMembers.{part}
use Rattle.city_writer.specs.internal.tree.Parted.{members_before, members_from}
use Rattle.city_writer.specs.internal.tree.PartTokens.{tokens_of_members}

abbrev from_type : Members → Members
from_type kept = members_from (codes "transform") kept

abbrev from_version : Members → Members
from_version kept = members_from (codes "type") (from_type kept)

abbrev from_vertices : Members → Members
from_vertices kept = members_from (codes "version") (from_version kept)

-- the kept members behind the vertices
abbrev pub behind_vertices : Members → Members
behind_vertices kept = members_from (codes "vertices") (from_vertices kept)

-- tokens, then the transform, the type and the version among the kept members, and the name of the vertices
abbrev pub before_vertices : Members → Frame → List Token → List Token
before_vertices kept f out =
    part (from_version kept) 0 (codes "version") (Some (string (codes "2.0")))
    (part (from_type kept) 0 (codes "type") (Some (string (codes "CityJSON")))
    (part kept 0 (codes "transform") (Some (transform_data f)) out))
    ++ (tokens_of_members (members_before (codes "vertices") (from_vertices kept)) ++ key (codes "vertices") ∷ [])
