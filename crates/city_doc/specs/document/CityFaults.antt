-- Faults of objects with points in place of positions: rings, relations and shells (CityJSON 2.0, sections 2 and 3).
use Rattle.std.specs.Prelude.{◌⊎◌, ◌||◌, ℕ, List, [], Bool, false, Option, Some, None, option_and_then}
use Rattle.std.specs.Prelude.{option_map, codes}
use Rattle.serde_json.specs.Data.{Data, Members}
use Rattle.serde_json.specs.Find.{get_member}
use Rattle.city_model.specs.declared.object.Point.{Point}
use Rattle.city_model.specs.declared.object.Body.{Body}
use Rattle.city_model.specs.declared.object.Object.{Object}
use Rattle.city_model.specs.CityMap.{CityMap}
use Rattle.city_model.specs.Misrelated.{IsMisrelatedAt}
use Rattle.city_model.specs.Shells as shells
use Rattle.city_tokens.specs.object.Bodies.{body_of, ids_at}
use Rattle.city_doc.specs.object.Faults.{has_bad_list}
use Rattle.city_doc.specs.document.Least.{Has}
use Rattle.city_model.specs.Least.{IsLeast}

-- ---- rings and shells

abbrev pub body_has : (Body → Bool) → Option Body → Bool
body_has test None = false
body_has test (Some body) = test body

-- some geometry has a surface without a ring, a ring of fewer than three points, or equal neighbours
-- in a ring
abbrev pub is_bad_ringed : Body → Bool
is_bad_ringed body =
    shells.some_shape shells.has_short_ring body || shells.some_shape shells.has_same_twice body

abbrev pub has_bad_ring : List Point → Data → Bool
has_bad_ring points d = body_has is_bad_ringed (body_of points d)

-- some shell of a Solid isn't closed
abbrev pub has_open_shell : List Point → Data → Bool
has_open_shell points d = body_has (shells.some_shape shells.has_open_shell) (body_of points d)

-- ---- relations

abbrev pub or_empty : {A : Type 0} → Option (List A) → List A
or_empty None = []
or_empty (Some xs) = xs

-- the object of a tree; a list counts as empty unless it is an array of texts
abbrev pub lenient_object_of : List Point → Data → Option Object
lenient_object_of points d =
    option_map (λ body. record {
      body = body;
      parents = or_empty (ids_at (codes "parents") d);
      children = or_empty (ids_at (codes "children") d);
    }) (body_of points d)

-- the objects by their ids
abbrev pub lenient_map_of : List Point → Members → CityMap
lenient_map_of points objects id = option_and_then (lenient_object_of points) (get_member id objects)

-- a list of this object isn't an array of texts, or its parents and children don't agree
abbrev pub IsBadlyRelatedAt : List Point → Members → List ℕ → Type 0
IsBadlyRelatedAt points objects id =
    Has has_bad_list objects id ⊎ IsMisrelatedAt (lenient_map_of points objects) id

abbrev pub IsLeastBadlyRelated : List Point → Members → List ℕ → Type 0
IsLeastBadlyRelated points objects id = IsLeast (IsBadlyRelatedAt points objects) id
