-- Models that differ only by the canonical form: the names of each object are in order, the last value of a repeated
-- name stays, empty lists are left out, vertices have other indices, each vertex is there once, and vertices in no
-- geometry are dropped (CityJSON 2.0, sections 2 and 3).
use Rattle.std.specs.Prelude.{◌≡◌, ◌⊎◌, ℕ, List, [], ◌∷◌, Option, Some, None, option_map, option_and_then, codes}
use Rattle.json.specs.Json.{Json, null, boolean, number, string, array, object, Items, no_items, item}
use Rattle.json.specs.Find.{get, get_item}
use Rattle.city_canonical.specs.Members.{IsSameBeside, unless_empty, IsSameList, IsInOrder}
use Rattle.city_canonical.specs.Placed.{list_at, placed}

-- ---- of the vertices vs and ws

module _ (vs ws : Items) where
  -- the boundaries have the same vertices in the same places
  pub record IsSameGeometry (g h : Json) : Type 0 where
    pub names : IsInOrder h
    pub members : IsSameBeside (codes "boundaries" ∷ []) g h
    pub boundaries : option_map (placed ws) (get (codes "boundaries") h)
        ≡ option_map (placed vs) (get (codes "boundaries") g)

  abbrev pub AreSameGeometries : Items → Items → Type 0
  AreSameGeometries no_items no_items = Unit {0}
  AreSameGeometries (item g gs) (item h hs) = IsSameGeometry g h × AreSameGeometries gs hs
  AreSameGeometries _ _ = ⊥

  pub record IsSameObject (o p : Json) : Type 0 where
    pub names : IsInOrder p
    pub members : IsSameBeside (codes "geometry" ∷ codes "parents" ∷ codes "children" ∷ []) o p
    pub parents : IsSameList o p (codes "parents")
    pub children : IsSameList o p (codes "children")
    pub geometry : AreSameGeometries (list_at (codes "geometry") o) (list_at (codes "geometry") p)
    pub not_empty : unless_empty (get (codes "geometry") p) ≡ get (codes "geometry") p

  -- the same object, or none in either
  abbrev pub IsSameObjectOrNone : Option Json → Option Json → Type 0
  IsSameObjectOrNone None None = Unit {0}
  IsSameObjectOrNone (Some o) (Some p) = IsSameObject o p
  IsSameObjectOrNone _ _ = ⊥

-- ---- objects and vertices

-- the city object of an id
abbrev pub object_at : List ℕ → Json → Option Json
object_at id j = option_and_then (get id) (get (codes "CityObjects") j)

abbrev pub vertices_of : Json → Items
vertices_of j = list_at (codes "vertices") j

-- none is at two indices
abbrev pub IsEachOnce : Items → Type 0
IsEachOnce vertices =
    (m n : ℕ) (v : Json) → get_item m vertices ≡ Some v → get_item n vertices ≡ Some v → m ≡ n

-- the value is a part of lists within lists
abbrev mutual
  pub IsPart : Json → Json → Type 0
  IsPart v null = ⊥
  IsPart v (boolean b) = ⊥
  IsPart v (number s) = ⊥
  IsPart v (string s) = ⊥
  IsPart v (array js) = (array js ≡ v) ⊎ IsPartOfOne v js
  IsPart v (object ms) = ⊥

  pub IsPartOfOne : Json → Items → Type 0
  IsPartOfOne v no_items = ⊥
  IsPartOfOne v (item j js) = IsPart v j ⊎ IsPartOfOne v js

-- a geometry of some object of k has the vertex v in its boundaries
pub record IsUsed (k v : Json) : Type 0 where
  pub id : List ℕ
  pub owner : Json
  pub there : object_at id k ≡ Some owner
  pub index : ℕ
  pub geometry : Json
  pub has : get_item index (list_at (codes "geometry") owner) ≡ Some geometry
  pub boundaries : Json
  pub bounds : option_map (placed (vertices_of k)) (get (codes "boundaries") geometry) ≡ Some boundaries
  pub part : IsPart v boundaries

-- ---- the whole

-- k is the same model as j, in canonical form
pub record IsSameModel (j k : Json) : Type 0 where
  pub names : IsInOrder k
  pub members : IsSameBeside (codes "CityObjects" ∷ codes "vertices" ∷ []) j k
  pub ids : (objects : Json) → get (codes "CityObjects") k ≡ Some objects → IsInOrder objects
  pub objects : (id : List ℕ)
      → IsSameObjectOrNone (vertices_of j) (vertices_of k) (object_at id j) (object_at id k)
  pub once : IsEachOnce (vertices_of k)
  pub used : (n : ℕ) (v : Json) → get_item n (vertices_of k) ≡ Some v → IsUsed k v
