-- Objects before points replace their positions.
use Rattle.std.specs.Prelude.{◌≡◌, ℕ, List, [], ◌∷◌, Some, None, option_map, option_and_then, codes}
use Rattle.serde_json.specs.Data.{Data, object, Members, no_members, put}
use Rattle.serde_json.specs.Find.{get_member, as_str}
use Rattle.city_model.specs.declared.object.Object.{Object}
use Rattle.city_model.specs.declared.object.Point.{Point}
use Rattle.city_model.specs.declared.object_type.ObjectType.{ObjectType}
use Rattle.city_members.specs.Kept.{kept_at_object}
use Rattle.city_members.specs.Members.{without, AreOrdered}
use Rattle.city_model.specs.Shells.{body_fault}
use Rattle.city_model.specs.Types.{type_named}
use Rattle.city_members.specs.internal.KeptValues.{value_data}
use Rattle.city_tokens.specs.declared.object.ObjectParts.{ObjectParts}
use Rattle.city_tokens.specs.declared.objects.Listing.{Listing}
use Rattle.city_tokens.specs.object.Bodies.{without_object_members, object_of}
use Rattle.city_tokens.specs.internal.Geometries.{IsGeometry}
use Rattle.city_tokens.specs.internal.Positions.{IsResolved}
use Rattle.city_tokens.specs.internal.Standing.{Pairs, IsSlot, IsListSlot, IsString}
use Rattle.city_tokens.specs.tree.Members.{kept_if}

abbrev pub IsType : ObjectType → Data → Type 0
IsType kind d = option_and_then type_named (as_str d) ≡ Some kind

pub record IsObject (o : Object) (d : Data) : Type 0 where
  pub found : Members
  pub is : d ≡ object found
  pub kind : option_and_then type_named (option_and_then as_str (get_member (codes "type") found)) ≡ Some o.body.kind
  pub geometry : IsListSlot IsGeometry o.body.geometry (get_member (codes "geometry") found)
  pub parents : IsListSlot IsString o.parents (get_member (codes "parents") found)
  pub children : IsListSlot IsString o.children (get_member (codes "children") found)
  pub extra : kept_if kept_at_object (without_object_members found) ≡ Some o.body.extra

-- an object's members read so far
pub record IsObjectSoFar (parts : ObjectParts) (found kept : Members) : Type 0 where
  pub kind : IsSlot IsType parts.kind (get_member (codes "type") found)
  pub geometry : IsListSlot IsGeometry parts.geometry (get_member (codes "geometry") found)
  pub parents : IsListSlot IsString parts.parents (get_member (codes "parents") found)
  pub children : IsListSlot IsString parts.children (get_member (codes "children") found)
  pub attributes : option_map value_data parts.attributes ≡ get_member (codes "attributes") found
  pub ordered : AreOrdered found
  pub extra : kept ≡ without (codes "attributes") (without_object_members found)

-- ---- objects by their ids, as a text lists them

-- the members, with these put in one after another
abbrev pub put_all : List (List ℕ × Data) → Members → Members
put_all [] ms = ms
put_all (m ∷ more) ms = put_all more (put m.0 m.1 ms)

abbrev pub IsNamedObject : List ℕ × Object → List ℕ × Data → Type 0
IsNamedObject e m = (e.0 ≡ m.0) × IsObject e.1 m.1

abbrev pub IsListing : List (List ℕ × Object) → Members → Type 0
IsListing es found =
    (ms : List (List ℕ × Data)) × (found ≡ put_all ms no_members) × Pairs IsNamedObject es ms

-- of objects no member is kept
abbrev pub IsListingSoFar : Listing → Members → Members → Type 0
IsListingSoFar listing found kept = IsListing listing.objects found

abbrev pub AreObjects : List (List ℕ × Object) → Data → Type 0
AreObjects es d = (found : Members) × (d ≡ object found) × IsListing es found

-- an object with points in place of its positions, and a body without a fault
abbrev pub IsResolvedObject : List Point → List ℕ × Object → List ℕ × Object → Type 0
IsResolvedObject points unresolved resolved =
    (resolved.0 ≡ unresolved.0) × IsResolved IsObject (object_of points) unresolved.1 resolved.1
    × (body_fault resolved.1.body ≡ None)
