-- Kept members have none of the own names of their place.
use Rattle.city_writer.proofs.Prelude.{◌≡◌, true, None, arith, ◌&&◌}
use Rattle.city_writer.proofs.Prelude.{and_parts, Members, get_member}
use Rattle.city_writer.proofs.Prelude.{kept_at_object}
use Rattle.city_writer.proofs.Prelude.{lacks_each, kept_at_geometry, members_integral}
use Rattle.city_writer.proofs.Prelude.{top_members, kept_at_top}
use Rattle.city_writer.proofs.Prelude.{is_empty_object_or_absent, kept_at_transform}
use Rattle.std.proofs.Common.{codes}
use Rattle.city_members.proofs.Puts.{each_lacking}

pub record LacksGeometryMembers (ms : Members) : Type 0 where
  pub no_type : get_member (codes "type") ms ≡ None
  pub no_lod : get_member (codes "lod") ms ≡ None
  pub no_boundaries : get_member (codes "boundaries") ms ≡ None

pub geometry_members_lacking : (ms : Members) → kept_at_geometry ms ≡ true → LacksGeometryMembers ms
geometry_members_lacking ms h = grind arith

pub record LacksObjectMembers (ms : Members) : Type 0 where
  pub no_type : get_member (codes "type") ms ≡ None
  pub no_geometry : get_member (codes "geometry") ms ≡ None
  pub no_parents : get_member (codes "parents") ms ≡ None
  pub no_children : get_member (codes "children") ms ≡ None

pub object_members_lacking : (ms : Members) → kept_at_object ms ≡ true → LacksObjectMembers ms
object_members_lacking ms h = grind arith

pub record LacksTransformMembers (ms : Members) : Type 0 where
  pub no_scale : get_member (codes "scale") ms ≡ None
  pub no_translate : get_member (codes "translate") ms ≡ None

pub transform_members_lacking : (ms : Members) → kept_at_transform ms ≡ true → LacksTransformMembers ms
transform_members_lacking ms h = grind arith

pub record LacksTopMembers (ms : Members) : Type 0 where
  pub no_objects : get_member (codes "CityObjects") ms ≡ None
  pub no_transform : get_member (codes "transform") ms ≡ None
  pub no_type : get_member (codes "type") ms ≡ None
  pub no_version : get_member (codes "version") ms ≡ None
  pub no_vertices : get_member (codes "vertices") ms ≡ None

pub top_members_lacking : (ms : Members) → kept_at_top ms ≡ true → LacksTopMembers ms
top_members_lacking ms h =
    let empty = is_empty_object_or_absent (get_member (codes "extensions") ms) in
    let both = and_parts (members_integral ms && lacks_each top_members ms) empty h in
    let all = each_lacking top_members ms (and_parts (members_integral ms) (lacks_each top_members ms) both.0).1 in
    assumption
