-- A command on attributes has the same effect on an object's kept members, read encoded, as on the members as given.
use Rattle.std.specs.Prelude.{◌≡◌, ◌↔◌, ℕ, List, Option, Some, None, true}
use Rattle.json.specs.Tree.{MembersHaveNumbers}
use Rattle.serde_json.specs.Data.{object, Members}
use Rattle.serde_json.specs.Written.{outline}
use Rattle.city_members.specs.Attributes.{attributes, attributes_in, with_set, with_unset, has_attributes}
use Rattle.city_decimals.specs.Decoded.{decoded}
use Rattle.city_decimals.specs.Arranged.{arranged, arranged_members}
use Rattle.city_decimals.specs.Arranged as spec
use Rattle.city_decimals.specs.Attributes.{append, leave_out, leave_out_each, AreRead, AreWithin}
use Rattle.json.specs.Json as json
use Rattle.json.specs.Find as find

-- the attributes among the members of an object: empty if there are none, and None if `attributes` is no object
abbrev pub members_or_none : Option json.Json → Option json.Members
members_or_none None = Some json.no_members
members_or_none (Some j) = find.as_object j

abbrev pub attributes_given : json.Members → Option json.Members
attributes_given ms = members_or_none (find.get_member attributes ms)

-- the members, arranged, with these attributes in their place
abbrev pub with_given : json.Members → json.Members → json.Json
with_given ms a = json.object (spec.put attributes (arranged (json.object a)) (arranged_members ms json.no_members))

-- the same, without `attributes` if none are left
abbrev pub unless_none : json.Members → json.Members → json.Json
unless_none ms json.no_members = arranged (json.object (leave_out attributes ms))
unless_none ms (json.member k j a) = with_given ms (json.member k j a)

abbrev pub or_none : Option json.Members → json.Members
or_none None = json.no_members
or_none (Some a) = a

-- the kept members of an object, as given and as read
pub record IsEditedAs (ms : json.Members) (extra : Members) : Type 0 where
  -- `attributes` is no object in both forms or in neither
  pub bad : (attributes_in extra ≡ None) ↔ (attributes_given ms ≡ None)
  pub sets : (s : json.Members) (e : Members) → MembersHaveNumbers s → AreRead s e → (a : json.Members) (d : Members)
      → attributes_given ms ≡ Some a → attributes_in extra ≡ Some d
      → decoded (outline (object (with_set extra e d))) ≡ with_given ms (append a s)
  pub unsets : (names : List (List ℕ)) (a : json.Members) (d : Members)
      → attributes_given ms ≡ Some a → attributes_in extra ≡ Some d
      → decoded (outline (object (with_unset extra names d))) ≡ unless_none ms (leave_out_each names a)
  pub expects : (s : json.Members) (e : Members) → MembersHaveNumbers s → AreRead s e
      → (has_attributes extra e ≡ true)
      ↔ AreWithin (arranged_members s json.no_members)
      (arranged_members (or_none (attributes_given ms)) json.no_members)

abbrev pub EditsAlike : Type 0
EditsAlike = (ms : json.Members) (extra : Members) → MembersHaveNumbers ms → AreRead ms extra → IsEditedAs ms extra
