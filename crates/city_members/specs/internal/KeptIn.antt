-- The kept members of an object, as they are stored.
use Rattle.std.specs.Prelude.{Bool, true, Option, None, Some}
use Rattle.std.specs.Arc.{arc_value}
use Rattle.serde_json.specs.Data.{object, Members, put}
use Rattle.serde_json.specs.View.{members_view}
use Rattle.city_members.specs.Attributes.{attributes}
use Rattle.city_members.specs.Integral.{members_integral}
use Rattle.city_members.specs.declared.kept.kept_value.KeptValue.{KeptValue}
use Rattle.city_members.specs.internal.KeptValues.{value_data}
use Rattle.city_members.specs.declared.kept.storage.Storage.{Storage}
use Rattle.city_members.specs.declared.kept.storage.Storage.TheVariants.{Few, Many}
use Rattle.city_members.specs.declared.kept.shared_extra.LentMembers.{LentMembers}
use Rattle.city_members.specs.declared.kept.shared_extra.LentMembers.TheVariants.{Together, Shared}
use Rattle.city_members.specs.declared.kept.shared_extra.LentMembers.TheVariants as members

-- the members, and these attributes in place of their own
abbrev pub with_own : Members → Option Members → Members
with_own ms None = ms
with_own ms (Some found) = put attributes (object found) ms

-- the members, and `attributes` of this value
abbrev pub with_value : Members → Option KeptValue → Members
with_value ms None = ms
with_value ms (Some v) = put attributes (value_data v) ms

-- every number of the attributes is an `i64`
abbrev pub found_integral : Option Members → Bool
found_integral None = true
found_integral (Some found) = members_integral found

abbrev pub kept_in : Storage → Members
kept_in (Few others found) = with_own (members_view others.entries) found
kept_in (Many others found) = with_own (members_view (arc_value others).entries) found

abbrev pub lent : LentMembers → Members
lent (Together m) = members_view m.now.entries
lent (members.Few m found) = put attributes (object found.now) (members_view m.now.entries)
lent (Shared m found) = put attributes (object found.now) (members_view m.now.entries)
