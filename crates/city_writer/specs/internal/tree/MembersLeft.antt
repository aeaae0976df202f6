-- The kept members of an object that are left to be written.
use Rattle.std.specs.Prelude.{ℕ, List, Option, None, Some, String}
use Rattle.std.specs.declared.alloc.Global.{Global}
use Rattle.std.specs.Borrow.{Bor}
use Rattle.serde_json.specs.Data.{Data, object, Members, member, put}
use Rattle.serde_json.specs.View.{view, members_view}
use Rattle.serde_json.specs.declared.value.Value.{Value}
use Rattle.city_writer.specs.declared.tree.member_value.MemberValue.{MemberValue}
use Rattle.city_writer.specs.declared.tree.member_value.MemberValue.TheVariants.{Any, Few, Shared}

abbrev pub value_of : MemberValue → Data
value_of (Any value) = view value.now
value_of (Few members) = object members.now
value_of (Shared members) = object members.now

-- the first, if there is one, and the others
abbrev pub with_first : Option (Bor (List ℕ) × Bor Value) → Members → Members
with_first None others = others
with_first (Some m) others = member m.0.now (view m.1.now) others

-- one in its place, if there is one, and the others
abbrev pub with_one : Option (Bor (List ℕ) × MemberValue) → Members → Members
with_one None others = others
with_one (Some m) others = put m.0.now (value_of m.1) others

abbrev pub members_left : Option (Bor (List ℕ) × MemberValue) → Option (Bor (List ℕ) × Bor Value)
    → List (String Global × Value) → Members
members_left own first others = with_one own (with_first first (members_view others))
