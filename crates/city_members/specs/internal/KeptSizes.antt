-- No kept value inside others counts more values than they.
use Rattle.std.specs.Prelude.{◌≤◌, ℕ, max, List, [], ◌∷◌, String}
use Rattle.std.specs.declared.alloc.Global.{Global}
use Rattle.std.proofs.Common.{arith}
use denote.Param.Weighed.{most}
use Rattle.city_members.specs.declared.kept.few_members.FewMembers.TheDeep.{deep-KeptValue}
use Rattle.city_members.specs.declared.kept.kept_value.KeptValue.{KeptValue}
use Rattle.city_members.specs.declared.kept.kept_value.KeptValue.TheVariants.{Null, Bool, Number, String as Text, Array}
use Rattle.city_members.specs.declared.kept.kept_value.KeptValue.TheVariants.{Object}
use Rattle.city_members.specs.internal.KeptValues.{value_data, items_data, members_data, data_size, items_size}
use Rattle.city_members.specs.internal.KeptValues.{members_size}

-- the depth of a value that is an array or an object
deep_value : (v : KeptValue) → deep-KeptValue v ≤ data_size (value_data v)
deep_value Null = omega arith
deep_value (Bool b) = omega arith
deep_value (Number n) = omega arith
deep_value (Text s) = omega arith
deep_value (Array items) = omega arith
deep_value (Object ms) = omega arith

pub most_items : (vs : List KeptValue) → max (most (λ v. deep-KeptValue v) vs) 0 ≤ items_size (items_data vs)
most_items [] = omega arith
most_items (v ∷ vs) = omega (arith, deep_value v, most_items vs)

pub most_members : (weight : String Global × KeptValue → ℕ)
    → ((m : String Global × KeptValue) → weight m ≤ deep-KeptValue m.1)
    → (ms : List (String Global × KeptValue)) → max (most weight ms) 0 ≤ members_size (members_data ms)
most_members weight h [] = omega arith
most_members weight h (m ∷ ms) = omega (arith, h m, deep_value m.1, most_members weight h ms)
