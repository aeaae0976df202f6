-- One of the values of a list: it counts no more values than all, and its numbers are whole if theirs are.
use Rattle.city_writer.proofs.Prelude.{◌≡◌, ◌<◌, ◌≤◌, ℕ, List, [], ◌∷◌, and_parts, arith, items_integral, length}
use Rattle.city_writer.proofs.Prelude.{members_integral, true}
use Rattle.std.proofs.Common.{Global, String, get_or, suc, zero}
use Rattle.city_members.specs.Integral.{is_integral}
use Rattle.city_members.specs.declared.kept.kept_value.KeptValue.{KeptValue}
use Rattle.city_members.specs.internal.KeptValues.{value_data, items_data, members_data, data_size, items_size}
use Rattle.city_members.specs.internal.KeptValues.{members_size}

pub item_within : (vs : List KeptValue) (i : ℕ) (v : KeptValue) → i < length vs → v ≡ get_or vs i v
    → data_size (value_data v) ≤ items_size (items_data vs)
item_within [] i v within is = absurd (omega arith)
item_within (w ∷ vs) zero v within is = rw is (omega arith)
item_within (w ∷ vs) (suc i) v within is = omega (arith, item_within vs i v (omega arith) is)

pub member_within : (ms : List (String Global × KeptValue)) (i : ℕ) (m : String Global × KeptValue) → i < length ms
    → m ≡ get_or ms i m → data_size (value_data m.1) ≤ members_size (members_data ms)
member_within [] i m within is = absurd (omega arith)
member_within (n ∷ ms) zero m within is = rw is (omega arith)
member_within (n ∷ ms) (suc i) m within is = omega (arith, member_within ms i m (omega arith) is)

pub item_whole : (vs : List KeptValue) (i : ℕ) (v : KeptValue) → i < length vs → v ≡ get_or vs i v
    → items_integral (items_data vs) ≡ true → is_integral (value_data v) ≡ true
item_whole [] i v within is whole = absurd (omega arith)
item_whole (w ∷ vs) zero v within is whole = rw is (and_parts (is_integral (value_data w)) _ whole).0
item_whole (w ∷ vs) (suc i) v within is whole =
    item_whole vs i v (omega arith) is (and_parts (is_integral (value_data w)) _ whole).1

pub member_whole : (ms : List (String Global × KeptValue)) (i : ℕ) (m : String Global × KeptValue) → i < length ms
    → m ≡ get_or ms i m → members_integral (members_data ms) ≡ true → is_integral (value_data m.1) ≡ true
member_whole [] i m within is whole = absurd (omega arith)
member_whole (n ∷ ms) zero m within is whole = rw is (and_parts (is_integral (value_data n.1)) _ whole).0
member_whole (n ∷ ms) (suc i) m within is whole =
    member_whole ms i m (omega arith) is (and_parts (is_integral (value_data n.1)) _ whole).1
