-- Two JSON values are the same exactly if they are equal.
use Rattle.city_members.proofs.Prelude.{arith, ◌≡◌, ℕ, List, Bool, true, refl, ap, and_parts, and_from, member}
use Rattle.city_members.proofs.Prelude.{no_members, members_integral}
use Rattle.std.proofs.Common.{◌&&◌}
use Rattle.std.proofs.lemmas.Slice.Eq.{bytes_eq-Decides}
use Rattle.std.specs.Str.{bytes_eq}
use Rattle.serde_json.specs.Data.{Num, Data, null, boolean, number, string, array, object}
use Rattle.serde_json.specs.Data.{Items, no_items, item, Members}
use Rattle.city_members.specs.Attributes.{same_number, same_value, same_items, same_members}
use Rattle.city_members.specs.Integral.{is_integral, items_integral}

three : (a b c : Bool) → (a && b && c) ≡ true → (a ≡ true) × (b ≡ true) × (c ≡ true)
three a b c h = grind arith

from_three : (a b c : Bool) → a ≡ true → b ≡ true → c ≡ true → (a && b && c) ≡ true
from_three a b c h k l = grind arith

bytes_same : (s : List ℕ) → bytes_eq s s ≡ true
bytes_same s = (bytes_eq-Decides s s).1 refl

number_same : (n : Num) → is_integral (number n) ≡ true → same_number n n ≡ true
number_same n h = grind arith

-- a value without fractions is the same as itself
mutual
  pub value_same : (d : Data) → is_integral d ≡ true → same_value d d ≡ true
  value_same null h = refl
  value_same (boolean b) h = grind arith
  value_same (number n) h = number_same n h
  value_same (string s) h = bytes_same s
  value_same (array ds) h = items_same ds h
  value_same (object ms) h = members_same ms h

  items_same : (ds : Items) → items_integral ds ≡ true → same_items ds ds ≡ true
  items_same no_items h = refl
  items_same (item d ds) h =
      let both = and_parts (is_integral d) (items_integral ds) h in
      and_from _ _ (value_same d both.0) (items_same ds both.1)

  members_same : (ms : Members) → members_integral ms ≡ true → same_members ms ms ≡ true
  members_same no_members h = refl
  members_same (member k d ms) h =
      let both = and_parts (is_integral d) (members_integral ms) h in
      from_three _ _ _ (bytes_same k) (value_same d both.0) (members_same ms both.1)

same_numbers : (m n : Num) → same_number m n ≡ true → m ≡ n
same_numbers m n h = grind arith

-- values with `same_value` are equal
mutual
  pub same_values : (d e : Data) → same_value d e ≡ true → d ≡ e
  same_values null null h = refl
  same_values (boolean b) (boolean c) h = grind arith
  same_values (number m) (number n) h = ap number (same_numbers m n h)
  same_values (string s) (string t) h = ap string ((bytes_eq-Decides s t).0 h)
  same_values (array ds) (array es) h = ap array (same_lists ds es h)
  same_values (object ms) (object ns) h = ap object (same_objects ms ns h)
  same_values d e h = absurd (grind arith)

  same_lists : (ds es : Items) → same_items ds es ≡ true → ds ≡ es
  same_lists no_items no_items h = refl
  same_lists (item d ds) (item e es) h =
      let both = and_parts (same_value d e) (same_items ds es) h in
      λ i. item (same_values d e both.0 i) (same_lists ds es both.1 i)
  same_lists ds es h = absurd (grind arith)

  same_objects : (ms ns : Members) → same_members ms ns ≡ true → ms ≡ ns
  same_objects no_members no_members h = refl
  same_objects (member k d ms) (member l e ns) h =
      let all = three (bytes_eq k l) (same_value d e) (same_members ms ns) h in
      λ i. member ((bytes_eq-Decides k l).0 all.0 i) (same_values d e all.1 i) (same_objects ms ns all.2 i)
  same_objects ms ns h = absurd (grind arith)
