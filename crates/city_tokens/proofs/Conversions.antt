-- The grammar's loops, a turn at a time, under the conversion to data.
use Rattle.city_tokens.proofs.Prelude.{◌≡◌, ℕ, ◌-◌, ◌<◌, ◌≤◌, List, [], length, Option, Some, None, ap, ◌∙◌, arith}
use Rattle.city_tokens.proofs.Prelude.{option_and_then, Token, parse_map, after_end_array, read_key, items, members}
use Rattle.city_tokens.proofs.Prelude.{Data, array, object, no_items, item, Members, no_members, put, of_json, of_items}
use Rattle.city_tokens.proofs.Prelude.{of_members, converted}
use Rattle.json.specs.Json.{Parse, if_last}
use Rattle.json.proofs.Grammar.{items_end, items_more, members_end, members_more}
use Rattle.json.specs.Json as json

-- a converted value was parsed
pub converted_some : {A B : Type 0} (f : A → Option B) (o : Option (A × List Token)) (b : B) (r : List Token)
    → converted f o ≡ Some (b, r) → (a : A) × (o ≡ Some (a, r)) × (f a ≡ Some b)
converted_some f o b r e = grind arith

pub converted-array : (o : Option (json.Items × List Token))
    → converted of_json (parse_map json.array o) ≡ parse_map array (converted of_items o)
converted-array o = grind arith

pub converted-object : (o : Option (json.Members × List Token))
    → converted of_json (parse_map json.object o) ≡ parse_map object (converted (λ ms. of_members ms no_members) o)
converted-object o = grind arith

with_item : (j : json.Json) (d : Data) → of_json j ≡ Some d → (o : Option (json.Items × List Token))
    → converted of_items (parse_map (json.item j) o) ≡ parse_map (item d) (converted of_items o)
with_item j d e o = grind arith

with_member : (k : List ℕ) (j : json.Json) (d : Data) (old : Members) → of_json j ≡ Some d
    → (o : Option (json.Members × List Token))
    → converted (λ ms. of_members ms old) (parse_map (json.member k j) o)
    ≡ converted (λ ms. of_members ms (put k d old)) o
with_member k j d old e o = grind arith

module _ (p : Parse json.Json) where
  pub item_read : (n : ℕ) (ts r : List Token) (d : Data) → 0 < n → after_end_array ts ≡ None
      → converted of_json (p ts) ≡ Some (d, r)
      → converted of_items (items p n ts) ≡ parse_map (item d) (converted of_items (items p (n - 1) r))
  item_read n ts r d some going e = let j = converted_some of_json (p ts) d r e in
      ap (converted of_items) (items_more p n ts r j.0 some going j.1) ∙ with_item j.0 d j.2 _

  pub items_over : (n : ℕ) (ts r : List Token) → length ts ≤ n → after_end_array ts ≡ Some r
      → converted of_items (items p n ts) ≡ Some (no_items, r)
  items_over n ts r enough e = ap (converted of_items) (items_end p n ts r enough e)

  module _ (old : Members) where
    pub member_read : (n : ℕ) (k : List ℕ) (ts s r : List Token) (d : Data) → 0 < n → read_key ts ≡ Some (Some k, s)
        → converted of_json (p s) ≡ Some (d, r)
        → converted (λ ms. of_members ms old) (members p n ts) ≡ converted (λ ms. of_members ms (put k d old))
        (members p (n - 1) r)
    member_read n k ts s r d some key e =
        let j = converted_some of_json (p s) d r e in
        ap (converted (λ ms. of_members ms old)) (members_more p n k ts s r j.0 some key j.1)
        ∙ with_member k j.0 d old j.2 _

    pub members_over : (n : ℕ) (ts r : List Token) → length ts ≤ n → read_key ts ≡ Some (None, r)
        → converted (λ ms. of_members ms old) (members p n ts) ≡ Some (old, r)
    members_over n ts r enough e = ap (converted (λ ms. of_members ms old)) (members_end p n ts r enough e)

-- the whole text
abbrev pub whole : Option (json.Json × List Token) → Option Data
whole o = option_and_then of_json (option_and_then (λ p. if_last p.0 p.1) o)

pub whole_read : (o : Option (json.Json × List Token)) (d : Data) → converted of_json o ≡ Some (d, [])
    → whole o ≡ Some d
whole_read o d e = let j = converted_some of_json o d [] e in ap whole j.1 ∙ j.2
