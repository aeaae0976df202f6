-- The output, one turn of the grammar's loops at a time.
use Rattle.city_decimals.proofs.Prelude.{arith, ◌≡◌, ℕ, ◌-◌, ◌<◌, ◌≤◌, List, [], ◌∷◌, ◌++◌, length, Option, Some, None}
use Rattle.city_decimals.proofs.Prelude.{refl, ap, ◌∙◌, append_assoc, Token, Json, Items, no_items, item, Members}
use Rattle.city_decimals.proofs.Prelude.{no_members, member, Parse, parse_map, after_end_array, read_key, items}
use Rattle.city_decimals.proofs.Prelude.{members, value, if_last, document_to, tokens, HasNumbers, depth}
use Rattle.city_decimals.proofs.Prelude.{members_end, members_more, written}
use Rattle.std.proofs.Common.{option_and_then}
use Rattle.json.proofs.Nesting.{value-depth}
use Rattle.json.proofs.Numbered.{value-HasNumbers, ArePrintableOrBad-tokens}
use Rattle.json.proofs.Grammar.{skip_value-shorter, items_end, items_more}

module _ {A : Type 0} (f : A → List Token) where
  -- the value read, if there is output
  pub was_read : (out now : List Token) (o : Option (A × List Token)) (r : List Token) → written f out o ≡ Some (now, r)
      → (a : A) × (o ≡ Some (a, r)) × (now ≡ out ++ f a)
  was_read out now o r e = grind arith

  pub none_written : (out now : List Token) (o : Option (A × List Token)) (s : Option (A × List Token))
      → written f out o ≡ written f now s → s ≡ None → o ≡ None
  none_written out now o s e h = grind arith

  -- another function with the same output for the value read
  pub written_as : (g : A → List Token) (out now : List Token) (o : Option (A × List Token)) (r : List Token)
      → written f out o ≡ Some (now, r)
      → ((a : A) → o ≡ Some (a, r) → g a ≡ f a) → written g out o ≡ Some (now, r)
  written_as g out now o r e same = grind arith

  -- a token before all else
  pub token_first : {B : Type 0} (h : A → B) (g : B → List Token) (t : Token) → ((a : A) → g (h a) ≡ t ∷ f a)
      → (out : List Token) (o : Option (A × List Token))
      → written g out (parse_map h o) ≡ written f (out ++ t ∷ []) o
  token_first h g t is out None = refl
  token_first h g t is out (Some p) = search (arith, append_assoc)

-- the output for a value made by h is the output for its source
pub written_with : {A B : Type 0} (h : A → B) (g : B → List Token) (f : A → List Token)
    → ((a : A) → g (h a) ≡ f a) → (out : List Token) (o : Option (A × List Token))
    → written g out (parse_map h o) ≡ written f out o
written_with h g f same out o = grind arith

-- a value takes at least one token
pub value_shorter : (f : Json → List Token) (d : ℕ) (out now ts r : List Token)
    → written f out (value d ts) ≡ Some (now, r) → length r < length ts
value_shorter f d out now ts r e = skip_value-shorter d ts r (grind arith)

module _ (p : Parse Json) (f : Json → List Token) (g : Items → List Token) (is : (j : Json) (js : Items)
    → g (item j js) ≡ f j ++ g js) where
  after_item : (j : Json) (out now : List Token) → now ≡ out ++ f j → (o : Option (Items × List Token))
      → written g out (parse_map (item j) o) ≡ written g now o
  after_item j out now e o = search (arith, append_assoc)

  pub item_written : (n : ℕ) (out now ts r : List Token) → 0 < n → after_end_array ts ≡ None
      → written f out (p ts) ≡ Some (now, r)
      → written g out (items p n ts) ≡ written g now (items p (n - 1) r)
  item_written n out now ts r some going e =
      let j = was_read f out now (p ts) r e in
      ap (written g out) (items_more p n ts r j.0 some going j.1) ∙ after_item j.0 out now j.2 _

  pub items_over : (n : ℕ) (out ts r : List Token) → length ts ≤ n → after_end_array ts ≡ Some r
      → written g out (items p n ts) ≡ Some (out ++ g no_items, r)
  items_over n out ts r enough e = ap (written g out) (items_end p n ts r enough e)

module _ (p : Parse Json) (f : List ℕ → Json → List Token) (g : Members
    → List Token) (is : (k : List ℕ) (j : Json) (ms : Members)
    → g (member k j ms) ≡ Token.key k ∷ (f k j ++ g ms)) where
  after_member : (k : List ℕ) (j : Json) (out now : List Token) → now ≡ (out ++ Token.key k ∷ []) ++ f k j
      → (o : Option (Members × List Token)) → written g out (parse_map (member k j) o) ≡ written g now o
  after_member k j out now e o = search (arith, append_assoc)

  pub member_written : (n : ℕ) (k : List ℕ) (out now ts s r : List Token) → 0 < n
      → read_key ts ≡ Some (Some k, s) → written (f k) (out ++ Token.key k ∷ []) (p s) ≡ Some (now, r)
      → written g out (members p n ts) ≡ written g now (members p (n - 1) r)
  member_written n k out now ts s r some key e =
      let j = was_read (f k) (out ++ Token.key k ∷ []) now (p s) r e in
      ap (written g out) (members_more p n k ts s r j.0 some key j.1) ∙ after_member k j.0 out now j.2 _

  pub members_over : (n : ℕ) (out ts r : List Token) → length ts ≤ n → read_key ts ≡ Some (None, r)
      → written g out (members p n ts) ≡ Some (out ++ g no_members, r)
  members_over n out ts r enough e = ap (written g out) (members_end p n ts r enough e)

-- a whole text as read
pub record IsWhole (limit : ℕ) (f : Json → List Token) (text : List ℕ) (now : List Token) : Type 0 where
  pub j : Json
  pub is : document_to limit text ≡ Some j
  pub numbers : HasNumbers j
  pub shallow : depth j ≤ limit
  pub now_is : now ≡ f j

pub whole_read : (limit : ℕ) (f : Json → List Token) (text : List ℕ) (now r : List Token) → r ≡ []
    → written f [] (value limit (tokens text)) ≡ Some (now, r) → IsWhole limit f text now
whole_read limit f text now r end e =
    let a = was_read f [] now (value limit (tokens text)) r e in
    let is : document_to limit text ≡ Some a.0 = ap (option_and_then (λ p. if_last p.0 p.1)) (a.1
    ∙ ap (λ s. Some (a.0, s)) end) in search (arith, value-HasNumbers, ArePrintableOrBad-tokens, value-depth)
