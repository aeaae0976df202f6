-- Data that were read of an encoded value are the same when they are decoded, encoded again and read.
use Rattle.city_decimals.proofs.Prelude.{◌≡◌, ◌∙◌, ◌&&◌, ℕ, List, [], ◌∷◌, Bool, true, false, cond, Option, Some, None}
use Rattle.city_decimals.proofs.Prelude.{refl, sym, ap, subst, arith, option_and_then, option_map, Some_inj, tokens}
use Rattle.city_decimals.proofs.Prelude.{Json, null, boolean, number, string, array, object, Items, no_items, item}
use Rattle.city_decimals.proofs.Prelude.{Members, no_members, member, if_last, max_depth, value, document, print}
use Rattle.city_decimals.proofs.Prelude.{IsNumber, HasNumbers, ItemsHaveNumbers, MembersHaveNumbers, json_tokens}
use Rattle.city_decimals.proofs.Prelude.{Data, of_items, of_json, decoded, decoded_items, decoded_members, decoded_top}
use Rattle.city_decimals.proofs.Prelude.{number_in, number_or, number_under, out_of_form, encoded, encoded_items}
use Rattle.city_decimals.proofs.Prelude.{encoded_top, is_end, is_number, is_tag, is_transform, has_shield, only, fronted}
use Rattle.std.specs.List.{AllByRecursion}
use Rattle.json.specs.Word.{after_number}
use Rattle.serde_json.specs.Data as serde_data
use Rattle.serde_json.specs.Read as serde
use Rattle.serde_json.specs.View.{items_of}
use Rattle.serde_json.specs.Written.{outline}
use Rattle.city_decimals.specs.Arranged.{arranged}
use Rattle.city_decimals.specs.Texts.{IsEncoded}
use Rattle.city_decimals.proofs.Insides.{only_numbers}
use Rattle.city_decimals.proofs.Kept.{kept}
use Rattle.city_decimals.proofs.Rereads.{again}
use Rattle.city_decimals.proofs.Texts.{one_value, top_numbers}
use Rattle.city_decimals.proofs.Wholes.{bound}

-- ---- a decoded value has numbers for numbers

ended : (o : Option (List ℕ)) → is_end o ≡ true → o ≡ Some []
ended o h = grind arith

tagged_number : (b : Bool) (t s : List ℕ) → (b ≡ true → IsNumber t) → cond b (Some t) None ≡ Some s → IsNumber s
tagged_number true t s h e = subst IsNumber (Some_inj t s e) (h refl)
tagged_number false t s h e = grind arith

both : (a b : Bool) → (a && b) ≡ true → b ≡ true
both a b h = grind arith

under_tag : (k : List ℕ) (j : Json) (s : List ℕ) → number_under k j ≡ Some s → IsNumber s
under_tag k (string t) s e =
    tagged_number (is_tag k && is_number t) t s (λ h. ended (after_number t) (both (is_tag k) (is_number t) h)) e
under_tag k j s e = grind arith

found_number : (ms : Members) (s : List ℕ) → number_in ms ≡ Some s → IsNumber s
found_number (member k j no_members) s e = under_tag k j s e
found_number ms s e = grind arith

number_or_members : (o : Option (List ℕ)) (ms : Members) → ((s : List ℕ) → o ≡ Some s → IsNumber s)
    → MembersHaveNumbers ms → HasNumbers (number_or o ms)
number_or_members None ms h k = k
number_or_members (Some s) ms h k = h s refl

front_numbers : (j : Json) → HasNumbers j → HasNumbers (fronted j)
front_numbers j h = grind arith

one_of : (b : Bool) (i j : Json) → HasNumbers i → HasNumbers j → HasNumbers (cond b i j)
one_of true i j h k = h
one_of false i j h k = k

out_numbers : (top : Bool) (k : List ℕ) (j r : Json) → HasNumbers r → HasNumbers (out_of_form top k j r)
out_numbers top k j r h =
    one_of (top && is_transform k j) (fronted r) (cond (has_shield k r) (only r) r) (front_numbers r h)
    (one_of (has_shield k r) (only r) r (only_numbers r h) h)

mutual
  numbers : (j : Json) → HasNumbers j → HasNumbers (decoded j)
  numbers null h = tt
  numbers (boolean b) h = tt
  numbers (number s) h = h
  numbers (string s) h = tt
  numbers (array js) h = items_numbers js h
  numbers (object ms) h =
      number_or_members (number_in ms) (decoded_members false ms) (found_number ms) (members_numbers false ms h)

  items_numbers : (js : Items) → ItemsHaveNumbers js → ItemsHaveNumbers (decoded_items js)
  items_numbers no_items h = tt
  items_numbers (item j js) h = (numbers j h.0, items_numbers js h.1)

  members_numbers : (top : Bool) (ms : Members) → MembersHaveNumbers ms → MembersHaveNumbers (decoded_members top ms)
  members_numbers top no_members h = tt
  members_numbers top (member k j ms) h =
      (out_numbers top k j (decoded j) (numbers j h.0), members_numbers top ms h.1)

pub top_decoded_numbers : (j : Json) → HasNumbers j → HasNumbers (decoded_top j)
top_decoded_numbers null h = tt
top_decoded_numbers (boolean b) h = tt
top_decoded_numbers (number s) h = h
top_decoded_numbers (string s) h = tt
top_decoded_numbers (array js) h = items_numbers js h
top_decoded_numbers (object ms) h =
    number_or_members (number_in ms) (decoded_members true ms) (found_number ms) (members_numbers true ms h)

-- ---- data of an encoded value

pub regained : (d : Data) (j : Json) → HasNumbers j → of_json (encoded j) ≡ Some d
    → of_json (encoded (decoded (outline d))) ≡ Some d
regained d j h e =
    let k = kept j h in
    let same = Some_inj d k.d (sym e ∙ k.read) in
    ap (λ x. of_json (encoded (decoded (outline x)))) same ∙ ap (λ x. of_json (encoded x)) k.back ∙ again j ∙ e

-- ---- texts that were decoded each for itself, encoded in one array

-- data with numbers for numbers, which are the same when they are decoded and encoded again
pub record IsRegained (d : Data) : Type 0 where
  pub numbers : HasNumbers (outline d)
  pub back : of_json (encoded (decoded_top (outline d))) ≡ Some d

abbrev pub decoded_each : List Data → Items
decoded_each [] = no_items
decoded_each (d ∷ ds) = item (decoded_top (outline d)) (decoded_each ds)

pub each_numbers : (ds : List Data) → AllByRecursion IsRegained ds → ItemsHaveNumbers (decoded_each ds)
each_numbers [] h = tt
each_numbers (d ∷ ds) h = (top_decoded_numbers (outline d) h.0.numbers, each_numbers ds h.1)

each_back : (ds : List Data) → AllByRecursion IsRegained ds
    → of_items (encoded_items (decoded_each ds)) ≡ Some (items_of ds)
each_back [] h = refl
each_back (d ∷ ds) h = rw (h.0.back, each_back ds h.1) refl

pub encoded_together : (ds : List Data) → AllByRecursion IsRegained ds → (text out : List ℕ)
    → text ≡ print (json_tokens (array (decoded_each ds))) → IsEncoded text out → (e : Data)
    → serde.read out ≡ Some e → e ≡ serde_data.array (items_of ds)
encoded_together ds h text out is r e found =
    let all = array (decoded_each ds) in
    let numbers = each_numbers ds h in
    let one = one_value all numbers max_depth r.0 (ap document (sym is) ∙ r.1.1) in
    let made = encoded_top all in
    let out_is : out ≡ print (json_tokens made) = r.2 ∙ ap (λ j. print (json_tokens (encoded_top j))) one in
    let b = bound of_json (option_and_then (λ p. if_last p.0 p.1) (value serde.max_depth (tokens out))) e found in
    let same = one_value made (top_numbers all numbers) serde.max_depth b.0
    (ap (λ t. option_and_then (λ p. if_last p.0 p.1) (value serde.max_depth (tokens t))) (sym out_is) ∙ b.1) in
    Some_inj e (serde_data.array (items_of ds))
    (sym b.2 ∙ ap of_json same ∙ ap (option_map serde_data.array) (each_back ds h))
