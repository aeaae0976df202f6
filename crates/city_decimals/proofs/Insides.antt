-- The value in a form is the same whether it is decoded first or last.
use Rattle.city_decimals.proofs.Prelude.{◌≡◌, ℕ, ◌≤◌, List, Bool, true, false, cond, None, length, refl, arith, ◌&&◌}
use Rattle.city_decimals.proofs.Prelude.{Json, object, Members, json_tokens, HasNumbers, is_tag, is_frame, is_transform}
use Rattle.city_decimals.proofs.Prelude.{has_shield, is_single, Token, [], ◌∷◌, ◌++◌, append_assoc, member}
use Rattle.city_decimals.proofs.Prelude.{members_tokens, is_attributes, decoded_members, ap, only, fronted, number_in}
use Rattle.city_decimals.proofs.Prelude.{out_of_form, decoded}
use Rattle.std.proofs.Common.{◌||◌}
use Rattle.std.proofs.lemmas.List.{length-append}
use Rattle.city_decimals.specs.internal.Inner.{front, inner}
use Rattle.city_decimals.proofs.Bools.{and_right}

-- an object with a scale encodes no number
pub no_number : (ms : Members) → is_frame (object ms) ≡ true → number_in ms ≡ None
no_number ms h = grind arith

only_decoded : (b : Bool) (j : Json) → decoded (cond b (only j) j) ≡ cond b (only (decoded j)) (decoded j)
only_decoded b j = grind arith

front_decoded : (j : Json) → is_frame j ≡ true → decoded (front j) ≡ fronted (decoded j)
front_decoded j h = grind arith

pub single_decoded : (j : Json) → is_single (decoded j) ≡ is_single j
single_decoded j = grind arith

pub shield_decoded : (k : List ℕ) (j : Json) → has_shield k (decoded j) ≡ has_shield k j
shield_decoded k j = ap (λ b. is_tag k || (is_attributes k && b)) (single_decoded j)

pub inner_decoded : (top : Bool) (k : List ℕ) (j : Json) → decoded (inner top k j) ≡ out_of_form top k j (decoded j)
inner_decoded top k j = at (top && is_transform k j) (has_shield k j) (has_shield k (decoded j)) (shield_decoded k j)
    refl
  where
    at : (b s t : Bool) → t ≡ s → (top && is_transform k j) ≡ b
        → decoded (cond b (front j) (cond s (only j) j))
        ≡ cond b (fronted (decoded j)) (cond t (only (decoded j)) (decoded j))
    at b s t same e = search (arith, front_decoded, and_right, only_decoded)

-- ---- it is no larger, and has numbers if the whole has them

only_smaller : (j : Json) → length (json_tokens (only j)) ≤ length (json_tokens j)
only_smaller j = search (arith, length-append)

front_smaller : (j : Json) → length (json_tokens (front j)) ≤ length (json_tokens j)
front_smaller j = search (arith, length-append)

pub inner_smaller : (top : Bool) (k : List ℕ) (j : Json) → length (json_tokens (inner top k j)) ≤ length (json_tokens j)
inner_smaller top k j =
    let plain = elim (has_shield k j) as (λ b. length (json_tokens (cond b (only j) j)) ≤ length
    (json_tokens j)) [ true ↦ only_smaller j | false ↦ omega arith ] in
    elim (top && is_transform k j) as (λ b. length (json_tokens (cond b (front j) (cond (has_shield k j)
    (only j) j))) ≤ length (json_tokens j)) [ true ↦ front_smaller j | false ↦ plain ]

pub only_numbers : (j : Json) → HasNumbers j → HasNumbers (only j)
only_numbers j h = grind arith

front_numbers : (j : Json) → HasNumbers j → HasNumbers (front j)
front_numbers j h = grind arith

pub inner_numbers : (top : Bool) (k : List ℕ) (j : Json) → HasNumbers j → HasNumbers (inner top k j)
inner_numbers top k j h =
    let plain = elim (has_shield k j) as (λ b. HasNumbers (cond b (only j) j)) [
      | true ↦ only_numbers j h
      | false ↦ h
    ] in
    elim (top && is_transform k j) as (λ b. HasNumbers (cond b (front j) (cond (has_shield k j)
    (only j) j))) [ true ↦ front_numbers j h | false ↦ plain ]

-- ---- a member of an object is decoded

pub member_decoded : (k : List ℕ) (j : Json) (ms : Members) (out named now : List Token)
    → named ≡ out ++ Token.key k ∷ [] → now ≡ named ++ json_tokens (decoded (inner false k j))
    → now ++ members_tokens (decoded_members false ms)
    ≡ out ++ members_tokens (decoded_members false (member k j ms))
member_decoded k j ms out named now e f = search (arith, append_assoc, inner_decoded)
