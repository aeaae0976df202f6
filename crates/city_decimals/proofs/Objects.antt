-- The members of an object, and the cases in which they encode no number.
use Rattle.city_decimals.proofs.Prelude.{◌≡◌, ℕ, ◌-◌, List, [], ◌∷◌, ◌++◌, Bool, false, Option, Some, None, refl, sym}
use Rattle.city_decimals.proofs.Prelude.{ap, ◌∙◌, arith, append_assoc, Token, Json, Members, member, Parse, read_key}
use Rattle.city_decimals.proofs.Prelude.{json_tokens, members_tokens, Some_inj, is_tag, number_under, number_in}
use Rattle.city_decimals.proofs.Prelude.{number_or, decoded_members, decoded_object, members_changed, object_made}
use Rattle.city_decimals.proofs.Prelude.{Direction, Encode, Decode, written}
use Rattle.json.specs.Json.{members}

-- if the members encode no number, they are written behind a brace
pub object_written : (top : Bool) (out : List Token) (o : Option (Members × List Token))
    → ((ms : Members) (r : List Token) → o ≡ Some (ms, r) → number_in ms ≡ None)
    → written (λ ms. json_tokens (decoded_object top ms)) out o
    ≡ written (λ ms. members_tokens (decoded_members top ms)) (out ++ Token.begin_object ∷ []) o
object_written top out None h = refl
object_written top out (Some q) h =
    ap (λ ts. Some (ts, q.1)) (ap (λ n. out ++ json_tokens (number_or n (decoded_members top q.0))) (h q.0 q.1 refl)
    ∙ sym (append_assoc out (Token.begin_object ∷ []) (members_tokens (decoded_members top q.0))))

-- the same in either direction; only decoded members can be a number
pub object_put : (way : Direction) (top : Bool) (out : List Token) (o : Option (Members × List Token))
    → (way ≡ Decode → (ms : Members) (r : List Token) → o ≡ Some (ms, r) → number_in ms ≡ None)
    → written (λ ms. json_tokens (object_made way top ms)) out o
    ≡ written (λ ms. members_tokens (members_changed way top ms)) (out ++ Token.begin_object ∷ []) o
object_put Encode top out None h = refl
object_put Encode top out (Some q) h = search (arith, append_assoc)
object_put Decode top out o h = object_written top out o (h refl)

-- the first member, and the rest
record HasFirst (p : Parse Json) (n : ℕ) (k : List ℕ) (s : List Token) (ms : Members) (r : List Token) : Type 0 where
  j : Json
  more : Members
  left : List Token
  first : p s ≡ Some (j, left)
  rest : members p (n - 1) left ≡ Some (more, r)
  whole : ms ≡ member k j more

split : (p : Parse Json) (n : ℕ) (k : List ℕ) (ts s : List Token) (ms : Members) (r : List Token)
    → read_key ts ≡ Some (Some k, s) → members p n ts ≡ Some (ms, r) → HasFirst p n k s ms r
unfolding members
split p n k ts s ms r named e = grind arith

-- the first member is no number's text under the tag
pub first_is_no_number : (p : Parse Json) (n : ℕ) (k : List ℕ) (ts s : List Token) → read_key ts ≡ Some (Some k, s)
    → ((j : Json) (r : List Token) → p s ≡ Some (j, r) → number_under k j ≡ None)
    → (ms : Members) (r : List Token) → members p n ts ≡ Some (ms, r) → number_in ms ≡ None
first_is_no_number p n k ts s named h ms r e = grind (arith, split p n k ts s ms r named e)

-- there are two members
pub two_are_no_number : (p : Parse Json) (n : ℕ) (k l : List ℕ) (ts s u v : List Token) (i : Json)
    → read_key ts ≡ Some (Some k, s) → p s ≡ Some (i, u) → read_key u ≡ Some (Some l, v)
    → (ms : Members) (r : List Token) → members p n ts ≡ Some (ms, r) → number_in ms ≡ None
two_are_no_number p n k l ts s u v i named is second ms r e =
    let f = split p n k ts s ms r named e in
    let same = Some_inj (i, u) (f.j, f.left) (sym is ∙ f.first) in
    let g = split p (n - 1) l f.left v f.more r (sym (ap (λ x. read_key x.1) same) ∙ second) f.rest in grind arith

-- a name other than the tag has no number
pub other_name : (k : List ℕ) (j : Json) → is_tag k ≡ false → number_under k j ≡ None
other_name k j h = grind arith
