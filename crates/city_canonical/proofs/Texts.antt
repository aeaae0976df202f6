-- The decoded text is a text of the same model.
use Rattle.city_canonical.proofs.Prelude.{◌≡◌, ℕ, List, [], Bool, true, false, cond, Some, sym, ap, subst, ◌∙◌, arith}
use Rattle.city_canonical.proofs.Prelude.{option_and_then, HasNumbers, ItemsHaveNumbers, MembersHaveNumbers, not_found}
use Rattle.city_canonical.proofs.Prelude.{Data, of_json, outline, CityValue, only, encoded_top, number_in, out_of_form}
use Rattle.city_canonical.proofs.Prelude.{decoded, decoded_items, decoded_members, decoded_top, IsDecoded}
use Rattle.city_canonical.proofs.Prelude.{IsDecimalsFault, DocumentFault, pool_of, tree_of, IsInRange, IsTextOfCity}
use Rattle.city_canonical.proofs.Prelude.{and_then_some}
use Rattle.std.proofs.Common.{◌≤◌, append-nil}
use Rattle.std.specs.Str.{IsUtf8}
use Rattle.json.specs.Json.{Json, array, object, Items, no_items, item, Members, no_members, member, value, if_last}
use Rattle.json.specs.Json.{max_depth, document}
use Rattle.json.specs.Lex.{tokens}
use Rattle.json.specs.Print.{print}
use Rattle.json.specs.Token.{Token}
use Rattle.json.specs.Tree.{json_tokens, depth, items_depth, members_depth}
use Rattle.json.proofs.Found.{one_reading}
use Rattle.json.proofs.Nesting.{value-depth}
use Rattle.json.proofs.Numbered.{document-HasNumbers}
use Rattle.json.proofs.Printed.Trees.{value-json_tokens, document-print}
use Rattle.serde_json.specs.Read.{read}
use Rattle.city_decimals.specs.Shapes.{fronted}
use Rattle.city_decimals.specs.Decoded.{number_or}
use Rattle.city_decimals.specs.Texts.{IsEncoded}
use Rattle.city_decimals.specs.declared.fault.DecimalsFault.{DecimalsFault}
use Rattle.city_decimals.proofs.Insides.{only_numbers}
use Rattle.city_decimals.proofs.Texts.{top_numbers, one_value}
use Rattle.city_doc.specs.declared.fault.ReadFault.{ReadFault}
use Rattle.city_writer.specs.tree.Tokens.{tokens_of}
use Rattle.city_canonical.specs.Faults.{fault_of, read_fault_of}
use Rattle.city_canonical.specs.Texts.{IsSameText, IsCanonicalFault}
use Rattle.city_canonical.proofs.Models.{model_same}
use Rattle.serde_json.specs.Read as serde

-- ---- a decoded value has numbers if the value has, and nests no deeper

abbrev IsTame : Json → Json → Type 0
IsTame j k = (HasNumbers j → HasNumbers k) × (depth k ≤ depth j)

chosen : (b : Bool) (j x y : Json) → IsTame j x → IsTame j y → IsTame j (cond b x y)
chosen b j x y h g = elim b as (λ b. IsTame j (cond b x y)) [ true ↦ h | false ↦ g ]

fronted_tame : (j : Json) → IsTame j (fronted j)
fronted_tame j = search arith

only_tame : (j : Json) → IsTame j (only j)
only_tame j = search (arith, only_numbers)

out_tame : (top : Bool) (k : List ℕ) (i j r : Json) → IsTame j r → IsTame j (out_of_form top k i r)
out_tame top k i j r h = let f = fronted_tame r in let o = only_tame r in search (arith, chosen)

or_tame : (ms rs : Members) → (MembersHaveNumbers ms → MembersHaveNumbers rs) × (members_depth rs ≤ members_depth ms)
    → IsTame (object ms) (number_or (number_in ms) rs)
or_tame ms rs h = grind arith

mutual
  tame : (j : Json) → IsTame j (decoded j)
  tame (array js) = let r = items_tame js in (r.0, omega arith)
  tame (object ms) = or_tame ms (decoded_members false ms) (members_tame false ms)
  tame j = ((λ h. h), omega arith)

  items_tame : (js : Items)
      → (ItemsHaveNumbers js → ItemsHaveNumbers (decoded_items js)) × (items_depth (decoded_items js) ≤ items_depth js)
  items_tame no_items = ((λ h. h), omega arith)
  items_tame (item j js) = grind (arith, tame j, items_tame js)

  members_tame : (top : Bool) (ms : Members) → (MembersHaveNumbers ms → MembersHaveNumbers (decoded_members top ms))
      × (members_depth (decoded_members top ms) ≤ members_depth ms)
  members_tame top no_members = ((λ h. h), omega arith)
  members_tame top (member k j ms) = grind (arith, out_tame top k j j (decoded j) (tame j), tame j, members_tame top ms)

top_tame : (j : Json) → IsTame j (decoded_top j)
top_tame (object ms) = or_tame ms (decoded_members true ms) (members_tame true ms)
top_tame j = tame j

-- ---- texts

-- data read from an encoded text was read from the encoded value
encoded_read : (j : Json) → HasNumbers j → (text : List ℕ) (d : Data) → text ≡ print (json_tokens (encoded_top j))
    → read text ≡ Some d → of_json (encoded_top j) ≡ Some d
encoded_read j h text d is e = search (arith, and_then_some, one_value, top_numbers)

last_is : (i : Json) (ts : List Token) (j : Json) → if_last i ts ≡ Some j → i ≡ j
last_is i ts j e = grind arith

-- reading a value's tokens at a depth gives the value
tokens_read : (n : ℕ) (i j : Json) (ts : List Token) → ts ≡ json_tokens i
    → option_and_then (λ p. if_last p.0 p.1) (value n ts) ≡ Some j → (j ≡ i) × (depth i ≤ n)
tokens_read n i j ts same e =
    let found = and_then_some _ (value n (json_tokens i)) j (rw same at e) in
    let deep : depth i ≤ depth i = omega arith in
    let whole = ap (value (depth i)) (sym (append-nil (json_tokens i))) ∙ value-json_tokens i (depth i) [] deep in
    search (arith, last_is, one_reading, value-depth)

pub same_text : (text encoded written out : List ℕ) (c : CityValue) → IsEncoded text encoded → IsTextOfCity encoded c
    → tokens written ≡ tokens_of (tree_of c) → IsInRange (pool_of c) c.0 → IsDecoded written out → IsUtf8 out
    → IsSameText text out
same_text text encoded written out c e stands same range d utf8 =
    let i = outline (tree_of c) in
    let k = decoded_top i in
    let numbers = document-HasNumbers text e.0 e.1.1 in
    let value = tokens_read max_depth i d.0 (tokens written) same d.1.1 in
    let printed : out ≡ print (json_tokens k) = d.2 ∙ ap (λ i. print (json_tokens (decoded_top i))) value.0 in
    let numbered = (top_tame i).0 (subst HasNumbers value.0 (document-HasNumbers written d.0 d.1.1)) in
    let shallow : depth k ≤ max_depth = omega (arith, (top_tame i).1, value.1) in
    let is : document out ≡ Some k = ap document printed ∙ document-print k numbered shallow in
    let was = encoded_read e.0 numbers encoded stands.0 e.2 stands.1.1 in
    (e.0, k, e.1, (utf8, is), printed, model_same e.0 stands.0 c numbers was stands.2 range)

-- ---- faults

pub read_fault : (text encoded : List ℕ) (f : ReadFault) → IsEncoded text encoded → DocumentFault encoded f
    → IsCanonicalFault text (read_fault_of f)
read_fault text encoded f e h = grind arith

-- the written text is JSON
written_read : (written : List ℕ) (c : CityValue) → IsTextOfCity written c → tokens written ≡ tokens_of (tree_of c)
    → document written ≡ Some (outline (tree_of c))
written_read written c stands same =
    let i = outline (tree_of c) in
    let parsed = and_then_some of_json _ stands.0 stands.1.1 in
    let was = tokens_read serde.max_depth i parsed.0 (tokens written) same parsed.1 in
    grind (arith, append-nil (json_tokens i), value-json_tokens i max_depth [] (omega (arith, was.1)))

pub decode_fault : (text written : List ℕ) (c : CityValue) (f : DecimalsFault) → IsTextOfCity written c
    → tokens written ≡ tokens_of (tree_of c) → IsDecimalsFault written f → IsCanonicalFault text (fault_of f)
decode_fault text written c f stands same h = search (arith, not_found, written_read)
