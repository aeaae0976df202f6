-- An encoded value and the arranged value are read the same.
use Rattle.city_decimals.proofs.Prelude.{arith, ◌≡◌, ℕ, List, Bool, true, false, cond, Option, Some, Ordering}
use Rattle.city_decimals.proofs.Prelude.{refl, sym, ap, ap₂, ◌∙◌, option_map, option_and_then, match_ordering}
use Rattle.city_decimals.proofs.Prelude.{Data, put, of_json, of_items, of_members, is_shielded, form_of, in_form}
use Rattle.city_decimals.proofs.Prelude.{encoded, encoded_items, encoded_members, Plain, Shielded}
use Rattle.std.proofs.Common.{Less, Equal, Greater}
use Rattle.std.proofs.lemmas.Map.Lookups.{exact_bytes}
use Rattle.serde_json.specs.Data.{array, object, no_items, item, Members, no_members}
use Rattle.city_decimals.specs.Arranged.{arranged, arranged_items, arranged_members}
use Rattle.city_decimals.specs.Attributes.{member_read, AreRead}
use Rattle.city_decimals.proofs.Kept.{same_form}
use Rattle.city_decimals.proofs.Puts.{cmp, put_swap, put_twice, turned_back}
use Rattle.std.proofs.lemmas.Cmp.{nat_list_cmp_total}
use Rattle.city_decimals.proofs.Wholes.{bound, readable, whole, whole_in_form}
use Rattle.city_decimals.specs.Arranged as spec
use Rattle.json.specs.Json as json

-- ---- one member

read_in_form : (b : Bool) (c e : json.Json) → of_json c ≡ of_json e
    → of_json (in_form (cond b Shielded Plain) c) ≡ of_json (in_form (cond b Shielded Plain) e)
read_in_form true c e h =
    ap (λ o. option_map array (option_and_then (λ d. option_map (item d) (Some no_items)) o)) h
read_in_form false c e h = h

pub member_again : (k : List ℕ) (j : json.Json) → of_json (encoded (arranged j)) ≡ of_json (encoded j)
    → member_read k (arranged j) ≡ member_read k j
member_again k j h =
    ap (λ b. of_json (in_form (cond b Shielded Plain) (encoded (arranged j)))) (same_form k j)
    ∙ read_in_form (is_shielded k j) (encoded (arranged j)) (encoded j) h

-- each encoded member is read
pub member_readable : (k : List ℕ) (j : json.Json) → (d : Data) × (member_read k j ≡ Some d)
member_readable k j =
    readable (in_form (form_of false k j) (encoded j)) (whole_in_form (form_of false k j) (encoded j) (whole j))

-- ---- members

-- all names are above this one
abbrev pub IsBelow : List ℕ → json.Members → Type 0
IsBelow k json.no_members = Unit {0}
IsBelow k (json.member l j ms) = (cmp k l ≡ Less) × IsBelow k ms

-- a member put in before its successors may be read before or after them
read_after : (k : List ℕ) (x : Data) (ms : json.Members) (found ds : Members) → IsBelow k ms
    → of_members (encoded_members false ms) found ≡ Some ds
    → of_members (encoded_members false ms) (put k x found) ≡ Some (put k x ds)
read_after k x json.no_members found ds h read = ap (λ o. option_map (put k x) o) read
read_after k x (json.member l j ms) found ds h read =
    let b = bound (λ d. of_members (encoded_members false ms) (put l d found)) (member_read l j) ds read in
    ap (option_and_then (λ d. of_members (encoded_members false ms) (put l d (put k x found)))) b.1
    ∙ ap (of_members (encoded_members false ms)) (sym (put_swap k l x b.0 found h.0))
    ∙ read_after k x ms (put l b.0 found) ds h.1 b.2

-- ---- members put in at their names

below_lower : (a b : List ℕ) (ms : json.Members) → cmp a b ≡ Less → IsBelow b ms → IsBelow a ms
below_lower a b json.no_members less h = tt
below_lower a b (json.member k j ms) less h = (nat_list_cmp_total.trans a b k less h.0, below_lower a b ms less h.1)

abbrev pub Ascend : json.Members → Type 0
Ascend json.no_members = Unit {0}
Ascend (json.member k j ms) = IsBelow k ms × Ascend ms

below_put : (a k : List ℕ) (j : json.Json) (ms : json.Members) → cmp a k ≡ Less → IsBelow a ms
    → IsBelow a (spec.put k j ms)
below_put a k j json.no_members less h = (less, tt)
below_put a k j (json.member l i ms) less h = let rest = below_put a k j ms less h.1 in grind arith

ascend_put : (k : List ℕ) (j : json.Json) (ms : json.Members) → Ascend ms → Ascend (spec.put k j ms)
ascend_put k j json.no_members h = (tt, tt)
ascend_put k j (json.member l i ms) h =
    let rest = ascend_put k j ms h.1 in
    let low = below_lower k l ms in
    let high : cmp k l ≡ Greater → IsBelow l (spec.put k j ms) = λ is. below_put l k j ms (turned_back k l is) h.0 in
    grind arith

-- the members from here on, as read
abbrev more : json.Members → Members → Option Members
more ms found = of_members (encoded_members false ms) found

put_step : (o : Ordering) (k l : List ℕ) (x y : Data) (i m : json.Json) (ms : json.Members) (found ds : Members)
    → cmp k l ≡ o → IsBelow l ms → member_read k i ≡ Some x → member_read l m ≡ Some y
    → more ms (put l y found) ≡ Some ds → more (spec.put k i ms) (put l y found) ≡ Some (put k x ds)
    → more (match_ordering o (json.member k i (json.member l m ms)) (json.member l i ms)
    (json.member l m (spec.put k i ms))) found ≡ Some (put k x ds)
put_step Less k l x y i m ms found ds at h is there read rest =
    ap (option_and_then (λ d. more (json.member l m ms) (put k d found))) is
    ∙ read_after k x (json.member l m ms) found ds (at, below_lower k l ms at h)
    (ap (option_and_then (λ d. more ms (put l d found))) there ∙ read)
put_step Equal k l x y i m ms found ds at h is there read rest =
    let same = exact_bytes k l at in
    let is_there : member_read l i ≡ Some x = ap (λ n. member_read n i) (sym same) ∙ is in
    ap (option_and_then (λ d. more ms (put l d found))) is_there
    ∙ ap (more ms) (sym (put_twice l x y found)) ∙ read_after l x ms (put l y found) ds h read
    ∙ ap (λ n. Some (put n x ds)) (sym same)
put_step Greater k l x y i m ms found ds at h is there read rest =
    ap (option_and_then (λ d. more (spec.put k i ms) (put l d found))) there ∙ rest

read_put : (k : List ℕ) (i : json.Json) (x : Data) (ms : json.Members) (found ds : Members) → Ascend ms
    → member_read k i ≡ Some x → more ms found ≡ Some ds → more (spec.put k i ms) found ≡ Some (put k x ds)
read_put k i x json.no_members found ds h is read =
    ap (option_and_then (λ d. Some (put k d found))) is ∙ ap (option_map (put k x)) read
read_put k i x (json.member l m ms) found ds h is read =
    let b = bound (λ d. more ms (put l d found)) (member_read l m) ds read in
    put_step (cmp k l) k l x b.0 i m ms found ds refl h.0 is b.1 b.2
    (read_put k i x ms (put l b.0 found) ds h.1 is b.2)

-- ---- values

mutual
  pub again : (j : json.Json) → of_json (encoded (arranged j)) ≡ of_json (encoded j)
  again json.null = refl
  again (json.boolean b) = refl
  again (json.number s) = refl
  again (json.string s) = refl
  again (json.array js) = ap (option_map array) (items_again js)
  again (json.object ms) = ap (option_map object) (members_again ms json.no_members no_members tt refl)

  items_again : (js : json.Items) → of_items (encoded_items (arranged_items js)) ≡ of_items (encoded_items js)
  items_again json.no_items = refl
  items_again (json.item j js) =
      ap₂ (λ o r. option_and_then (λ d. option_map (item d) r) o) (again j) (items_again js)

  members_again : (ms ready : json.Members) (found : Members) → Ascend ready → AreRead ready found
      → more (arranged_members ms ready) no_members ≡ more ms found
  members_again json.no_members ready found h read = read
  members_again (json.member k j ms) ready found h read =
      let r = member_readable k j in
      let is = member_again k j (again j) ∙ r.1 in
      members_again ms (spec.put k (arranged j) ready) (put k r.0 found) (ascend_put k (arranged j) ready h)
      (read_put k (arranged j) r.0 ready no_members found h is read)
      ∙ sym (ap (option_and_then (λ d. more ms (put k d found))) r.1)
