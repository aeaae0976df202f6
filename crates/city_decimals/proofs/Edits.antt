-- Setting, taking out and expecting members has the same effect on members as read as on the members themselves.
use Rattle.city_decimals.proofs.Prelude.{arith, ◌≡◌, ℕ, List, [], ◌∷◌, Bool, false, cond, Option, Some, None, Ordering}
use Rattle.city_decimals.proofs.Prelude.{refl, sym, ap, ◌∙◌, subst, option_map, option_and_then, match_ordering}
use Rattle.city_decimals.proofs.Prelude.{bytes_eq, bytes_eq-Decides, MembersHaveNumbers, Data, put, of_json, of_members}
use Rattle.city_decimals.proofs.Prelude.{Some_inj, is_whole, in_form, tagged, encoded, encoded_members, number_or}
use Rattle.city_decimals.proofs.Prelude.{has_shield, only, decoded, decoded_members, Plain, Shielded, is_shielded}
use Rattle.std.proofs.Common.{Less, Equal, Greater, ◌||◌}
use Rattle.std.specs.Prelude.{◌↔◌, is_some, not}
use Rattle.std.proofs.lemmas.Map.Lookups.{exact_bytes}
use Rattle.serde_json.specs.Data.{object, Members, no_members, member}
use Rattle.serde_json.specs.Find.{get_member, as_object}
use Rattle.serde_json.specs.Written.{outline, members_outline}
use Rattle.serde_json.proofs.Views.{get_member-put, get_member-put_other}
use Rattle.city_decimals.specs.Arranged.{arranged, arranged_members}
use Rattle.city_decimals.specs.Attributes.{attributes, put_each, without, without_each, AreAmong, append, leave_out}
use Rattle.city_decimals.specs.Attributes.{leave_out_each, AreWithin, member_read, AreRead, AreKeptAs}
use Rattle.city_decimals.proofs.Kept.{kept, kept_at, members_kept, value_at, decoded_put, ArePlain, plain_put}
use Rattle.city_decimals.proofs.Kept.{plain_encodes_none}
use Rattle.city_decimals.proofs.Puts.{cmp, tied, AreAbove, AreOrdered, ordered_put, put_into, without_same}
use Rattle.city_decimals.proofs.Puts.{without_other}
use Rattle.city_decimals.proofs.Rereads.{member_again, again}
use Rattle.city_decimals.proofs.Wholes.{bound}
use Rattle.city_decimals.specs.Arranged as spec
use Rattle.json.specs.Json as json
use Rattle.json.specs.Find as find

-- the members from here on, as read
abbrev more : json.Members → Members → Option Members
more ms found = of_members (encoded_members false ms) found

ordered_read : (ms : json.Members) (found ds : Members) → more ms found ≡ Some ds → AreOrdered found → AreOrdered ds
ordered_read json.no_members found ds read h = subst AreOrdered (Some_inj _ _ read) h
ordered_read (json.member k j ms) found ds read h =
    let b = bound (λ d. more ms (put k d found)) (member_read k j) ds read in
    ordered_read ms (put k b.0 found) ds b.2 (ordered_put k b.0 found h)

-- ---- written members

members_back : (ms : json.Members) (ds : Members) → MembersHaveNumbers ms → AreRead ms ds
    → decoded_members false (members_outline ds) ≡ arranged_members ms json.no_members
members_back ms ds h read = grind (arith, members_kept ms h no_members json.no_members refl tt)

object_back : (ms : json.Members) (ds : Members) → MembersHaveNumbers ms → AreRead ms ds
    → decoded (outline (object ds)) ≡ arranged (json.object ms)
object_back ms ds h read = grind (arith, kept (json.object ms) h)

-- ---- found members

abbrev found_or : List ℕ → Option json.Json → Option Data → Option Data
found_or name None before = before
found_or name (Some j) before = member_read name j

at_step : (name k : List ℕ) (j : json.Json) (x : Data) (found : Members) (later : Option json.Json) (b : Bool)
    → bytes_eq k name ≡ b → member_read k j ≡ Some x
    → found_or name later (get_member name (put k x found))
    ≡ found_or name (find.later_or later (cond b (Some j) None)) (get_member name found)
at_step name k j x found later b e is = search (arith, bytes_eq-Decides, put, get_member-put, get_member-put_other)

read_at : (name : List ℕ) (ms : json.Members) (found ds : Members) → more ms found ≡ Some ds
    → get_member name ds ≡ found_or name (find.get_member name ms) (get_member name found)
read_at name json.no_members found ds read = ap (get_member name) (sym (Some_inj _ _ read))
read_at name (json.member k j ms) found ds read =
    let b = bound (λ d. more ms (put k d found)) (member_read k j) ds read in
    read_at name ms (put k b.0 found) ds b.2
    ∙ at_step name k j b.0 found (find.get_member name ms) (bytes_eq k name) refl b.1

pub found_read : (name : List ℕ) (ms : json.Members) (ds : Members) → AreRead ms ds
    → get_member name ds ≡ option_and_then (member_read name) (find.get_member name ms)
found_read name ms ds read = read_at name ms no_members ds read ∙ none_before (find.get_member name ms)
  where
    none_before : (o : Option json.Json) → found_or name o None ≡ option_and_then (member_read name) o
    none_before None = refl
    none_before (Some j) = refl

number_kind : (b : Bool) (s : List ℕ) (d : Data)
    → of_json (in_form (cond (not b || false) Shielded Plain) (cond b (json.number s) (tagged s))) ≡ Some d
    → is_some (as_object d) ≡ false
number_kind b s d h = grind arith

-- only an object is read as an object
pub object_alone : (j : json.Json) (d : Data) → member_read attributes j ≡ Some d
    → is_some (as_object d) ≡ is_some (find.as_object j)
object_alone json.null d h = grind arith
object_alone (json.boolean b) d h = grind arith
object_alone (json.number s) d h = number_kind (is_whole s) s d h
object_alone (json.string s) d h = grind arith
object_alone (json.array js) d h = array_kind (is_shielded attributes (json.array js)) d h
  where
    array_kind : (b : Bool) (d : Data)
        → of_json (in_form (cond b Shielded Plain) (encoded (json.array js))) ≡ Some d → is_some (as_object d) ≡ false
    array_kind b d h = grind arith
object_alone (json.object ms) d h = grind arith

-- ---- set

read_on : (a s : json.Members) (found ds : Members) → more a found ≡ Some ds → more (append a s) found ≡ more s ds
read_on json.no_members s found ds read = ap (more s) (Some_inj _ _ read)
read_on (json.member k j a) s found ds read =
    let b = bound (λ d. more a (put k d found)) (member_read k j) ds read in
    ap (option_and_then (λ d. more (append a s) (put k d found))) b.1 ∙ read_on a s (put k b.0 found) ds b.2

read_onto : (s : json.Members) (ds before es : Members) → AreOrdered before → more s before ≡ Some es
    → more s (put_each before ds) ≡ Some (put_each es ds)
read_onto json.no_members ds before es h read = ap (λ o. option_map (λ es. put_each es ds) o) read
read_onto (json.member k j s) ds before es h read =
    let b = bound (λ d. more s (put k d before)) (member_read k j) es read in
    ap (option_and_then (λ d. more s (put k d (put_each before ds)))) b.1
    ∙ ap (more s) (sym (put_into k b.0 before ds h))
    ∙ read_onto s ds (put k b.0 before) es (ordered_put k b.0 before h) b.2

numbers_append : (a s : json.Members) → MembersHaveNumbers a → MembersHaveNumbers s → MembersHaveNumbers (append a s)
numbers_append json.no_members s h g = g
numbers_append (json.member k j a) s h g = (h.0, numbers_append a s h.1 g)

pub set_kept : (a s : json.Members) (ds es : Members) → MembersHaveNumbers a → MembersHaveNumbers s → AreRead a ds
    → AreRead s es → AreKeptAs (append a s) (put_each es ds)
set_kept a s ds es h g read set =
    let both = read_on a s no_members ds read ∙ read_onto s ds no_members es tt set in
    (both, object_back (append a s) (put_each es ds) (numbers_append a s h g) both)

-- ---- taken out

out_step : (b : Bool) (name k : List ℕ) (j : json.Json) (x : Data) (ms : json.Members) (found ds : Members)
    → bytes_eq name k ≡ b → AreOrdered found → member_read k j ≡ Some x
    → more (leave_out name ms) (without name (put k x found)) ≡ Some ds
    → more (cond b (leave_out name ms) (json.member k j (leave_out name ms))) (without name found) ≡ Some ds
out_step b name k j x ms found ds e h is rest =
    search (arith, bytes_eq-Decides, put, without_same, option_and_then, without_other)

read_without : (name : List ℕ) (ms : json.Members) (found ds : Members) → AreOrdered found → more ms found ≡ Some ds
    → more (leave_out name ms) (without name found) ≡ Some (without name ds)
read_without name json.no_members found ds h read = ap (option_map (without name)) read
read_without name (json.member k j ms) found ds h read =
    let b = bound (λ d. more ms (put k d found)) (member_read k j) ds read in
    out_step (bytes_eq name k) name k j b.0 ms found (without name ds) refl h b.1
    (read_without name ms (put k b.0 found) ds (ordered_put k b.0 found h) b.2)

numbers_without : (name : List ℕ) (ms : json.Members) → MembersHaveNumbers ms → MembersHaveNumbers (leave_out name ms)
numbers_without name json.no_members h = tt
numbers_without name (json.member k j ms) h = grind (arith, numbers_without name ms h.1, h.0)

put_some : (k : List ℕ) (d : Data) (ms : Members) → put k d ms ≡ no_members → ⊥
put_some k d ms e = let never : None ≡ Some d = ap (get_member k) (sym e) ∙ get_member-put k d ms in absurd (cc)

some_read : (ms : json.Members) (found ds : Members) → more ms found ≡ Some ds → (found ≡ no_members → ⊥)
    → ds ≡ no_members → ⊥
some_read json.no_members found ds read some none = some (Some_inj _ _ read ∙ none)
some_read (json.member k j ms) found ds read some none =
    let b = bound (λ d. more ms (put k d found)) (member_read k j) ds read in
    some_read ms (put k b.0 found) ds b.2 (put_some k b.0 found) none

-- the members read are none exactly if the members are
pub none_read : (ms : json.Members) (ds : Members) → AreRead ms ds
    → (ds ≡ no_members) ↔ (ms ≡ json.no_members)
none_read json.no_members ds read = ((λ e. refl), (λ e. sym (Some_inj _ _ read)))
none_read (json.member k j ms) ds read =
    let b = bound (λ d. more ms (put k d no_members)) (member_read k j) ds read in (
      λ e. absurd (some_read ms (put k b.0 no_members) ds b.2 (put_some k b.0 no_members) e),
      λ e. grind arith,
    )

pub unset_kept : (a : json.Members) (ds : Members) (names : List (List ℕ)) → MembersHaveNumbers a → AreRead a ds
    → AreKeptAs (leave_out_each names a) (without_each names ds)
unset_kept a ds [] h read = (read, object_back a ds h read)
unset_kept a ds (name ∷ names) h read =
    unset_kept (leave_out name a) (without name ds) names (numbers_without name a h)
    (read_without name a no_members ds tt read)

-- ---- expected

-- each value is read back from its decoding
abbrev AreAgain : Members → Type 0
AreAgain no_members = Unit {0}
AreAgain (member k d ms) = (member_read k (value_at k d) ≡ Some d) × AreAgain ms

again_step : (o : Ordering) (k l : List ℕ) (d e : Data) (ms : Members) → cmp k l ≡ o
    → member_read k (value_at k d) ≡ Some d → AreAgain (member l e ms) → AreAgain (put k d ms)
    → AreAgain (match_ordering o (member k d (member l e ms)) (member l d ms) (member l e (put k d ms)))
again_step Less k l d e ms at h hs rest = (h, hs)
again_step Equal k l d e ms at h hs rest =
    (subst (λ n. member_read n (value_at n d) ≡ Some d) (exact_bytes k l at) h, hs.1)
again_step Greater k l d e ms at h hs rest = (hs.0, rest)

again_put : (k : List ℕ) (d : Data) (ms : Members) → member_read k (value_at k d) ≡ Some d → AreAgain ms
    → AreAgain (put k d ms)
again_put k d no_members h hs = (h, tt)
again_put k d (member l e ms) h hs = again_step (cmp k l) k l d e ms refl h hs (again_put k d ms h hs.1)

again_read : (ms : json.Members) (found ds : Members) → MembersHaveNumbers ms → more ms found ≡ Some ds
    → AreAgain found → AreAgain ds
again_read json.no_members found ds h read hs = subst AreAgain (Some_inj _ _ read) hs
again_read (json.member k j ms) found ds h read hs =
    let b = bound (λ d. more ms (put k d found)) (member_read k j) ds read in
    let m = kept_at k j (is_shielded k j) refl (kept j h.0) in
    let same = Some_inj _ _ (sym b.1 ∙ m.read) in
    let here = ap (member_read k) (ap (value_at k) same ∙ m.back) ∙ member_again k j (again j) ∙ b.1 in
    again_read ms (put k b.0 found) ds h.1 b.2 (again_put k b.0 found here hs)

again_at : (name : List ℕ) (ms : Members) (d : Data) → AreAgain ms → get_member name ms ≡ Some d
    → member_read name (value_at name d) ≡ Some d
again_at name no_members d h e = grind arith
again_at name (member l x ms) d h e =
    step (cmp name l) refl h.0 (again_at name ms d h.1) e
  where
    step : (o : Ordering) → cmp name l ≡ o → member_read l (value_at l x) ≡ Some x
        → (get_member name ms ≡ Some d → member_read name (value_at name d) ≡ Some d)
        → match_ordering o (get_member name ms) (Some x) (get_member name ms) ≡ Some d
        → member_read name (value_at name d) ≡ Some d
    step Less at here rest e = rest e
    step Equal at here rest e =
        let one = subst (λ n. member_read n (value_at n x) ≡ Some x) (sym (exact_bytes name l at)) here in
        subst (λ y. member_read name (value_at name y) ≡ Some y) (Some_inj _ _ e) one
    step Greater at here rest e = rest e

not_above : (name : List ℕ) (ds : Members) → AreAbove name ds → get_member name ds ≡ None
not_above name no_members h = refl
not_above name (member k d ds) h = rw h.0 (not_above name ds h.1)

apart : (o : Ordering) (name l : List ℕ) → cmp name l ≡ o → (o ≡ Equal → ⊥) → bytes_eq l name ≡ false
apart o name l at other = grind (arith, bytes_eq-Decides l name, tied_same)
  where
    tied_same : l ≡ name → cmp name l ≡ Equal
    tied_same same = ap (cmp name) same ∙ tied name

later_none : (o : Option json.Json) → find.later_or o None ≡ o
later_none o = grind arith

-- a member found in the decoding is the decoding of the member found
decoded_at : (name : List ℕ) (ds : Members) → AreOrdered ds
    → find.get_member name (decoded_members false (members_outline ds)) ≡ option_map (value_at name)
    (get_member name ds)
decoded_at name no_members h = refl
decoded_at name (member l x ds) h =
    ap (λ o. find.later_or o (cond (bytes_eq l name) (Some (value_at l x)) None)) (decoded_at name ds h.1)
    ∙ step (cmp name l) refl
  where
    step : (o : Ordering) → cmp name l ≡ o
        → find.later_or (option_map (value_at name) (get_member name ds)) (cond (bytes_eq l name) (Some (value_at l x))
        None) ≡ option_map (value_at name) (match_ordering o (get_member name ds) (Some x) (get_member name ds))
    step Less at = rw (apart Less name l at (λ never. cc)) (later_none _)
    step Equal at = grind (arith, exact_bytes name l at, not_above name ds, bytes_eq-Decides l name, h.0)
    step Greater at = rw (apart Greater name l at (λ never. cc)) (later_none _)

-- a value is there exactly if its decoding is there
same_there : (k : List ℕ) (d : Data) (o : Option Data) → member_read k (value_at k d) ≡ Some d
    → ((e : Data) → o ≡ Some e → member_read k (value_at k e) ≡ Some e)
    → option_map (value_at k) o ≡ Some (value_at k d) → o ≡ Some d
same_there k d o h hs e = grind arith

among_within : (es ds : Members) → AreOrdered ds → AreAmong es ds
    → AreWithin (decoded_members false (members_outline es)) (decoded_members false (members_outline ds))
among_within no_members ds h all = tt
among_within (member k d es) ds h all =
    (decoded_at k ds h ∙ ap (option_map (value_at k)) all.0, among_within es ds h all.1)

within_among : (es ds : Members) → AreOrdered ds → AreAgain es → AreAgain ds
    → AreWithin (decoded_members false (members_outline es)) (decoded_members false (members_outline ds))
    → AreAmong es ds
within_among no_members ds h again_e again_d all = tt
within_among (member k d es) ds h again_e again_d all = (
  same_there k d (get_member k ds) again_e.0 (λ e. again_at k ds e again_d) (sym (decoded_at k ds h) ∙ all.0),
  within_among es ds h again_e.1 again_d all.1,
)

pub expect_kept : (a s : json.Members) (ds es : Members) → MembersHaveNumbers a → MembersHaveNumbers s → AreRead a ds
    → AreRead s es
    → AreAmong es ds ↔ AreWithin (arranged_members s json.no_members) (arranged_members a json.no_members)
expect_kept a s ds es h g read expected =
    search (arith, ordered_read, members_back, decoded_members, among_within, within_among, again_read)

-- ---- written in their place

pub place_kept : (ms b : json.Members) (ds es : Members) → MembersHaveNumbers ms → MembersHaveNumbers b → AreRead ms ds
    → AreRead b es
    → decoded (outline (object (put attributes (object es) ds)))
    ≡ json.object (spec.put attributes (arranged (json.object b)) (arranged_members ms json.no_members))
place_kept ms b ds es h g read given =
    let k = members_kept ms h no_members json.no_members refl tt in
    let same = Some_inj _ _ (sym read ∙ k.read) in
    let plain = plain_put attributes (object es) ds refl (subst ArePlain (sym same) k.plain) in
    ap (λ o. number_or o (decoded_members false (members_outline (put attributes (object es) ds))))
    (plain_encodes_none (put attributes (object es) ds) plain)
    ∙ ap json.object (decoded_put attributes (object es) ds
    ∙ ap (λ j. spec.put attributes (cond (has_shield attributes j) (only j) j) (decoded_members false
    (members_outline ds))) (object_back b es g given)
    ∙ ap (spec.put attributes (arranged (json.object b))) (members_back ms ds h read))
