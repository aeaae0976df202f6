-- Members read from encoded ones, and members decoded from written ones; a framed transform, written in its frame.
use Rattle.city_canonical.proofs.Prelude.{arith, ◌≡◌, ℕ, List, [], ◌∷◌, Bool, false, cond, Option, Some, None, nat_cmp}
use Rattle.city_canonical.proofs.Prelude.{codes, refl, sym, ap, subst, ◌∙◌, ◌&&◌, option_map, bytes_eq, slice_cmp}
use Rattle.city_canonical.proofs.Prelude.{AllByRecursion, is_eq-slice_cmp, bytes_eq-Decides, HasNumbers}
use Rattle.city_canonical.proofs.Prelude.{MembersHaveNumbers, Some_inj, not_found, Data, string, array, object, Items}
use Rattle.city_canonical.proofs.Prelude.{Members, no_members, member, put, get_member, as_str, of_json, of_items}
use Rattle.city_canonical.proofs.Prelude.{of_members, outline, members_outline, same_id, has_id, AreOrdered, by_id}
use Rattle.city_canonical.proofs.Prelude.{is_tag, is_shielded, encoded, encoded_items, encoded_members, number_in}
use Rattle.city_canonical.proofs.Prelude.{out_of_form, decoded, decoded_members, arranged, put_list, listed}
use Rattle.city_canonical.proofs.Prelude.{and_then_some, ℤ, true, number_of-decimal, transform_data, triple_of}
use Rattle.std.proofs.Common.{Ordering, Equal, is_eq, pos}
use Rattle.std.specs.Option.{option_or}
use Rattle.std.specs.Ordering.{match_ordering}
use Rattle.std.proofs.lemmas.Bool.{and_from}
use Rattle.std.proofs.lemmas.Map.Lookups.{exact_bytes}
use Rattle.serde_json.proofs.Views.{get_member-put}
use Rattle.city_members.specs.Members.{without, AllAbove}
use Rattle.city_members.proofs.Ids.{same_id_itself, same_id_back}
use Rattle.city_members.proofs.MemberLists.{ordered_without}
use Rattle.city_members.proofs.MemberLaws.{get_member-without, get_member-without_same}
use Rattle.city_decimals.specs.Shapes.{form_of, in_form, is_triple, is_frame, framed}
use Rattle.city_decimals.proofs.Kept.{kept, kept_at, transform_kept}
use Rattle.city_doc.proofs.Laws.{get_member-put_apart, ordered_put, HasFrameParts}
use Rattle.city_canonical.specs.Members.{IsBelow, Ascend}
use Rattle.std.proofs.lemmas.Fmt.{decimal_digit}
use Rattle.city_model.specs.declared.frame.Frame.{Frame}
use Rattle.city_tokens.specs.document.Frames.{triple_at, without_transform_members, without_top_members}
use Rattle.city_writer.specs.tree.Lists.{triple_data}
use Rattle.city_canonical.proofs.Boundaries.{three_is, itself}
use Rattle.json.specs.Json as json
use Rattle.json.specs.Find as look

-- ---- the source of an object or an array

pub record IsObject (j : json.Json) (ds : Members) : Type 0 where
  pub ms : json.Members
  pub is : j ≡ json.object ms
  pub read : of_members (encoded_members false ms) no_members ≡ Some ds

-- if f finds something in the members and nothing in an encoded number, they were read from an object
pub object_read : {X : Type 0} (f : Members → Option X) (x : X) (j : json.Json) (ms : Members)
    → ((s : List ℕ) → f (member (codes "#") (string s) no_members) ≡ None) → f ms ≡ Some x
    → of_json (encoded j) ≡ Some (object ms) → IsObject j ms
object_read f x (json.number s) ms none h is = grind arith
object_read f x j ms none h is = grind arith

pub array_read : (j : json.Json) (ds : Items) → of_json (encoded j) ≡ Some (array ds)
    → (js : json.Items) × (j ≡ json.array js) × (of_items (encoded_items js) ≡ Some ds)
array_read (json.number s) ds is = grind arith
array_read j ds is = grind arith

pub string_is : (d : Data) (s : List ℕ) → as_str d ≡ Some s → d ≡ string s
string_is d s h = grind arith

-- ---- members put in and taken out

pub apart_from : (names : List (List ℕ)) (name : List ℕ) → has_id names name ≡ false
    → AllByRecursion (λ n. same_id name n ≡ false) names
apart_from [] name h = tt
apart_from (n ∷ names) name h = grind (arith, apart_from names name)

pub at_put : (name k : List ℕ) (d : Data) (ms : Members)
    → get_member name (put k d ms) ≡ cond (same_id name k) (Some d) (get_member name ms)
at_put name k d ms =
    by_id name k (search (arith, same_id_itself, get_member-put)) (search (arith, get_member-put_apart))

pub at_without : (name k : List ℕ) (ms : Members)
    → get_member name (without k ms) ≡ cond (same_id name k) None (get_member name ms)
at_without name k ms =
    by_id name k (search (arith, same_id_itself, get_member-without_same)) (search (arith, get_member-without))

pub at_put_list : {A : Type 0} (name k : List ℕ) (f : A → Data) (xs : List A) (ms : Members)
    → get_member name (put_list k f xs ms) ≡ option_or (cond (same_id name k) (listed f xs) None) (get_member name ms)
at_put_list name k f xs ms = search (arith, at_put)

pub or_none : {A : Type 0} (o : Option A) → option_or o None ≡ o
or_none o = grind arith

pub ruleset lookups = (at_put, at_without, at_put_list, or_none)

-- ---- values read

-- the value read for a member of the name
abbrev pub member_read : Bool → List ℕ → json.Json → Option Data
member_read top name j = of_json (in_form (form_of top name j) (encoded j))

-- o was read for the member; without a member, o is the earlier value
abbrev pub IsRead : Bool → List ℕ → Option Data → Option json.Json → Option Data → Type 0
IsRead top name before None o = o ≡ before
IsRead top name before (Some j) o = (d : Data) × (member_read top name j ≡ Some d) × (o ≡ Some d)

read_step : (top : Bool) (name k : List ℕ) (j : json.Json) (d : Data) (found : Members) (o : Option Data) (b : Bool)
    (later : Option json.Json) → bytes_eq k name ≡ b → member_read top k j ≡ Some d
    → IsRead top name (get_member name (put k d found)) later o
    → IsRead top name (get_member name found) (look.later_or later (cond b (Some j) None)) o
read_step top name k j d found o b later e is h =
    search (arith, at_put, is_eq-slice_cmp, same_id_back, bytes_eq-Decides)

pub read_members : (top : Bool) (name : List ℕ) (ms : json.Members) (before ds : Members)
    → of_members (encoded_members top ms) before ≡ Some ds
    → IsRead top name (get_member name before) (look.get_member name ms) (get_member name ds)
read_members top name json.no_members before ds h = ap (get_member name) (sym (Some_inj _ _ h))
read_members top name (json.member k j ms) before ds h =
    let d = and_then_some _ (member_read top k j) ds h in
    search (arith, read_step top name k j d.0 before, read_members top name ms)

found_step : (top : Bool) (name : List ℕ) (o : Option json.Json) (r : Option Data) (d : Data)
    → IsRead top name None o r → r ≡ Some d → (j : json.Json) × (o ≡ Some j) × (member_read top name j ≡ Some d)
found_step top name None r d is h = not_found d (sym is ∙ h)
found_step top name (Some j) r d is h = (j, refl, is.1 ∙ sym is.2 ∙ h)

pub found_read : (top : Bool) (name : List ℕ) (ms : json.Members) (ds : Members) (d : Data)
    → of_members (encoded_members top ms) no_members ≡ Some ds → get_member name ds ≡ Some d
    → (j : json.Json) × (look.get_member name ms ≡ Some j) × (member_read top name j ≡ Some d)
found_read top name ms ds d is h = found_step top name _ _ d (read_members top name ms no_members ds is) h

pub none_read : (top : Bool) (name : List ℕ) (ms : json.Members) (ds : Members)
    → of_members (encoded_members top ms) no_members ≡ Some ds → get_member name ds ≡ None
    → look.get_member name ms ≡ None
none_read top name ms ds is h = grind (arith, read_members top name ms no_members ds is)

-- ---- the names ascend

pub ordered_put_list : {A : Type 0} (name : List ℕ) (f : A → Data) (xs : List A) (ms : Members) → AreOrdered ms
    → AreOrdered (put_list name f xs ms)
ordered_put_list name f xs ms h = search (arith, ordered_put)

pub ordered_read : (ms : json.Members) (before ds : Members) → of_members ms before ≡ Some ds → AreOrdered before
    → AreOrdered ds
ordered_read json.no_members before ds is h = subst AreOrdered (Some_inj _ _ is) h
ordered_read (json.member k j ms) before ds is h = search (arith, and_then_some, ordered_put, ordered_read ms)

pub ruleset ordered = (ordered_put, ordered_without, ordered_put_list, ordered_read)

below_decoded : (top : Bool) (k : List ℕ) (ms : Members) → AllAbove k ms
    → IsBelow k (decoded_members top (members_outline ms))
below_decoded top k no_members h = tt
below_decoded top k (member l d ms) h = (h.0, below_decoded top k ms h.1)

-- so do the decoded ones
pub ascend_decoded : (top : Bool) (ms : Members) → AreOrdered ms → Ascend (decoded_members top (members_outline ms))
ascend_decoded top no_members h = tt
ascend_decoded top (member k d ms) h = (below_decoded top k ms h.0, ascend_decoded top ms h.1)

-- ---- values decoded

-- the data at the name, decoded
abbrev pub value_at : Bool → List ℕ → Data → json.Json
value_at top name d = out_of_form top name (outline d) (decoded (outline d))

not_above : (name : List ℕ) (ds : Members) → AllAbove name ds → get_member name ds ≡ None
not_above name no_members h = refl
not_above name (member k d ds) h = rw h.0 (not_above name ds h.1)

decoded_step : (f : List ℕ → Data → json.Json) (name l : List ℕ) (d : Data) (r : Option Data) (o : Ordering)
    → (o ≡ Equal → (name ≡ l) × (r ≡ None))
    → look.later_or (option_map (f name) r) (cond (is_eq o) (Some (f l d)) None)
    ≡ option_map (f name) (match_ordering o r (Some d) r)
decoded_step f name l d r o same = grind arith

-- if the names ascend, a member found in the decoding is the decoding of the member found
pub decoded_members_at : (top : Bool) (name : List ℕ) (ds : Members) (r : Option Data) → AreOrdered ds
    → get_member name ds ≡ r
    → look.get_member name (decoded_members top (members_outline ds)) ≡ option_map (value_at top name) r
decoded_members_at top name no_members r h is = ap (option_map (value_at top name)) is
decoded_members_at top name (member l d ds) r h is =
    rw (← is, decoded_members_at top name ds _ h.1 refl, ← is_eq-slice_cmp l name, same_id_back l name)
    (decoded_step (value_at top) name l d (get_member name ds) (slice_cmp nat_cmp name l)
    (λ e. let same = exact_bytes name l e in (same, rw same (not_above l ds h.0))))

-- ---- members not taken for a number

-- some member has another name than the tag
pub no_number : (name : List ℕ) → is_tag name ≡ false → (ds : Members) (d : Data) → get_member name ds ≡ Some d
    → number_in (members_outline ds) ≡ None
no_number name e (member k c no_members) d h = grind (arith, exact_bytes name k)
no_number name e ds d h = refl

pub decoded_object : (ms : Members) → number_in (members_outline ms) ≡ None
    → decoded (outline (object ms)) ≡ json.object (decoded_members false (members_outline ms))
decoded_object ms h = rw h refl

-- ---- a kept member

no_frame : (a b c : Bool) → (a && b) ≡ false → (a && (b && c)) ≡ false
no_frame a b c e = grind arith

kept_value : (top : Bool) (name : List ℕ) (j : json.Json) → HasNumbers j
    → (top && bytes_eq name (codes "transform")) ≡ false → (d : Data) → member_read top name j ≡ Some d
    → value_at top name d ≡ arranged j
kept_value top name j h e d is =
    search (arith, no_frame, codes, kept_at name j (is_shielded name j) refl (kept j h))

-- ---- a member of an object

abbrev pub Numbers : Option json.Json → Type 0
Numbers None = Unit {0}
Numbers (Some j) = HasNumbers j

pub numbers_at : (name : List ℕ) (ms : json.Members) → MembersHaveNumbers ms → Numbers (look.get_member name ms)
numbers_at name json.no_members h = tt
numbers_at name (json.member k j ms) h = grind (arith, numbers_at name ms h.1, h.0)

-- if the value written at the name is the value read there, it comes back the same
pub member_same : (top : Bool) (name : List ℕ) (ms : json.Members) (ds written : Members)
    → (top && bytes_eq name (codes "transform")) ≡ false → MembersHaveNumbers ms
    → of_members (encoded_members top ms) no_members ≡ Some ds
    → AreOrdered written → get_member name written ≡ get_member name ds
    → look.get_member name (decoded_members top (members_outline written)) ≡ option_map arranged
    (look.get_member name ms)
member_same top name ms ds written e h is order same =
    let read = read_members top name ms no_members ds is in
    let numbers = numbers_at name ms h in
    rw (decoded_members_at top name written (get_member name ds) order same) (search (arith, kept_value))

-- ---- the source of a frame

pub record IsFrameOf (ms : Members) (f : Frame) : Type 0 where
  pub transform : Data
  pub there : get_member (codes "transform") ms ≡ Some transform
  pub members : Members
  pub is : transform ≡ object members
  pub scale : triple_at (codes "scale") transform ≡ Some f.scale
  pub translate : triple_at (codes "translate") transform ≡ Some f.translate
  pub more : f.more ≡ without_transform_members members
  pub extra : f.extra ≡ without_top_members ms

pub frame_read : (d : Data) (f : Frame) (p : HasFrameParts d f) → IsFrameOf p.top f
frame_read d f p = grind arith

-- ---- the transform in a frame

-- the members of a frame round the data
abbrev framed_members : Data → Members
framed_members d =
    member (codes "#") d
    (member (codes "scale") (triple_data (pos 1 ∷ pos 1 ∷ pos 1 ∷ []))
    (member (codes "translate") (triple_data (pos 0 ∷ pos 0 ∷ pos 0 ∷ [])) no_members))

framed_read : (j : json.Json) (d : Data) → of_json j ≡ Some d → of_json (framed j) ≡ Some (object (framed_members d))
framed_read j d h =
    search (arith, decimal_digit 1 (omega arith), decimal_digit 0 (omega arith), number_of-decimal)

framed_written : (d : Data) → outline (object (framed_members d)) ≡ framed (outline d)
framed_written d = search (arith, decimal_digit)

-- ---- the transform comes back

triple_there : (name : List ℕ) → ((j : json.Json) → member_read false name j ≡ of_json (encoded j))
    → ((s : List ℕ) → get_member name (member (codes "#") (string s) no_members) ≡ None)
    → (j : json.Json) (ms : Members) (zs : List ℤ) → of_json (encoded j) ≡ Some (object ms)
    → triple_at name (object ms) ≡ Some zs → is_triple (look.get name j) ≡ true
triple_there name bare none j ms zs is h =
    let v = and_then_some triple_of (get_member name ms) zs h in
    let o = object_read (get_member name) v.0 j ms none v.1 is in
    let found = found_read false name o.ms ms v.0 o.read v.1 in
    let t = three_is (λ x y z. x ∷ y ∷ z ∷ []) v.0 zs v.2 in
    rw (o.is, found.1) (search (arith, itself found.0 v.0, bare))

module _ (ms : Members) (f : Frame) (p : IsFrameOf ms f) (t : json.Json) (numbers : HasNumbers t)
    (is : member_read true (codes "transform") t ≡ Some p.transform) where
  framed_there : (b : Bool) → is_frame t ≡ b → is_frame t ≡ true
  framed_there true e = e
  framed_there false e =
      let read : of_json (encoded t) ≡ Some (object p.members) = (rw e at is) ∙ ap Some p.is in
      and_from (is_triple (look.get (codes "scale") t)) (is_triple (look.get (codes "translate") t))
      (triple_there (codes "scale") (λ j. refl) (λ s. refl) t p.members f.scale read (rw p.is at p.scale))
      (triple_there (codes "translate") (λ j. refl) (λ s. refl) t p.members f.translate read (rw p.is at p.translate))

  pub transform_same : value_at true (codes "transform") (transform_data f) ≡ arranged t
  transform_same =
      let e = framed_there (is_frame t) refl in
      let k = kept t numbers in
      let same : object (framed_members k.d) ≡ p.transform =
      Some_inj _ _ (sym (framed_read (encoded t) k.d k.read) ∙ (rw e at is)) in
      let members : framed_members k.d ≡ p.members = let all = same ∙ p.is in cc in
      let scale : f.scale ≡ pos 1 ∷ pos 1 ∷ pos 1 ∷ [] =
      sym (Some_inj _ _ (ap (triple_at (codes "scale")) same ∙ p.scale)) in
      let translate : f.translate ≡ pos 0 ∷ pos 0 ∷ pos 0 ∷ [] =
      sym (Some_inj _ _ (ap (triple_at (codes "translate")) same ∙ p.translate)) in
      let more : f.more ≡ member (codes "#") k.d no_members = p.more ∙ ap without_transform_members (sym members) in
      let whole : transform_data f ≡ object (framed_members k.d) = rw (scale, translate, more) refl in
      ap (value_at true (codes "transform")) whole
      ∙ ap (λ j. out_of_form true (codes "transform") j (decoded j)) (framed_written k.d)
      ∙ transform_kept t numbers e k.d k.read
