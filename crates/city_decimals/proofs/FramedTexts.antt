-- The text of a document with a framed transform, in parts, and the text of the decoded document.
use Rattle.city_decimals.proofs.Prelude.{◌≡◌, ℕ, List, [], ◌∷◌, ◌++◌, Bool, true, false, None, refl, sym, ap, ◌∙◌}
use Rattle.city_decimals.proofs.Prelude.{arith}
use Rattle.city_decimals.proofs.Prelude.{append_assoc, append-nil, subst, codes, escape, quoted, ap₂, length, take}
use Rattle.city_decimals.proofs.Prelude.{drop, take_all}
use Rattle.city_decimals.proofs.Prelude.{length-drop, ◌+◌, ◌-◌}
use Rattle.std.proofs.Common.{length-append, inl, inr}
use lib.Seq.{take_at, drop_at}
use Rattle.city_decimals.proofs.Prelude.{Json, null, boolean, number, string, array, object, Members, no_members}
use Rattle.city_decimals.proofs.Prelude.{member}
use Rattle.city_decimals.proofs.Prelude.{HasNumbers, MembersHaveNumbers, decoded, decoded_members, decoded_top}
use Rattle.city_decimals.proofs.Prelude.{out_of_form}
use Rattle.city_decimals.proofs.Prelude.{number_in, number_or, framed, only, value_text, members_text, comma_if}
use Rattle.city_decimals.proofs.Prelude.{IsDecodedLine, document_to, depth}
use Rattle.json.specs.Print.{escape_byte}
use Rattle.city_decimals.proofs.CompactTexts.{text_printed, read_again}
use Rattle.city_decimals.proofs.CompactForms.{frame_end}
use Rattle.city_decimals.proofs.Found.{Passed, BeginsOther, passed_then, passed_free, value_passed}
use Rattle.city_decimals.proofs.Found.{name_here, string_here, same_inside, one_byte}
use Rattle.city_decimals.proofs.Found.{open_passed, object_passed, members_open, comma_free, begins_other, lacks_behind}
use Rattle.city_decimals.proofs.Needles.{lacks_front}
use Rattle.city_decimals.specs.Lines.{IsPrinted, joined, framed_top}
use Rattle.city_decimals.specs.internal.Needles.{Lacks, attributes_array}
use Rattle.city_decimals.specs.internal.Found.{Found, bytes_of, decoded_of, IsFound, open_text}

-- nothing is left behind
pub nothing_left : (q : Found) → bytes_of q ≡ [] → decoded_of q ≡ []
nothing_left ([], last) e = e
nothing_left (p ∷ ps, last) e = absurd (at p.0 _ e)
  where
    at : (front rest : List ℕ) → front ++ 123 ∷ rest ≡ [] → ⊥
    at [] rest f = absurd (cc)
    at (x ∷ xs) rest f = absurd (cc)

pub all_passed : (p : Found) (made : List ℕ) → Passed p made [] → decoded_of p ≡ made
all_passed p made a = a.out ∙ ap (λ t. made ++ t) (nothing_left a.left a.text) ∙ append-nil made

-- ---- a whole value

pub top_passed : (j : Json) (r : List ℕ) (p : Found) → HasNumbers j → IsFound p → BeginsOther r
    → Lacks attributes_array (value_text j ++ r) → bytes_of p ≡ value_text j ++ r
    → Passed p (value_text (decoded_top j)) r
top_passed null r p n h other lacks e = (value_passed null r p n h other lacks e).0
top_passed (boolean b) r p n h other lacks e = (value_passed (boolean b) r p n h other lacks e).0
top_passed (number s) r p n h other lacks e = (value_passed (number s) r p n h other lacks e).0
top_passed (string s) r p n h other lacks e = (value_passed (string s) r p n h other lacks e).0
top_passed (array js) r p n h other lacks e = (value_passed (array js) r p n h other lacks e).0
top_passed (object ms) r p n h other lacks e =
    (object_passed true ms r p n h lacks e (λ q are g k. open_passed true false ms (125 ∷ r) q n are
    (begins_other 125 r (λ is. omega arith)) k g)).0

-- ---- a framed transform

abbrev pub transform_name : List ℕ
transform_name = codes "\"transform\":"

abbrev pub frame_begin : List ℕ
frame_begin = codes "{\"#\":"

transform_quoted : (t : List ℕ) → quoted (codes "transform") ++ 58 ∷ t ≡ transform_name ++ t
unfolding escape_byte
transform_quoted t = refl

-- whether a member stands before one behind these
abbrev pub follows : Bool → Members → Bool
follows later no_members = later
follows later (member k j ms) = true

regroup : (c q v o r : List ℕ) → c ++ (q ++ 58 ∷ (v ++ (o ++ r))) ≡ (c ++ (q ++ 58 ∷ (v ++ o))) ++ r
regroup c q v o r = grind (arith, append_assoc)

joined_text : (later : Bool) (before : Members) (j : Json) (behind : Members)
    → members_text later (joined before (member (codes "transform") j behind))
    ≡ open_text later before ++ (comma_if (follows later before) ++ (transform_name
    ++ (value_text j ++ (open_text true behind ++ 125 ∷ []))))
joined_text later no_members j behind =
    ap (λ t. comma_if later ++ (quoted (codes "transform") ++ 58 ∷ (value_text j ++ t))) (members_open true behind)
    ∙ ap (λ t. comma_if later ++ t) (transform_quoted (value_text j ++ (open_text true behind ++ 125 ∷ [])))
joined_text later (member k i ms) j behind =
    ap (λ t. comma_if later ++ (quoted k ++ 58 ∷ (value_text i ++ t))) (joined_text true ms j behind ∙ ap (λ b.
    open_text true ms ++ (comma_if b ++ (transform_name ++ (value_text j ++ (open_text true behind ++ 125 ∷ [])))))
    (still ms)) ∙ regroup (comma_if later) (quoted k) (value_text i) (open_text true ms) _
  where
    still : (ns : Members) → follows true ns ≡ true
    still no_members = refl
    still (member l h ns) = refl

-- the parts of the line: before the frame, and behind it
abbrev pub text_before : Members → List ℕ
text_before before = 123 ∷ (open_text false before ++ comma_if (follows false before))

abbrev pub text_behind : Members → List ℕ
text_behind behind = open_text true behind ++ 125 ∷ 10 ∷ []

pub framed_text : (before inside behind : Members) → value_text (framed_top before inside behind) ++ 10 ∷ []
    ≡ text_before before ++ (transform_name ++ (frame_begin ++ (value_text (object inside) ++ (frame_end
    ++ text_behind behind))))
unfolding escape_byte
framed_text before inside behind =
    ap (λ t. 123 ∷ (t ++ 10 ∷ [])) (joined_text false before (framed (object inside)) behind)
    ∙ ap (λ t. 123 ∷ t) (line_parts (open_text false before) (comma_if (follows false before)) transform_name
    (value_text (object inside)) (open_text true behind))
  where
    line_parts : (a c t x b : List ℕ) → (a ++ (c ++ (t ++ ((frame_begin ++ (x ++ frame_end)) ++ (b ++ 125 ∷ [])))))
        ++ 10 ∷ [] ≡ (a ++ c) ++ (t ++ (frame_begin ++ (x ++ (frame_end ++ (b ++ 125 ∷ 10 ∷ [])))))
    line_parts a c t x b = grind (arith, append_assoc)

-- ---- its decoded text

decoded_joined : (before : Members) (j : Json) (behind : Members)
    → decoded_members true (joined before (member (codes "transform") (framed j) behind))
    ≡ joined (decoded_members true before) (member (codes "transform") (only (decoded j)) (decoded_members true behind))
decoded_joined no_members j behind = refl
decoded_joined (member k i ms) j behind =
    ap (member k (out_of_form true k i (decoded i))) (decoded_joined ms j behind)

same_follows : (later : Bool) (before : Members) → follows later (decoded_members true before) ≡ follows later before
same_follows later no_members = refl
same_follows later (member k j ms) = refl

no_number : (before : Members) (j : Json) (behind : Members)
    → number_in (joined before (member (codes "transform") (framed j) behind)) ≡ None
no_number no_members j no_members = refl
no_number no_members j (member k i ms) = refl
no_number (member l h no_members) j behind = refl
no_number (member l h (member m g ns)) j behind = refl

-- an object is decoded as no array
not_array : (ms : Members) → only (decoded (object ms)) ≡ decoded (object ms)
not_array ms = grind arith

decoded_text : (before inside behind : Members)
    → value_text (decoded_top (framed_top before inside behind)) ++ 10 ∷ []
    ≡ (123 ∷ (open_text false (decoded_members true before) ++ comma_if (follows false before)))
    ++ (transform_name ++ (value_text (decoded (object inside)) ++ (open_text true (decoded_members true behind)
    ++ 125 ∷ 10 ∷ [])))
decoded_text before inside behind =
    let db = decoded_members true before in
    let dh = decoded_members true behind in
    let x = decoded (object inside) in
    ap (λ j. value_text j ++ 10 ∷ []) (ap (λ o. number_or o (decoded_members true (joined before
    (member (codes "transform") (framed (object inside)) behind)))) (no_number before (object inside) behind)
    ∙ ap object (decoded_joined before (object inside) behind ∙ ap (λ j. joined db (member (codes "transform") j dh))
    (not_array inside)))
    ∙ ap (λ t. 123 ∷ (t ++ 10 ∷ [])) (joined_text false db x dh)
    ∙ ap (λ b. 123 ∷ ((open_text false db ++ (comma_if b ++ (transform_name ++ (value_text x ++ (open_text true dh
    ++ 125 ∷ []))))) ++ 10 ∷ [])) (same_follows false before)
    ∙ ap (λ t. 123 ∷ t) (line_parts (open_text false db) (comma_if (follows false before)) transform_name (value_text x)
    (open_text true dh))
  where
    line_parts : (a c t x b : List ℕ) → (a ++ (c ++ (t ++ (x ++ (b ++ 125 ∷ []))))) ++ 10 ∷ []
        ≡ (a ++ c) ++ (t ++ (x ++ (b ++ 125 ∷ 10 ∷ [])))
    line_parts a c t x b = grind (arith, append_assoc)

-- ---- what a search finds in the parts

-- no encoded number begins at the brace: more members follow
no_number_here : (before : Members) (s u : List ℕ) → MembersHaveNumbers before → escape s ≡ s
    → open_text false before ++ (comma_if (follows false before) ++ transform_name)
    ≡ 34 ∷ 35 ∷ 34 ∷ 58 ∷ 34 ∷ (s ++ 34 ∷ 125 ∷ u) → ⊥
no_number_here no_members s u n same e = absurd (grind arith)
no_number_here (member k j ms) s u n same e =
    let rest = open_text true ms ++ 44 ∷ transform_name in
    let named = name_here k (value_text j ++ rest) (34 ∷ (s ++ 34 ∷ 125 ∷ u)) (sym (append_assoc (quoted k)
    (58 ∷ (value_text j ++ open_text true ms)) (44 ∷ transform_name) ∙ ap (λ t. quoted k ++ 58 ∷ t) (append_assoc
    (value_text j) (open_text true ms) (44 ∷ transform_name))) ∙ e) in
    let text = string_here j rest (s ++ 34 ∷ 125 ∷ u) n.0 named.1 in
    let inside = same_inside text.0 s rest (125 ∷ u) (text.2 ∙ ap (λ t. t ++ 34 ∷ 125 ∷ u) (sym same)) in
    more ms inside.1
  where
    more : (ns : Members) → open_text true ns ++ 44 ∷ transform_name ≡ 125 ∷ u → ⊥
    more no_members f = absurd (grind arith)
    more (member l h ns) f = absurd (grind arith)

before_passed : (before : Members) (p : Found) → MembersHaveNumbers before → IsFound p
    → Lacks attributes_array (text_before before ++ transform_name) → bytes_of p ≡ text_before before ++ transform_name
    → decoded_of p ≡ (123 ∷ (open_text false (decoded_members true before) ++ comma_if (follows false before)))
    ++ transform_name
before_passed before p n h lacks e =
    let comma = comma_if (follows false before) in
    let rest = comma ++ transform_name in
    let text : text_before before ++ transform_name ≡ 123 ∷ (open_text false before ++ rest) =
    ap (λ t. 123 ∷ t) (append_assoc (open_text false before) comma transform_name) in
    let made = open_text false (decoded_members true before) in
    let first : Passed p (123 ∷ []) (open_text false before ++ rest)
    = elim (one_byte p 123 (open_text false before ++ rest) h (e ∙ text)) [
      | inl here ↦ absurd (no_number_here before here.s (bytes_of here.left) n here.plain_is here.text)
      | inr one ↦ one
    ] in
    let inside = open_passed true false before rest first.left n first.are (start (follows false before))
    (lacks_behind attributes_array (123 ∷ []) (open_text false before ++ rest) (subst (Lacks attributes_array) text
    lacks)) first.text in
    let separated = passed_free comma transform_name inside.0.left inside.0.are (comma_free (follows false before))
    inside.0.text in
    let name = passed_free transform_name [] separated.left separated.are refl
    (separated.text ∙ sym (append-nil transform_name)) in
    all_passed p ((123 ∷ []) ++ (made ++ (comma ++ transform_name)))
    (passed_then p (123 ∷ []) (made ++ (comma ++ transform_name)) (open_text false before ++ rest) [] first
    (passed_then first.left made (comma ++ transform_name) rest [] inside.0
    (passed_then inside.0.left comma transform_name transform_name [] separated name)))
    ∙ ap (λ t. 123 ∷ t) (sym (append_assoc made comma transform_name))
  where
    start : (later : Bool) → BeginsOther (comma_if later ++ transform_name)
    start true u f = absurd (grind arith)
    start false u f = absurd (grind arith)

behind_passed : (behind : Members) (p : Found) → MembersHaveNumbers behind → IsFound p
    → Lacks attributes_array (text_behind behind) → bytes_of p ≡ text_behind behind
    → decoded_of p ≡ open_text true (decoded_members true behind) ++ 125 ∷ 10 ∷ []
behind_passed behind p n h lacks e =
    let made = open_text true (decoded_members true behind) in
    let last = 125 ∷ 10 ∷ [] in
    let inside = open_passed true true behind last p n h (begins_other 125 (10 ∷ []) (λ is. omega arith)) lacks e in
    let end = passed_free last [] inside.0.left inside.0.are refl inside.0.text in
    all_passed p (made ++ last) (passed_then p made last last [] inside.0 end)

numbers_joined : (before : Members) (j : Json) (behind : Members)
    → MembersHaveNumbers (joined before (member (codes "transform") j behind))
    → MembersHaveNumbers before × HasNumbers j × MembersHaveNumbers behind
numbers_joined no_members j behind h = (tt, h.0, h.1)
numbers_joined (member k i ms) j behind h =
    let rest = numbers_joined ms j behind h.1 in ((h.0, rest.0), rest.1, rest.2)

pub framed_passed : (before inside behind : Members) (p q r : Found) → HasNumbers (framed_top before inside behind)
    → IsFound p → IsFound q → IsFound r
    → Lacks attributes_array (value_text (framed_top before inside behind) ++ 10 ∷ [])
    → bytes_of p ≡ text_before before ++ transform_name → bytes_of q ≡ value_text (object inside)
    → bytes_of r ≡ text_behind behind
    → decoded_of p ++ (decoded_of q ++ decoded_of r)
    ≡ value_text (decoded_top (framed_top before inside behind)) ++ 10 ∷ []
framed_passed before inside behind p q r n hp hq hr lacks ep eq er =
    let numbers = numbers_joined before (framed (object inside)) behind n in
    let x = value_text (object inside) in
    let whole = subst (Lacks attributes_array) (framed_text before inside behind) lacks in
    let first = text_before before in
    let last = text_behind behind in
    let in_front : Lacks attributes_array (first ++ transform_name) = lacks_front attributes_array
    (first ++ transform_name) (frame_begin ++ (x ++ (frame_end ++ last))) (subst (Lacks attributes_array)
    (sym (append_assoc first transform_name (frame_begin ++ (x ++ (frame_end ++ last))))) whole) in
    let after : Lacks attributes_array (x ++ (frame_end ++ last)) = lacks_behind attributes_array frame_begin
    (x ++ (frame_end ++ last)) (lacks_behind attributes_array transform_name (frame_begin ++ (x ++ (frame_end ++ last)))
    (lacks_behind attributes_array first (transform_name ++ (frame_begin ++ (x ++ (frame_end ++ last)))) whole)) in
    let value = top_free inside q numbers.1.0 hq (lacks_front attributes_array x (frame_end ++ last) after) eq in
    let behind_it = behind_passed behind r numbers.2 hr (lacks_behind attributes_array frame_end last
    (lacks_behind attributes_array x (frame_end ++ last) after)) er in
    let made = (123 ∷ (open_text false (decoded_members true before) ++ comma_if (follows false before))) in
    ap₂ (λ a b. a ++ b) (before_passed before p numbers.0 hp in_front ep) (ap₂ (λ a b. a ++ b) value behind_it)
    ∙ append_assoc made transform_name _ ∙ sym (decoded_text before inside behind)
  where
    top_free : (ms : Members) (s : Found) → MembersHaveNumbers ms → IsFound s
        → Lacks attributes_array (value_text (object ms)) → bytes_of s ≡ value_text (object ms)
        → decoded_of s ≡ value_text (decoded (object ms))
    top_free ms s m h l e =
        all_passed s (value_text (decoded (object ms))) (value_passed (object ms) [] s m h (λ u f. absurd (cc))
        (subst (Lacks attributes_array) (sym (append-nil (value_text (object ms)))) l)
        (e ∙ sym (append-nil (value_text (object ms))))).0

-- ---- where the parts stand

behind_at : (u v w : List ℕ) (k : ℕ) → w ≡ u ++ v → length u ≡ k → take (length w - k) (drop k w) ≡ v
behind_at u v w k e l =
    let rest : drop k w ≡ v = ap (drop k) e ∙ drop_at u v k l in
    ap (take (length w - k)) rest ∙ take_all (length w - k) v (omega (arith, length-drop k w, ap length rest))

pub parts_at : (a t f r text : List ℕ) (begin m n : ℕ) → text ≡ a ++ (t ++ (f ++ r)) → length a ≡ begin → length t ≡ m
    → length f ≡ n
    → (take (begin + m) text ≡ a ++ t) × (take (length text - (begin + (m + n))) (drop (begin + (m + n)) text) ≡ r)
parts_at a t f r text begin m n is la lt lf =
    let front : text ≡ (a ++ t) ++ (f ++ r) = is ∙ sym (append_assoc a t (f ++ r)) in
    let whole : text ≡ (a ++ (t ++ f)) ++ r = is ∙ grind (arith, append_assoc) in (
      ap (take (begin + m)) front ∙ take_at (a ++ t) (f ++ r) (begin + m) (omega (arith, length-append a t, la, lt)),
      behind_at (a ++ (t ++ f)) r text (begin + (m + n)) whole
          (omega (arith, length-append a (t ++ f), length-append t f, la, lt, lf)),
    )

-- ---- a printed line

pub line_is : (j : Json) (line : List ℕ) → IsPrinted j line → line ≡ value_text j
line_is j line p = p.2 ∙ text_printed j

pub line_decoded : (j : Json) (line : List ℕ) → IsPrinted j line → IsDecodedLine line (value_text (decoded_top j))
line_decoded j line p = (
  depth j,
  j,
  (p.0, ap (document_to (depth j)) p.2 ∙ read_again (depth j) j p.1 (omega arith)),
  sym (text_printed (decoded_top j)),
)
