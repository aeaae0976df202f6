-- Copies of encoded numbers and of transforms in frames.
use Rattle.city_decimals.proofs.Prelude.{◌≡◌, ℕ, ◌-◌, ◌≤◌, List, [], ◌∷◌, ◌++◌, true, false, None, refl}
use Rattle.city_decimals.proofs.Prelude.{sym, ap, ◌∙◌, arith, append_assoc, append-nil, codes, Json, number, object}
use Rattle.city_decimals.proofs.Prelude.{Members, no_members, member, escape, IsNumber, framed, only, fronted, encoded}
use Rattle.city_decimals.proofs.Prelude.{decoded, decoded_members, number_in, number_or, is_whole}
use Rattle.city_decimals.proofs.Prelude.{Moves, value_text, members_text, State, IsCopied}
use Rattle.city_decimals.proofs.Prelude.{AreMembersCopied, IsFrameCopied, frame_changed, Encode, Decode}
use Rattle.json.specs.Print.{escape_byte}
use Rattle.json.specs.Word.{after_number}
use Rattle.city_decimals.specs.internal.Compact.{triple, IsNumberCopied, IsTripleCopied}
use Rattle.city_decimals.proofs.Copied.{moves_on, moves_as, untagged_none}

-- ---- a frame

one_is_number : IsNumber (codes "1")
unfolding after_number
one_is_number = refl

none_is_number : IsNumber (codes "0")
unfolding after_number
none_is_number = refl

-- the bytes after the transform in its frame
abbrev pub frame_end : List ℕ
frame_end = codes ",\"scale\":[1,1,1],\"translate\":[0,0,0]}"

framed_text : (ms : Members) → value_text (framed (object ms))
    ≡ (123 ∷ 34 ∷ 35 ∷ 34 ∷ 58 ∷ []) ++ ((123 ∷ members_text false ms) ++ frame_end)
unfolding escape_byte
framed_text ms = refl

framed_decoded : (ms : Members) → number_in ms ≡ None
    → value_text (fronted (decoded (framed (object ms)))) ≡ 123 ∷ members_text false (decoded_members false ms)
framed_decoded ms none = ap (λ o. value_text (only (number_or o (decoded_members false ms)))) none

pub frame_copied : (limit : ℕ) (a b d e f : State) → 2 ≤ limit
    → Moves a b (123 ∷ 34 ∷ 35 ∷ 34 ∷ 58 ∷ []) [] → Moves b d (123 ∷ []) (123 ∷ [])
    → AreMembersCopied (decoded_members false) false (limit - 2) d e → Moves e f frame_end []
    → IsFrameCopied (frame_changed Decode) limit a f
frame_copied limit a b d e f deep first brace rest last =
    let ms = rest.ms in
    let none = untagged_none ms rest.untagged in
    let made = 123 ∷ members_text false (decoded_members false ms) in
    let inside = moves_on b e f (123 ∷ members_text false ms) made frame_end [] (moves_on b d e (123 ∷ []) (123 ∷ [])
    (members_text false ms) (members_text false (decoded_members false ms)) brace rest.moves) last in
    let begin : List ℕ = 123 ∷ 34 ∷ 35 ∷ 34 ∷ 58 ∷ [] in
    record {
      j = framed (object ms);
      moves = moves_as a f (begin ++ ((123 ∷ members_text false ms) ++ frame_end)) ([] ++ (made ++ []))
          (value_text (framed (object ms))) (value_text (fronted (decoded (framed (object ms)))))
          (moves_on a b f begin [] ((123 ∷ members_text false ms) ++ frame_end) (made ++ []) first inside)
          (sym (framed_text ms)) (append-nil made ∙ sym (framed_decoded ms none));
      frame = refl;
      numbers = search (arith, one_is_number, none_is_number);
      shallow = omega (arith, deep, rest.shallow);
    }

-- ---- encoding

pub number_encoded : (limit : ℕ) (a b : State) → IsNumberCopied a b → IsCopied encoded limit a b
number_encoded limit a b n =
    record { j = number n.s; moves = n.moves; numbers = n.numbers; shallow = omega arith }

pub whole_encoded : (a b : State) (s : List ℕ) → IsNumber s → is_whole s ≡ true → Moves a b s s → IsNumberCopied a b
whole_encoded a b s h whole moves = grind arith

pub tagged_encoded : (a b d e : State) (s : List ℕ) → IsNumber s → escape s ≡ s → is_whole s ≡ false
    → Moves a b [] (123 ∷ 34 ∷ 35 ∷ 34 ∷ 58 ∷ 34 ∷ []) → Moves b d s s → Moves d e [] (34 ∷ 125 ∷ [])
    → IsNumberCopied a e
unfolding escape_byte
tagged_encoded a b d e s h same whole first moves last = search (arith, append_assoc)

-- ---- a transform put into a frame

pub triple_encoded : (a b d e f g h i : State) → Moves a b (91 ∷ []) (91 ∷ []) → IsNumberCopied b d
    → Moves d e (44 ∷ []) (44 ∷ []) → IsNumberCopied e f → Moves f g (44 ∷ []) (44 ∷ []) → IsNumberCopied g h
    → Moves h i (93 ∷ []) (93 ∷ []) → IsTripleCopied a i
triple_encoded a b d e f g h i p0 n0 p1 n1 p2 n2 p3 =
    let v0 = value_text (encoded (number n0.s)) in
    let v1 = value_text (encoded (number n1.s)) in
    let v2 = value_text (encoded (number n2.s)) in
    record {
      a = n0.s;
      b = n1.s;
      c = n2.s;
      moves = moves_on a b i (91 ∷ []) (91 ∷ []) (n0.s ++ 44 ∷ (n1.s ++ 44 ∷ (n2.s ++ 93 ∷ []))) (v0 ++ 44 ∷ (v1 ++ 44
          ∷ (v2 ++ 93 ∷ []))) p0
          (moves_on b d i n0.s v0 (44 ∷ (n1.s ++ 44 ∷ (n2.s ++ 93 ∷ []))) (44 ∷ (v1 ++ 44 ∷ (v2 ++ 93 ∷ []))) n0.moves
          (moves_on d e i (44 ∷ []) (44 ∷ []) (n1.s ++ 44 ∷ (n2.s ++ 93 ∷ [])) (v1 ++ 44 ∷ (v2 ++ 93 ∷ [])) p1
          (moves_on e f i n1.s v1 (44 ∷ (n2.s ++ 93 ∷ [])) (44 ∷ (v2 ++ 93 ∷ [])) n1.moves
          (moves_on f g i (44 ∷ []) (44 ∷ []) (n2.s ++ 93 ∷ []) (v2 ++ 93 ∷ []) p2
          (moves_on g h i n2.s v2 (93 ∷ []) (93 ∷ []) n2.moves p3)))));
      numbers = (n0.numbers, (n1.numbers, (n2.numbers, tt)));
    }

abbrev pub scale_begin : List ℕ
scale_begin = codes "{\"scale\":"

abbrev pub translate_begin : List ℕ
translate_begin = codes ",\"translate\":"

abbrev transform : Json → Json → Json
transform x y = object (member (codes "scale") x (member (codes "translate") y no_members))

transform_text : (x y : Json) → value_text (transform x y)
    ≡ scale_begin ++ (value_text x ++ (translate_begin ++ (value_text y ++ 125 ∷ [])))
unfolding escape_byte
transform_text x y = refl

enframed_text : (x y : Json) → value_text (framed (transform x y))
    ≡ (123 ∷ 34 ∷ 35 ∷ 34 ∷ 58 ∷ []) ++ (scale_begin ++ (value_text x ++ (translate_begin ++ (value_text y
    ++ (125 ∷ frame_end)))))
unfolding escape_byte
enframed_text x y = search (arith, append_assoc)

pub frame_put : (limit : ℕ) (a b d e f g h i : State) → 2 ≤ limit → Moves a b [] (123 ∷ 34 ∷ 35 ∷ 34 ∷ 58 ∷ [])
    → Moves b d scale_begin scale_begin → IsTripleCopied d e → Moves e f translate_begin translate_begin
    → IsTripleCopied f g → Moves g h (125 ∷ []) (125 ∷ []) → Moves h i [] frame_end
    → IsFrameCopied (frame_changed Encode) limit a i
frame_put limit a b d e f g h i deep p0 p1 t0 p2 t1 p3 p4 =
    let x = triple t0.a t0.b t0.c in
    let y = triple t1.a t1.b t1.c in
    let u = value_text (encoded x) in
    let v = value_text (encoded y) in
    let begin : List ℕ = 123 ∷ 34 ∷ 35 ∷ 34 ∷ 58 ∷ [] in
    let read2 = value_text y ++ (125 ∷ []) in
    let made2 = v ++ (125 ∷ frame_end) in
    record {
      j = transform x y;
      moves = moves_as a i ([] ++ (scale_begin ++ (value_text x ++ (translate_begin ++ read2))))
          (begin ++ (scale_begin ++ (u ++ (translate_begin ++ made2)))) (value_text (transform x y))
          (value_text (frame_changed Encode (transform x y)))
          (moves_on a b i [] begin (scale_begin ++ (value_text x ++ (translate_begin ++ read2)))
          (scale_begin ++ (u ++ (translate_begin ++ made2))) p0
          (moves_on b d i scale_begin scale_begin (value_text x ++ (translate_begin ++ read2))
          (u ++ (translate_begin ++ made2)) p1
          (moves_on d e i (value_text x) u (translate_begin ++ read2) (translate_begin ++ made2) t0.moves
          (moves_on e f i translate_begin translate_begin read2 made2 p2
          (moves_on f g i (value_text y) v (125 ∷ []) (125 ∷ frame_end) t1.moves
          (moves_on g h i (125 ∷ []) (125 ∷ []) [] frame_end p3 p4))))))
          (sym (transform_text x y)) (sym (enframed_text (encoded x) (encoded y)));
      frame = refl;
      numbers = (t0.numbers, (t1.numbers, tt));
      shallow = omega (arith, deep);
    }
