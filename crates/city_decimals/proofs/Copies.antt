-- Pieces of a text, one after another.
use Rattle.city_decimals.proofs.Prelude.{◌≡◌, ℕ, ◌+◌, ◌-◌, ◌≤◌, List, [], ◌∷◌, ◌++◌, length, take, drop, refl, sym, ap}
use Rattle.city_decimals.proofs.Prelude.{ap₂, ◌∙◌, arith, append_assoc, append-nil, get_or, ◌<◌, suc, drop-append-le}
use Rattle.city_decimals.proofs.Prelude.{escape, IsPlainByte, true, subst, get_or-take, length-take}
use Rattle.std.specs.List.{prefix_len}
use Rattle.std.proofs.lemmas.List.Sums.{prefix_len-le-length, prefix_len_passes}
use Rattle.json.specs.Run.{is_plain}
use Rattle.std.proofs.lemmas.List.{take-append-drop, drop-take, drop-drop, take-take, take_more}
use Rattle.std.proofs.lemmas.Grind.{flat_map-append}
use Rattle.json.specs.Print.{escape_byte}
use Rattle.json.proofs.Printed.Strings.{escape_byte_plain}
use Rattle.city_decimals.specs.internal.Copies.{IsEscaped}

pub take_plus : (a n : ℕ) (xs : List ℕ) → take (a + n) xs ≡ take a xs ++ take n (drop a xs)
take_plus a n xs =
    grind (arith, take-append-drop a (take (a + n) xs), take-take a (a + n) xs (omega arith), drop-take a n xs)

-- the text left to read, after n more bytes
pub rest_more : (text rest : List ℕ) (at n : ℕ) → drop at text ≡ rest → rest ≡ take n rest ++ drop (at + n) text
rest_more text rest at n is = grind (arith, take-append-drop n rest, drop-drop n at text)

-- the piece not yet written, with n more bytes
pub piece_more : (before text rest now : List ℕ) (start at n : ℕ) → start ≤ at → drop at text ≡ rest
    → before ++ take (at - start) (drop start text) ≡ now
    → before ++ take (at + n - start) (drop start text) ≡ now ++ take n rest
piece_more before text rest now start at n le is written =
    let sum : at + n - start ≡ (at - start) + n = omega arith in
    let back : start + (at - start) ≡ at = omega arith in
    let tail : drop (at - start) (drop start text) ≡ rest
    = drop-drop (at - start) start text ∙ ap (λ k. drop k text) back ∙ is in
    ap (λ k. before ++ take k (drop start text)) sum
    ∙ ap (λ p. before ++ p) (search (arith, take_plus))
    ∙ sym (append_assoc before (take (at - start) (drop start text)) (take n rest))
    ∙ ap (λ w. w ++ take n rest) written

-- one more byte inside a string, or an escape
one_byte : (b : ℕ) (w : List ℕ) → escape_byte b ≡ w → escape (b ∷ []) ≡ w
one_byte b w e = append-nil (escape_byte b) ∙ e

pub escape_inside : (text : List ℕ) (at b c : ℕ) → (s : List ℕ) × (take at text ≡ escape s) → at + 1 < length text
    → get_or text at 0 ≡ b → b ≡ 92 → get_or text (at + 1) 0 ≡ c → IsEscaped c
    → (t : List ℕ) × (take (at + 2) text ≡ escape t)
escape_inside text at b c inside h is backslash then (x, e) =
    let first : take (at + 1) text ≡ escape inside.0 ++ 92 ∷ []
    = take_more text at 0 (omega (arith, h)) ∙ ap₂ (λ xs y. xs ++ y ∷ []) inside.1 (is ∙ backslash) in
    let two : at + 1 + 1 ≡ at + 2 = omega arith in (
      inside.0 ++ x ∷ [],
      ap (λ k. take k text) (sym two) ∙ take_more text (at + 1) 0 h ∙ ap₂ (λ xs y. xs ++ y ∷ []) first then
          ∙ append_assoc (escape inside.0) (92 ∷ []) (c ∷ [])
          ∙ ap (λ w. escape inside.0 ++ w) (sym (one_byte x (92 ∷ c ∷ []) e))
          ∙ sym (flat_map-append escape_byte inside.0 (x ∷ [])),
    )

-- a text without quotes, backslashes and controls stands for itself
pub plain_text : (s : List ℕ) → ((i : ℕ) → i < length s → IsPlainByte (get_or s i 0)) → escape s ≡ s
plain_text [] h = refl
plain_text (x ∷ s) h =
    let first = h 0 (omega arith) in
    ap₂ (λ a b. a ++ b) (escape_byte_plain x first.0 first.1 first.2) (plain_text s (λ i l. h (suc i) (omega arith)))

plain_byte : (x : ℕ) → is_plain x ≡ true → IsPlainByte x
plain_byte x e = grind arith

-- the inside of a string, with the plain bytes that follow
pub plain_inside : (text : List ℕ) (from to : ℕ) → (s : List ℕ) × (take from text ≡ escape s)
    → to ≡ from + prefix_len is_plain (drop from text) → (t : List ℕ) × (take to text ≡ escape t)
plain_inside text from to inside is =
    let n = prefix_len is_plain (drop from text) in
    let run = take n (drop from text) in
    let within = prefix_len-le-length is_plain (drop from text) in
    let long : length run ≡ n = omega (arith, length-take n (drop from text), within) in
    let plain : escape run ≡ run =
    plain_text run (λ i l. subst IsPlainByte (sym (get_or-take n (drop from text) i 0 (omega (arith, long, l))))
    (plain_byte _ (prefix_len_passes is_plain (drop from text) i 0 (omega (arith, long, l))))) in (
      inside.0 ++ run,
      ap (λ k. take k text) is ∙ take_plus from n text ∙ ap₂ (λ x y. x ++ y) inside.1 (sym plain)
          ∙ sym (flat_map-append escape_byte inside.0 run),
    )

-- the buffer with the piece written
pub all_written : (out piece new now : List ℕ) (base a : ℕ) (rest : List ℕ) → a ≡ 0 → base ≤ length out
    → new ≡ out ++ piece → drop base out ++ piece ≡ now → drop base new ++ take a rest ≡ now ++ []
all_written out piece new now base a rest none h is before = search (arith, drop-append-le)

pub whole_written : (out piece : List ℕ) (base : ℕ) (before now : List ℕ) → take base out ≡ before
    → drop base out ++ piece ≡ now → out ++ piece ≡ before ++ now
whole_written out piece base before now first then =
    grind (arith, take-append-drop base out, append_assoc (take base out) (drop base out) piece)

-- the buffer with the piece and more written
pub more_written : (out piece more mid new now : List ℕ) (base a : ℕ) (rest : List ℕ) → a ≡ 0 → base ≤ length out
    → mid ≡ out ++ piece → new ≡ mid ++ more → drop base out ++ piece ≡ now → drop base new ++ take a rest ≡ now ++ more
more_written out piece more mid new now base a rest none h first is before =
    search (arith, append_assoc, append-nil, drop-append-le)
