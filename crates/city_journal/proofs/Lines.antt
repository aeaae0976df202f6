-- Lines, and bytes that end within one of them.
use Rattle.std.proofs.Common.{◌≡◌, ◌+◌, ◌≤◌, ◌∙◌, ◌∷◌, ◌++◌, ℕ, zero, suc, List, [], refl, sym, ap, length, take}
use Rattle.std.proofs.Common.{append_assoc, append-nil, arith, ◌==◌}
use Rattle.std.proofs.Common.{drop, Bool, true, false, eqb-true}
use Rattle.std.proofs.Math.Seq.{drop-nil}
use Rattle.std.proofs.lemmas.Bool.{or_parts}
use Rattle.std.specs.List.{list_any}
use Rattle.city_journal.specs.Lines.{AreLines, IsLine, lines_text, whole_lines, with_byte}

-- ---- one line

pub line_first : (l rest : List ℕ) → IsLine l → whole_lines (l ++ 10 ∷ rest) ≡ l ∷ whole_lines rest
line_first [] rest is = refl
line_first (c ∷ l) rest is =
    let parts = or_parts (c == 10) (list_any (λ x. x == 10) l) is in
    rw (parts.0, line_first l rest parts.1) refl

-- a part of a line is none
pub part_of_line : (l : List ℕ) (k : ℕ) → IsLine l → k ≤ length l → whole_lines (take k (l ++ 10 ∷ [])) ≡ []
part_of_line [] zero is le = refl
part_of_line [] (suc k) is le = absurd (omega (arith, le))
part_of_line (c ∷ l) zero is le = refl
part_of_line (c ∷ l) (suc k) is le =
    let parts = or_parts (c == 10) (list_any (λ x. x == 10) l) is in
    rw (parts.0, part_of_line l k parts.1 (omega (arith, le))) refl

-- ---- several lines

pub lines_and : (ls : List (List ℕ)) (rest : List ℕ) → AreLines ls
    → whole_lines (lines_text ls ++ rest) ≡ ls ++ whole_lines rest
lines_and [] rest are = refl
lines_and (l ∷ ls) rest are =
    ap whole_lines (append_assoc (l ++ 10 ∷ []) (lines_text ls) rest ∙ append_assoc l (10 ∷ []) (lines_text ls ++ rest))
    ∙ line_first l (lines_text ls ++ rest) are.0 ∙ ap (λ w. l ∷ w) (lines_and ls rest are.1)

pub more_lines : (ls : List (List ℕ)) (l : List ℕ) → lines_text (ls ++ l ∷ []) ≡ lines_text ls ++ (l ++ 10 ∷ [])
more_lines [] l = append-nil (l ++ 10 ∷ [])
more_lines (x ∷ ls) l =
    ap (λ t. (x ++ 10 ∷ []) ++ t) (more_lines ls l) ∙ sym (append_assoc (x ++ 10 ∷ []) (lines_text ls) (l ++ 10 ∷ []))

pub are_more : (ls : List (List ℕ)) (l : List ℕ) → AreLines ls → IsLine l → AreLines (ls ++ l ∷ [])
are_more [] l are is = (is, tt)
are_more (x ∷ ls) l are is = (are.0, are_more ls l are.1 is)

pub drop_twice : {X : Type 0} (n i : ℕ) (xs : List X) → drop n (drop i xs) ≡ drop (i + n) xs
drop_twice n zero xs = let e : n ≡ 0 + n = omega arith in ap (λ k. drop k xs) e
drop_twice n (suc i) [] = drop-nil n ∙ sym (drop-nil (suc i + n))
drop_twice n (suc i) (x ∷ xs) =
    let e : suc (i + n) ≡ suc i + n = omega arith in drop_twice n i xs ∙ ap (λ k. drop k (x ∷ xs)) e

-- ---- bytes, as their lines and what is behind the last of them

-- whole lines, and a part of one
pub record HasTorn (bytes : List ℕ) : Type 0 where
  pub torn : List ℕ
  pub is : IsLine torn
  pub text : bytes ≡ lines_text (whole_lines bytes) ++ torn

byte_more : (c : ℕ) (ls : List (List ℕ)) (torn cs : List ℕ) → (c == 10) ≡ false → IsLine torn → cs ≡ lines_text ls ++ torn
    → (t : List ℕ) × IsLine t × (c ∷ cs ≡ lines_text (with_byte c ls) ++ t)
byte_more c [] torn cs other is e = (c ∷ torn, rw (other, is) refl, ap (λ x. c ∷ x) e)
byte_more c (l ∷ ls) torn cs other is e = (torn, is, ap (λ x. c ∷ x) e)

torn_by : (c : ℕ) (cs : List ℕ) (b : Bool) → (c == 10) ≡ b → HasTorn cs → HasTorn (c ∷ cs)
torn_by c cs true e h = record {
  torn = h.torn;
  is = h.is;
  text = rw e (ap (λ x. x ∷ cs) (eqb-true c 10 e) ∙ ap (λ x. 10 ∷ x) h.text);
}
torn_by c cs false e h =
    let more = byte_more c (whole_lines cs) h.torn cs e h.is h.text in
    record { torn = more.0; is = more.1; text = rw e more.2 }

pub with_torn : (bytes : List ℕ) → HasTorn bytes
with_torn [] = record { torn = []; is = refl; text = refl }
with_torn (c ∷ cs) = torn_by c cs (c == 10) refl (with_torn cs)
