-- Bytes cut at newlines.
use Rattle.std.proofs.Common.{◌≡◌, ◌+◌, ◌-◌, ◌<◌, ◌≤◌, ◌∙◌, ◌∷◌, ◌++◌, ℕ, zero, suc, List, [], refl, sym, ap, subst}
use Rattle.std.proofs.Common.{add-one, arith, drop, drop-cons, eq-eqb, get_or, length, length-drop, None, Some, take}
use Rattle.std.proofs.Common.{◌==◌, ◌≢◌}
use Rattle.std.proofs.lemmas.Bool.{ne_eqb}
use Rattle.std.proofs.lemmas.List.{take-append-drop, take_all}
use Rattle.city_journal.specs.Lines.{IsLine}
use Rattle.memchr.specs.Find.{IsFirstByte}

-- ---- at a newline

-- none of the first bytes is a newline
pub none_before : (bs : List ℕ) (n : ℕ) → ((k : ℕ) → k < n → get_or bs k 0 ≢ 10) → n ≤ length bs → IsLine (take n bs)
none_before [] zero never le = refl
none_before [] (suc n) never le = absurd (omega (arith, le))
none_before (c ∷ cs) zero never le = refl
none_before (c ∷ cs) (suc n) never le =
    rw (ne_eqb c 10 (never 0 (omega arith)))
    (none_before cs n (λ k lt. never (suc k) (omega (arith, lt))) (omega (arith, le)))

-- the first newline, as memchr looks for it
pub line_if_none : (bs : List ℕ) → IsFirstByte (λ c. c == 10) bs None → IsLine bs
line_if_none bs nowhere =
    subst IsLine (take_all (length bs) bs (omega arith))
    (none_before bs (length bs) (λ k lt is. nowhere k (omega arith) lt (eq-eqb _ 10 is)) (omega arith))

pub line_before : (bs : List ℕ) (n : ℕ) → IsFirstByte (λ c. c == 10) bs (Some n) → IsLine (take n bs)
line_before bs n found =
    none_before bs n (λ k lt is. found.0.before k (omega arith) lt (eq-eqb _ 10 is)) (omega (arith, found.0.high))

-- the bytes are those before a newline, it, and those behind it
pub cut_at : (bs : List ℕ) (n : ℕ) → n < length bs → get_or bs n 0 ≡ 10
    → bs ≡ take n bs ++ 10 ∷ take (length bs - (n + 1)) (drop (n + 1) bs)
cut_at bs n lt is =
    sym (take-append-drop n bs)
    ∙ ap (λ t. take n bs ++ t) (drop-cons bs n 0 lt ∙ ap (λ b. b ∷ drop (suc n) bs) is)
    ∙ ap (λ t. take n bs ++ 10 ∷ t) (rw add-one
    (sym (take_all (length bs - (suc n)) (drop (suc n) bs) (omega (arith, length-drop (suc n) bs)))))
