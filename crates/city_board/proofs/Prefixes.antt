-- Beginnings of one list.
use Rattle.city_board.proofs.Prelude.{◌≡◌, ◌≤◌, List, [], ◌∷◌, length, refl, ap, sym, ◌∙◌, arith, append_assoc}
use Rattle.city_board.proofs.Prelude.{length-append, IsPrefix}
use Rattle.std.proofs.Common.{append-nil}

-- each list begins with itself
pub prefix_self : {A : Type 0} (xs : List A) → IsPrefix xs xs
prefix_self xs = ([], append-nil xs)

pub prefix_trans : {A : Type 0} (xs ys zs : List A) → IsPrefix xs ys → IsPrefix ys zs → IsPrefix xs zs
prefix_trans xs ys zs p q = grind (arith, append_assoc xs p.0 q.0)

-- of two beginnings of one list the shorter begins the longer
pub prefix_shorter : {A : Type 0} (xs ys zs : List A) → IsPrefix xs zs → IsPrefix ys zs → length xs ≤ length ys
    → IsPrefix xs ys
prefix_shorter [] ys zs p q le = (ys, refl)
prefix_shorter (x ∷ xs) [] zs p q le = absurd (omega arith)
prefix_shorter (x ∷ xs) (y ∷ ys) [] p q le = absurd (cc (p.1))
prefix_shorter (x ∷ xs) (y ∷ ys) (z ∷ zs) p q le =
    grind (arith, prefix_shorter xs ys zs (p.0, cc (p.1)) (q.0, cc (q.1)))

-- a beginning as long as the whole is the whole
pub prefix_whole : {A : Type 0} (xs ys : List A) → IsPrefix xs ys → length ys ≤ length xs → xs ≡ ys
prefix_whole xs ys ([], e) le = sym (append-nil xs) ∙ e
prefix_whole xs ys (z ∷ zs, e) le = let more = ap length e in grind (arith, length-append xs (z ∷ zs))
