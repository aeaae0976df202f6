-- Lists cut at a place, of two lists in a row.
use Rattle.std.proofs.Common.{◌≡◌, ℕ, ◌+◌, ◌-◌, ◌<◌, ◌≤◌, List, [], ◌∷◌, ◌++◌, length, take, drop}
use Rattle.std.proofs.Common.{refl, sym, ap, subst, ◌∙◌}
use Rattle.std.proofs.Common.{arith, append_assoc, Some, zero, suc}
use Rattle.std.proofs.lemmas.List.{take-append-le, drop-append-le, take-append-drop, drop-drop, length-take}
use Rattle.std.proofs.lemmas.List.{drop_min, drop_all, take_all, set_split}
use Rattle.std.proofs.Math.ListN.{set}
use Rattle.std.specs.Prelude.{min}
use Rattle.std.proofs.lemmas.Option.{slice_get_past}
use Rattle.std.proofs.Math.Seq.{take-append-add, drop-append-add}
use Rattle.std.specs.List.{slice_get}

-- what lies behind the first list
pub take_behind : {X : Type 0} (xs ys : List X) (n at : ℕ) → length xs + n ≡ at → take at (xs ++ ys) ≡ xs ++ take n ys
take_behind xs ys n at e = subst (λ k. take k (xs ++ ys) ≡ xs ++ take n ys) e (take-append-add xs ys n)

pub drop_behind : {X : Type 0} (xs ys : List X) (n at : ℕ) → length xs + n ≡ at → drop at (xs ++ ys) ≡ drop n ys
drop_behind xs ys n at e = subst (λ k. drop k (xs ++ ys) ≡ drop n ys) e (drop-append-add xs ys n)

-- a piece of the first list exchanged, and one of the second
pub piece_left : {X : Type 0} (at to : ℕ) (mid xs ys : List X) → at ≤ length xs → to ≤ length xs →
    (take at xs ++ (mid ++ drop to xs)) ++ ys ≡ take at (xs ++ ys) ++ (mid ++ drop to (xs ++ ys))
piece_left at to mid xs ys h k =
    rw (take-append-le at xs ys h, drop-append-le to xs ys k) (simp append_assoc)

pub piece_right : {X : Type 0} (at to n m : ℕ) (mid xs ys : List X) → length xs + n ≡ at → length xs + m ≡ to →
    xs ++ (take n ys ++ (mid ++ drop m ys)) ≡ take at (xs ++ ys) ++ (mid ++ drop to (xs ++ ys))
piece_right at to n m mid xs ys e f =
    rw (take_behind xs ys n at e, drop_behind xs ys m to f) (sym (append_assoc xs (take n ys) (mid ++ drop m ys)))

-- the items of a branch, of which one side is changed
pub changed_left : {X : Type 0} (at to : ℕ) (mid left right changed tree items : List X) → left ++ right ≡ items →
    at ≤ length left → to ≤ length left → changed ≡ take at left ++ (mid ++ drop to left) → tree ≡ changed ++ right →
    tree ≡ take at items ++ (mid ++ drop to items)
changed_left at to mid left right changed tree items e h k f g =
    subst (λ s. tree ≡ take at s ++ (mid ++ drop to s)) e
    (g ∙ ap (λ s. s ++ right) f ∙ piece_left at to mid left right h k)

pub changed_right : {X : Type 0} (at to n m : ℕ) (mid left right changed tree items : List X) → left ++ right ≡ items →
    length left + n ≡ at → length left + m ≡ to → changed ≡ take n right ++ (mid ++ drop m right) →
    tree ≡ left ++ changed → tree ≡ take at items ++ (mid ++ drop to items)
changed_right at to n m mid left right changed tree items e h k f g =
    subst (λ s. tree ≡ take at s ++ (mid ++ drop to s)) e
    (g ∙ ap (λ s. left ++ s) f ∙ piece_right at to n m mid left right h k)

-- the item at a place is the first of what comes from there on
get_drop : {X : Type 0} (i : ℕ) (xs : List X) → slice_get (drop i xs) 0 ≡ slice_get xs i
get_drop zero xs = refl
get_drop (suc i) [] = refl
get_drop (suc i) (x ∷ xs) = get_drop i xs

head_taken : {X : Type 0} (n : ℕ) (x : X) (rest ys : List X) → x ∷ rest ≡ take n ys → Some x ≡ slice_get ys 0
head_taken zero x rest ys e = absurd (cc)
head_taken (suc n) x rest [] e = absurd (cc)
head_taken (suc n) x rest (y ∷ ys) e = cc

past : {X : Type 0} (xs : List X) (at : ℕ) → (at < length xs → 0 < 0) → length xs ≤ at
past xs at h = grind arith

pub first_of_leaf : {X : Type 0} (leaf xs : List X) (at : ℕ) → leaf ≡ take (length leaf) (drop at xs) →
    (at < length xs → 0 < length leaf) → slice_get leaf 0 ≡ slice_get xs at
first_of_leaf [] xs at e h = sym (slice_get_past xs at (past xs at h))
first_of_leaf (x ∷ leaf) xs at e h = head_taken (length (x ∷ leaf)) x leaf (drop at xs) e ∙ get_drop at xs

-- what comes behind a leaf
pub after_leaf : {X : Type 0} (leaf xs : List X) (at : ℕ) → leaf ≡ take (length leaf) (drop at xs) →
    leaf ++ drop (at + length leaf) xs ≡ drop at xs
after_leaf leaf xs at e =
    ap (λ s. leaf ++ s) (sym (drop-drop (length leaf) at xs))
    ∙ ap (λ s. s ++ drop (length leaf) (drop at xs)) e ∙ take-append-drop (length leaf) (drop at xs)

pub next_leaf_items : {X : Type 0} (leaf xs : List X) (at next : ℕ) → leaf ≡ take (length leaf) (drop at xs) →
    next ≡ min (at + length leaf) (length xs) → leaf ++ drop next xs ≡ drop at xs
next_leaf_items leaf xs at next e f =
    ap (λ s. leaf ++ s) (ap (λ k. drop k xs) f ∙ drop_min (at + length leaf) xs) ∙ after_leaf leaf xs at e

pub leaf_end : {X : Type 0} (leaf xs : List X) (at : ℕ) → (at < length xs → 0 < length leaf) → leaf ≡ [] →
    drop at xs ≡ []
leaf_end leaf xs at h e =
    drop_all at xs (past xs at (λ l. subst (λ s. 0 < length s) e (h l)))

-- the items of a leaf of the right side
pub leaf_behind : {X : Type 0} (leaf left right items : List X) (at n : ℕ) → left ++ right ≡ items →
    length left + n ≡ at → leaf ≡ take (length leaf) (drop n right) → leaf ≡ take (length leaf) (drop at items)
leaf_behind leaf left right items at n e f h =
    subst (λ s. leaf ≡ take (length leaf) (drop at s)) e
    (h ∙ ap (λ s. take (length leaf) s) (sym (drop_behind left right n at f)))

-- an item more at the end
pub pushed : {X : Type 0} (at : ℕ) (x : X) (xs tree : List X) → at ≡ length xs →
    tree ≡ take at xs ++ x ∷ drop at xs → tree ≡ xs ++ x ∷ []
pushed at x xs tree e f =
    f ∙ ap (λ s. s ++ x ∷ drop at xs) (take_all at xs (omega arith))
    ∙ ap (λ s. xs ++ x ∷ s) (drop_all at xs (omega arith))

-- an item exchanged
pub set_at_place : {X : Type 0} (i : ℕ) (x : X) (xs : List X) → i < length xs →
    set xs i x ≡ take i xs ++ x ∷ drop (i + 1) xs
set_at_place i x xs h =
    let e : suc i ≡ i + 1 = omega arith in
    set_split xs i x h ∙ ap (λ k. take i xs ++ x ∷ drop k xs) e

-- two leaves of a cut list, one of them with an item more
pub put_front : {X : Type 0} (at middle : ℕ) (x : X) (xs : List X) → at ≤ middle → middle ≤ length xs →
    (take at (take middle xs) ++ x ∷ drop at (take middle xs)) ++ drop middle xs ≡ take at xs ++ x ∷ drop at xs
put_front at middle x xs h k =
    let l : at ≤ length (take middle xs) = omega (arith, length-take middle xs) in
    changed_left at at (x ∷ []) (take middle xs) (drop middle xs) _ _ xs (take-append-drop middle xs) l l refl refl

pub put_front_by : {X : Type 0} (at middle : ℕ) (x : X) (xs left right more tree : List X) → at ≤ middle →
    middle ≤ length xs → left ≡ take middle xs → right ≡ drop middle xs → more ≡ take at left ++ x ∷ drop at left →
    tree ≡ more ++ right → tree ≡ take at xs ++ x ∷ drop at xs
put_front_by at middle x xs left right more tree h k a b f g =
    g ∙ ap (λ s. s ++ right) (subst (λ s. more ≡ take at s ++ x ∷ drop at s) a f)
    ∙ ap (λ s. (take at (take middle xs) ++ x ∷ drop at (take middle xs)) ++ s) b ∙ put_front at middle x xs h k

pub put_back : {X : Type 0} (at middle : ℕ) (x : X) (xs : List X) → middle ≤ at → at ≤ length xs →
    take middle xs ++ (take (at - middle) (drop middle xs) ++ x ∷ drop (at - middle) (drop middle xs))
    ≡ take at xs ++ x ∷ drop at xs
put_back at middle x xs h k =
    let l : length (take middle xs) + (at - middle) ≡ at = omega (arith, length-take middle xs) in
    changed_right at at (at - middle) (at - middle) (x ∷ []) (take middle xs) (drop middle xs) _ _ xs
    (take-append-drop middle xs) l l refl refl

pub put_back_by : {X : Type 0} (at middle : ℕ) (x : X) (xs left right more tree : List X) → middle ≤ at →
    at ≤ length xs → left ≡ take middle xs → right ≡ drop middle xs →
    more ≡ take (at - middle) right ++ x ∷ drop (at - middle) right → tree ≡ left ++ more →
    tree ≡ take at xs ++ x ∷ drop at xs
put_back_by at middle x xs left right more tree h k a b f g =
    g ∙ ap (λ s. s ++ more) a
    ∙ ap (λ s. take middle xs ++ s) (subst (λ s. more ≡ take (at - middle) s ++ x ∷ drop (at - middle) s) b f)
    ∙ put_back at middle x xs h k
