-- Lists related item by item, and lists written one item after another.
use Rattle.city_tokens.proofs.Prelude.{List, [], ◌∷◌, ◌++◌, ◌≡◌, ℕ, zero, suc, ◌<◌, drop, take, length, get_or, refl}
use Rattle.city_tokens.proofs.Prelude.{ap, arith, AllByRecursion, Pairs, slice_set, Option, Some, None, IfSome}
use Rattle.std.specs.Prelude.{Vec, flat_map}
use Rattle.std.specs.Vec.{vec_items}
use Rattle.city_tokens.specs.internal.Stretches.{AreJoined}

-- both grow by one at their ends
pub pairs_push : {A B : Type 0} (R : A → B → Type 0) (xs : List A) (ys : List B) (x : A) (y : B) → Pairs R xs ys → R x y
    → Pairs R (xs ++ x ∷ []) (ys ++ y ∷ [])
pairs_push R [] [] x y all one = (one, tt)
pairs_push R (v ∷ xs) (w ∷ ys) x y all one = (all.0, pairs_push R xs ys x y all.1 one)
pairs_push R _ _ x y all one = absurd all

-- two lists related to a third one are related
pub pairs_over : {A B C : Type 0} (P : A → B → Type 0) (Q : A → C → Type 0) (R : B → C → Type 0)
    → ((x : A) (y : B) (z : C) → P x y → Q x z → R y z) → (xs : List A) (ys : List B) (zs : List C)
    → Pairs P xs ys → Pairs Q xs zs → Pairs R ys zs
pairs_over P Q R one [] [] [] p q = tt
pairs_over P Q R one (x ∷ xs) (y ∷ ys) (z ∷ zs) p q = (one x y z p.0 q.0, pairs_over P Q R one xs ys zs p.1 q.1)
pairs_over P Q R one _ _ _ p q = search

-- a property at each place holds of each item
pub each_given : {A : Type 0} (P : A → Type 0) (xs : List A) → ((i : ℕ) (d : A) → i < length xs → P (get_or xs i d))
    → AllByRecursion P xs
each_given P [] h = tt
each_given P (x ∷ xs) h = (h 0 x (omega arith), each_given P xs (λ i d less. h (suc i) d (omega (arith, less))))

-- the next item is written
pub item_written : {A : Type 0} (R : A → A → Type 0) (i : ℕ) (start done : List A) (x y : A)
    → Pairs R (take i start) done → i < length (done ++ drop i start) → x ≡ get_or (done ++ drop i start) i x → R x y
    → (slice_set (done ++ drop i start) i y ≡ (done ++ y ∷ []) ++ drop (suc i) start)
    × Pairs R (take (suc i) start) (done ++ y ∷ [])
item_written R zero (s ∷ start) [] x y all below is one = (refl, (rw is at one, tt))
item_written R (suc i) (s ∷ start) (d ∷ done) x y all below is one =
    let more = item_written R i start done x y all.1 (omega (arith, below)) is one in
    (ap (λ zs. d ∷ zs) more.0, (all.0, more.1))
item_written R _ [] [] x y all below is one = absurd (let no : ⊥ = omega (arith, below) in no)
item_written R _ _ _ x y all below is one = absurd all

-- two lists of one length, related at each place, are related
pub pairs_given : {A B : Type 0} (R : A → B → Type 0) (xs : List A) (ys : List B) → length ys ≡ length xs
    → ((i : ℕ) (d : A) (e : B) → i < length xs → R (get_or xs i d) (get_or ys i e)) → Pairs R xs ys
pairs_given R [] [] same h = tt
pairs_given R (x ∷ xs) (y ∷ ys) same h = (
  h 0 x y (omega arith),
  pairs_given R xs ys (omega (arith, same))
      (λ i d e less. h (suc i) d e (omega (arith, less))),
)
pairs_given R [] (y ∷ ys) same h = absurd (cc)
pairs_given R (x ∷ xs) [] same h = absurd (cc)

pub pairs_append : {A B : Type 0} (R : A → B → Type 0) (xs more : List A) (ys rest : List B) → Pairs R xs ys
    → Pairs R more rest → Pairs R (xs ++ more) (ys ++ rest)
pairs_append R [] more [] rest h k = k
pairs_append R (x ∷ xs) more (y ∷ ys) rest h k = (h.0, pairs_append R xs more ys rest h.1 k)
pairs_append R _ more _ rest h k = absurd h

-- related stretches make related lists
pub pairs_joined : {A B Z : Type 0} (R : A → B → Type 0) (xs : List (Vec A Z)) (ys : List (Option (Vec B Z)))
    (all : List B) → Pairs (λ s o. IfSome o (λ p. Pairs R s.items p.items)) xs ys → AreJoined ys all
    → Pairs R (flat_map vec_items xs) all
pairs_joined R [] [] all h is = rw is tt
pairs_joined R (x ∷ xs) (Some y ∷ ys) all h is =
    rw is.1 (pairs_append R x.items (flat_map vec_items xs) y.items is.0 h.0 (pairs_joined R xs ys is.0 h.1 is.2))
pairs_joined R (x ∷ xs) (None ∷ ys) all h is = absurd is
pairs_joined R [] (y ∷ ys) all h is = absurd h
pairs_joined R (x ∷ xs) [] all h is = absurd h
