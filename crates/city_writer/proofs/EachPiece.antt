-- Lists in pieces.
use Rattle.city_writer.proofs.Prelude.{◌≡◌, true, Some, None, is_some, list_all, ℕ, suc, ◌+◌, ◌<◌, ◌≤◌, List, [], ◌∷◌}
use Rattle.city_writer.proofs.Prelude.{◌++◌, Option, length, get_or, drop, refl, sym, ap, ◌∙◌, subst}
use Rattle.city_writer.proofs.Prelude.{arith}
use Rattle.std.proofs.Common.{◌*◌, ◌/◌, ◌%◌, min, IfSome, take, length-drop}
use Rattle.std.proofs.lemmas.Grind.{div_ceil_times}
use native.Mathlib.Nat.{zero-mul}
use Rattle.std.proofs.lemmas.List.{drop-drop, take-append-drop}
use Rattle.std.specs.Fork.{slice_chunk}
use Rattle.city_writer.specs.internal.Pieces.{EachPiece}

-- each piece has a result, and the pieces are the whole list
abbrev pub EachMade : {X A : Type 0} → ℕ → List X → List (Option A) → (List X → A → Type 0) → Type 0
EachMade len xs [] P = xs ≡ []
EachMade len xs (None ∷ os) P = ⊥ × EachMade len (drop len xs) os P
EachMade len xs (Some a ∷ os) P = P (take len xs) a × EachMade len (drop len xs) os P

-- if nothing is missing
pub all_made : {X A : Type 0} (P : List X → A → Type 0) (len : ℕ) (xs : List X) (os : List (Option A))
    → list_all is_some os ≡ true → EachPiece len xs os P → EachMade len xs os P
all_made P len xs [] all h = h
all_made P len xs (None ∷ os) all h = absurd (cc)
all_made P len xs (Some a ∷ os) all h = (h.0, all_made P len (drop len xs) os all h.1)

-- what holds of no items, of each piece and of lists put together holds of the whole list
pub holds_of_all : {X A : Type 0} {P : List X → A → Type 0} (Q : List X → Type 0) → Q []
    → ((xs ys : List X) → Q xs → Q ys → Q (xs ++ ys)) → ((xs : List X) (a : A) → P xs a → Q xs)
    → (len : ℕ) (xs : List X) (os : List (Option A)) → EachMade len xs os P → Q xs
holds_of_all Q none both one len xs [] h = subst Q (sym h) none
holds_of_all Q none both one len xs (None ∷ os) h = absurd h.0
holds_of_all Q none both one len xs (Some a ∷ os) h =
    subst Q (take-append-drop len xs)
    (both (take len xs) (drop len xs) (one (take len xs) a h.0) (holds_of_all Q none both one len (drop len xs) os h.1))

next_piece : {X : Type 0} (i len : ℕ) (xs : List X) → drop (suc i * len) xs ≡ drop (i * len) (drop len xs)
next_piece i len xs =
    let same : suc i * len ≡ len + i * len = omega arith in
    ap (λ n. drop n xs) same ∙ sym (drop-drop (i * len) len xs)

-- pieces of so many items each reach the end
pieces_reach : (n count len : ℕ) → 0 < len → count ≡ n / len + min 1 (n % len) → n ≤ count * len
pieces_reach n count len some is = rw is (div_ceil_times n len some).0

-- a property of the result at each place is one of each piece
each_piece : {X A : Type 0} (P : List X → A → Type 0) (len : ℕ) (xs : List X) (os : List (Option A))
    → length xs ≤ length os * len
    → ((i : ℕ) (d : Option A) → i < length os → IfSome (get_or os i d) (P (slice_chunk xs len i)))
    → EachPiece len xs os P
each_piece P len [] [] small each = refl
each_piece P len (x ∷ xs) [] small each = absurd (let none : ⊥ = omega arith in none)
each_piece P len xs (o ∷ os) small each = (
  subst (λ n. IfSome o (P (take len (drop n xs)))) (zero-mul len) (each 0 o (omega arith)),
  each_piece P len (drop len xs) os (omega (arith, length-drop len xs))
      (λ i d less. subst (λ ys. IfSome (get_or os i d) (P (take len ys))) (next_piece i len xs)
      (each (suc i) d (omega (arith, less)))),
)

pub each_made : {X A : Type 0} (P : List X → A → Type 0) (len n count : ℕ) (xs : List X) (os : List (Option A))
    → 0 < len
    → n ≡ length xs → count ≡ n / len + min 1 (n % len) → length os ≡ count
    → ((i : ℕ) (d : Option A) → i < count → IfSome (get_or os i d) (P (slice_chunk xs len i))) → EachPiece len xs os P
each_made P len n count xs os some whole is all each =
    each_piece P len xs os (rw (all, ← whole) (pieces_reach n count len some is))
    (λ i d less. each i d (let below : i < count = omega (arith, all, less) in below))
