-- Rising lists: with one larger number more, and no number above the last.
use Rattle.city_crew.proofs.Prelude.{◌≡◌, ◌<◌, ◌≤◌, ℕ, List, [], ◌∷◌, ◌++◌, All, length, arith, refl, Rises, last_of}
use Rattle.std.proofs.lemmas.List.Elements.{All-nil, All-cons}
use Rattle.city_crew.specs.Rising.{RisesOver, last_over}

over_more : (x : ℕ) (xs : List ℕ) (n : ℕ) → RisesOver x xs → last_over x xs < n → RisesOver x (xs ++ n ∷ [])
over_more x [] n r lt = (lt, tt)
over_more x (y ∷ ys) n r lt = (r.0, over_more y ys n r.1 lt)

pub rises_more : (xs : List ℕ) (n : ℕ) → Rises xs → (0 < length xs → last_of xs < n) → Rises (xs ++ n ∷ [])
rises_more [] n r lt = tt
rises_more (x ∷ xs) n r lt = over_more x xs n r (lt (omega arith))

pub last_more : (xs : List ℕ) (n d : ℕ) → last_over d (xs ++ n ∷ []) ≡ n
last_more [] n d = refl
last_more (x ∷ xs) n d = last_more xs n x

up_to_last : (x : ℕ) (xs : List ℕ) → RisesOver x xs → (x ≤ last_over x xs) × All (λ k. k ≤ last_over x xs) xs
up_to_last x [] r = (omega arith, All-nil (λ k. k ≤ x))
up_to_last x (y ∷ ys) r =
    let more = up_to_last y ys r.1 in
    (omega (arith, r.0, more.0), All-cons (λ k. k ≤ last_over y ys) y ys more.0 more.1)

pub no_more_than_last : (xs : List ℕ) → Rises xs → All (λ k. k ≤ last_of xs) xs
no_more_than_last [] r = All-nil (λ k. k ≤ 0)
no_more_than_last (x ∷ xs) r =
    let all = up_to_last x xs r in All-cons (λ k. k ≤ last_over x xs) x xs all.0 all.1
