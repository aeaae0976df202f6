-- Edges as noted: a list of the edges run up, and a list of the edges run down, turned up.
use Rattle.city_model.proofs.Prelude.{◌≡◌, ℕ, suc, ◌+◌, ◌<◌, List, [], ◌∷◌, ◌++◌, map, length, get_or, drop, drop-cons}
use Rattle.city_model.proofs.Prelude.{subst, arith, append_assoc, zip, filter-append, Point, Edge, flipped, rising}
use Rattle.std.proofs.lemmas.List.{map-append}

-- the lists, once the edges left are noted too, are the old lists with the edges es
pub record Noted (up-was down-was es up down left : List Edge) : Type 0 where
  pub up_is : up-was ++ rising es ≡ up ++ rising left
  pub down_is : down-was ++ rising (map flipped es) ≡ down ++ rising (map flipped left)

-- the first edges of the rest go to the end of the list
moved : (up some left new : List Edge) → new ≡ up ++ rising some → up ++ rising (some ++ left) ≡ new ++ rising left
moved up some left new pushed = search (arith, filter-append, append_assoc)

pub noted_more : {up-was down-was es up down : List Edge} (some left up-new down-new : List Edge)
    → Noted up-was down-was es up down (some ++ left) → up-new ≡ up ++ rising some
    → down-new ≡ down ++ rising (map flipped some) → Noted up-was down-was es up-new down-new left
noted_more {up = up} {down = down} some left up-new down-new n pushed turned = search (arith, moved, map-append, map)

-- the edge from the last point to the next one of the ring
pub noted_point : {up-was down-was es up down : List Edge} (last first d : Point) (rest : List Point) (i : ℕ)
    (up-new down-new : List Edge) → i < length rest
    → Noted up-was down-was es up down (zip (last ∷ drop i rest) (drop i rest ++ first ∷ []))
    → up-new ≡ up ++ rising ((last, get_or rest i d) ∷ []) → down-new ≡ down ++ rising ((get_or rest i d, last) ∷ [])
    → Noted up-was down-was es up-new down-new
    (zip (get_or rest i d ∷ drop (i + 1) rest) (drop (i + 1) rest ++ first ∷ []))
noted_point {up-was = up-was} {down-was = down-was} {es = es} {up = up} {down = down} last first d rest i up-new
    down-new there n pushed turned =
    let next : suc i ≡ i + 1 = omega arith in
    let cut : drop i rest ≡ get_or rest i d ∷ drop (i + 1) rest = search (arith, drop-cons, get_or, drop) in
    noted_more ((last, get_or rest i d) ∷ [])
    (zip (get_or rest i d ∷ drop (i + 1) rest) (drop (i + 1) rest ++ first ∷ [])) up-new down-new
    (subst (λ (left : List Point). Noted up-was down-was es up down (zip (last ∷ left) (left ++ first ∷ []))) cut n)
    pushed turned
