-- An added point keeps its number, whatever points come after it.
use Rattle.city_writer.proofs.Prelude.{◌≡◌, ◌<◌, length, arith, Bool, true, false, List, [], ◌∷◌, ◌++◌, append_assoc}
use Rattle.city_writer.proofs.Prelude.{filter, list_any, Decides-int_eq, prefix_len-le-length, Point, same_point}
use Rattle.city_writer.proofs.Prelude.{number_of, with_point, without_repeats, is_new, with_points}
use Rattle.std.proofs.Common.{◌^◌}
use Rattle.std.specs.List.{position_or_len}
use Rattle.city_writer.proofs.pool.Repeats.{with_points-is}

module _ (test : Point → Bool) where
  place_kept : (xs ys : List Point) → list_any test xs ≡ true
      → position_or_len test (xs ++ ys) ≡ position_or_len test xs
  place_kept [] ys h = grind arith
  place_kept (x ∷ xs) ys h = grind (arith, place_kept xs ys)

  place_last : (p : Point) → test p ≡ true → (xs ys : List Point) → list_any test xs ≡ false
      → position_or_len test (xs ++ p ∷ ys) ≡ position_or_len test xs
  place_last p is [] ys h = grind arith
  place_last p is (x ∷ xs) ys h = grind (arith, place_last p is xs ys)

pub same_itself : (p : Point) → same_point p p ≡ true
same_itself p = grind (arith, Decides-int_eq)

pub number_kept : (pool : List Point) (p : Point) (later : List Point)
    → number_of (with_points (with_point pool p) later) p ≡ number_of pool p
number_kept pool p later =
    let more = filter (is_new (with_point pool p)) (without_repeats later) in
    let same = with_points-is (with_point pool p) later in
    let kept = place_kept (same_point p) pool more in
    let last = place_last (same_point p) p (same_itself p) pool more in
    let assoc = append_assoc pool (p ∷ []) more in
    grind arith

pub number_within : (pool : List Point) (p : Point) → length pool < 2 ^ 63 → number_of pool p < 2 ^ 64
number_within pool p small = grind (arith, prefix_len-le-length)
