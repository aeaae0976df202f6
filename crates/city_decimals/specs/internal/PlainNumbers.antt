-- Numbers of digits alone.
use Rattle.std.specs.Prelude.{◌≡◌, ◌<◌, ◌≤◌, length, get_or, ℕ, List, true}
use Rattle.json.specs.Print.{IsNumber}
use Rattle.city_decimals.specs.Numbers.{is_whole}

-- at most 18 digits, without a leading zero
pub record IsPlain (s : List ℕ) : Type 0 where
  pub some : 0 < length s
  pub few : length s ≤ 18
  pub first : get_or s 0 0 ≡ 48 → length s ≡ 1
  pub digits : (i : ℕ) → i < length s → (48 ≤ get_or s i 0) × (get_or s i 0 ≤ 57)

-- a number that encoding keeps
abbrev pub IsKept : List ℕ → Type 0
IsKept s = IsNumber s × (is_whole s ≡ true)
