-- The range of the program's types. Every number of the program is in range; one made up in a clause may not be.
use Rattle.std.specs.Prelude.{◌^◌, ◌&&◌, ◌==◌, ℤ, pos, negsuc, List, Bool, length, nat_lt}
use Rattle.std.specs.List.{list_all}

-- a 64-bit signed integer
abbrev pub is_i64 : ℤ → Bool
is_i64 (pos n) = nat_lt n (2 ^ 63)
is_i64 (negsuc n) = nat_lt n (2 ^ 63)

abbrev pub is_i64_triple : List ℤ → Bool
is_i64_triple zs = (length zs == 3) && list_all is_i64 zs
