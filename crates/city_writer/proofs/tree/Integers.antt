-- An `i64` number, beside its text.
use Rattle.city_writer.proofs.Prelude.{◌≡◌, ℕ, ℤ, pos, ◌<◌, true, Some, ap, arith, option_map, FitsSigned, w64}
use Rattle.city_writer.proofs.Prelude.{ltb-true}
use Rattle.city_writer.proofs.Prelude.{number, as_i64, of_integer, ReadsBack}
use Rattle.std.proofs.Common.{negsuc, ◌^◌}
use Rattle.std.specs.Fmt.{signed_decimal}
use Rattle.serde_json.specs.Data.{Num, unsigned}
use Rattle.serde_json.specs.Number.{num_of, is_valid}
use Rattle.serde_json.specs.Read.{number_of}
use Rattle.serde_json.specs.Written.{number_text}
use Rattle.serde_json.specs.declared.number.N.{N}
use Rattle.serde_json.specs.declared.number.N.TheVariants.{PosInt, NegInt, Float}
use Rattle.serde_json.proofs.Numbers.{number_of-decimal, number_of-negative}

module _ (z : ℤ) where
  pub text_of_i64 : (n : Num) → as_i64 n ≡ Some z → number_text n ≡ signed_decimal z
  text_of_i64 n e = grind arith

number_read : (n : N) (z : ℤ) → is_valid n ≡ true → as_i64 (num_of n) ≡ Some z → FitsSigned w64 z
    → number_of (number_text (num_of n)) ≡ Some (num_of n)
number_read (PosInt n) z valid e fits = number_of-decimal n (grind (arith, ltb-true))
number_read (NegInt (pos n)) z valid e fits = absurd (grind arith)
number_read (NegInt (negsuc n)) z valid e fits = number_of-negative n (grind arith)
number_read (Float x) z valid e fits = absurd cc

pub number_reads : (n : N) (z : ℤ) → is_valid n ≡ true → as_i64 (num_of n) ≡ Some z → FitsSigned w64 z
    → ReadsBack (number (num_of n))
number_reads n z valid e fits = record { same = ap (option_map number) (number_read n z valid e fits) }

pub unsigned_reads : (n : ℕ) → n < 2 ^ 64 → ReadsBack (number (unsigned n))
unsigned_reads n h = record { same = ap (option_map number) (number_of-decimal n h) }

pub integer_reads : (z : ℤ) → FitsSigned w64 z → ReadsBack (number (of_integer z))
integer_reads (pos n) fits = unsigned_reads n (grind arith)
integer_reads (negsuc n) fits = record { same = ap (option_map number) (number_of-negative n (grind arith)) }

pub text_of_integer : (z : ℤ) → number_text (of_integer z) ≡ signed_decimal z
text_of_integer z = grind arith
