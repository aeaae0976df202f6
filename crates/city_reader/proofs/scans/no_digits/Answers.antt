use Rattle.std.proofs.Common.{◌+◌, ◌-◌, arith}
use Rattle.std.proofs.Common.{◌%◌}
use Rattle.std.proofs.lemmas.Simd.{zip2_splat}
use Rattle.json.specs.Run.{is_no_digit}
use Rattle.city_reader.proofs.Lanes.{at_most, from_splat, masked}
use Rattle.city_reader.proofs.scans.no_digits.Goals as goal

pub returns : goal.returns
returns c =
    let v = c.args.bytes in
    let long = c.fits-bytes.0 in
    masked _ is_no_digit v _ (omega arith) c.fits-bytes.1 (from_splat at_most _ 10 16 v long
    (zip2_splat (λ a b. (a + (256 - b)) % 256) v 16 48 long)) tt
