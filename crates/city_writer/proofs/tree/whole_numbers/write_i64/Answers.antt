use Rattle.city_writer.proofs.Prelude.{rules}
use Rattle.json.proofs.Printed.Decimals.{IsNumber-signed_decimal}
use Rattle.city_writer.proofs.tree.whole_numbers.write_i64.Goals as goal

pub number-requires : goal.number-requires
number-requires c = search (rules, IsNumber-signed_decimal)
