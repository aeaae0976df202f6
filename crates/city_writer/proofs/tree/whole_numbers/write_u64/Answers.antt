use Rattle.city_writer.proofs.Prelude.{rules}
use Rattle.json.proofs.Printed.Decimals.{IsNumber-decimal}
use Rattle.city_writer.proofs.tree.whole_numbers.write_u64.Goals as goal

pub number-requires : goal.number-requires
number-requires c = rw c.format.ensures.text (IsNumber-decimal c.args.n (search rules))
