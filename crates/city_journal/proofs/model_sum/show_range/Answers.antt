use Rattle.std.proofs.Common.{arith}
use Rattle.city_journal.proofs.model_sum.show_range.Goals as goal

pub returns : goal.returns
returns c = λ k. omega (arith, c.type_inv.bytes k)
