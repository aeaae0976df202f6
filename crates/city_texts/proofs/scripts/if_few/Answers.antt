use Rattle.city_texts.proofs.Prelude.{arith}
use Rattle.city_tokens.proofs.Laws.{scripts_read}
use Rattle.city_texts.proofs.scripts.if_few.Goals as goal

pub returns : goal.returns
returns c d is = scripts_read c.args.scripts d (grind arith) is
