use Rattle.city_decimals.proofs.Prelude.{rules}
use Rattle.city_decimals.proofs.Copied.{some_weaker}
use Rattle.city_decimals.proofs.CompactForms.{triple_encoded}
use Rattle.city_decimals.proofs.compact.encoding.encode_triple.Goals as goal

pub returns-clause-triple : goal.returns-clause-triple
returns-clause-triple c = search (rules, some_weaker, triple_encoded)
