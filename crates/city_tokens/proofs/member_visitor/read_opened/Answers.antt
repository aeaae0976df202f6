use Rattle.city_tokens.proofs.Prelude.{arith, IfSome_then}
use Rattle.city_tokens.proofs.Reading.{object_value}
use Rattle.city_tokens.proofs.member_visitor.read_opened.Goals as goal

pub returns : goal.returns
returns g c =
    IfSome_then c.read_rest.result c.read_rest.ensures
    (λ read rest. (rest.0, object_value _ _ _ _ (omega arith) rest.1, rest.2))
