use Rattle.city_tokens.proofs.Prelude.{IfSome_then, object}
use Rattle.city_tokens.proofs.object.read_object.Goals as goal

pub returns : goal.returns
returns c =
    let read = c.in_ok-parts.ensures in
    IfSome_then c.object_of.result c.object_of.ensures
    (λ o made. (object read.0, read.1, made read.0 (read.2 c.new.ensures)))
