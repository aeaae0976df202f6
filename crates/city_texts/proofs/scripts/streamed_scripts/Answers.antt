use Rattle.city_texts.proofs.Prelude.{IfSome_then}
use Rattle.city_texts.proofs.scripts.streamed_scripts.Goals as goal

pub returns : goal.returns
returns c =
    let read = c.in_ok-scripts.ensures in
    IfSome_then c.if_few.result c.if_few.ensures (λ ss made. (read.0, read.1, read.2, made read.0 read.3))
