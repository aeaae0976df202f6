use Rattle.city_texts.proofs.Prelude.{sym, subst, IfSome_then}
use Rattle.city_texts.specs.internal.Tops.{IsCity}
use Rattle.city_texts.proofs.document.streamed_city.Goals as goal

pub returns : goal.returns
returns c =
    let read = c.in_ok-top.ensures in
    IfSome_then c.city_of.result c.city_of.ensures (λ city so.
    let is = subst (IsCity city) (sym read.3.1) (so _ read.3.0 c.in_ok-resolved.ensures read.3.2) in
    (read.0, read.1, read.2, is.0, is.1))
