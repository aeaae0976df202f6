use Rattle.std.proofs.Common.{None, refl}
use Rattle.std.proofs.lemmas.Result.{on_ok_weaker}
use Rattle.city_server.proofs.Handling.{line_fault}
use Rattle.city_server.proofs.server.Server.handle_skipped.Goals as goal

pub returns : goal.returns
returns g c =
    on_ok_weaker c.refuse.result
    (λ h line. line_fault line None None c.count.ensures.line c.count.ensures.decimals c.count.ensures.answers refl
    c.refuse.ensures.hands h)
    c.refuse.ensures.told
