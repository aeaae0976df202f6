use Rattle.std.proofs.Common.{◌∙◌, None, inr, refl}
use Rattle.std.proofs.lemmas.Result.{on_ok_weaker}
use Rattle.city_server.proofs.Handling.{asked_refused, refused}
use Rattle.city_server.proofs.server.Server.ask.Goals as goal

pub returns-in-Err : goal.returns-in-Err
returns-in-Err g c =
    on_ok_weaker c.refuse.result
    (λ h. asked_refused c.args.form c.args.hand c.args.tag c.args.request
    (refused c.args.hand c.args.tag None None (inr refl) (inr refl) (c.refuse.ensures.hands ∙ c.in-Err.ensures.err) h))
    c.refuse.ensures.told
