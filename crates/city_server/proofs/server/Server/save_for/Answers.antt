use Rattle.std.proofs.Common.{subst, sym}
use Rattle.std.proofs.lemmas.Result.{on_ok_weaker}
use Rattle.city_live.specs.Serving.{IsHandled}
use Rattle.city_live.specs.declared.request.Request.TheVariants as requests
use Rattle.city_server.proofs.Handling.{saved_told}
use Rattle.city_server.proofs.server.Server.save_for.Goals as goal

pub returns-in-Ok : goal.returns-in-Ok
returns-in-Ok g c =
    on_ok_weaker c.save_each.result
    (saved_told c.args.hand c.args.tag c.as_slice.result.now
    (subst (λ l. IsHandled c.args.hand c.args.tag requests.Model l c.args.self.now.hands c.handle.new.self)
    (sym c.as_slice.ensures.value) c.in-Ok.ensures.ok)
    c.save_each.ensures.hands)
    c.save_each.ensures.told
