use Rattle.std.proofs.Common.{Some, refl}
use Rattle.std.proofs.lemmas.Result.{on_ok_weaker}
use Rattle.city_server.proofs.Handling.{known_told}
use Rattle.city_server.proofs.server.Server.ask_with_key.Goals as goal

pub returns-in-Some : goal.returns-in-Some
returns-in-Some g c =
    on_ok_weaker c.tell_known_end.result
    (known_told c.args.hand c.args.tag (Some c.args.key) c.args.request c.in-Some.made.now.name
    c.in-Some.made.now.version refl refl)
    c.tell_known_end.ensures
