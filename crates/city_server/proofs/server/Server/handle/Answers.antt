use Rattle.std.proofs.Common.{◌∙◌}
use Rattle.std.proofs.lemmas.Result.{on_ok_weaker}
use Rattle.city_server.proofs.Handling.{line_done, line_fault}
use Rattle.city_server.proofs.server.Server.handle.Goals as goal

pub returns-in-Ok : goal.returns-in-Ok
returns-in-Ok g c =
    on_ok_weaker c.answer.result
    (line_done c.args.line.now c.in-Ok.request c.count.ensures.line c.count.ensures.decimals c.count.ensures.answers
    c.line_of.ensures.told c.line_of.ensures.hands c.in-Ok.ensures.read)
    c.answer.ensures

pub returns-in-Err : goal.returns-in-Err
returns-in-Err g c =
    on_ok_weaker c.tell_error.result
    (line_fault c.args.line.now c.in-Err.error.hand c.in-Err.error.tag c.count.ensures.line c.count.ensures.decimals
    c.count.ensures.answers c.line_of.ensures.told (c.tell_error.ensures.hands ∙ c.line_of.ensures.hands))
    c.tell_error.ensures.told
