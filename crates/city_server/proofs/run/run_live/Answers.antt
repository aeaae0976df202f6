use Rattle.std.proofs.Common.{inr}
use Rattle.std.proofs.lemmas.Result.{on_err_weaker, on_ok_weaker}
use Rattle.city_server.proofs.Sessions.{session_all, session_first}
use Rattle.city_server.proofs.run.run_live.Goals as goal

pub returns-clause-all : goal.returns-clause-all
returns-clause-all g c =
    on_ok_weaker c.run-ended.result (session_all c.in_ok-server.ensures) c.run-ended.ensures.all

pub returns-clause-first : goal.returns-clause-first
returns-clause-first g c =
    on_err_weaker c.run-ended.result (λ h. inr (session_first c.in_ok-server.ensures h)) c.run-ended.ensures.first
