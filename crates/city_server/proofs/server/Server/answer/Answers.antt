use Rattle.std.proofs.Common.{subst, sym}
use Rattle.std.specs.Prelude.{OnOk}
use Rattle.city_lines.specs.declared.line.Ask.{Ask}
use Rattle.city_server.specs.Asked.{IsDone}
use Rattle.city_server.specs.Sessions.{Adds}
use Rattle.city_server.proofs.server.Server.answer.Goals as goal

pub returns-in-Engine : goal.returns-in-Engine
returns-in-Engine g c =
    subst
    (λ (ask : Ask). OnOk c.ask_engine.result
    (Adds (IsDone c.args.self.now.told.decimals c.args.self.now.told.line c.args.line.hand c.args.line.tag
    c.args.line.key ask c.args.self.now.hands c.ask_engine.new.self.hands) c.args.self.now.told c.ask_engine.new.self.told))
    (sym c.in-Engine.is) c.ask_engine.ensures
