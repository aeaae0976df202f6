use Rattle.city_tokens.proofs.ScriptMembers.{with_commands, with_name, with_vertices}
use Rattle.city_tokens.proofs.script.ScriptPartsMemberVisitor.visit_member.Goals as goal

pub returns-in_ok-name-in-name : goal.returns-in_ok-name-in-name
returns-in_ok-name-in-name c =
    let read = c.in_ok-name-in-name in
    with_name c.args.self.now read.name c.in-name.is read.ensures

pub returns-in_ok-commands-in-commands : goal.returns-in_ok-commands-in-commands
returns-in_ok-commands-in-commands c =
    let read = c.in_ok-commands-in-commands in
    with_commands c.args.self.now read.commands c.in-commands.is read.ensures

pub returns-in_ok-vertices-in-vertices : goal.returns-in_ok-vertices-in-vertices
returns-in_ok-vertices-in-vertices c =
    let read = c.in_ok-vertices-in-vertices in
    with_vertices c.args.self.now read.vertices c.in-vertices.is read.ensures
