use Rattle.city_scripts.proofs.Prelude.{sym, refl, members_view}
use Rattle.std.specs.Prelude.{Some, None}
use Rattle.city_scripts.proofs.CommandLists.{parts-taken}
use Rattle.city_scripts.proofs.parts.parts_in.Goals as goal

pub returns-in_err-commands : goal.returns-in_err-commands
returns-in_err-commands c =
    rw c.from_residual-in_err-commands.ensures
    (sym (parts-taken (members_view c.args.members.entries) (members_view c.take_name.new.members.entries) _
    c.in_ok-name.name None _
    (sym c.in_ok-name.ensures.found) c.in_ok-name.ensures.left c.in_err-commands.ensures.found refl refl))

pub returns : goal.returns
returns c =
    sym (parts-taken (members_view c.args.members.entries) (members_view c.take_name.new.members.entries)
    (members_view c.take_commands.new.members.entries) c.in_ok-name.name (Some _) _
    (sym c.in_ok-name.ensures.found) c.in_ok-name.ensures.left c.in_ok-commands.ensures.found
    c.in_ok-commands.ensures.left c.take-vertices.ensures.found)
