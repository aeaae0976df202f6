use Rattle.city_tokens.proofs.Prelude.{◌≡◌, true, sym, ap, ◌∙◌, arith, ends_once, command_of, IsCommand, IsResolved}
use Rattle.city_tokens.proofs.Prelude.{points_of, IsArrayOf, list_of}
use Rattle.std.specs.Prelude.{is_ok}
use Rattle.city_tokens.proofs.Options.{ok_holds}
use Rattle.city_tokens.proofs.ScriptMembers.{script_made}
use Rattle.city_tokens.proofs.script.script_of.Goals as goal

pub returns : goal.returns
returns c =
    let name = c.in_ok-name in
    let read = c.in_ok-commands in
    let cs = c.resolve_positions.new.self in
    let resolved : IsResolved (IsArrayOf IsCommand) (list_of (command_of (points_of c.args.parts.vertices)))
    read.commands cs = rw c.as_slice.ensures at c.in_ok-resolve_positions.ensures in
    ok_holds c.new.result c.ok.result _ c.ok.ensures.value (λ s made found kept so.
    let is : s ≡ (name.name, cs) = rw made at c.new.ensures.made in
    let ends : ends_once cs ≡ true = sym c.new.ensures.checked ∙ ap is_ok made in
    rw is (script_made c.args.parts name.name read.commands cs found kept name.was read.was resolved ends (grind arith)
    so))
