use Rattle.city_scripts.proofs.Prelude.{◌∙◌, sym, map, true≢false, view}
use Rattle.city_tokens.proofs.Laws.{ends_once-read}
use Rattle.city_scripts.proofs.read.script_of.Goals as goal

pub unreachable-requires : goal.unreachable-requires
unreachable-requires c =
    true≢false (sym (c.in-Err.ensures.checked
    ∙ ends_once-read c.as_slice.result.now (map view c.args.form.commands.items) c.in-Some-2.commands
    (sym c.in_ok-commands.ensures ∙ c.in-Some-2.is) ∙ c.args.form.ended))
