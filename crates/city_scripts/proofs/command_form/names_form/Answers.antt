use Rattle.city_scripts.proofs.Prelude.{rules, sym, ◌∙◌, items_view}
use Rattle.city_scripts.proofs.TextsRead.{texts_read}
use Rattle.city_scripts.proofs.command_form.names_form.Goals as goal

pub returns : goal.returns
returns c =
    let texts = texts_read (items_view c.in_ok-names.names.now.items)
    (sym c.has_other_item.ensures ∙ c.if-has_other_item.false) in search rules
