use Rattle.city_scripts.proofs.Prelude.{Some, sym, ap, ◌∙◌, view}
use Rattle.std.proofs.Common.{option_map}
use Rattle.city_scripts.specs.internal.Forms.{form_view}
use Rattle.city_scripts.proofs.Reshapes.{reshape_misplaced}
use Rattle.city_scripts.proofs.command_faults.names_bad_vertex.Goals as goal

pub returns-in-Some-Reshape : goal.returns-in-Some-Reshape
returns-in-Some-Reshape c =
    let form = sym c.form_of.ensures ∙ ap (option_map form_view) c.in-Some-Reshape.is
    ∙ ap (λ f. Some (form_view f)) c.in-Some-Reshape.field-0-is in
    reshape_misplaced (view c.args.command.now) _ _ form c.args.count _ c.has_bad_vertex-in-Some-Reshape.ensures
