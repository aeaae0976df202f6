use Rattle.city_writer.proofs.Prelude.{ap, ◌∙◌}
use Rattle.city_model.specs.ShapeTypes.{type_name}
use Rattle.city_writer.proofs.shape.ShapeNames.{shape_named}
use Rattle.city_writer.proofs.shape.text.shape_name.Goals as goal

pub returns : goal.returns
returns c = c.name.ensures ∙ ap type_name c.shape_type.ensures ∙ shape_named c.args.shape.now
