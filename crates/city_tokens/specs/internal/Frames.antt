-- The frame of a tree, in the order of its building: the kept members of the top first.
use Rattle.std.specs.Prelude.{Option, codes}
use Rattle.serde_json.specs.Data.{Data}
use Rattle.serde_json.specs.Find.{as_object}
use Rattle.city_model.specs.declared.frame.Frame.{Frame}
use Rattle.city_members.specs.Members.{without}
use Rattle.city_tokens.specs.document.FramesOfRest.{frame_of_rest}
use Rattle.city_tokens.specs.tree.Steps.{◌>>=◌}

abbrev pub built_frame : Data → Option Frame
built_frame d = do
  top ← as_object d
  frame_of_rest (without (codes "CityObjects") top)
