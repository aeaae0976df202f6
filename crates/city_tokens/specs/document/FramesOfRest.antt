-- The frame of a document, from the members of its top without `CityObjects`.
use Rattle.std.specs.Prelude.{Option, drop, option_map, codes}
use Rattle.serde_json.specs.Data.{Data, Members}
use Rattle.serde_json.specs.Find.{get_member}
use Rattle.city_model.specs.declared.frame.Frame.{Frame}
use Rattle.city_members.specs.Kept.{top_members, kept_at_top}
use Rattle.city_members.specs.Members.{without_each}
use Rattle.city_tokens.specs.document.Frames.{triple_at, more_of}
use Rattle.city_tokens.specs.tree.Members.{kept_if}
use Rattle.city_tokens.specs.tree.Steps.{◌>>=◌}

-- the members, except the ones read at the top beside `CityObjects`, the first of `top_members`
abbrev pub without_rest_members : Members → Members
without_rest_members rest = without_each (drop 1 top_members) rest

-- the frame of a transform, and of the kept members of the top
abbrev pub frame_with : Members → Data → Option Frame
frame_with extra transform = do
  scale ← triple_at (codes "scale") transform
  translate ← triple_at (codes "translate") transform
  option_map (λ more. record { scale = scale; translate = translate; more = more; extra = extra })
      (more_of transform)

abbrev pub frame_of_rest : Members → Option Frame
frame_of_rest rest = do
  extra ← kept_if kept_at_top (without_rest_members rest)
  transform ← get_member (codes "transform") rest
  frame_with extra transform
