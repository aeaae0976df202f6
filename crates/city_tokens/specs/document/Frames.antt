-- The frame of a document: its transform, and the kept members of its top (CityJSON 2.0, sections 2 and 4).
use Rattle.std.specs.Prelude.{ℕ, ℤ, List, Option, option_and_then, option_map, codes}
use Rattle.serde_json.specs.Data.{Data, Members}
use Rattle.serde_json.specs.Find.{get, as_object}
use Rattle.city_model.specs.declared.frame.Frame.{Frame}
use Rattle.city_members.specs.Kept.{top_members, transform_members, kept_at_top, kept_at_transform}
use Rattle.city_members.specs.Members.{without_each}
use Rattle.city_tokens.specs.tree.Members.{kept_if}
use Rattle.city_tokens.specs.tree.Steps.{◌>>=◌}
use Rattle.city_tokens.specs.tree.Triples.{triple_of}

abbrev pub triple_at : List ℕ → Data → Option (List ℤ)
triple_at name d = option_and_then triple_of (get name d)

-- the members of a transform, except the ones read
abbrev pub without_transform_members : Members → Members
without_transform_members ms = without_each transform_members ms

-- the kept members of a transform
abbrev pub more_of : Data → Option Members
more_of transform = do
  members ← as_object transform
  kept_if kept_at_transform (without_transform_members members)

-- the members of the top, except the ones read
abbrev pub without_top_members : Members → Members
without_top_members ms = without_each top_members ms

abbrev pub frame_of : Data → Option Frame
frame_of d = do
  transform ← get (codes "transform") d
  scale ← triple_at (codes "scale") transform
  translate ← triple_at (codes "translate") transform
  more ← more_of transform
  top ← as_object d
  option_map (λ extra. record { scale = scale; translate = translate; more = more; extra = extra })
      (kept_if kept_at_top (without_top_members top))
