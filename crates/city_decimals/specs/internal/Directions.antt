-- A value, encoded or decoded.
use Rattle.std.specs.Prelude.{ℕ, List, Bool, true, false, codes}
use Rattle.json.specs.Json.{Json, object, Items, Members}
use Rattle.city_decimals.specs.Shapes.{form_of, in_form, framed, fronted}
use Rattle.city_decimals.specs.Encoded.{encoded, encoded_items, encoded_members}
use Rattle.city_decimals.specs.Decoded.{decoded, decoded_items, decoded_members, out_of_form}
use Rattle.city_decimals.specs.internal.Objects.{decoded_object}
use Rattle.city_decimals.specs.declared.direction.Direction.{Direction}
use Rattle.city_decimals.specs.declared.direction.Direction.TheVariants.{Encode, Decode}

abbrev pub is_decode : Direction → Bool
is_decode Encode = false
is_decode Decode = true

abbrev pub changed : Direction → Json → Json
changed Encode j = encoded j
changed Decode j = decoded j

abbrev pub items_changed : Direction → Items → Items
items_changed Encode js = encoded_items js
items_changed Decode js = decoded_items js

abbrev pub members_changed : Direction → Bool → Members → Members
members_changed Encode top ms = encoded_members top ms
members_changed Decode top ms = decoded_members top ms

-- these members of an object, changed
abbrev pub object_made : Direction → Bool → Members → Json
object_made Encode top ms = object (encoded_members top ms)
object_made Decode top ms = decoded_object top ms

-- the value of a member of this name
abbrev pub member_changed : Direction → Bool → List ℕ → Json → Json
member_changed Encode top k j = in_form (form_of top k j) (encoded j)
member_changed Decode top k j = out_of_form top k j (decoded j)

-- the value of a member `attributes`
abbrev pub attributes_changed : Direction → Json → Json
attributes_changed way j = member_changed way false (codes "attributes") j

-- a transform put into its frame, or taken out of it
abbrev pub frame_changed : Direction → Json → Json
frame_changed Encode j = framed (encoded j)
frame_changed Decode j = fronted (decoded j)
