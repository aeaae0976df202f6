-- A value is changed part by part, in either direction.
use Rattle.city_decimals.proofs.Prelude.{arith, ◌≡◌, ℕ, List, [], ◌∷◌, ◌++◌, Bool, true, false, Some, ap, Json, null}
use Rattle.city_decimals.proofs.Prelude.{boolean, string, array, object, Items, no_items, item, Members, no_members}
use Rattle.city_decimals.proofs.Prelude.{member, value, Token, json_tokens, items_tokens, members_tokens, is_attributes}
use Rattle.city_decimals.proofs.Prelude.{is_tag, is_transform, IsUntagged, top_changed, changed, items_changed}
use Rattle.city_decimals.proofs.Prelude.{members_changed, member_changed, frame_changed, object_made, Direction, Encode}
use Rattle.city_decimals.proofs.Prelude.{Decode}
use Rattle.std.proofs.Common.{◌&&◌}
use Rattle.city_decimals.specs.internal.Forms.{is_bare}
use Rattle.city_decimals.specs.internal.Directions.{is_decode}
use Rattle.city_decimals.proofs.Starts.{encoded_other, decoded_other}

pub string_changed : (way : Direction) (s : List ℕ) → changed way (string s) ≡ string s
string_changed way s = grind arith

pub boolean_changed : (way : Direction) (b : Bool) → changed way (boolean b) ≡ boolean b
boolean_changed way b = grind arith

pub null_changed : (way : Direction) → changed way null ≡ null
null_changed way = grind arith

pub array_changed : (way : Direction) (js : Items) → changed way (array js) ≡ array (items_changed way js)
array_changed way js = grind arith

pub no_items_changed : (way : Direction) → items_changed way no_items ≡ no_items
no_items_changed way = grind arith

pub item_changed : (way : Direction) (j : Json) (js : Items)
    → items_changed way (item j js) ≡ item (changed way j) (items_changed way js)
item_changed way j js = grind arith

pub item_tokens : (way : Direction) (j : Json) (js : Items) → items_tokens (items_changed way (item j js))
    ≡ json_tokens (changed way j) ++ items_tokens (items_changed way js)
item_tokens way j js = ap items_tokens (item_changed way j js)

pub object_changed : (way : Direction) (ms : Members) → IsUntagged ms
    → changed way (object ms) ≡ object (members_changed way false ms)
object_changed way ms h = grind arith

pub no_members_changed : (way : Direction) (top : Bool) → members_changed way top no_members ≡ no_members
no_members_changed way top = grind arith

pub first_changed : (way : Direction) (top : Bool) (k : List ℕ) (j : Json) (ms : Members)
    → members_changed way top (member k j ms) ≡ member k (member_changed way top k j) (members_changed way top ms)
first_changed way top k j ms = grind arith

pub member_tokens : (way : Direction) (top : Bool) (k : List ℕ) (j : Json) (ms : Members)
    → members_tokens (members_changed way top (member k j ms))
    ≡ Token.key k ∷ (json_tokens (member_changed way top k j) ++ members_tokens (members_changed way top ms))
member_tokens way top k j ms = ap members_tokens (first_changed way top k j ms)

-- a member neither under the tag nor in a frame nor of a shield has no form
pub plain_member : (way : Direction) (top : Bool) (k : List ℕ) (j : Json) → (top && is_transform k j) ≡ false
    → is_tag k ≡ false → (is_attributes k ≡ true → is_bare j ≡ true) → member_changed way top k j ≡ changed way j
plain_member way top k j no_frame untagged bare = search arith

-- a transform at the top is framed
pub framed_member : (way : Direction) (top : Bool) (k : List ℕ) (j : Json) → top ≡ true → is_transform k j ≡ true
    → member_changed way top k j ≡ frame_changed way j
framed_member way top k j at_top is = grind arith

-- ---- objects

pub object_is_made : (way : Direction) (ms : Members) → changed way (object ms) ≡ object_made way false ms
object_is_made way ms = grind arith

pub no_object : (way : Direction) (top : Bool)
    → json_tokens (object_made way top no_members) ≡ Token.begin_object ∷ Token.end_object ∷ []
no_object way top = grind arith

pub top_object : (way : Direction) (ms : Members) → top_changed way (object ms) ≡ object_made way true ms
top_object way ms = grind arith

-- a whole text other than an object
pub changed_other : (way : Direction) (d : ℕ) (t : Token) (ts : List Token) (j : Json) (r : List Token)
    → (t ≡ Token.begin_object → ⊥) → value d (t ∷ ts) ≡ Some (j, r) → top_changed way j ≡ changed way j
changed_other Encode d t ts j r other is = encoded_other d t ts j r other is
changed_other Decode d t ts j r other is = decoded_other d t ts j r other is

pub untagged_here : (way : Direction) (k : List ℕ) → (is_decode way && is_tag k) ≡ false → way ≡ Decode
    → is_tag k ≡ false
untagged_here way k h is = grind arith
