use Rattle.city_decimals.proofs.Prelude.{◌≡◌, ℕ, ◌+◌, ◌*◌, ◌≤◌, List, length, Token, Items, Members, items, members}
use Rattle.city_decimals.proofs.Prelude.{value, items_tokens, members_tokens, written, items_changed, members_changed}
use Rattle.city_decimals.proofs.transcode.value.+transcode.Given as goal

abbrev pub decreases-transcode_from : goal.decreases-transcode_from
decreases-transcode_from l = 7 * l.depth

abbrev pub decreases-transcode_value : goal.decreases-transcode_value
decreases-transcode_value l = 7 * l.depth + 1

abbrev pub decreases-transcode_attributes : goal.decreases-transcode_attributes
decreases-transcode_attributes l = 7 * l.depth + 1

abbrev pub decreases-transcode_attributes_items : goal.decreases-transcode_attributes_items
decreases-transcode_attributes_items l = 7 * l.depth + 3

abbrev pub decreases-transcode_items : goal.decreases-transcode_items
decreases-transcode_items l = 7 * l.depth + 2

abbrev pub decreases-transcode_member : goal.decreases-transcode_member
decreases-transcode_member l = 7 * l.depth + 2

abbrev pub decreases-transcode_more : goal.decreases-transcode_more
decreases-transcode_more l = 7 * l.depth + 3

abbrev pub decreases-transcode_members : goal.decreases-transcode_members
decreases-transcode_members l = 7 * l.depth + 4

abbrev pub decreases-decode_tagged : goal.decreases-decode_tagged
decreases-decode_tagged l = 7 * l.depth + 5

abbrev pub decreases-transcode_object : goal.decreases-transcode_object
decreases-transcode_object l = 7 * l.depth + 6

abbrev pub invariant-transcode_items-items : goal.invariant-transcode_items-items
invariant-transcode_items-items l =
    let f : Items → List Token = λ js. items_tokens (items_changed l.way js) in
    let p = value l.depth in
    (l.out.before ≡ l.initial.out.before)
    × ((a : ℕ) → length l.initial.reader ≤ a
    → (n : ℕ) × (length l.reader ≤ n) × (written f l.initial.out.tokens (items p a l.initial.reader)
    ≡ written f l.out.tokens (items p n l.reader)))

abbrev pub decreases-transcode_items-items : goal.decreases-transcode_items-items
decreases-transcode_items-items l = length l.reader

abbrev pub invariant-transcode_more-members : goal.invariant-transcode_more-members
invariant-transcode_more-members l =
    let f : Members → List Token = λ ms. members_tokens (members_changed l.way l.top ms) in
    let p = value l.depth in
    (l.out.before ≡ l.initial.out.before)
    × ((a : ℕ) → length l.initial.reader ≤ a
    → (n : ℕ) × (length l.reader ≤ n) × (written f l.initial.out.tokens (members p a l.initial.reader)
    ≡ written f l.out.tokens (members p n l.reader)))

abbrev pub decreases-transcode_more-members : goal.decreases-transcode_more-members
decreases-transcode_more-members l = length l.reader
