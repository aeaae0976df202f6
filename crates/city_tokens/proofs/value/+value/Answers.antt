use Rattle.city_tokens.proofs.Prelude.{◌≡◌, [], ◌∷◌, ◌++◌, Some, refl, ap, ◌∙◌, arith, rules, read_key, token_of, put}
use Rattle.std.proofs.Common.{string_bytes}
use Rattle.std.proofs.lemmas.List.{map-append}
use Rattle.city_members.specs.internal.KeptValues.{value_data, members_built}
use Rattle.city_reader.specs.Taken.{IsWholeTaken}
use Rattle.city_tokens.proofs.Options.{ok_then}
use Rattle.city_tokens.proofs.Reading.{value_shorter, member_shorter, seen_token, seen_value, null_value, boolean_value}
use Rattle.city_tokens.proofs.Reading.{string_value, whole_value, array_value, object_value, items_begin, items_next}
use Rattle.city_tokens.proofs.Reading.{items_end, members_next, members_end}
use Rattle.city_tokens.proofs.value.+value.Goals as goal

pub read_items-items-smaller : goal.read_items-items-smaller
read_items-items-smaller t c =
    let same : c.take_end_array.new.self ≡ c.items.reader = grind arith in
    value_shorter _ _ _ _ (rw same at c.in_ok-item.ensures)

pub read_items-items-preserved : goal.read_items-items-preserved
read_items-items-preserved t c =
    let same : c.take_end_array.new.self ≡ c.items.reader = grind arith in
    let pushed : c.push.new.self.items ≡ c.items.found.items ++ c.in_ok-item.item ∷ [] = grind arith in
    rw (pushed, map-append value_data c.items.found.items)
    (items_next c.items.invariant (rw same at c.in_ok-item.ensures))

pub read_items-returns : goal.read_items-returns
read_items-returns t c =
    rw (c.from_vec.ensures, c.shrink_to_fit.ensures.items) (items_end c.items.invariant (grind arith))

pub read_members-members-smaller : goal.read_members-members-smaller
read_members-members-smaller t c =
    let named : read_key c.members.reader ≡ Some (Some c.in-Some.name.now, c.next_key.new.self) = grind arith in
    member_shorter _ named c.in_ok-member.ensures

pub read_members-members-preserved : goal.read_members-members-preserved
read_members-members-preserved t c =
    let named : read_key c.members.reader ≡ Some (Some c.in-Some.name.now, c.next_key.new.self) = grind arith in
    let copied : string_bytes c.in_ok-key.key ≡ c.in-Some.name.now = search rules in
    let built : members_built c.in_ok-found.found
    ≡ put (string_bytes c.in_ok-key.key) (value_data c.in_ok-member.member) (members_built c.members.found) =
    search rules in
    rw (built, copied) (members_next c.members.invariant named c.in_ok-member.ensures)

pub read_members-returns : goal.read_members-returns
read_members-returns t c =
    ok_then c.finish.result c.ok-2.result c.ok-2.ensures.value c.finish.ensures
    (λ members is. rw is (members_end c.members.invariant (grind arith)))

pub read_value-returns-in-Some : goal.read_value-returns-in-Some
read_value-returns-in-Some t c =
    let n = c.in-Some.n in
    let taken : IsWholeTaken c.args.reader.now c.take_whole.new.self n = grind arith in
    seen_value taken.1 (search rules) (whole_value c.args.depth taken.0 n c.take_whole.new.self taken.2.0 taken.2.1)

pub read_value-returns-in-Null : goal.read_value-returns-in-Null
read_value-returns-in-Null t c =
    let same : c.args.reader.now ≡ c.take_whole.new.self = grind arith in
    seen_token (same ∙ c.in_ok-next.ensures) (ap token_of c.in-Null.is) refl (null_value _ _)

pub read_value-returns-in-Bool : goal.read_value-returns-in-Bool
read_value-returns-in-Bool t c =
    let same : c.args.reader.now ≡ c.take_whole.new.self = grind arith in
    seen_token (same ∙ c.in_ok-next.ensures) (ap token_of c.in-Bool.is) refl (boolean_value _ _ _)

pub read_value-returns-in_ok-n-in-Number : goal.read_value-returns-in_ok-n-in-Number
read_value-returns-in_ok-n-in-Number t c =
    let same : c.args.reader.now ≡ c.take_whole.new.self = grind arith in
    let n = c.in_ok-n-in-Number in
    seen_token (same ∙ c.in_ok-next.ensures) (ap token_of c.in-Number.is) (search rules)
    (whole_value _ c.in-Number.text.now n.n _ n.ensures.value n.ensures.in_range)

pub read_value-returns-in_ok-copy-in-String : goal.read_value-returns-in_ok-copy-in-String
read_value-returns-in_ok-copy-in-String t c =
    let same : c.args.reader.now ≡ c.take_whole.new.self = grind arith in
    seen_token (same ∙ c.in_ok-next.ensures) (ap token_of c.in-String.is) (search rules) (string_value _ _ _)

pub read_value-returns-in_ok-items-in-BeginArray : goal.read_value-returns-in_ok-items-in-BeginArray
read_value-returns-in_ok-items-in-BeginArray t c =
    let same : c.args.reader.now ≡ c.take_whole.new.self = grind arith in
    let found = c.in_ok-items-in-BeginArray in
    seen_token (same ∙ c.in_ok-next.ensures) (ap token_of c.in-BeginArray.is) refl
    (array_value _ _ _ _ (omega arith) found.ensures)

pub read_value-returns-in_ok-members-in-BeginObject : goal.read_value-returns-in_ok-members-in-BeginObject
read_value-returns-in_ok-members-in-BeginObject t c =
    let same : c.args.reader.now ≡ c.take_whole.new.self = grind arith in
    let found = c.in_ok-members-in-BeginObject in
    seen_token (same ∙ c.in_ok-next.ensures) (ap token_of c.in-BeginObject.is) refl
    (object_value _ _ _ _ (omega arith) found.ensures)

pub read_items-items-init : goal.read_items-items-init
read_items-items-init t c =
    let empty : c.in_ok-found.found.items ≡ [] = grind arith in
    rw empty (items_begin c.args.depth c.args.reader.now)
