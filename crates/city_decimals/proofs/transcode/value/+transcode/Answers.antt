use Rattle.city_decimals.proofs.Prelude.{rules, ◌≡◌, ℕ, ◌-◌, List, [], ◌∷◌, ◌++◌, length, Some, None, refl, sym, ap}
use Rattle.city_decimals.proofs.Prelude.{◌∙◌, subst, arith, append_assoc, option_map, on_ok_weaker, Token, Json, Items}
use Rattle.city_decimals.proofs.Prelude.{value_view, ◌<◌, items, item, Members, member, parse_map, after_end_array}
use Rattle.city_decimals.proofs.Prelude.{read_key, members, json_tokens, items_tokens, members_tokens, value_is}
use Rattle.city_decimals.proofs.Prelude.{value-begin_object, members_end, members_more, members_fail, members_no_key}
use Rattle.city_decimals.proofs.Prelude.{decoded, decoded_members, out_of_form, decoded_object, written, changed}
use Rattle.city_decimals.proofs.Prelude.{items_changed, members_changed, member_changed}
use Rattle.json.specs.Json.{value}
use Rattle.json.proofs.Grammar.{value-begin_array, read_key-shorter, read_key_is, items_fail, items_more}
use Rattle.json.specs.Reads.{token_of}
use Rattle.city_decimals.specs.internal.Objects.{IsFirstWritten}
use Rattle.city_decimals.specs.internal.Directions.{attributes_changed}
use Rattle.city_decimals.proofs.Objects.{object_written, object_put, first_is_no_number, two_are_no_number, other_name}
use Rattle.city_decimals.proofs.Streams.{none_written, written_as, written_with, token_first, value_shorter}
use Rattle.city_decimals.proofs.Streams.{item_written, items_over, member_written, members_over}
use Rattle.city_decimals.proofs.Directions.{string_changed, boolean_changed, null_changed, array_changed, item_tokens}
use Rattle.city_decimals.proofs.Directions.{no_items_changed, member_tokens, no_members_changed, object_is_made}
use Rattle.city_decimals.proofs.Directions.{no_object, untagged_here}
use Rattle.city_decimals.proofs.Attributes.{attributes_other, attributes_end, attributes_single, attributes_several}
use Rattle.city_decimals.proofs.transcode.value.+transcode.Goals as goal

pub transcode_value-returns-in_err-token-clause-err : goal.transcode_value-returns-in_err-token-clause-err
transcode_value-returns-in_err-token-clause-err t c refused = search (rules, value_is)

pub transcode_from-returns-then-depth-eq0-clause-err : goal.transcode_from-returns-then-depth-eq0-clause-err
unfolding value
transcode_from-returns-then-depth-eq0-clause-err t c never = search rules

pub transcode_from-returns-then-depth-eq0-2-clause-err : goal.transcode_from-returns-then-depth-eq0-2-clause-err
unfolding value
transcode_from-returns-then-depth-eq0-2-clause-err t c never = search rules

pub transcode_from-returns-in_ok-string-in-String-clause-ok : goal.transcode_from-returns-in_ok-string-in-String-clause-ok
transcode_from-returns-in_ok-string-in-String-clause-ok t c = search (rules, value_is, string_changed)

pub transcode_from-returns-in_ok-boolean-in-Bool-clause-ok : goal.transcode_from-returns-in_ok-boolean-in-Bool-clause-ok
transcode_from-returns-in_ok-boolean-in-Bool-clause-ok t c = search (rules, value_is, boolean_changed)

pub transcode_from-returns-in_ok-null-in-Null-clause-ok : goal.transcode_from-returns-in_ok-null-in-Null-clause-ok
transcode_from-returns-in_ok-null-in-Null-clause-ok t c = search (rules, value_is, null_changed)

pub transcode_from-returns-in_ok-write_number-in-Number-clause-ok :
    goal.transcode_from-returns-in_ok-write_number-in-Number-clause-ok
transcode_from-returns-in_ok-write_number-in-Number-clause-ok t c = search (rules, value_is)

pub transcode_from-returns-in_ok-begin_array-in-BeginArray-clause-ok :
    goal.transcode_from-returns-in_ok-begin_array-in-BeginArray-clause-ok
transcode_from-returns-in_ok-begin_array-in-BeginArray-clause-ok t c =
    search (rules, value-begin_array, on_ok_weaker, token_first, array_changed)

pub transcode_from-returns-in_ok-begin_array-in-BeginArray-clause-err :
    goal.transcode_from-returns-in_ok-begin_array-in-BeginArray-clause-err
transcode_from-returns-in_ok-begin_array-in-BeginArray-clause-err t c refused = search (rules, value-begin_array)

pub transcode_from-returns-else-depth-eq0-2-clause-ok : goal.transcode_from-returns-else-depth-eq0-2-clause-ok
transcode_from-returns-else-depth-eq0-2-clause-ok t c =
    search (rules, value-begin_object, on_ok_weaker, written_with, object_is_made)

pub transcode_from-returns-else-depth-eq0-2-clause-err : goal.transcode_from-returns-else-depth-eq0-2-clause-err
transcode_from-returns-else-depth-eq0-2-clause-err t c refused = search (rules, value-begin_object)

pub transcode_from-returns-in-EndObject-clause-err : goal.transcode_from-returns-in-EndObject-clause-err
transcode_from-returns-in-EndObject-clause-err t c refused = value_is c.args.depth _ ∙ grind arith

pub transcode_items-items-smaller : goal.transcode_items-items-smaller
transcode_items-items-smaller t c = search (rules, value_shorter)

pub transcode_items-items-preserved : goal.transcode_items-items-preserved
transcode_items-items-preserved t c =
    let f : Json → List Token = λ j. json_tokens (changed c.args.way j) in
    let g : Items → List Token = λ js. items_tokens (items_changed c.args.way js) in
    let p = value c.args.depth in
    let l = c.items in
    let r = c.transcode_value.new.reader in
    let going : (after_end_array l.reader ≡ None) × (c.take_end_array.new.self ≡ l.reader) = grind arith in
    let done : written f l.out.tokens (p l.reader)
    ≡ Some (c.transcode_value.new.out.tokens, r) = rw (← going.1) c.in_ok-transcode_value.ensures.ok in
    let less = value_shorter f c.args.depth l.out.tokens c.transcode_value.new.out.tokens l.reader r done in (
      c.in_ok-transcode_value.ensures.before ∙ l.invariant.0,
      λ a enough. let i = l.invariant.1 a enough in (
        i.0 - 1,
        omega (arith, i.1),
        i.2 ∙ item_written p f g (item_tokens c.args.way) i.0 l.out.tokens c.transcode_value.new.out.tokens l.reader r
            (omega (arith, i.1)) going.0 done,
      ),
    )

pub transcode_items-returns-in_err-transcode_value-clause-err : goal.transcode_items-returns-in_err-transcode_value-clause-err
transcode_items-returns-in_err-transcode_value-clause-err t c refused a enough =
    let g : Items → List Token = λ js. items_tokens (items_changed c.args.way js) in
    let l = c.items in
    let i = l.invariant.1 a enough in
    let going : (after_end_array l.reader ≡ None) × (c.take_end_array.new.self ≡ l.reader) = grind arith in
    none_written g _ l.out.tokens _ _ i.2 (items_fail (value c.args.depth) i.0 l.reader going.0 (rw (← going.1)
    (c.transcode_value.ensures.err (grind arith))))

pub transcode_items-returns-clause-ok : goal.transcode_items-returns-clause-ok
transcode_items-returns-clause-ok t c =
    let f : Json → List Token = λ j. json_tokens (changed c.args.way j) in
    let g : Items → List Token = λ js. items_tokens (items_changed c.args.way js) in
    let l = c.items in
    let r = c.take_end_array.new.self in
    let over : after_end_array l.reader ≡ Some r = grind arith in
    λ a enough. let i = l.invariant.1 a enough in
    i.2 ∙ items_over (value c.args.depth) f g (item_tokens c.args.way) i.0 l.out.tokens l.reader r i.1 over
    ∙ ap (λ us. Some (us, r)) (ap (λ js. l.out.tokens ++ items_tokens js) (no_items_changed c.args.way)
    ∙ sym c.in_ok-end_array.ensures.ok)

pub transcode_more-members-smaller : goal.transcode_more-members-smaller
transcode_more-members-smaller t c = search (rules, read_key-shorter, value_shorter)

pub transcode_more-members-preserved : goal.transcode_more-members-preserved
transcode_more-members-preserved t c =
    let f : List ℕ → Json → List Token = λ k j. json_tokens (member_changed c.args.way c.args.top k j) in
    let g : Members → List Token = λ ms. members_tokens (members_changed c.args.way c.args.top ms) in
    let p = value c.args.depth in
    let l = c.members in
    let k = c.in-Some.name.now in
    let s = c.next_key.new.self in
    let r = c.transcode_member.new.reader in
    let named : read_key l.reader ≡ Some (Some k, s) = grind arith in
    let less = read_key-shorter l.reader (Some k) s named in
    let done : written (f k) (l.out.tokens ++ Token.key k ∷ []) (p s)
    ≡ Some (c.transcode_member.new.out.tokens, r) = rw (← c.in_ok-key.ensures.ok) c.in_ok-transcode_member.ensures.ok in
    let lesser = value_shorter (f k) c.args.depth (l.out.tokens
    ++ Token.key k ∷ []) c.transcode_member.new.out.tokens s r done in (
      c.in_ok-transcode_member.ensures.before ∙ c.in_ok-key.ensures.room.0 ∙ l.invariant.0,
      λ a enough. let i = l.invariant.1 a enough in (
        i.0 - 1,
        omega (arith, i.1),
        i.2 ∙ member_written p f g (member_tokens c.args.way c.args.top) i.0 k l.out.tokens
            c.transcode_member.new.out.tokens l.reader s r (omega (arith, i.1)) named done,
      ),
    )

pub transcode_more-returns-in_err-name-clause-err : goal.transcode_more-returns-in_err-name-clause-err
transcode_more-returns-in_err-name-clause-err t c refused a enough =
    let g : Members → List Token = λ ms. members_tokens (members_changed c.args.way c.args.top ms) in
    let l = c.members in
    let i = l.invariant.1 a enough in
    none_written g _ l.out.tokens _ _ i.2 (members_no_key (value c.args.depth) i.0 l.reader c.in_err-name.ensures.value)

pub transcode_more-returns-in_err-transcode_member-clause-err : goal.transcode_more-returns-in_err-transcode_member-clause-err
transcode_more-returns-in_err-transcode_member-clause-err t c refused a enough =
    let g : Members → List Token = λ ms. members_tokens (members_changed c.args.way c.args.top ms) in
    let l = c.members in
    let i = l.invariant.1 a enough in
    let k = c.in-Some.name.now in
    let s = c.next_key.new.self in
    let named : read_key l.reader ≡ Some (Some k, s) = grind arith in
    none_written g _ l.out.tokens _ _ i.2 (members_fail (value c.args.depth) i.0 k l.reader s named
    (c.transcode_member.ensures.err (grind arith)))

pub transcode_more-returns-clause-ok : goal.transcode_more-returns-clause-ok
transcode_more-returns-clause-ok t c =
    let f : List ℕ → Json → List Token = λ k j. json_tokens (member_changed c.args.way c.args.top k j) in
    let g : Members → List Token = λ ms. members_tokens (members_changed c.args.way c.args.top ms) in
    let l = c.members in
    let r = c.next_key.new.self in
    let over : read_key l.reader ≡ Some (None, r) = grind arith in
    λ a enough. let i = l.invariant.1 a enough in
    i.2 ∙ members_over (value c.args.depth) f g (member_tokens c.args.way c.args.top) i.0 l.out.tokens l.reader r i.1
    over ∙ ap (λ us. Some (us, r)) (ap (λ ms. l.out.tokens ++ members_tokens ms)
    (no_members_changed c.args.way c.args.top) ∙ sym c.in_ok-end_object.ensures.ok)

pub transcode_members-returns-in_err-transcode_member-clause-err : goal.transcode_members-returns-in_err-transcode_member-clause-err
transcode_members-returns-in_err-transcode_member-clause-err t c refused n enough =
    let k = c.args.name.now in
    let s = c.args.reader.now in
    members_fail (value c.args.depth) n k (Token.key k ∷ s) s refl (c.transcode_member.ensures.err (grind arith))

pub transcode_members-returns-clause-ok : goal.transcode_members-returns-clause-ok
transcode_members-returns-clause-ok t c =
    let f : List ℕ → Json → List Token = λ k j. json_tokens (member_changed c.args.way c.args.top k j) in
    let g : Members → List Token = λ ms. members_tokens (members_changed c.args.way c.args.top ms) in
    let p = value c.args.depth in
    let out = c.args.out.now.tokens in
    let k = c.args.name.now in
    let s = c.args.reader.now in
    let now = c.transcode_member.new.out.tokens in
    let r = c.transcode_member.new.reader in
    let done : written (f k) (out ++ Token.key k ∷ []) (p s)
    ≡ Some (now, r) = rw (← c.in_ok-key.ensures.ok) c.in_ok-transcode_member.ensures.ok in
    let less = value_shorter (f k) c.args.depth (out ++ Token.key k ∷ []) now s r done in
    on_ok_weaker c.transcode_more.result (λ e n enough. member_written p f g (member_tokens c.args.way c.args.top) n k
    out now (Token.key k ∷ s) s r (omega (arith, enough)) refl done
    ∙ e (n - 1) (omega (arith, enough, less))) c.transcode_more.ensures.ok

pub transcode_members-returns-clause-err : goal.transcode_members-returns-clause-err
transcode_members-returns-clause-err t c refused n enough =
    let f : List ℕ → Json → List Token = λ k j. json_tokens (member_changed c.args.way c.args.top k j) in
    let g : Members → List Token = λ ms. members_tokens (members_changed c.args.way c.args.top ms) in
    let p = value c.args.depth in
    let out = c.args.out.now.tokens in
    let k = c.args.name.now in
    let s = c.args.reader.now in
    let now = c.transcode_member.new.out.tokens in
    let r = c.transcode_member.new.reader in
    let done : written (f k) (out ++ Token.key k ∷ []) (p s)
    ≡ Some (now, r) = rw (← c.in_ok-key.ensures.ok) c.in_ok-transcode_member.ensures.ok in
    let less = value_shorter (f k) c.args.depth (out ++ Token.key k ∷ []) now s r done in
    let none : members p (n - 1) r ≡ None = c.transcode_more.ensures.err (grind arith) (n - 1) (omega
    (arith, enough, less)) in
    none_written g out now (members p n (Token.key k ∷ s)) (members p (n - 1) r) (member_written p f g
    (member_tokens c.args.way c.args.top) n k out now (Token.key k ∷ s) s r (omega (arith, enough)) refl done) none

pub transcode_object-returns-in_err-name-clause-err : goal.transcode_object-returns-in_err-name-clause-err
transcode_object-returns-in_err-name-clause-err t c refused = search (rules, members_no_key)

pub transcode_object-returns-in_ok-begin_object-in-Some-clause-ok :
    goal.transcode_object-returns-in_ok-begin_object-in-Some-clause-ok
transcode_object-returns-in_ok-begin_object-in-Some-clause-ok t c =
    let g : Members → List Token = λ ms. members_tokens (members_changed c.args.way c.args.top ms) in
    let p = value c.args.depth in
    let out = c.args.out.now.tokens in
    let ts = c.args.reader.now in
    let k = c.in-Some.name.now in
    let s = c.next_key.new.self in
    let named : read_key ts ≡ Some (Some k, s) = grind arith in
    let other = untagged_here c.args.way k (sym c.if-is_decoded_tag.ensures) in
    let taken = read_key_is ts (Some k) s named in
    let less = read_key-shorter ts (Some k) s named in
    let begun = out ++ Token.begin_object ∷ [] in
    on_ok_weaker c.transcode_members.result (λ e. object_put c.args.way c.args.top out (members p (length ts) ts)
    (λ at. first_is_no_number p (length ts) k ts s named (λ j r is. other_name k j (other at)))
    ∙ ap (λ us. written g begun (members p (length ts) us)) taken
    ∙ ap (λ us. written g us (members p (length ts) (Token.key k ∷ s)))
    (sym c.in_ok-begin_object-in-Some.ensures.ok) ∙ e (length ts) (omega (arith, less))) c.transcode_members.ensures.ok

pub transcode_object-returns-in_ok-end_object-in-None-clause-ok :
    goal.transcode_object-returns-in_ok-end_object-in-None-clause-ok
transcode_object-returns-in_ok-end_object-in-None-clause-ok t c = search (rules, append_assoc, members_end, no_object)

pub decode_tagged-returns-in-Some-clause-err : goal.decode_tagged-returns-in-Some-clause-err
decode_tagged-returns-in-Some-clause-err t c refused n enough =
    let p = value c.args.depth in
    let k = c.args.name.now in
    let s = c.args.reader.now in
    let l = c.in-Some.next.now in
    let v = c.decode_first_member.new.reader in
    let w = subst (λ o. IsFirstWritten c.args.top c.args.depth k s c.args.out.now.tokens (option_map (λ x. x.now) o) v
    c.decode_first_member.new.out.tokens) c.in-Some.is c.in_ok-next.ensures.written in
    let lesser = read_key-shorter w.left (Some l) v w.named in
    members_more p n k (Token.key k ∷ s) s w.left w.j (omega (arith, enough)) refl w.read
    ∙ ap (parse_map (member k w.j)) (ap (members p (n - 1)) (read_key_is w.left (Some l) v w.named)
    ∙ c.transcode_members.ensures.err refused (n - 1) (omega (arith, enough, w.shorter, lesser)))

pub decode_tagged-returns-in-Some-clause-ok : goal.decode_tagged-returns-in-Some-clause-ok
decode_tagged-returns-in-Some-clause-ok t c =
    let f : List ℕ → Json → List Token = λ k j. json_tokens (out_of_form c.args.top k j (decoded j)) in
    let g : Members → List Token = λ ms. members_tokens (decoded_members c.args.top ms) in
    let p = value c.args.depth in
    let out = c.args.out.now.tokens in
    let k = c.args.name.now in
    let s = c.args.reader.now in
    let all = Token.key k ∷ s in
    let l = c.in-Some.next.now in
    let v = c.decode_first_member.new.reader in
    let w = subst (λ o. IsFirstWritten c.args.top c.args.depth k s out (option_map (λ x. x.now) o) v
    c.decode_first_member.new.out.tokens) c.in-Some.is c.in_ok-next.ensures.written in
    let lesser = read_key-shorter w.left (Some l) v w.named in
    let begun = out ++ Token.begin_object ∷ [] in
    let now = (begun ++ Token.key k ∷ []) ++ f k w.j in
    let wrote = w.now_is ∙ sym (append_assoc out (Token.begin_object ∷ []) (Token.key k ∷ f k w.j))
    ∙ sym (append_assoc begun (Token.key k ∷ []) (f k w.j)) in
    let done : written (f k) (begun ++ Token.key k ∷ []) (p s)
    ≡ Some (now, w.left) = ap (written (f k) (begun ++ Token.key k ∷ [])) w.read in
    on_ok_weaker c.transcode_members.result (λ e n enough. object_written c.args.top out (members p n all)
    (two_are_no_number p n k l all s w.left v w.j refl w.read w.named)
    ∙ member_written p f g (λ k j ms. refl) n k begun now all s w.left (omega (arith, enough)) refl done
    ∙ ap (λ us. written g now (members p (n - 1) us)) (read_key_is w.left (Some l) v w.named)
    ∙ ap (λ us. written g us (members p (n - 1) (Token.key l ∷ v))) (sym wrote)
    ∙ e (n - 1) (omega (arith, enough, w.shorter, lesser))) c.transcode_members.ensures.ok

pub decode_tagged-returns-in-None-clause-ok : goal.decode_tagged-returns-in-None-clause-ok
decode_tagged-returns-in-None-clause-ok t c =
    let f : Members → List Token = λ ms. json_tokens (decoded_object c.args.top ms) in
    let p = value c.args.depth in
    let out = c.args.out.now.tokens in
    let k = c.args.name.now in
    let s = c.args.reader.now in
    let r = c.decode_first_member.new.reader in
    let w = subst (λ o. IsFirstWritten c.args.top c.args.depth k s out (option_map (λ x. x.now) o) r
    c.decode_first_member.new.out.tokens) c.in-None.is c.in_ok-next.ensures.written in
    λ n enough. ap (written f out) (members_more p n k (Token.key k ∷ s) s w.left w.j (omega (arith, enough)) refl
    w.read ∙ ap (parse_map (member k w.j)) (members_end p (n - 1) w.left r (omega (arith, enough, w.shorter)) w.named))
    ∙ ap (λ us. Some (us, r)) (sym w.now_is)

pub transcode_attributes-returns-in_err-token-clause-err : goal.transcode_attributes-returns-in_err-token-clause-err
transcode_attributes-returns-in_err-token-clause-err t c refused = search (rules, value_is)

pub transcode_attributes-returns-then-depth-eq0-clause-err : goal.transcode_attributes-returns-then-depth-eq0-clause-err
unfolding value
transcode_attributes-returns-then-depth-eq0-clause-err t c never = search rules

pub transcode_attributes-returns-in_ok-write_attributes_number-in-Number-clause-ok :
    goal.transcode_attributes-returns-in_ok-write_attributes_number-in-Number-clause-ok
transcode_attributes-returns-in_ok-write_attributes_number-in-Number-clause-ok t c = search (rules, value_is)

pub transcode_attributes-returns-else-depth-eq0-clause-ok : goal.transcode_attributes-returns-else-depth-eq0-clause-ok
transcode_attributes-returns-else-depth-eq0-clause-ok t c =
    search (rules, value-begin_array, on_ok_weaker, written_with)

pub transcode_attributes-returns-else-depth-eq0-clause-err : goal.transcode_attributes-returns-else-depth-eq0-clause-err
transcode_attributes-returns-else-depth-eq0-clause-err t c refused = search (rules, value-begin_array)

pub transcode_attributes-returns-in_default : goal.transcode_attributes-returns-in_default
transcode_attributes-returns-in_default t c =
    let u = c.in_ok-token.token in
    let d = c.args.depth in
    let all = c.args.reader.now in
    let out = c.args.out.now.tokens in
    let f : Json → List Token = λ j. json_tokens (changed c.args.way j) in
    let g : Json → List Token = λ j. json_tokens (attributes_changed c.args.way j) in
    let is : all ≡ token_of u ∷ c.next.new.self = search rules in
    record {
      before = c.transcode_from.ensures.before;
      ok = on_ok_weaker c.transcode_from.result (λ e. written_as f g out c.transcode_from.new.out.tokens (value d all)
          c.transcode_from.new.reader (ap (λ ts. written f out (value d ts)) is ∙ e) (λ j read. ap json_tokens
          (attributes_other c.args.way d u c.next.new.self j c.transcode_from.new.reader c.in_default.not-BeginArray
          c.in_default.not-Number (sym (ap (value d) is) ∙ read)))) c.transcode_from.ensures.ok;
      err = λ refused. ap (value c.args.depth) is ∙ c.transcode_from.ensures.err refused;
    }

pub transcode_attributes_items-returns-then-take_end_array-clause-ok :
    goal.transcode_attributes_items-returns-then-take_end_array-clause-ok
transcode_attributes_items-returns-then-take_end_array-clause-ok t c n enough =
    let out = c.args.out.now.tokens in
    let ts = c.args.reader.now in
    let r = c.take_end_array.new.self in
    let over : after_end_array ts ≡ Some r = grind arith in
    let made = c.in_ok-end_array.ensures.ok ∙ ap (λ us. us ++ Token.end_array ∷ []) c.in_ok-begin_array.ensures.ok
    ∙ append_assoc out (Token.begin_array ∷ []) (Token.end_array ∷ []) in
    attributes_end (value c.args.depth) c.args.way n out ts r enough over ∙ ap (λ us. Some (us, r)) (sym made)

pub transcode_attributes_items-returns-in_err-first-clause-err :
    goal.transcode_attributes_items-returns-in_err-first-clause-err
transcode_attributes_items-returns-in_err-first-clause-err t c refused n enough = search (rules, items_fail)

pub transcode_attributes_items-returns-then-take_end_array-2-clause-ok :
    goal.transcode_attributes_items-returns-then-take_end_array-2-clause-ok
transcode_attributes_items-returns-then-take_end_array-2-clause-ok t c n enough =
    let ts = c.args.reader.now in
    let s = c.read.new.reader in
    let r = c.take_end_array-2.new.self in
    let going : (after_end_array ts ≡ None) × (c.take_end_array.new.self ≡ ts) = grind arith in
    let over : after_end_array s ≡ Some r = grind arith in
    attributes_single (value c.args.depth) c.args.way n c.args.out.now.tokens c.write_single.new.out.tokens ts s r
    (value_view c.in_ok-first.first) enough (rw (← going.1) c.in_ok-first.ensures.shorter) going.0
    (rw (← going.1) c.in_ok-first.ensures.ok) over c.in_ok-write_single.ensures.tokens

pub transcode_attributes_items-returns-clause-ok : goal.transcode_attributes_items-returns-clause-ok
transcode_attributes_items-returns-clause-ok t c =
    let out = c.args.out.now.tokens in
    let ts = c.args.reader.now in
    let s = c.read.new.reader in
    let j = value_view c.in_ok-first.first in
    let now = c.write_tree.new.out.tokens in
    let going : (after_end_array ts ≡ None) × (c.take_end_array.new.self ≡ ts) = grind arith in
    let more : (after_end_array s ≡ None) × (c.take_end_array-2.new.self ≡ s) = grind arith in
    let less : length s < length ts = rw (← going.1) c.in_ok-first.ensures.shorter in
    let made = c.in_ok-write_tree.ensures.tokens
    ∙ ap (λ us. us ++ json_tokens (changed c.args.way j)) c.in_ok-begin_array-2.ensures.ok in
    on_ok_weaker c.transcode_items.result (λ e n enough. attributes_several (value c.args.depth) c.args.way n out now ts
    s j (omega (arith, enough, less)) going.0 (rw (← going.1) c.in_ok-first.ensures.ok) more.0 made
    ∙ ap (λ us. written (λ js. items_tokens (items_changed c.args.way js)) now (items (value c.args.depth) (n - 1) us))
    (sym more.1)
    ∙ e (n - 1) (omega (arith, enough, less, ap length more.1))) c.transcode_items.ensures.ok

pub transcode_attributes_items-returns-clause-err : goal.transcode_attributes_items-returns-clause-err
transcode_attributes_items-returns-clause-err t c refused n enough =
    let p = value c.args.depth in
    let ts = c.args.reader.now in
    let s = c.read.new.reader in
    let j = value_view c.in_ok-first.first in
    let going : (after_end_array ts ≡ None) × (c.take_end_array.new.self ≡ ts) = grind arith in
    let more : (after_end_array s ≡ None) × (c.take_end_array-2.new.self ≡ s) = grind arith in
    let less : length s < length ts = rw (← going.1) c.in_ok-first.ensures.shorter in
    items_more p n ts s j (omega (arith, enough, less)) going.0 (rw (← going.1) c.in_ok-first.ensures.ok)
    ∙ ap (parse_map (item j)) (ap (items p (n - 1)) (sym more.1)
    ∙ c.transcode_items.ensures.err refused (n - 1) (omega (arith, enough, less, ap length more.1)))
