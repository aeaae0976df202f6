use Rattle.city_tokens.proofs.Prelude.{◌≡◌, ◌++◌, true, refl, sym, ap, ◌∙◌, arith, rules, token_of, array, object}
use Rattle.city_tokens.proofs.Prelude.{items_of}
use Rattle.city_members.specs.Kept.{kept_at_attributes}
use Rattle.city_tokens.proofs.Reading.{seen_token, array_value, object_value}
use Rattle.city_tokens.proofs.other.read_attributes.Goals as goal

pub returns-in_ok-values-in-BeginObject-clause-read : goal.returns-in_ok-values-in-BeginObject-clause-read
returns-in_ok-values-in-BeginObject-clause-read c =
    let read = c.in_ok-members-in-BeginObject in
    let values = c.in_ok-values-in-BeginObject in
    let is : values.values ≡ read.members = search rules in
    let kept : kept_at_attributes values.values ≡ true = rw is read.ensures.whole in
    let seen = seen_token c.in_ok-opened.ensures (ap token_of c.in-BeginObject.is) refl
    (object_value c.args.depth _ _ _ (omega arith) read.ensures) in
    (object read.members, seen, (ap object (sym is), kept))

pub returns-in_ok-names-in-BeginArray-clause-read : goal.returns-in_ok-names-in-BeginArray-clause-read
returns-in_ok-names-in-BeginArray-clause-read c =
    let names = c.in_ok-names-in-BeginArray in
    let rest = names.ensures in
    let same : names.names ≡ rest.0 = rest.2 ∙ ap (λ xs. xs ++ rest.0) c.new-in-BeginArray.ensures.items in
    let seen = seen_token c.in_ok-opened.ensures (ap token_of c.in-BeginArray.is) refl
    (array_value c.args.depth _ _ _ (omega arith) rest.4) in
    (array (items_of rest.1), seen, (rest.1, refl, rw same rest.3))
