use Rattle.city_tokens.proofs.Prelude.{◌≡◌, [], ◌∷◌, ◌++◌, sym, ap, ◌∙◌, append_assoc, append-nil, arith}
use Rattle.city_tokens.proofs.Pairing.{pairs_push}
use Rattle.city_tokens.proofs.Reading.{value_shorter, items_begin, items_next, items_end}
use Rattle.city_tokens.proofs.list.read_rest.Goals as goal

pub items-init : goal.items-init
items-init g c = ([], [], sym (append-nil c.args.read.items), tt, items_begin c.args.depth c.args.reader.now)

pub items-smaller : goal.items-smaller
items-smaller g c =
    let same : c.take_end_array.new.self ≡ c.items.reader = grind arith in
    value_shorter _ _ _ _ (rw same at c.in_ok-one.ensures.1)

pub items-preserved : goal.items-preserved
items-preserved g c =
    let l = c.items in
    let one = c.in_ok-one.ensures in
    let x = c.in_ok-one.one in
    let same : c.take_end_array.new.self ≡ l.reader = grind arith in
    let pushed : c.push.new.self.items ≡ l.all.items ++ x ∷ [] = grind arith in (
      l.invariant.0 ++ x ∷ [],
      l.invariant.1 ++ one.0 ∷ [],
      pushed ∙ ap (λ xs. xs ++ x ∷ []) l.invariant.2 ∙ append_assoc c.args.read.items l.invariant.0 (x ∷ []),
      pairs_push g.T.FromTokens.stands l.invariant.0 l.invariant.1 x one.0 l.invariant.3 one.2,
      items_next l.invariant.4 (rw same at one.1),
    )

pub returns : goal.returns
returns g c =
    let i = c.items.invariant in
    let all : c.from_vec.result ≡ c.args.read.items ++ i.0 = c.from_vec.ensures
    ∙ c.shrink_to_fit.ensures.items ∙ i.2 in
    (i.0, i.1, all, i.3, items_end i.4 (grind arith))
