use Rattle.city_txn.proofs.Prelude.{arith, rules}
use Rattle.std.proofs.lemmas.Map.Lookups.{exact_bytes}
use Rattle.city_txn.proofs.transactions.Transactions.end.Goals as goal

pub settle-requires : goal.settle-requires
settle-requires c =
    let key = exact_bytes c.args.id.now c.in-Some.key c.in-Some.ensures.same_key in
    let image = c.in-Some.ensures.value in
    grind arith

pub returns-in-Some-clause-became : goal.returns-in-Some-clause-became
returns-in-Some-clause-became c = record {
  frame = search rules;
  object_is = λ q.
      let key = exact_bytes c.args.id.now c.in-Some.key c.in-Some.ensures.same_key in
      let image = c.in-Some.ensures.value in
      let after = c.settle.ensures.after q in
      grind arith;
  image_is = search rules;
  ordered = search rules;
}
