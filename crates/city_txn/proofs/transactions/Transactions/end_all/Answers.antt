use Rattle.city_txn.proofs.Prelude.{◌≡◌, [], arith, refl}
use Rattle.std.proofs.lemmas.List.{nil_from_length}
use Rattle.city_txn.proofs.StoreChanged.{none_ended, one_ended, all_ended}
use Rattle.city_txn.proofs.transactions.Transactions.end_all.Goals as goal

pub loop-id-init : goal.loop-id-init
loop-id-init c = record { ended = none_ended c.args.end c.args.city.now c.args.self.now.images; reservations = refl }

pub settle-requires : goal.settle-requires
settle-requires c =
    let id = c.in-Some.id in
    let object = c.loop-id.invariant.ended.objects id in
    let image = c.loop-id.invariant.ended.images id in
    let there = c.in-Some.ensures.value in
    let room = c.requires id in
    grind arith

pub loop-id-preserved : goal.loop-id-preserved
loop-id-preserved c = record {
  ended = one_ended c.args.end c.in-Some.id c.in-Some.image c.loop-id.invariant.ended c.in-Some.ensures.value
      c.in-Some.ensures.updates.0 c.settle.ensures.frame c.settle.ensures.after;
  reservations = c.loop-id.invariant.reservations;
}

pub returns : goal.returns
returns c =
    let none : c.loop-id.self.images.entries ≡ [] =
    nil_from_length c.loop-id.self.images.entries (let some = c.in_default.ensures.variant in grind arith) in
    record {
      became = all_ended c.args.end c.loop-id.invariant.ended none c.in_default.ensures.unchanged
          c.pop_last.ensures.ordered;
      reservations = c.loop-id.invariant.reservations;
    }
