use Rattle.city_txn.proofs.Prelude.{◌≡◌, ◌∙◌, ◌∷◌, [], same_id, plans, write_of}
use Rattle.std.proofs.Common.{is_ok}
use Rattle.city_txn.proofs.FirstWrites.{only_one, only_planned, only_written}
use Rattle.city_txn.proofs.Touched.{touches_more}
use Rattle.city_txn.proofs.store.Store.write_once.Goals.{In-Some}
use Rattle.city_txn.proofs.store.Store.write_once.Goals as goal

is_only : (c : In-Some) → c.args.writes.items ≡ (c.in-Some.id, c.in-Some.object) ∷ []
is_only c = only_one c.args.writes.items c.pop.new.self.items (c.in-Some.id, c.in-Some.object) c.in-Some.ensures.items
    c.requires.one

pub put-requires : goal.put-requires
put-requires c =
    let may = c.requires.may in
    let is = is_only (goal.at.put-requires c).In-Some in
    record {
      opened = may.opened;
      alone = λ q h. may.alone q (only_planned c.args.writes.items (c.in-Some.id, c.in-Some.object) is q ∙ h);
    }

pub returns-in-Some-clause-touches : goal.returns-in-Some-clause-touches
returns-in-Some-clause-touches c =
    let is = is_only (goal.at.returns-in-Some-clause-touches c).In-Some in
    touches_more c.args.stamp (same_id c.in-Some.id) (plans c.args.writes.items) c.args.self.now c.put.new.self
    (λ q h. only_planned c.args.writes.items (c.in-Some.id, c.in-Some.object) is q ∙ h) c.put.ensures.touches

pub returns-in-Some-clause-writes : goal.returns-in-Some-clause-writes
returns-in-Some-clause-writes c q =
    c.put.ensures.writes q
    ∙ only_written c.args.writes.items (c.in-Some.id, c.in-Some.object)
    (is_only (goal.at.returns-in-Some-clause-writes c).In-Some) c.args.stamp (is_ok c.put.result) q
    (write_of c.args.self.now.writes q)
