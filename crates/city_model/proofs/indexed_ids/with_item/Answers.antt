use Rattle.city_model.proofs.Prelude.{ap}
use Rattle.city_model.proofs.IdIndexes.{entry_with}
use Rattle.city_model.specs.declared.id_tree.Entry.{Entry}
use Rattle.city_model.proofs.indexed_ids.with_item.Goals as goal

pub returns : goal.returns
returns c =
    entry_with c.args.by_id c.in_ok-entries.entries c.args.item c.get.result.now.id c.place_of_id-at.result c.requires
    (ap (λ (e : Entry). e.id) c.get.ensures) c.place_of_id-at.ensures c.in_ok-entries.ensures
