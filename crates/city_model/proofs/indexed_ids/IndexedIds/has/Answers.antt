use Rattle.city_model.proofs.Prelude.{◌∙◌, ap, has_id}
use Rattle.city_model.proofs.IdOrders.{found_or_not}
use Rattle.city_model.proofs.IdIndexes.{index_has}
use Rattle.city_model.specs.Chunks.{ids_of}
use Rattle.city_model.proofs.indexed_ids.IndexedIds.has.Goals as goal

pub returns : goal.returns
returns c =
    let id = c.args.id.now in
    let index = ids_of c.self.inside.by_id in
    found_or_not c.find.result c.is_some.result index id c.is_some.ensures c.find.ensures.some c.find.ensures.none
    ∙ index_has index (ids_of c.self.inside.by_place) id c.self.invariant
    ∙ ap (λ ids. has_id ids id) c.self.view_is
