use Rattle.city_model.proofs.Prelude.{◌≡◌, ◌∙◌, refl, sym, ap, true, are_increasing, rules}
use Rattle.city_model.proofs.IdIndexes.{own_index, alike, indexing_none, indexing_more, indexing_all}
use Rattle.std.proofs.lemmas.Result.{IfOk-weaker}
use Rattle.city_model.specs.Chunks.{ids_of}
use Rattle.city_model.specs.internal.IdTrees.{IsIndex}
use Rattle.city_trees.specs.Items.{items_left}
use Rattle.city_model.proofs.indexed_ids.index_of.Goals as goal

pub returns-then-are_increasing : goal.returns-then-are_increasing
returns-then-are_increasing c =
    let by_place = c.args.by_place.now in
    let increasing : are_increasing (ids_of by_place) ≡ true =
    ap are_increasing (sym c.in_tree.ensures) ∙ sym c.are_increasing.ensures ∙ c.if-are_increasing.true in
    IfOk-weaker c.copy.result (λ tree. tree ≡ by_place) (λ by_id. IsIndex (ids_of by_id) (ids_of by_place))
    (λ by_id same. alike by_place by_id by_place by_place (own_index (ids_of by_place) increasing) same refl)
    c.copy.ensures

pub loop-item-init : goal.loop-item-init
loop-item-init c =
    let left : items_left c.into_iter-item-iterator.result ≡ c.args.by_place.now = search rules in
    indexing_none c.new-by_id.result (items_left c.into_iter-item-iterator.result) c.args.by_place.now
    c.new-by_id.ensures left

pub with_item-requires : goal.with_item-requires
with_item-requires c = c.loop-item.invariant.ascends

pub loop-item-preserved : goal.loop-item-preserved
loop-item-preserved c =
    indexing_more c.loop-item.by_id c.in_ok-by_id.by_id (items_left c.loop-item.item-iterator)
    (items_left c.next.new.self) c.args.by_place.now
    c.in-Some.item.now c.in_ok-copy.field-0 c.loop-item.invariant c.in-Some.ensures.steps
    c.in_ok-copy.ensures c.in_ok-by_id.ensures

pub returns : goal.returns
returns c =
    indexing_all c.loop-item.by_id (items_left c.loop-item.item-iterator) c.args.by_place.now c.loop-item.invariant
    c.in-None.ensures.steps.0
