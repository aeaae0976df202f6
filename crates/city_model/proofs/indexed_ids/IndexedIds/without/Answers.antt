use Rattle.city_model.proofs.Prelude.{◌≡◌, ◌∙◌, sym, ap, subst, without_id, AreDistinct}
use Rattle.city_model.proofs.IdLists.{without_absent}
use Rattle.city_model.proofs.IdIndexes.{alike, entry_less, ids_less, ids_kept}
use Rattle.city_model.specs.Chunks.{ids_of}
use Rattle.city_model.proofs.indexed_ids.IndexedIds.without.Goals as goal

pub returns-in_default : goal.returns-in_default
returns-in_default c =
    let id = c.args.id.now in
    let by_place = c.in_ok-by_place.by_place in
    let by_id = c.in_ok-by_id.by_id in
    let index =
    alike c.self.inside.by_id by_id c.self.inside.by_place by_place c.self.invariant c.in_ok-by_id.ensures
    c.in_ok-by_place.ensures in
    ids_kept (ids_of by_id) (ids_of by_place) id index c.in_default.ensures.none
    ∙ ap (without_id id) (ap ids_of c.in_ok-by_place.ensures ∙ c.self.view_is)

pub returns-in_default-find_labelled : goal.returns-in_default-find_labelled
returns-in_default-find_labelled c =
    let id = c.args.id.now in
    let by_place = c.in_ok-by_place.by_place in
    sym (without_absent id (ids_of by_place) c.in_default-find_labelled.ensures.none)
    ∙ ap (without_id id) (ap ids_of c.in_ok-by_place.ensures ∙ c.self.view_is)

pub invariant_of-result-2 : goal.invariant_of-result-2
invariant_of-result-2 c =
    let by_place = c.in_ok-by_place.by_place in
    let by_id = c.in_ok-by_id.by_id in
    let index =
    alike c.self.inside.by_id by_id c.self.inside.by_place by_place c.self.invariant c.in_ok-by_id.ensures
    c.in_ok-by_place.ensures in
    entry_less by_id by_place c.in_ok-by_id-2.by_id c.in_ok-by_place-2.by_place c.args.id.now c.in-Some.at
    c.in-Some-find_labelled.place index c.in-Some.ensures.some c.in-Some-find_labelled.ensures.some
    c.in_ok-by_id-2.ensures c.in_ok-by_place-2.ensures

pub returns : goal.returns
returns c =
    let id = c.args.id.now in
    let by_place = c.in_ok-by_place.by_place in
    let same : ids_of by_place ≡ c.args.self.now = ap ids_of c.in_ok-by_place.ensures ∙ c.self.view_is in
    ids_less by_place c.in_ok-by_place-2.by_place id c.in-Some-find_labelled.place
    (subst AreDistinct (sym same) c.requires) c.in-Some-find_labelled.ensures.some c.in_ok-by_place-2.ensures
    ∙ ap (without_id id) same
