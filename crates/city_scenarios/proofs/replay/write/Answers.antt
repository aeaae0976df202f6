use Rattle.std.proofs.Common.{◌≡◌, ℕ, List, ◌∷◌, Option, ap, sym, ◌∙◌}
use Rattle.std.specs.Vec.Iter.{into_iter_items}
use Rattle.city_model.specs.declared.object.Object.{Object}
use Rattle.city_model.specs.CityMap.{CityMap, object_at, changed}
use Rattle.city_model.specs.Runs.{Change, after_change}
use Rattle.city_scenarios.proofs.replay.write.Goals as goal

-- the rest of a change leads to the same map once its first id is written
one_written : (m n : CityMap) (id : List ℕ) (w : Option Object) (all rest : Change) (last : CityMap) →
    after_change m all ≡ last → all ≡ (id, w) ∷ rest → n ≡ changed m id w → after_change n rest ≡ last
one_written m n id w all rest last leads split made =
    ap (λ (x : CityMap). after_change x rest) made ∙ sym (ap (λ (ws : Change). after_change m ws) split) ∙ leads

pub loop-id-preserved-in-Some-object : goal.loop-id-preserved-in-Some-object
loop-id-preserved-in-Some-object c =
    let m = object_at c.loop-id.city.1 in
    one_written m (object_at c.set.new.self.1) c.in-Some.id c.in-Some.object (into_iter_items c.loop-id.id-iterator)
    (into_iter_items c.next.new.self) _
    c.loop-id.invariant c.in-Some.ensures.steps.0
    (c.in_ok-set-in-Some-object.ensures.map ∙ ap (λ w. changed m c.in-Some.id w) (sym c.in-Some-object.is))

pub loop-id-preserved : goal.loop-id-preserved
loop-id-preserved c =
    let m = object_at c.loop-id.city.1 in
    one_written m (object_at c.remove.new.self.1) c.in-Some.id c.in-Some.object (into_iter_items c.loop-id.id-iterator)
    (into_iter_items c.next.new.self) _
    c.loop-id.invariant c.in-Some.ensures.steps.0
    (c.remove.ensures.map ∙ ap (λ w. changed m c.in-Some.id w) (sym c.in-None-object.is))
