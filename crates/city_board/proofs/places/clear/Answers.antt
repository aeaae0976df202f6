use Rattle.city_board.proofs.Prelude.{◌<◌, length, arith, take, None, sym, ap, ◌∙◌, if◌then◌else◌, CityMap, CityValue}
use Rattle.city_board.proofs.Prelude.{object_at, has_id, same_id, has_id_more}
use Rattle.city_board.proofs.Placed.{cleared_more}
use Rattle.city_board.proofs.places.clear.Goals as goal

pub loop-id-preserved : goal.loop-id-preserved
loop-id-preserved c =
    let id = c.id-item.result in
    let ids = c.args.ids.now in
    let n = c.loop-id.id-index in
    let lt : n < length ids = omega arith in
    record {
      frame = ap (λ (d : CityValue). d.0) c.remove.ensures.objects ∙ c.loop-id.invariant.frame;
      objects = λ q.
          cleared_more (object_at c.args.city.now.1 q) (object_at c.loop-id.city.1 q) (object_at c.remove.new.self.1 q)
          (has_id (take n ids) q) (same_id id q) (c.loop-id.invariant.objects q)
          (ap (λ (m : CityMap). m q) c.remove.ensures.map)
          ∙ ap (λ b. if b then None else object_at c.args.city.now.1 q) (sym (has_id_more ids n id q lt c.id-item.is));
    }
