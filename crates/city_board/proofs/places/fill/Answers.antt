use Rattle.city_board.proofs.Prelude.{◌≡◌, ◌<◌, ℕ, List, length, arith, Some, sym, ap, ◌∙◌, CityMap, CityValue}
use Rattle.city_board.proofs.Prelude.{object_at, changed, changed_apart, has_id_more}
use Rattle.city_board.proofs.Placed.{apart_from, filled_more}
use Rattle.city_board.proofs.places.fill.Goals as goal

pub loop-id-preserved : goal.loop-id-preserved
loop-id-preserved c =
    let m = object_at c.loop-id.city.1 in
    let id = c.id-item.result in
    let ids = c.args.ids.now in
    let lt : c.loop-id.id-index < length ids = omega arith in
    let object = c.placeholder.result in
    let map : (q : List ℕ) → object_at c.set.new.self.1 q ≡ changed m id (Some object) q =
    λ q. ap (λ (n : CityMap). n q) c.in_ok-set.ensures.map ∙ ap (λ k. changed m k (Some object) q) c.in_ok-copy.ensures
    in
    record {
      frame = ap (λ (d : CityValue). d.0) c.in_ok-set.ensures.objects ∙ c.loop-id.invariant.frame;
      others = λ q none. map q
          ∙ changed_apart m id (Some object) q (apart_from ids c.loop-id.id-index id q lt c.id-item.is none)
          ∙ c.loop-id.invariant.others q none;
      there = λ q h. filled_more m (object_at c.set.new.self.1) object _ id q (map q) (c.loop-id.invariant.there q)
          (sym (has_id_more ids c.loop-id.id-index id q lt c.id-item.is) ∙ h);
    }
