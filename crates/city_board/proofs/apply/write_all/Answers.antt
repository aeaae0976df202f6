use Rattle.city_board.proofs.Prelude.{rules, ◌≡◌, ◌∷◌, ◌∙◌, ap, sym, subst, is_some, keys_of, CityMap, object_at}
use Rattle.city_board.proofs.Prelude.{same_id, has_id, Change, after_change, changed_apart}
use Rattle.std.proofs.lemmas.Bool.{or_left, or_right}
use Rattle.city_members.proofs.Ids.{same_id_itself}
use Rattle.city_model.proofs.ChangeLaws.{Ascends, first_once}
use Rattle.city_board.proofs.apply.write_all.Goals as goal

pub write-requires : goal.write-requires
write-requires c = search (rules, or_left, same_id_itself)

pub loop-id-preserved : goal.loop-id-preserved
loop-id-preserved c =
    let m = object_at c.loop-id.city.1 in
    let id = c.in-Some.id in
    let object = c.in-Some.object in
    let rest = c.pop_first.new.self in
    let split : c.loop-id.change ≡ (id, object) ∷ rest = c.in-Some.ensures.pairs in
    let ascends : Ascends ((id, object) ∷ rest) =
    subst (λ (ws : Change). Ascends ws) split c.in-Some.ensures.in_byte_order in
    record {
      frame = c.write.ensures.frame ∙ c.loop-id.invariant.frame;
      objects = ap (λ (n : CityMap). after_change n rest) c.write.ensures.objects
          ∙ sym (ap (λ es. after_change m es) split) ∙ c.loop-id.invariant.objects;
      there = λ q h.
          let before =
          c.loop-id.invariant.there q (ap (λ es. has_id (keys_of es) q) split
          ∙ or_right (same_id q id) (has_id (keys_of rest) q) h) in
          ap (λ (n : CityMap). is_some (n q)) c.write.ensures.objects
          ∙ ap is_some
          (changed_apart m id object q (first_once (id, object) rest q ascends h))
          ∙ before;
    }
