use Rattle.city_details.proofs.Prelude.{◌≡◌, ◌∙◌, ◌∷◌, ◌++◌, [], ap, arith, object, view-Object}
use Rattle.serde_json.specs.declared.value.Value.{Object}
use Rattle.city_details.proofs.Floats.{object_pushed}
use Rattle.city_details.proofs.details.object_values.Goals as goal

pub loop-item-preserved : goal.loop-item-preserved
loop-item-preserved c =
    let l = c.loop-item in
    let seen = view-Object c.into_members.result ∙ ap object c.into_members.ensures.members in
    let pushed : c.push.new.self.items ≡ l.values.items ++ Object c.into_members.result ∷ [] = grind arith in
    rw pushed (object_pushed l.values.items l.yielded (Object c.into_members.result) c.in-Some.item l.invariant.0
    l.invariant.1 seen c.into_members.ensures.no_float)
