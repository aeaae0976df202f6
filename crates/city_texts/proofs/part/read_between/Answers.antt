use Rattle.city_texts.proofs.Prelude.{◌≡◌, [], ◌∷◌, ◌++◌, arith}
use Rattle.city_texts.proofs.Parts.{next_push}
use Rattle.city_texts.proofs.part.read_between.Goals as goal

pub parts-preserved : goal.parts-preserved
parts-preserved g c =
    let l = c.parts in
    let x = c.in_ok-part.part in
    let pushed : c.push.new.self.items ≡ l.parts.items ++ x ∷ [] = grind arith in
    rw pushed (next_push g.T.Part.stands l.parts.items x _ _ _ l.invariant c.in_ok-part.ensures.stands)
