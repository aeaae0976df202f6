use Rattle.city_texts.proofs.Prelude.{◌≡◌, [], ◌++◌, refl, append_assoc, append-nil, arith, rules, into_iter_items}
use Rattle.std.proofs.lemmas.List.{nil_from_length}
use Rattle.city_tokens.specs.internal.Stretches.{AreJoined}
use Rattle.city_texts.proofs.stretches.joined.Goals as goal

pub loop-stretch-preserved : goal.loop-stretch-preserved
loop-stretch-preserved c rest h =
    let l = c.loop-stretch in
    let objects = c.in_ok-objects.objects in
    let appended : c.append.new.self.items ≡ l.all.items ++ objects.items = grind arith in
    let left : AreJoined (into_iter_items l.stretch-iterator) (objects.items ++ rest) =
    rw (c.in-Some.ensures.steps.0, c.in_ok-objects.was) (rest, refl, h) in
    rw (appended, append_assoc l.all.items objects.items rest) (l.invariant (objects.items ++ rest) left)

pub returns : goal.returns
returns c =
    let l = c.loop-stretch in
    let none : into_iter_items l.stretch-iterator ≡ [] = nil_from_length (into_iter_items l.stretch-iterator)
    (search rules) in
    let all : AreJoined (into_iter_items l.stretch-iterator) [] = rw none refl in
    rw append-nil at (l.invariant [] all)
