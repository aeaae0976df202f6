use Rattle.city_scheduler.proofs.Prelude.{ap, ◌∙◌, arith}
use Rattle.city_scheduler.proofs.Shelved.{shows_core}
use Rattle.city_scheduler.proofs.OpenTurns.{place_for_end, place_for_reply, turn_goes_on, turn_ends}
use Rattle.city_scheduler.proofs.desk.Desk.go_on.Goals as goal

pub step-requires-clause-shows : goal.step-requires-clause-shows
step-requires-clause-shows g c κs within = shows_core _ _ _ c.self.invariant.0

pub step-requires-clause-place : goal.step-requires-clause-place
step-requires-clause-place g c κs within =
    place_for_reply g.S.Shelf.list c.self.view_is c.self.invariant.0 c.self.invariant.1 c.requires.opened
    c.requires.there c.index_mut-progress.ensures.value

pub record_end-requires : goal.record_end-requires
record_end-requires g c =
    let less = place_for_end g.S.Shelf.list c.self.view_is c.self.invariant.0 c.self.invariant.1 c.requires.opened
    c.requires.there in
    omega arith

pub invariant_of-self : goal.invariant_of-self
invariant_of-self g c =
    let t = turn_goes_on g.S.Shelf.list c.self.view_is c.self.invariant.0 c.self.invariant.1 c.requires.opened
    c.requires.there c.index_mut-progress.ensures.value c.index.ensures c.commands.ensures.commands c.len-number.ensures
    c.index-commands-number.is c.in-GoesOn.ensures.stepped in
    (rw c.step.ensures.base t.serial, t.room_left)

pub returns-in-GoesOn-clause-turned : goal.returns-in-GoesOn-clause-turned
returns-in-GoesOn-clause-turned g c =
    let t = turn_goes_on g.S.Shelf.list c.self.view_is c.self.invariant.0 c.self.invariant.1 c.requires.opened
    c.requires.there c.index_mut-progress.ensures.value c.index.ensures c.commands.ensures.commands c.len-number.ensures
    c.index-commands-number.is c.in-GoesOn.ensures.stepped in
    t.turned

pub invariant_of-self-in-Ends : goal.invariant_of-self-in-Ends
invariant_of-self-in-Ends g c =
    let t = turn_ends g.S.Shelf.list c.self.view_is c.self.invariant.0 c.self.invariant.1 c.requires.opened
    c.requires.there c.index_mut-progress.ensures.value c.index.ensures c.commands.ensures.commands c.len-number.ensures
    c.index-commands-number.is c.record_end.new.name c.in-Ends.ensures.stepped c.record_end.ensures.progress
    c.record_end.ensures.ends c.index_mut.ensures.value c.record_end.ensures.room in
    (rw c.step.ensures.base t.serial, t.room_left)

pub returns-in-Ends : goal.returns-in-Ends
returns-in-Ends g c =
    let t = turn_ends g.S.Shelf.list c.self.view_is c.self.invariant.0 c.self.invariant.1 c.requires.opened
    c.requires.there c.index_mut-progress.ensures.value c.index.ensures c.commands.ensures.commands c.len-number.ensures
    c.index-commands-number.is c.record_end.new.name c.in-Ends.ensures.stepped c.record_end.ensures.progress
    c.record_end.ensures.ends c.index_mut.ensures.value c.record_end.ensures.room in
    record {
      turned = t.turned;
      changes = t.changes;
      base = c.step.ensures.base ∙ ap (λ v. g.S.Shelf.base v.1) c.self.view_is;
      name = c.step.ensures.name ∙ ap (λ v. g.S.Shelf.name v.1) c.self.view_is;
      published = c.step.ensures.published ∙ ap (λ v. g.S.Shelf.published v.1) c.self.view_is;
    }
