use Rattle.city_scheduler.proofs.Prelude.{◌≡◌, length, ap, arith}
use Rattle.city_scheduler.proofs.BeginTurns.{place_for_end, turn_begins, turn_unbegun}
use Rattle.city_scheduler.proofs.desk.Desk.begin.Goals as goal

pub record_end-requires : goal.record_end-requires
record_end-requires g c =
    let less = place_for_end g.S.Shelf.list c.self.view_is c.self.invariant.0 c.self.invariant.1 c.requires.its
    c.requires.there in
    omega arith

pub invariant_of-self : goal.invariant_of-self
invariant_of-self g c =
    let t = turn_unbegun g.S.Shelf.list c.self.view_is c.self.invariant.0 c.self.invariant.1 c.requires.its
    c.requires.there c.index_mut-progress.ensures.value (omega arith) c.record_end.new.name c.in_default.ensures.err
    c.record_end.ensures.progress c.record_end.ensures.ends c.index_mut.ensures.value c.record_end.ensures.room in
    (t.serial, t.room_left)

pub returns-in_default : goal.returns-in_default
returns-in_default g c =
    let t = turn_unbegun g.S.Shelf.list c.self.view_is c.self.invariant.0 c.self.invariant.1 c.requires.its
    c.requires.there c.index_mut-progress.ensures.value (omega arith) c.record_end.new.name c.in_default.ensures.err
    c.record_end.ensures.progress c.record_end.ensures.ends c.index_mut.ensures.value c.record_end.ensures.room in
    record {
      turned = t.turned;
      changes = t.changes;
      base = ap (λ v. g.S.Shelf.base v.1) c.self.view_is;
      name = ap (λ v. g.S.Shelf.name v.1) c.self.view_is;
      published = ap (λ v. g.S.Shelf.published v.1) c.self.view_is;
    }

pub invariant_of-self-2 : goal.invariant_of-self-2
invariant_of-self-2 g c =
    let since : c.len-since.result ≡ length c.self.inside.ends.items = omega arith in
    let t = turn_begins g.S.Shelf.list c.self.view_is c.self.invariant.0 c.self.invariant.1 c.requires.its
    c.requires.there c.index_mut-progress.ensures.value since c.requires.begun c.in-Ok.ensures.keeps
    c.begin.ensures.city c.in-Ok.ensures.opened c.in-Ok.ensures.own in
    (t.serial, t.room_left)
