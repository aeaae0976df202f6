use Rattle.city_board.proofs.Prelude.{rules, Some, ◌≡◌, ◌++◌, [], drop, sym, ◌∙◌, subst, refl, append-nil, view}
use Rattle.city_board.proofs.Prelude.{HoldsEdits, IsLater, Version}
use Rattle.city_board.proofs.HeldEdits.{holds_published}
use Rattle.city_board.proofs.KeptRule.{publishes}
use Rattle.city_board.proofs.LaterVersions.{all_later}
use Rattle.city_board.proofs.Prefixes.{prefix_self}
use Rattle.city_board.proofs.Results.{from_some, from_ok}
use Rattle.city_board.proofs.poster.Poster.publish.Goals as goal

pub publish_as-writer-requires : goal.publish_as-writer-requires
publish_as-writer-requires g c next is =
    let p = c.self.inside in
    let w = c.append_all.new.writer in
    let there : p.writer ≡ Some c.in-Some.own = sym c.take.ensures.value ∙ c.in-Some.is in
    let old = from_some p.writer c.in-Some.own _ there c.self.invariant.3 in
    let desk : c.in-Some.own.writer.desk ≡ w.desk = search rules in
    let none : c.append_all.new.waiting.items ≡ [] = search rules in
    let edits : drop c.in-Some.own.writer.behind c.in-Some.own.writer.log.items ++ p.waiting.items ≡ drop w.behind
    w.log.items =
    rw (← c.into_parts-writer.ensures.writer, ← c.append_all.ensures.edits, none) (append-nil _) in
    let held : HoldsEdits w.desk.shown.value (view w.desk.place) (drop w.behind w.log.items) p.opening p.published
    p.taken = rw (← desk, ← edits) old in
    let now = w.desk.shown.value in
    let later = (all_later now (drop w.behind w.log.items) p.taken held.faithful held.lead).0 in
    publishes _ _ now next (subst (λ (y : Version). IsLater now y) (sym is) later)

pub invariant_of-self-in-Ok : goal.invariant_of-self-in-Ok
invariant_of-self-in-Ok g c =
    let p = c.self.inside in
    let w = c.append_all.new.writer in
    let r = c.publish_as-writer.result.0 in
    let there : p.writer ≡ Some c.in-Some.own = sym c.take.ensures.value ∙ c.in-Some.is in
    let old = from_some p.writer c.in-Some.own _ there c.self.invariant.3 in
    let desk : c.in-Some.own.writer.desk ≡ w.desk = search rules in
    let none : c.append_all.new.waiting.items ≡ [] = search rules in
    let edits : drop c.in-Some.own.writer.behind c.in-Some.own.writer.log.items ++ p.waiting.items ≡ drop w.behind
    w.log.items =
    rw (← c.into_parts-writer.ensures.writer, ← c.append_all.ensures.edits, none) (append-nil _) in
    let held : HoldsEdits w.desk.shown.value (view w.desk.place) (drop w.behind w.log.items) p.opening p.published
    p.taken = rw (← desk, ← edits) old in
    let done = from_ok _ _ _ _ c.in-Ok.is c.publish_as-writer.ensures.values in
    let seen = from_ok _ _ _ _ c.in-Ok.is c.publish_as-writer.ensures.rule in
    let now : HoldsEdits r.desk.shown.value (view r.desk.place) [] p.opening p.taken p.taken =
    holds_published w.desk.shown.value r.desk.shown.value (view w.desk.place) (view r.desk.place)
    (drop w.behind w.log.items) p.opening p.published p.taken held done.0 seen.0 in
    let empty : drop r.behind r.log.items ≡ [] = done.1 in
    let rest : drop r.behind r.log.items ++ c.append_all.new.waiting.items ≡ [] = rw (empty, none) refl in
    rw (c.again.ensures, rest) (
      c.self.invariant.0 ∙ sym c.self.invariant.1,
      refl,
      prefix_self p.taken.changes,
      now,
    )
