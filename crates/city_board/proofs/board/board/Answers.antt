use Rattle.city_board.proofs.Prelude.{◌≡◌, sym, subst, [], drop, view, known_from, IsLater, IsFaithful, Version}
use Rattle.city_board.proofs.HeldEdits.{holds_none}
use Rattle.city_board.proofs.KeptRule.{first_meets, publishes}
use Rattle.city_board.proofs.LaterVersions.{first_faithful, no_edits}
use Rattle.city_board.proofs.Results.{from_ok}
use Rattle.city_board.proofs.board.board.Goals as goal

pub new-requires-clause-rule : goal.new-requires-clause-rule
new-requires-clause-rule g c =
    first_meets _ (first_faithful _ c.args.city _ c.in-Ok.ensures.city c.in-Ok.ensures.opening c.in-Ok.ensures.history
    c.new-history.ensures.empty c.requires.lawful)

pub publish_as-writer-requires : goal.publish_as-writer-requires
publish_as-writer-requires g c next is =
    let faithful : IsFaithful c.in-Ok.first =
    first_faithful _ c.args.city _ c.in-Ok.ensures.city c.in-Ok.ensures.opening c.in-Ok.ensures.history
    c.new-history.ensures.empty c.requires.lawful in
    let now = c.in-Ok-new.writer.desk.shown.value in
    let later = no_edits _ _ (subst IsFaithful (sym c.in-Ok-new.ensures.0) faithful) c.in-Ok-new.ensures.1 in
    publishes _ _ now next (subst (λ (y : Version). IsLater now y) (sym is) later)

pub new-requires-2-clause-edits : goal.new-requires-2-clause-edits
new-requires-2-clause-edits g c =
    let faithful : IsFaithful c.in-Ok.first =
    first_faithful _ c.args.city _ c.in-Ok.ensures.city c.in-Ok.ensures.opening c.in-Ok.ensures.history
    c.new-history.ensures.empty c.requires.lawful in
    let w = c.in-Ok-new.writer in
    let r = c.publish_as-writer.result.0 in
    let s = c.new_viewers.new.writer in
    let done = from_ok _ _ _ _ c.in-Ok-done.is c.publish_as-writer.ensures.values in
    let seen = from_ok _ _ _ _ c.in-Ok-done.is c.publish_as-writer.ensures.rule in
    let kept = c.new_viewers.ensures in
    let same : s.desk.shown.value ≡ c.in-Ok.first =
    rw (kept.shown, done.0, c.in-Ok-new.ensures.1) c.in-Ok-new.ensures.0 in
    let edits : drop s.behind s.log.items ≡ [] = rw (kept.log, kept.behind) done.1 in
    let known : view s.desk.place ≡ known_from s.desk.shown.value = rw (kept.known, kept.shown) seen.0 in
    holds_none s.desk.shown.value (view s.desk.place) (drop s.behind s.log.items) c.of-opening.result
    c.new-history.result.0 (rw same faithful) known (rw (same, c.of-opening.ensures) c.in-Ok.ensures.opening)
    (rw same c.in-Ok.ensures.history) edits
