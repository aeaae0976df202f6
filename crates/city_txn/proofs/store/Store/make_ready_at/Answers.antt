use Rattle.city_txn.proofs.Prelude.{arith, ◌≡◌, ◌∙◌, ap, true, same_id, same_id_itself, log_of, is_noted, is_reserved}
use Rattle.city_txn.proofs.Touched.{reserved_by, touches_on}
use Rattle.city_txn.proofs.store.Store.make_ready_at.Goals.{In_ok-reserve}
use Rattle.city_txn.proofs.store.Store.make_ready_at.Goals as goal

reserved : (c : In_ok-reserve) → is_reserved c.reserve.new.self c.args.stamp c.args.id.now ≡ true
reserved c =
    let e = c.in_ok-reserve.ensures.more c.args.stamp c.args.id.now in grind (arith, same_id_itself)

pub note-requires : goal.note-requires
note-requires c = reserved (goal.at.note-requires c).In_ok-reserve

pub returns-in_err-note-clause-touches : goal.returns-in_err-note-clause-touches
returns-in_err-note-clause-touches c =
    touches_on c.args.stamp (same_id c.args.id.now) _ _ _ c.reserve.ensures.touches c.note.ensures.touches

pub returns-clause-touches : goal.returns-clause-touches
returns-clause-touches c =
    touches_on c.args.stamp (same_id c.args.id.now) _ _ _ c.reserve.ensures.touches c.note.ensures.touches

pub returns-clause-ok : goal.returns-clause-ok
returns-clause-ok c = (
  reserved_by c.reserve.new.self c.note.new.self c.args.stamp c.args.id.now c.in_ok-note.ensures.opened
      ∙ reserved (goal.at.returns-clause-ok c).In_ok-reserve,
  c.in_ok-note.ensures.ok,
)

pub returns-clause-more : goal.returns-clause-more
returns-clause-more c q h =
    let s = c.args.stamp in
    let left = reserved_by c.reserve.new.self c.note.new.self s q c.in_ok-note.ensures.opened in
    let more = c.in_ok-reserve.ensures.more s q in
    let was = h.0 in (
      grind arith,
      c.in_ok-note.ensures.more q (ap (λ ls. is_noted (log_of ls s) q) c.reserve.ensures.logs ∙ h.1),
    )
