use Rattle.city_writer.proofs.Prelude.{◌≡◌, ◌++◌, drop, reply_data}
use Rattle.city_writer.proofs.tree.WrittenItems.{closing}
use Rattle.city_writer.proofs.report.reply.write_replies.Given as goal

-- the rest ends the array
abbrev pub invariant-loop-reply : goal.invariant-loop-reply
invariant-loop-reply l =
    let left = drop l.reply-index l.replies in
    (l.out.before ≡ l.initial.out.before)
    × (l.initial.out.tokens ++ closing reply_data l.replies ≡ l.out.tokens ++ closing reply_data left)
