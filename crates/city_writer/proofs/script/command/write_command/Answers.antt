use Rattle.city_writer.proofs.document.PutMembers.{on_ok}
use Rattle.city_writer.proofs.script.command.write_command.Goals as goal

pub returns-in-Attach-clause-tokens : goal.returns-in-Attach-clause-tokens
returns-in-Attach-clause-tokens c =
    on_ok c.write_relation.result c.write_relation.ensures.tokens (λ e later. rw c.in-Attach.is e)

pub returns-in-Detach-clause-tokens : goal.returns-in-Detach-clause-tokens
returns-in-Detach-clause-tokens c =
    on_ok c.write_relation-in-Detach.result c.write_relation-in-Detach.ensures.tokens
    (λ e later. rw c.in-Detach.is e)
