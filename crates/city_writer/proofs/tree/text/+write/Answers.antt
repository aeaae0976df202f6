use Rattle.city_writer.proofs.Prelude.{refl, append_assoc, on_ok_weaker, view-Array, view-Object, ordered_members}
use Rattle.city_writer.proofs.tree.ReadBack.{array_reads, object_reads}
use Rattle.city_writer.proofs.document.PutMembers.{on_ok}
use Rattle.city_writer.proofs.tree.text.+write.Goals as goal

pub write_value-returns-in_ok-begin_array-in-Array-clause-reads :
    goal.write_value-returns-in_ok-begin_array-in-Array-clause-reads
write_value-returns-in_ok-begin_array-in-Array-clause-reads t c =
    on_ok_weaker c.write_items.result (λ h. rw (c.in-Array.is, view-Array c.in-Array.items) (array_reads _ h))
    c.write_items.ensures.reads

pub write_value-returns-in_ok-begin_object-in-Object-clause-reads :
    goal.write_value-returns-in_ok-begin_object-in-Object-clause-reads
write_value-returns-in_ok-begin_object-in-Object-clause-reads t c =
    on_ok_weaker c.write_members.result (λ h. rw (c.in-Object.is, view-Object c.in-Object.members)
    (object_reads _ c.write_members.ensures.ordered h)) c.write_members.ensures.reads

pub write_value-returns-in_ok-begin_object-in-Object-clause-tokens :
    goal.write_value-returns-in_ok-begin_object-in-Object-clause-tokens
write_value-returns-in_ok-begin_object-in-Object-clause-tokens t c =
    on_ok c.write_members.result c.write_members.ensures.tokens (λ e. rw c.in-Object.is
    (rw (view-Object c.in-Object.members, e, c.in_ok-begin_object-in-Object.ensures.ok, append_assoc) refl))

pub write_members-returns-in_err-key-clause-ordered : goal.write_members-returns-in_err-key-clause-ordered
write_members-returns-in_err-key-clause-ordered t c = ordered_members _ c.iter-key-items.ensures.ordered

pub write_members-returns-in_err-write_value-clause-ordered :
    goal.write_members-returns-in_err-write_value-clause-ordered
write_members-returns-in_err-write_value-clause-ordered t c = ordered_members _ c.iter-key-items.ensures.ordered

pub write_members-returns-clause-ordered : goal.write_members-returns-clause-ordered
write_members-returns-clause-ordered t c = ordered_members _ c.iter-key-items.ensures.ordered
