use Rattle.city_writer.proofs.Prelude.{MembersReadBack, on_ok_weaker, subst}
use Rattle.city_writer.proofs.tree.ReadBack.{object_reads}
use Rattle.city_writer.proofs.tree.member_value.MemberValue.write.Goals as goal

pub returns-in_ok-begin_object-in-Few-clause-reads : goal.returns-in_ok-begin_object-in-Few-clause-reads
returns-in_ok-begin_object-in-Few-clause-reads c =
    on_ok_weaker c.write_members.result (λ h. rw c.in-Few.is
    (object_reads _ c.as_slice.ensures.ordered (subst MembersReadBack c.as_slice.ensures.members h)))
    c.write_members.ensures.reads

pub returns-in_ok-begin_object-in-Shared-clause-reads : goal.returns-in_ok-begin_object-in-Shared-clause-reads
returns-in_ok-begin_object-in-Shared-clause-reads c =
    on_ok_weaker c.write_shared.result (λ h. rw c.in-Shared.is (object_reads _ c.write_shared.ensures.ordered h))
    c.write_shared.ensures.reads
