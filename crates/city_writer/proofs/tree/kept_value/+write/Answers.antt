use Rattle.city_writer.proofs.Prelude.{ItemsReadBack, MembersReadBack, on_ok_weaker, rules, subst}
use Rattle.city_writer.proofs.tree.KeptSizes.{item_whole, item_within, member_whole, member_within}
use Rattle.city_writer.proofs.tree.ReadBack.{array_reads, object_reads}
use Rattle.city_writer.proofs.tree.kept_value.+write.Goals as goal

pub write_kept-write_items-requires : goal.write_kept-write_items-requires
write_kept-write_items-requires t c = search rules

pub write_kept-write_members-requires : goal.write_kept-write_members-requires
write_kept-write_members-requires t c = search rules

pub write_items-write_kept-requires : goal.write_items-write_kept-requires
write_items-write_kept-requires t c =
    let v = c.item-item.result in
    let within = item_within c.args.items.now c.loop-item.item-index v c.loop-item-test.true c.item-item.is in
    let whole = item_whole c.args.items.now c.loop-item.item-index v c.loop-item-test.true c.item-item.is
    c.requires.integral in
    search (rules, within, whole)

pub write_members-write_kept-requires : goal.write_members-write_kept-requires
write_members-write_kept-requires t c =
    let m = c.loop-key-item.result in
    let within = member_within c.args.members.now c.loop-key.key-index m c.loop-key-test.true c.loop-key-item.is in
    let whole = member_whole c.args.members.now c.loop-key.key-index m c.loop-key-test.true c.loop-key-item.is
    c.requires.integral in
    search (rules, within, whole)

pub write_kept-returns-in_ok-begin_array-in-Array-clause-reads :
    goal.write_kept-returns-in_ok-begin_array-in-Array-clause-reads
write_kept-returns-in_ok-begin_array-in-Array-clause-reads t c =
    on_ok_weaker c.write_items.result (λ h. rw c.in-Array.is
    (array_reads _ (subst ItemsReadBack c.as_slice.ensures h))) c.write_items.ensures.reads

pub write_kept-returns-in_ok-begin_object-in-Object-clause-reads :
    goal.write_kept-returns-in_ok-begin_object-in-Object-clause-reads
write_kept-returns-in_ok-begin_object-in-Object-clause-reads t c =
    on_ok_weaker c.write_members.result (λ h. rw c.in-Object.is
    (object_reads _ c.as_slice-in-Object.ensures.ordered
    (subst MembersReadBack c.as_slice-in-Object.ensures.members h)))
    c.write_members.ensures.reads
