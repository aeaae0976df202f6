use Rattle.city_decimals.proofs.Prelude.{rules, refl, sym, changed, items_changed, member_changed}
use Rattle.city_decimals.proofs.Prelude.{frame_changed, arith, true, false, IsItemCopied}
use Rattle.city_decimals.proofs.Copied.{array_copied, object_copied, items_end, items_first, members_end, members_first}
use Rattle.city_decimals.proofs.Copied.{member_plain, member_framed, item_shorter, some_weaker}
use Rattle.city_decimals.proofs.CompactForms.{frame_copied}
use Rattle.city_decimals.proofs.PassedItems.{passed_then, passed_shorter}
use Rattle.city_decimals.proofs.Directions.{array_changed, no_items_changed, item_changed, object_changed}
use Rattle.city_decimals.proofs.Directions.{no_members_changed, first_changed, plain_member, framed_member}
use Rattle.city_decimals.proofs.compact.+copy.Goals as goal

pub copy_array-returns-clause-copied : goal.copy_array-returns-clause-copied
copy_array-returns-clause-copied t c = search (rules, some_weaker, array_copied, array_changed)

pub copy_object-returns-clause-copied : goal.copy_object-returns-clause-copied
copy_object-returns-clause-copied t c = search (rules, some_weaker, object_copied, object_changed)

pub copy_out_of_frame-returns-clause-copied : goal.copy_out_of_frame-returns-clause-copied
copy_out_of_frame-returns-clause-copied t c =
    some_weaker c.skip-2.result (λ _ last. frame_copied c.args.depth c.args.copier.now c.skip.new.self
    c.take.new.self c.copy_members.new.copier c.skip-2.new.self c.if-depth-lt2.false c.in_ok-skip.ensures.moves
    (c.if-not-take.ensures.taken refl) c.in_ok-copy_members.ensures.copied last) c.skip-2.ensures.moves

pub copy_items-items-init : goal.copy_items-items-init
copy_items-items-init t c =
    let first = c.pass_whole_items-later in (
      first.ensures.before,
      λ end rest. passed_then c.args.way false c.args.depth c.args.copier.now first.new.self end first.result
          first.ensures.moves rest,
    )

pub copy_items-items-smaller : goal.copy_items-items-smaller
copy_items-items-smaller t c =
    let w = c.args.way in
    let more = c.pass_whole_items-later-in-items in
    let one : IsItemCopied (changed w) c.items.later c.args.depth c.items.copier c.copy_item.new.copier =
    search rules in
    omega (
      arith,
      item_shorter (changed w) c.items.later c.args.depth c.items.copier c.copy_item.new.copier one,
      passed_shorter true c.args.depth c.copy_item.new.copier more.new.self more.result more.ensures.moves,
    )

pub copy_items-items-preserved : goal.copy_items-items-preserved
copy_items-items-preserved t c =
    let w = c.args.way in
    let more = c.pass_whole_items-later-in-items in
    let one : IsItemCopied (changed w) c.items.later c.args.depth c.items.copier c.copy_item.new.copier =
    search rules in (
      search rules,
      λ end rest. c.items.invariant.1 end (items_first (changed w) (items_changed w) (item_changed w) c.items.later
          c.args.depth c.items.copier c.copy_item.new.copier end one (passed_then w true c.args.depth
          c.copy_item.new.copier more.new.self end more.result more.ensures.moves rest)),
    )

pub copy_items-returns-clause-copied : goal.copy_items-returns-clause-copied
copy_items-returns-clause-copied t c = search (rules, items_end, no_items_changed)

pub copy_members-members-preserved : goal.copy_members-members-preserved
copy_members-members-preserved t c = search (rules, members_first, first_changed)

pub copy_members-returns-clause-copied : goal.copy_members-returns-clause-copied
copy_members-returns-clause-copied t c = search (rules, members_end, no_members_changed)

pub copy_member-returns-then-is_framed-clause-copied : goal.copy_member-returns-then-is_framed-clause-copied
copy_member-returns-then-is_framed-clause-copied t c =
    let w = c.args.way in
    some_weaker c.copy_frame.result (λ _ rest. member_framed (frame_changed w) (member_changed w) (framed_member w)
    c.args.later c.args.top c.args.depth c.args.copier.now
    c.pass_key.new.self c.copy_frame.new.copier c.in_ok-key.key.now c.in_ok-key.ensures.moves
    (sym c.if-is_tag.ensures) (sym c.if-is_framed.ensures) rest) c.copy_frame.ensures.copied

pub copy_member-returns-clause-copied : goal.copy_member-returns-clause-copied
copy_member-returns-clause-copied t c =
    let w = c.args.way in
    some_weaker c.copy_value.result (λ _ rest. member_plain (changed w) (member_changed w) (plain_member w)
    c.args.later
    c.args.top c.args.depth c.args.copier.now
    c.pass_key.new.self c.copy_value.new.copier c.in_ok-key.key.now c.in_ok-key.ensures.moves
    (sym c.if-is_tag.ensures) (sym c.if-is_framed.ensures) (search rules) rest) c.copy_value.ensures.copied
