use Rattle.city_writer.proofs.Prelude.{◌+◌, refl, sym, ◌∙◌, append_assoc, drop, drop_all}
use Rattle.city_writer.specs.script.Commands.{command_data, command_points}
use Rattle.city_writer.proofs.document.PutMembers.{on_ok}
use Rattle.city_writer.proofs.tree.ReadBack.{array_reads}
use Rattle.city_writer.proofs.pool.Walks.{walk_first}
use Rattle.city_writer.proofs.tree.WrittenItems.{item_first, numbered_written}
use Rattle.city_writer.proofs.script.text.write_commands.Goals as goal

pub loop-command-preserved : goal.loop-command-preserved
loop-command-preserved c =
    let l = c.loop-command in
    let xs = c.args.commands.now in
    let x = c.command-item.result in
    let was = rw (item_first xs l.command-index x c.loop-command-test.true c.command-item.is) at l.invariant in
    let one = c.in_ok-write_command.ensures in (
      was.0 ∙ walk_first command_points x (drop (l.command-index + 1) xs) _ _ one.pool,
      one.before ∙ was.1,
      numbered_written command_points command_data xs l.command-index x l.pool c.write_command.new.pool
          c.begin_array.new.self.tokens l.out.tokens c.write_command.new.out.tokens c.loop-command-test.true
          c.command-item.is one.pool l.invariant.2 one.tokens,
      λ pool small rest. was.3 pool small (one.reads pool small, rest),
      was.4 ∙ rw one.kept refl,
    )

pub returns : goal.returns
returns c =
    let l = c.loop-command in
    let none = drop_all l.command-index c.args.commands.now c.loop-command-test.false in
    let was = rw none at l.invariant in
    let ok = c.end_array.ensures.ok in
    record {
      pool = on_ok c.end_array.result ok (λ e. sym was.0);
      before = on_ok c.end_array.result ok (λ e. c.end_array.ensures.room.0 ∙ was.1 ∙ c.begin_array.ensures.room.0);
      tokens = on_ok c.end_array.result ok
          (λ e later. e ∙ sym (was.2 later) ∙ rw (c.in_ok-begin_array.ensures.ok, append_assoc) refl);
      reads = on_ok c.end_array.result ok (λ e pool small. array_reads _ (was.3 pool small tt));
      kept = on_ok c.end_array.result ok (λ e. was.4);
    }
