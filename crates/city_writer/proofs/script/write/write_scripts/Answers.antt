use Rattle.city_writer.proofs.Prelude.{◌∙◌}
use Rattle.city_writer.specs.script.Canonical.{script_tree}
use Rattle.city_writer.proofs.tree.WrittenItems.{item_first, one_written}
use Rattle.city_writer.proofs.script.write.write_scripts.Goals as goal

pub loop-script-preserved : goal.loop-script-preserved
loop-script-preserved c =
    let l = c.loop-script in
    let xs = c.args.scripts.now in
    let x = c.script-item.result in
    let one = c.in_ok-write_script.ensures in
    let was = rw (item_first xs l.script-index x c.loop-script-test.true c.script-item.is) at l.invariant in (
      one.before ∙ l.invariant.0,
      one_written script_tree xs l.script-index x c.begin_array.new.self.tokens l.out.tokens
          c.write_script.new.out.tokens c.loop-script-test.true c.script-item.is l.invariant.1 one.tokens,
      λ rest. was.2 (one.writable, rest),
    )
