use Rattle.city_scheduler.proofs.Prelude.{arith}
use Rattle.std.proofs.lemmas.Grind.{common_steps}
use Rattle.city_scheduler.proofs.ScriptReads.{one_more_scripted, all_scripted}
use Rattle.city_scheduler.proofs.progress.unbegun_each.Goals as goal

pub loop-script-preserved : goal.loop-script-preserved
loop-script-preserved c = record {
  made = grind (arith, common_steps);
  scripted = one_more_scripted c.args.scripts.now c.loop-script.script-index c.script-item.result (omega arith)
      c.script-item.is c.commands.ensures.ends c.loop-script.invariant.scripted;
}

pub returns-clause-scripted : goal.returns-clause-scripted
returns-clause-scripted c =
    all_scripted c.args.scripts.now c.loop-script.script-index (omega arith) c.loop-script.invariant.scripted
