use Rattle.city_writer.proofs.Prelude.{◌≡◌, ◌++◌, drop, AllByRecursion}
use Rattle.city_writer.specs.script.Canonical.{script_tree}
use Rattle.city_writer.specs.script.Texts.{IsWritable}
use Rattle.city_writer.proofs.tree.WrittenItems.{closing}
use Rattle.city_writer.proofs.script.write.write_scripts.Given as goal

-- the rest ends the array
abbrev pub invariant-loop-script : goal.invariant-loop-script
invariant-loop-script l =
    let left = drop l.script-index l.scripts in
    (l.out.before ≡ l.initial.out.before)
    × (l.initial.out.tokens ++ closing script_tree l.scripts ≡ l.out.tokens ++ closing script_tree left)
    × (AllByRecursion IsWritable left → AllByRecursion IsWritable l.scripts)
