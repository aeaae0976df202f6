use Rattle.city_scripts.proofs.Prelude.{map, view}
use Rattle.city_scripts.proofs.FirstFaults.{script_fault_or}
use Rattle.city_scripts.proofs.Meanings.{scripts-there}
use Rattle.city_scripts.proofs.faults.items_fault.Goals as goal

pub returns-in-Err : goal.returns-in-Err
returns-in-Err c = script_fault_or _ c.in-Err.fault c.in-Err.ensures.fault

pub unreachable-requires : goal.unreachable-requires
unreachable-requires c =
    let faultless = rw c.as_slice.ensures at c.in-None.ensures in
    scripts-there (map view c.args.items.items) _ c.requires.whole c.in-Ok.ensures.forms faultless c.requires.none
