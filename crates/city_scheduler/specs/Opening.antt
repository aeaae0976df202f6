-- A desk at its opening.
use Rattle.std.specs.Prelude.{List, [], length, map}
use Rattle.city_model.specs.Runs.{Scripted}
use Rattle.city_model.specs.CityMap.{CityValue}
use Rattle.city_scheduler.specs.declared.progress.Progress.{Progress}
use Rattle.city_scheduler.specs.declared.progress.Phase.TheVariants.{NotBegun}
use Rattle.city_scheduler.specs.DeskState.{DeskState, progress_to}

-- with room for a reply to each of its commands
abbrev pub unbegun : Scripted → Progress
unbegun script = progress_to NotBegun [] (length script.1)

abbrev pub unbegun_each : List Scripted → List Progress
unbegun_each scripts = map unbegun scripts

-- over this city, with these scripts, none of them begun or handed out
abbrev pub opened : CityValue → List Scripted → DeskState
opened city scripts = record {
  start = city;
  scripts = scripts;
  ends = [];
  taken = 0;
  begun = 0;
  progress = unbegun_each scripts;
  core = record { frame = city.0; city = city.1; writes = []; opened = []; logs = []; locks = [] };
}
