use Rattle.city_crew.proofs.Prelude.{◌≡◌, ◌≤◌, take}
use Rattle.city_model.specs.SerialEnds.{commits_in}
use Rattle.city_crew.proofs.watcher.count_commits.Given as goal

abbrev pub invariant-loop-end : goal.invariant-loop-end
invariant-loop-end l = record {
  count : l.commits ≡ commits_in (take l.end-index l.ends);
  small : l.commits ≤ l.end-index;
}
