use Rattle.city_scheduler.proofs.Prelude.{◌≡◌, ◌<◌, ℕ, Some, true, take, slice_get, Scripted, ends_once, unbegun_each}
use Rattle.city_scheduler.proofs.progress.unbegun_each.Given as goal

abbrev pub invariant-loop-script : goal.invariant-loop-script
invariant-loop-script l = record {
  made : l.progress.items ≡ unbegun_each (take l.script-index l.scripts);
  scripted : (i : ℕ) (s : Scripted) → i < l.script-index → slice_get l.scripts i ≡ Some s → ends_once s.1 ≡ true;
}
