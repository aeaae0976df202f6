use Rattle.std.proofs.Common.{◌≡◌, sym, subst, ◌∙◌}
use Rattle.std.specs.Map.{keys_of}
use Rattle.city_model.specs.declared.command.Command.{Command}
use Rattle.city_model.specs.declared.command.Reply.{Reply}
use Rattle.city_model.specs.CityMap.{CityMap, object_at}
use Rattle.city_model.specs.internal.Plans.{IsPlan, AreWritesOf}
use Rattle.city_model.specs.Relations.{IsSound}
use Rattle.city_model.specs.Runs.{Change, after_change}
use Rattle.city_model.proofs.Planned.{plan_makes}
use Rattle.city_model.proofs.SoundAfter.{sound_edit}
use Rattle.city_scenarios.proofs.replay.perform.Goals as goal

-- a sound map with what is planned for a command is sound
sound_written : (m n : CityMap) (c : Command) (r : Reply) (ws : Change) → IsSound m → AreWritesOf m c r ws
    → n ≡ after_change m ws → IsSound n
sound_written m n c r ws s is made =
    subst IsSound (sym (plan_makes m c r ws s is) ∙ sym made) (sound_edit m c r (keys_of ws) is.after s is.edits)

pub returns-in_ok-write-in-Writes : goal.returns-in_ok-write-in-Writes
returns-in_ok-write-in-Writes c =
    let m = object_at c.args.city.now.1 in
    let planned : AreWritesOf m c.args.command.now c.in-Writes.reply c.in-Writes.change =
    subst (IsPlan m c.args.command.now) c.in-Writes.is c.in_ok-cause.ensures.plan in
    sound_written m (object_at c.write.new.city.1) c.args.command.now c.in-Writes.reply c.in-Writes.change
    c.requires.sound planned c.in_ok-write-in-Writes.ensures
