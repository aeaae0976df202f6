use Rattle.city_scheduler.proofs.AttemptSteps.{may_take}
use Rattle.city_scheduler.proofs.shelf.Shelf.take_from.Goals as goal

pub take-requires-clause-lawful : goal.take-requires-clause-lawful
take-requires-clause-lawful g c =
    may_take c.args.core.now c.args.stamp c.in-Ok-Ready.change (g.Self.Shelf.list c.args.self.now)
    (g.Self.Shelf.base c.args.self.now)
    (rw c.in-Ok-Ready.field-0-is at c.in-Ok-Ready.ensures.prepared) c.requires.shows
