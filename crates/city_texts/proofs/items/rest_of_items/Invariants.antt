use Rattle.city_texts.proofs.Prelude.{List, length, Data, Pairs}
use Rattle.city_texts.specs.internal.Parts.{IsNextItem}
use Rattle.city_texts.specs.internal.Runs.{IsRun}
use Rattle.city_tokens.proofs.Reading.{AreRead}
use Rattle.city_texts.proofs.items.rest_of_items.Given as goal

abbrev pub invariant-items : goal.invariant-items
invariant-items g l =
    IsRun (IsNextItem g.T.FromTokens.stands l.depth) l.text l.run
    × (ds : List Data) × AreRead l.depth l.initial.reader l.reader ds × Pairs g.T.FromTokens.stands l.items.items ds

abbrev pub decreases-items : goal.decreases-items
decreases-items g l = length l.reader
