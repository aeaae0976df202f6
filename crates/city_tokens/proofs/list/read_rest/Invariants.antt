use Rattle.city_tokens.proofs.Prelude.{◌≡◌, ◌++◌, List, length, Data, Pairs}
use Rattle.city_tokens.proofs.Reading.{AreRead}
use Rattle.city_tokens.proofs.list.read_rest.Given as goal

abbrev pub invariant-items : goal.invariant-items
invariant-items g l =
    (more : List g.row.T.Denot) × (ds : List Data) × (l.all.items ≡ l.fn.read.items ++ more)
    × Pairs g.T.FromTokens.stands more ds
    × AreRead l.depth l.initial.reader l.reader ds

abbrev pub decreases-items : goal.decreases-items
decreases-items g l = length l.reader
