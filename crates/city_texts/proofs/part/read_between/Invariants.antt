use Rattle.city_texts.proofs.Prelude.{length}
use Rattle.city_texts.specs.internal.Parts.{AreNext}
use Rattle.city_texts.proofs.part.read_between.Given as goal

abbrev pub invariant-parts : goal.invariant-parts
invariant-parts g l = AreNext g.T.Part.stands l.parts.items l.initial.reader l.reader

abbrev pub decreases-parts : goal.decreases-parts
decreases-parts g l = length l.reader
