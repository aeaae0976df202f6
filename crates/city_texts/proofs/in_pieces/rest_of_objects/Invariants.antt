use Rattle.city_texts.proofs.Prelude.{length, Members}
use Rattle.city_tokens.specs.internal.Objects.{IsListing}
use Rattle.city_tokens.proofs.Reading.{AreFound}
use Rattle.city_texts.proofs.in_pieces.rest_of_objects.Given as goal

abbrev pub invariant-objects : goal.invariant-objects
invariant-objects l =
    (found : Members) × AreFound 125 l.initial.reader l.reader found × IsListing l.objects.items found

abbrev pub decreases-objects : goal.decreases-objects
decreases-objects l = length l.reader
