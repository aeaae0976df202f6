use Rattle.std.proofs.Common.{map, take}
use Rattle.city_journal.specs.Places.{place_read}
use Rattle.city_journal.proofs.PlaceFound.{FoundIn}
use Rattle.city_journal.proofs.read.last_place.Given as goal

abbrev pub invariant-loop-place : goal.invariant-loop-place
invariant-loop-place l = FoundIn l.model.bytes l.found (map place_read (take l.place-index l.places))
