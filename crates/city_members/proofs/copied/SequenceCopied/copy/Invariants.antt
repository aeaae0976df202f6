use Rattle.city_members.proofs.Prelude.{◌≡◌, take}
use Rattle.city_members.proofs.copied.SequenceCopied.copy.Given as goal

abbrev pub invariant-loop-item : goal.invariant-loop-item
invariant-loop-item g l = l.copies.items ≡ take l.item-index l.items
