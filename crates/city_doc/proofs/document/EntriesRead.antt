-- Objects written one after the other are read again by their ids.
use Rattle.city_doc.proofs.Prelude.{◌≡◌, ◌<◌, List, ◌∷◌, length, true, Some, refl, []}
use Rattle.city_doc.proofs.Prelude.{arith, ◌^◌, flat_map}
use Rattle.city_doc.proofs.Prelude.{list_all-append, Entries}
use Rattle.city_doc.proofs.Prelude.{Point, entries_of, are_kept_objects}
use Rattle.city_doc.proofs.Prelude.{object_points}
use Rattle.city_writer.proofs.Laws.{are_in}
use Rattle.city_doc.proofs.object.ObjectsRead.{object_read}
use Rattle.city_writer.specs.internal.object.InTurn.{in_turn}

module _ (pool : List Point) where
  pub entries_read : (es : Entries) → length pool < 2 ^ 63 → are_kept_objects es ≡ true
      → are_in pool (flat_map (λ e. object_points e.1) es) ≡ true → entries_of pool (in_turn pool es) ≡ Some es
  entries_read [] small keeps points = refl
  entries_read (e ∷ es) small keeps points = grind (arith, list_all-append, object_read, entries_read es)
