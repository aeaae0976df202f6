use Rattle.city_writer.proofs.Prelude.{◌≡◌, ◌++◌, false, into_iter_items, is_some, list_all}
use Rattle.city_writer.specs.internal.Pieces.{joined_by_commas}
use Rattle.city_writer.proofs.document.in_pieces.append_pieces.Given as goal

-- the rest ends the text
abbrev pub invariant-loop-text : goal.invariant-loop-text
invariant-loop-text l =
    (l.fn.bytes.items ++ joined_by_commas false l.fn.texts.items (λ text. text.items) ≡ l.bytes.items
    ++ joined_by_commas l.after (into_iter_items l.text-iterator) (λ text. text.items))
    × (list_all is_some l.fn.texts.items ≡ list_all is_some (into_iter_items l.text-iterator))
