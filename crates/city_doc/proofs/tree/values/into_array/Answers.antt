use Rattle.city_doc.proofs.Prelude.{refl, view-Array}
use Rattle.city_tokens.proofs.Laws.{items_list-of}
use Rattle.city_doc.proofs.tree.values.into_array.Goals as goal

pub returns-in-Array-clause-list : goal.returns-in-Array-clause-list
returns-in-Array-clause-list c = rw (c.in-Array.is, view-Array c.in-Array.items, items_list-of) refl
