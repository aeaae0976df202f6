use Rattle.city_tokens.proofs.Prelude.{◌≡◌, drop, items_view, all_triples}
use Rattle.city_tokens.proofs.triples.all_triples.Given as goal

abbrev pub invariant-loop-item : goal.invariant-loop-item
invariant-loop-item l =
    all_triples (items_view l.items.items) ≡ all_triples (items_view (drop l.item-index l.items.items))
