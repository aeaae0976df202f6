-- Edits lead from a faithful version to a later one, faithful too.
use Rattle.city_board.proofs.Prelude.{◌≡◌, List, [], ◌∷◌, ◌++◌, fold, refl, arith, CityValue, object_at, IsLawful}
use Rattle.city_board.proofs.Prelude.{at_after, shown_more, IsLater, known_from, HistoryValue, edited, IsFaithful}
use Rattle.city_board.proofs.Prelude.{IsNextEdit, Known, Edit, Version}
use Rattle.city_board.specs.internal.BoardRule.{IsNoOlder}
use Rattle.city_board.specs.internal.Versions.{LeadTo}
use Rattle.city_board.proofs.Prefixes.{prefix_self, prefix_trans}

-- ---- no older

pub no_older_itself : (x : Version) → IsNoOlder (known_from x) x
no_older_itself x = grind (arith, prefix_self)

pub no_older_on : (known : Known) (x y : Version) → IsNoOlder known x → IsNoOlder (known_from x) y → IsNoOlder known y
no_older_on known x y f g = search (arith, prefix_trans)

-- ---- the first version

pub first_faithful : (x : Version) (city : CityValue) (history : HistoryValue) → x.city ≡ city → x.opening ≡ city
    → x.history ≡ history → history.changes ≡ [] → IsLawful (object_at city.1) → IsFaithful x
first_faithful x city history c o h none lawful = record {
  frame = grind arith;
  objects = rw (c, o, h, none) refl;
  lawful = rw c lawful;
}

pub no_edits : (x : Version) (es : List Edit) → IsFaithful x → es ≡ [] → IsLater x (fold edited x es)
no_edits x es faithful none = rw none (faithful, no_older_itself x)

-- ---- the next ones

pub next_later : (x : Version) (e : Edit) → IsFaithful x → IsNextEdit x e → IsLater x (edited x e)
next_later x e faithful next =
    let objects = at_after x.city.1 e.change in
    let shown = shown_more (object_at x.opening.1) x.history.changes e.change in
    let lawful : IsLawful (object_at (edited x e).city.1) = rw objects next.lawful in
    search (arith, lawful, objects, shown)

pub all_later : (x : Version) (es : List Edit) (to : HistoryValue) → IsFaithful x → LeadTo x es to
    → IsLater x (fold edited x es) × ((fold edited x es).history ≡ to)
all_later x [] to faithful lead = ((faithful, no_older_itself x), lead)
all_later x (e ∷ es) to faithful lead =
    let next = next_later x e faithful lead.0 in
    search (arith, all_later (edited x e) es to next.0 lead.1, no_older_on)

pub lead_more : (x : Version) (es : List Edit) (to : HistoryValue) (e : Edit) → LeadTo x es to
    → IsNextEdit (fold edited x es) e → LeadTo x (es ++ e ∷ []) e.history
lead_more x [] to e lead next = (next, refl)
lead_more x (d ∷ ds) to e lead next = (lead.0, lead_more (edited x d) ds to e lead.1 next)
