-- The edits held by a board's writer, as changes are taken and published.
use Rattle.city_board.proofs.Prelude.{◌≡◌, List, [], ◌∷◌, ◌++◌, fold, ◌∙◌, append_assoc, arith, CityValue, object_at}
use Rattle.city_board.proofs.Prelude.{IsLawful, after_changes, shown_more, HoldsEdits, known_from, HistoryValue}
use Rattle.city_board.proofs.Prelude.{history_of, edited, IsFaithful, IsNextEdit, Known, Edit, Version}
use Rattle.city_board.proofs.LaterVersions.{all_later, lead_more}

-- nothing was taken yet
pub holds_none : (x : Version) (known : Known) (es : List Edit) (opening : CityValue) (history : HistoryValue)
    → IsFaithful x → known ≡ known_from x → x.opening ≡ opening → x.history ≡ history → es ≡ []
    → HoldsEdits x known es opening history history
holds_none x known es opening history faithful met o h none = grind arith

-- one edit more
holds_more : (x : Version) (known : Known) (es : List Edit) (opening : CityValue) (published taken : HistoryValue)
    (e : Edit)
    → e.history ≡ history_of taken.name (taken.changes ++ e.change ∷ [])
    → IsLawful (after_changes (object_at opening.1) (taken.changes ++ e.change ∷ []))
    → HoldsEdits x known es opening published taken → HoldsEdits x known (es ++ e ∷ []) opening published e.history
holds_more x known es opening published taken e history lawful held =
    let y = fold edited x es in
    let all = all_later x es taken held.faithful held.lead in
    let opened = all.0.1.opening ∙ held.opening_is in
    let next : IsNextEdit y e = record {
      history = grind arith;
      lawful = rw (all.0.0.objects, all.1, opened, ← shown_more (object_at opening.1) taken.changes e.change) lawful;
    } in
    grind (arith, lead_more x es taken e held.lead next)

-- one edit more waits behind the writer's
pub holds_waiting : (x : Version) (known : Known) (ds ws : List Edit) (opening : CityValue)
    (published taken : HistoryValue) (e : Edit)
    → e.history ≡ history_of taken.name (taken.changes ++ e.change ∷ [])
    → IsLawful (after_changes (object_at opening.1) (taken.changes ++ e.change ∷ []))
    → HoldsEdits x known (ds ++ ws) opening published taken
    → HoldsEdits x known (ds ++ (ws ++ e ∷ [])) opening published e.history
holds_waiting x known ds ws opening published taken e history lawful held =
    let more = holds_more x known (ds ++ ws) opening published taken e history lawful held in
    grind (arith, append_assoc ds ws (e ∷ []))

-- all edits were published
pub holds_published : (x y : Version) (known after : Known) (es : List Edit) (opening : CityValue)
    (published taken : HistoryValue)
    → HoldsEdits x known es opening published taken → y ≡ fold edited x es → after ≡ known_from y
    → HoldsEdits y after [] opening taken taken
holds_published x y known after es opening published taken held is met =
    grind (arith, all_later x es taken held.faithful held.lead)
