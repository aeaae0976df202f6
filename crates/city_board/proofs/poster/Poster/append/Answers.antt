use Rattle.city_board.proofs.Prelude.{rules, ◌≡◌, ◌∷◌, ◌++◌, [], drop, ap, sym, ◌∙◌, subst, view, object_at, IsLawful}
use Rattle.city_board.proofs.Prelude.{after_changes, HistoryValue, history_of, Edit}
use Rattle.city_scheduler.proofs.Shelved.{if_some_to}
use Rattle.city_board.specs.BoardValues.{PosterValue}
use Rattle.city_board.proofs.HeldEdits.{holds_waiting}
use Rattle.city_board.proofs.Prefixes.{prefix_trans}
use Rattle.city_board.proofs.poster.Poster.append.Goals as goal

pub invariant_of-self-2 : goal.invariant_of-self-2
invariant_of-self-2 g c =
    let p = c.self.inside in
    let e : Edit = record { change = c.args.change; history = c.in-Some.history } in
    let history : c.in-Some.history ≡ history_of p.taken.name (p.taken.changes ++ c.args.change ∷ []) =
    c.in-Some.ensures ∙ c.with-addition.ensures in
    let again : c.again.result ≡ c.in-Some.history = c.again.ensures in
    let items : c.push_back_reserved.new.self.items ≡ p.waiting.items ++ e ∷ [] = search rules in
    let lawful : IsLawful (after_changes (object_at p.opening.1) (p.taken.changes ++ c.args.change ∷ [])) =
    subst (λ (b : PosterValue). IsLawful (after_changes (object_at b.opening.1) (b.taken ++ c.args.change ∷ [])))
    (sym c.self.view_is) c.requires.lawful in
    rw (again, items) (
      c.self.invariant.0,
      ap (λ (q : HistoryValue). q.name) history ∙ c.self.invariant.1,
      prefix_trans p.published.changes p.taken.changes c.in-Some.history.changes c.self.invariant.2
          (c.args.change ∷ [], sym (ap (λ (q : HistoryValue). q.changes) history)),
      if_some_to p.writer _ _
          (λ w. holds_waiting w.writer.desk.shown.value (view w.writer.desk.place)
          (drop w.writer.behind w.writer.log.items) p.waiting.items p.opening p.published p.taken e
          history lawful)
          c.self.invariant.3,
    )
