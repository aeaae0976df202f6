use Rattle.city_board.proofs.Prelude.{◌≡◌, sym, ◌∙◌, ap}
use Rattle.city_board.proofs.Adding.{adds_moves}
use Rattle.city_board.proofs.history.Addition.add.Goals as goal

pub compare_exchange-found-requires : goal.compare_exchange-found-requires
compare_exchange-found-requires c =
    let h = c.head.invariant in
    let pen = c.no_pen-pen.ensures in
    let a = c.self.inside in
    let name : c.head.inside.word.book ≡ a.seen.book = c.head.view_is
    ∙ (c.requires.name ∙ ap (λ p. p.name) (sym c.self.view_is)) in (
      ap (λ w. w.tracked) h,
      sym name,
      pen.0 ∙ sym name,
      c.self.invariant.1,
      rw (ap (λ w. w.key) h, pen.1, c.self.invariant.2)
          (adds_moves a.seen.log a.offer.ask a.len (sym c.self.invariant.0)),
    )
