use Rattle.city_board.proofs.Prelude.{rules, ◌≡◌, ◌∙◌, ap, None, if◌then◌else◌, keys_of, object_at, has_id, same_map}
use Rattle.city_board.proofs.Applied.{same_city}
use Rattle.city_board.proofs.Placed.{put_back}
use Rattle.city_board.proofs.places.make_places.Goals as goal

pub returns-then-is_err-clause-err : goal.returns-then-is_err-clause-err
returns-then-is_err-clause-err c =
    let old = c.args.city.now in
    let ids = c.in_ok-ids.ids.items in
    let filled : c.deref.result.now ≡ ids = search rules in
    let cleared : c.deref-then-is_err.result.now ≡ ids = search rules in
    same_city old c.clear.new.city (c.clear.ensures.frame ∙ c.fill.ensures.frame) (same_map _ _
    (λ q. put_back (object_at old.1 q) (object_at c.fill.new.city.1 q) (object_at c.clear.new.city.1 q) (has_id ids q)
    (has_id (keys_of c.args.change.now) q) (c.in_ok-ids.ensures q)
    (λ none. c.fill.ensures.others q (ap (λ xs. has_id xs q) filled ∙ none))
    (c.clear.ensures.objects q ∙ ap (λ xs. if has_id xs q then None else object_at c.fill.new.city.1 q) cleared)))
