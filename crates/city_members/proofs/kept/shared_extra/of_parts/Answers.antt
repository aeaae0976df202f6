use Rattle.city_members.proofs.Prelude.{◌≡◌, arith, members_view, subst, sym, true}
use Rattle.city_members.specs.Kept.{kept_at_object}
use Rattle.city_members.specs.Members.{AreOrdered}
use Rattle.city_members.specs.internal.KeptIn.{found_integral}
use Rattle.city_members.proofs.KeptIn.{kept_own, ordered_own}
use Rattle.city_members.proofs.kept.shared_extra.of_parts.Goals as goal

pub stored-made-requires-clause-kept : goal.stored-made-requires-clause-kept
stored-made-requires-clause-kept c =
    let others = members_view c.args.others.entries in
    let kept : kept_at_object others ≡ true = grind (arith, c.admits.ensures, c.if-not-admits.false) in
    let whole : found_integral c.args.found ≡ true =
    grind (arith, c.are_integral.ensures, c.if-not-are_integral.false) in
    subst (λ ms. kept_at_object ms ≡ true) (sym c.in_ok-storage.ensures) (kept_own others c.args.found kept whole)

pub stored-made-requires-clause-ordered : goal.stored-made-requires-clause-ordered
stored-made-requires-clause-ordered c =
    subst AreOrdered (sym c.in_ok-storage.ensures)
    (ordered_own (members_view c.args.others.entries) c.args.found c.members_count-count.ensures.ordered)
