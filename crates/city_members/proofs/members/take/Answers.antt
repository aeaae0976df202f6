use Rattle.city_members.proofs.Prelude.{arith, string_bytes, ap, sym, ◌∙◌, is_at, slice_cmp, lookup, members_view}
use Rattle.city_members.proofs.Prelude.{view-lookup}
use Rattle.std.proofs.Common.{nat_cmp}
use Rattle.city_members.proofs.MemberLaws.{members_view-remove_entry}
use Rattle.city_members.proofs.members.take.Goals as goal

pub returns-clause-found : goal.returns-clause-found
returns-clause-found c = grind (arith, view-lookup c.args.name.now c.args.members.now.entries)

pub returns-clause-left : goal.returns-clause-left
returns-clause-left c = ap members_view c.remove.ensures.entries
    ∙ members_view-remove_entry c.args.name.now c.args.members.now.entries
    (ap (lookup (is_at (λ k. slice_cmp nat_cmp c.args.name.now (string_bytes k)))) (sym c.remove.ensures.entries)
    ∙ c.remove.ensures.updates.1)
