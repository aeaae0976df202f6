use Rattle.city_members.proofs.Prelude.{◌≡◌, ◌∙◌, nat_cmp, rules, slice_cmp, string_bytes, sym}
use Rattle.std.specs.Ordering.{is_lt}
use Rattle.city_members.proofs.MemberSides.{in_left, in_right, first_none}
use Rattle.city_members.proofs.kept.shared_members.is_in_left.Goals as goal

pub returns-in-Some-clause-yes : goal.returns-in-Some-clause-yes
returns-in-Some-clause-yes c =
    let x = c.in-Some.first.now in
    let compared : c.is_lt.result ≡ is_lt (slice_cmp nat_cmp c.args.name.now (string_bytes x.0)) = search rules in
    λ less. in_left c.args.left.now c.args.right.now x (search rules) c.requires c.args.name.now (sym compared ∙ less)

pub returns-in-Some-clause-no : goal.returns-in-Some-clause-no
returns-in-Some-clause-no c =
    let x = c.in-Some.first.now in
    let compared : c.is_lt.result ≡ is_lt (slice_cmp nat_cmp c.args.name.now (string_bytes x.0)) = search rules in
    λ not_less.
    in_right c.args.left.now c.args.right.now x (search rules) c.requires c.args.name.now (sym compared ∙ not_less)

pub returns-in-None-clause-yes : goal.returns-in-None-clause-yes
returns-in-None-clause-yes c = λ _. first_none c.args.right.now c.args.name.now (search rules)
