use Rattle.city_members.proofs.Prelude.{◌≡◌, Equal, Less, arith, length, nat_cmp, rules, slice_cmp, string_bytes, subst}
use Rattle.city_members.proofs.Prelude.{sym, take}
use Rattle.std.proofs.Common.{Greater}
use Rattle.std.proofs.lemmas.List.{drop_all}
use Rattle.city_members.specs.Members.{AllAbove}
use Rattle.city_members.specs.internal.KeptValues.{members_data}
use Rattle.city_members.specs.internal.MemberLists.{AllBelow}
use Rattle.city_members.proofs.KeptLists.{below_next, found_at, free_before}
use Rattle.city_members.proofs.kept.shared_members.place_in.Goals as goal

pub returns-in-Less-clause-free : goal.returns-in-Less-clause-free
returns-in-Less-clause-free c =
    let x = c.index-members-at.result in
    let less : slice_cmp nat_cmp c.args.name.now (string_bytes x.0) ≡ Less = search rules in
    free_before c.args.members.now _ c.loop-at.at c.loop-at.invariant x c.loop-at-test.true c.index-members-at.is
    c.requires less

pub returns-in-Equal-clause-found : goal.returns-in-Equal-clause-found
returns-in-Equal-clause-found c =
    let x = c.index-members-at.result in
    let equal : slice_cmp nat_cmp c.args.name.now (string_bytes x.0) ≡ Equal = search rules in
    found_at c.args.members.now _ c.loop-at.at c.loop-at.invariant x c.loop-at-test.true c.index-members-at.is
    c.requires equal

pub loop-at-preserved : goal.loop-at-preserved
loop-at-preserved c =
    let x = c.index-members-at.result in
    let greater : slice_cmp nat_cmp c.args.name.now (string_bytes x.0) ≡ Greater = search rules in
    below_next c.args.members.now c.loop-at.at x _ c.loop-at-test.true c.index-members-at.is greater c.loop-at.invariant

pub loop-at-init : goal.loop-at-init
loop-at-init c = tt

pub returns-clause-free : goal.returns-clause-free
returns-clause-free c =
    let ms = c.args.members.now in
    let at : c.loop-at.at ≡ length ms = omega (arith, c.loop-at.auto.at-end, c.loop-at-test.false) in
    record {
      within = omega arith;
      below = subst (λ n. AllBelow (members_data (take n ms)) c.args.name.now) at c.loop-at.invariant;
      above =
          subst (λ xs. AllAbove c.args.name.now (members_data xs)) (sym (drop_all (length ms) ms (omega arith))) tt;
    }
