use Rattle.std.proofs.Common.{◌∷◌, [], refl, ap, arith, rules}
use Rattle.std.proofs.lemmas.List.{drop_all, length-drop}
use Rattle.city_model.specs.CityMap.{object_at}
use Rattle.city_journal.specs.Replays.{scripts_of}
use Rattle.city_journal.proofs.InOrder.{replay_leads}
use Rattle.city_journal.proofs.Replays.{one_slice_more}
use Rattle.city_journal.proofs.replaying.replay.Goals as goal

pub loop-at-init : goal.loop-at-init
loop-at-init c = (omega arith, c.requires, refl, λ ns m h. (ns, h))

pub loop-at-preserved : goal.loop-at-preserved
loop-at-preserved c =
    let l = c.loop-at in
    let n = c.batch_len-count.result in (
      search (rules, arith, length-drop),
      c.in_ok-next.ensures.lawful,
      search rules,
      λ ns m h. l.invariant.3 (n ∷ ns) m
          (one_slice_more c.args.decimals l.at n c.args.commits.now _ _ c.in_ok-next.ensures.leads ns m h),
    )

pub returns-clause-replayed : goal.returns-clause-replayed
returns-clause-replayed c =
    let l = c.loop-at in
    l.invariant.3 [] (object_at l.city.1) (ap scripts_of (drop_all l.at c.args.commits.now c.loop-at-test.false), refl)

pub returns-clause-noted : goal.returns-clause-noted
returns-clause-noted c =
    let l = c.loop-at in
    let all = l.invariant.3 [] (object_at l.city.1)
    (ap scripts_of (drop_all l.at c.args.commits.now c.loop-at-test.false), refl) in
    λ ns scripts numbers.
    replay_leads c.args.decimals all.0 c.args.commits.now ns (object_at c.args.city.1) (object_at l.city.1) scripts
    numbers all.1
