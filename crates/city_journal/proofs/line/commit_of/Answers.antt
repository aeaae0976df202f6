use Rattle.std.proofs.Common.{◌∙◌, codes}
use Rattle.city_journal.specs.LineTexts.{before_sum, behind_sum}
use Rattle.city_journal.specs.Sums.{sum_text}
use Rattle.city_journal.proofs.LineRead.{also_some, also_some_and, begins_whole}
use Rattle.city_journal.proofs.SumFound.{front_is, sum_length}
use Rattle.city_journal.proofs.line.commit_of.Goals as goal

pub returns-in_default-clause-written : goal.returns-in_default-clause-written
returns-in_default-clause-written c = λ by key script t v ft fv e.
    let front = before_sum by key script in
    let behind = behind_sum t v in
    c.in_default.ensures.written front (sum_text front behind) t v (sum_length front behind) ft fv e

pub returns-then-not-branch-clause-written : goal.returns-then-not-branch-clause-written
returns-then-not-branch-clause-written c = λ by key script t v ft fv e.
    let front = before_sum by key script in
    let behind = behind_sum t v in
    let place = c.in-Some.ensures.written front (sum_text front behind) t v (sum_length front behind) ft fv e in
    let all = c.in_ok-has_sum.ensures front behind e place.0 in
    absurd (cc (all, c.if-not-branch.true))

pub returns-clause-begins : goal.returns-clause-begins
returns-clause-begins c =
    also_some c.commit_before.result _ _ (λ x h. begins_whole (codes "{\"by\":") c.args.line.now c.in-Some.at h)
    c.commit_before.ensures.begins

pub returns-clause-written : goal.returns-clause-written
returns-clause-written c = λ by key script t v ft fv e.
    let front = before_sum by key script in
    let behind = behind_sum t v in
    let place = c.in-Some.ensures.written front (sum_text front behind) t v (sum_length front behind) ft fv e in
    also_some_and c.commit_before.result _ _ (λ x h. (h.0, h.1, h.2 ∙ place.1))
    (c.commit_before.ensures.written by key script (front_is c.args.line.now front behind c.in-Some.at e place.0))
