use Rattle.city_writer.proofs.Prelude.{◌≡◌, [], ◌∷◌, ◌++◌, Some, refl, sym, ap, ◌∙◌, append_assoc, rules, begin_object}
use Rattle.city_writer.proofs.Prelude.{Data, string, no_members, list_data, reply_data, tokens_of_members}
use Rattle.city_writer.proofs.Prelude.{closing_members}
use Rattle.std.proofs.Common.{codes}
use Rattle.city_model.specs.declared.command.Cause.TheVariants.{NoMark}
use Rattle.city_model.specs.declared.end.Outcome.{Outcome}
use Rattle.city_writer.specs.report.Ends.{count_data, outcome_name, put_ending}
use Rattle.city_writer.proofs.tree.Among.{puts}
use Rattle.city_writer.proofs.document.PutMembers.{after_written, on_ok}
use Rattle.city_writer.specs.internal.tree.OwnMembers.{Own}
use Rattle.city_writer.proofs.report.end.write_end.Goals as goal

module _ (name outcome replies script since : Data) where
  abbrev own : Own
  own = (codes "name", Some name) ∷ (codes "outcome", Some outcome) ∷ (codes "replies", Some replies)
      ∷ (codes "script", Some script) ∷ (codes "since", Some since) ∷ []

  -- the members of an outcome come before all others
  ending_first : (o : Outcome)
      → closing_members (put_ending o (puts own no_members)) ≡ tokens_of_members (put_ending o no_members)
      ++ closing_members (puts own no_members)
  ending_first (Outcome.Refused i (NoMark name)) = refl
  ending_first _ = refl

pub returns-clause-tokens : goal.returns-clause-tokens
returns-clause-tokens c =
    let e = c.args.end.now in
    let old = c.args.out.now.tokens in
    let front = tokens_of_members (put_ending e.outcome no_members) in
    let mine = own (string e.name) (string (outcome_name e.outcome)) (list_data reply_data e.replies)
    (count_data e.script) (count_data e.since) in
    let rest = closing_members (puts mine no_members) in
    on_ok c.end_object.result c.end_object.ensures.ok (λ end.
    rw (end, c.in_ok-u64-2.ensures.ok, c.in_ok-key-5.ensures.ok, c.in_ok-u64.ensures.ok, c.in_ok-key-4.ensures.ok)
    (rw (c.in_ok-write_replies.ensures.tokens, c.as_slice.ensures, c.in_ok-key-3.ensures.ok)
    (rw (c.in_ok-string-2.ensures.ok, c.outcome_name.ensures, c.in_ok-key-2.ensures.ok, c.in_ok-string.ensures.ok)
    (rw (c.as_str.ensures, c.in_ok-key.ensures.ok) (after_written mine c.write_ending.new.out.tokens (search rules)
    ∙ rw (c.in_ok-write_ending.ensures.tokens, c.in_ok-begin_object.ensures.ok)
    (append_assoc (old ++ begin_object ∷ []) front rest ∙ append_assoc old (begin_object ∷ []) (front ++ rest)
    ∙ ap (λ ts. old ++ begin_object ∷ ts) (sym (ending_first _ _ _ _ _ e.outcome))))))))
