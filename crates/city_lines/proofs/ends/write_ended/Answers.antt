use Rattle.city_lines.proofs.Prelude.{◌∙◌, ◌∷◌, ◌++◌, ap, sym, append-nil, codes, key, begin_object, string, tokens_of}
use Rattle.city_lines.proofs.Prelude.{tokens_of_members, no_members, member}
use Rattle.serde_json.specs.Data.{string as text}
use Rattle.city_writer.specs.report.Ends.{count_data, outcome_name, put_ending}
use Rattle.city_lines.specs.Told.{one, ended_data, with_replies}
use Rattle.city_lines.proofs.EndTokens.{ending_first, replies_first}
use Rattle.city_lines.proofs.Parts.{of_nine}
use Rattle.city_lines.proofs.ends.write_ended.Goals as goal

pub returns-clause-tokens : goal.returns-clause-tokens
returns-clause-tokens c =
    let e = c.args.end.now in
    let old = c.args.out.now.tokens in
    let ending = tokens_of_members (put_ending e.outcome no_members) in
    let behind = member (codes "since") (count_data e.since) (one (codes "version") (count_data e.version)) in
    let rest = member (codes "outcome") (text (outcome_name e.outcome)) (with_replies e.replies behind) in
    rw (
      c.in_ok-end_object.ensures.ok,
      c.in_ok-write_number-2.ensures.tokens,
      c.in_ok-write_number.ensures.tokens,
      c.in_ok-write_end_replies.ensures.tokens,
      c.in_ok-write_text-2.ensures.tokens,
      c.outcome_name.ensures,
    )
    (rw (
      c.in_ok-write_text.ensures.tokens,
      c.as_str.ensures,
      c.in_ok-write_ending.ensures.tokens,
      c.in_ok-begin_object.ensures.ok,
      c.in_ok-key.ensures.ok,
    )
    (of_nine old _ _ _ _ _ _ _ _ _
    ∙ ap (λ ts. old ++ key (codes "ended") ∷ begin_object ∷ (ending ++ key (codes "name") ∷ string e.name
    ∷ key (codes "outcome") ∷ string (outcome_name e.outcome) ∷ ts)) (sym (replies_first e.replies behind))
    ∙ ap (λ ts. old ++ key (codes "ended") ∷ begin_object ∷ ts) (sym (ending_first e.outcome (text e.name) rest))
    ∙ ap (λ ts. old ++ key (codes "ended") ∷ ts) (sym (append-nil (tokens_of (ended_data e))))))
