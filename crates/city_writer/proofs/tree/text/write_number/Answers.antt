use Rattle.city_writer.proofs.Prelude.{sym, ◌∙◌, rules, to_z-of_z, w64, FitsSigned, on_ok_weaker}
use Rattle.serde_json.specs.View.{number_view}
use Rattle.city_writer.proofs.tree.Integers.{number_reads, text_of_i64}
use Rattle.city_writer.proofs.tree.text.write_number.Goals as goal

pub returns-in-Some-clause-tokens : goal.returns-in-Some-clause-tokens
returns-in-Some-clause-tokens c =
    let fits : FitsSigned w64 c.in-Some.z = search rules in
    let text = text_of_i64 c.in-Some.z (number_view c.args.n.now) (sym c.as_i64.ensures ∙ c.in-Some.is) in
    on_ok_weaker c.write_i64.result (λ e. cc (to_z-of_z fits)) c.write_i64.ensures.ok

pub returns-in-Some-clause-reads : goal.returns-in-Some-clause-reads
returns-in-Some-clause-reads c =
    on_ok_weaker c.write_i64.result
    (λ e. number_reads _ c.in-Some.z c.args.n.now.valid (sym c.as_i64.ensures ∙ c.in-Some.is)
    (search rules)) c.write_i64.ensures.ok
