use Rattle.city_writer.proofs.Prelude.{refl, sym, subst, append_assoc, print-outline}
use Rattle.city_writer.specs.report.Ends.{end_data}
use Rattle.city_writer.specs.report.JsonLines.{AreJsonLines}
use Rattle.city_writer.proofs.tree.CompactJson.{compact_json, line_more}
use Rattle.city_writer.proofs.report.write.with_line.Goals as goal

pub returns-clause-text : goal.returns-clause-text
returns-clause-text c =
    rw (c.in_ok-push.ensures.items, c.into_inner-report.ensures.items, c.in_ok-write_end.ensures.before)
    (rw (c.new-out.ensures.before, c.in_ok-write_end.ensures.tokens, c.new-out.ensures.tokens)
    (rw (print-outline (end_data c.args.end.now), append_assoc) refl))

pub returns-clause-lines : goal.returns-clause-lines
returns-clause-lines c before =
    let end = c.args.end.now in
    let items = c.into_inner-report.ensures in
    let same = rw c.new-out.ensures.tokens at c.in_ok-write_end.ensures.tokens in
    let json = compact_json (end_data end) (rw same at items.reads_back) (rw same at items.utf8) in
    subst AreJsonLines (sym (returns-clause-text c)) (line_more _ _ before json)
