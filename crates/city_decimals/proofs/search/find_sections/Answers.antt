use Rattle.city_decimals.proofs.Prelude.{refl, sym, subst, take, drop}
use Rattle.std.proofs.lemmas.List.{take-append-drop}
use Rattle.city_decimals.proofs.Found.{lacks_behind}
use Rattle.city_decimals.proofs.Needles.{lacks_front}
use Rattle.city_decimals.proofs.PrintedLines.{text_decoded}
use Rattle.city_decimals.specs.internal.Needles.{Lacks, attributes_array}
use Rattle.city_decimals.proofs.search.find_sections.Goals as goal

pub find_frame-requires-clause-plain : goal.find_frame-requires-clause-plain
find_frame-requires-clause-plain c =
    let text = c.args.output.now in
    let n = c.args.report in
    lacks_behind attributes_array (take n text) (drop n text) (subst (Lacks attributes_array)
    (sym (take-append-drop n text)) (c.lacks.ensures c.if-not-lacks.false))

pub returns-then-has_numbers_alone-4 : goal.returns-then-has_numbers_alone-4
returns-then-has_numbers_alone-4 c =
    let text = c.args.output.now in
    let n = c.args.report in
    let lacks : Lacks attributes_array text = c.lacks.ensures c.if-not-lacks.false in
    record {
      frame = c.in_ok-frame.ensures;
      lines = λ p are is. text_decoded (take n text) p c.requires.lines are (lacks_front attributes_array (take n text)
          (drop n text) (subst (Lacks attributes_array) (sym (take-append-drop n text)) lacks)) is;
      report_alone = c.if-has_numbers_alone.ensures refl;
      front_alone = c.if-has_numbers_alone-2.ensures refl;
      inside_alone = c.if-has_numbers_alone-3.ensures refl;
      behind_alone = c.if-has_numbers_alone-4.ensures refl;
    }
