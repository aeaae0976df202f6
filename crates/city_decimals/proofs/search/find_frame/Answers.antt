use Rattle.city_decimals.proofs.Prelude.{refl, ◌≡◌, ◌++◌, ◌∷◌, [], ◌∙◌, sym, ap, subst, arith, HasNumbers}
use Rattle.city_decimals.proofs.Prelude.{AreDecodedLines}
use Rattle.city_decimals.proofs.Prelude.{object, value_text, decoded_top, length, take, drop, take_all, length-take}
use Rattle.city_decimals.proofs.Prelude.{length-drop, ◌+◌, ◌-◌}
use Rattle.city_decimals.proofs.CompactForms.{frame_end}
use Rattle.city_decimals.proofs.FramedTexts.{line_is, framed_text, framed_passed, parts_at, text_before}
use Rattle.city_decimals.proofs.FramedTexts.{text_behind, transform_name, frame_begin}
use Rattle.city_decimals.proofs.PrintedLines.{model_decoded, unframed, front_is, inside_is, behind_is}
use Rattle.city_decimals.specs.Lines.{framed_top, IsPrintedModel}
use Rattle.city_decimals.specs.internal.Needles.{Lacks, attributes_array}
use Rattle.city_decimals.specs.internal.Found.{decoded_of}
use Rattle.city_decimals.proofs.search.find_frame.Goals as goal

pub returns-then-not-is_framed : goal.returns-then-not-is_framed
returns-then-not-is_framed c =
    unframed c.args.report c.args.output.now c.requires.within (subst (λ b. IsPrintedModel b (drop c.args.report
    c.args.output.now)) c.if-not-is_framed.true c.requires.model) c.requires.plain

pub returns : goal.returns
returns c =
    let text = c.args.output.now in
    let report = c.args.report in
    let line = drop report text in
    let slice = take (length text - report) line in
    let all : slice ≡ line = take_all (length text - report) line (omega (arith, length-drop report text)) in
    let at = c.in_ok-at.at in
    let len = c.in_ok-len.len in
    let model = c.requires.model in
    let top = model.frame c.if-not-is_framed.false in
    let before = top.0 in
    let inside = top.1 in
    let behind = top.2 in
    let whole = framed_top before inside behind in
    let x = value_text (object inside) in
    let last = text_behind behind in
    let front = text_before before in
    let is : line ≡ value_text whole ++ 10 ∷ []
    = model.text_is ∙ ap (λ l. l ++ 10 ∷ []) (line_is model.tree model.line model.printed ∙ ap value_text top.3) in
    let parts = is ∙ framed_text before inside behind in
    let begin = c.in_ok-at.ensures.only front (x ++ (frame_end ++ last)) (all ∙ parts) in
    let there = parts_at front transform_name frame_begin (x ++ (frame_end ++ last)) slice at 12 5 (all ∙ parts) begin
    refl refl in
    let end = c.in_ok-len.ensures.only x last there.1 in
    let numbers = subst HasNumbers top.3 model.printed.1 in
    let lacks = subst (Lacks attributes_array) is c.requires.plain in
    record {
      begin = omega arith;
      inside = omega arith;
      end = omega arith;
      behind = omega arith;
      within = omega (
        arith,
        c.in_ok-at.ensures.within,
        c.in_ok-len.ensures.within,
        ap length all,
        length-drop report text,
        length-take (length slice - (at + 17)) (drop (at + 17) slice),
        length-drop (at + 17) slice,
      );
      model = λ p q r hp hq hr ep eq er.
          let made = decoded_of p ++ (decoded_of q ++ decoded_of r) in
          let decoded = framed_passed before inside behind p q r numbers hp hq hr lacks
          (ep ∙ front_is report at len text front transform_name frame_begin x frame_end last parts begin refl refl end
          refl)
          (eq ∙ inside_is report at len text front transform_name frame_begin x frame_end last parts begin refl refl end
          refl)
          (er ∙ behind_is report at len text front transform_name frame_begin x frame_end last parts begin refl refl end
          refl) ∙ ap (λ i. value_text (decoded_top i) ++ 10 ∷ []) (sym top.3) in
          subst (λ t. AreDecodedLines t made) (sym model.text_is) (model_decoded model.tree model.line made
          model.printed model.one decoded);
    }
