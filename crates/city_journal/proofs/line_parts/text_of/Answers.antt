use Rattle.std.proofs.Common.{◌∙◌, [], ap, subst, sym}
use Rattle.std.specs.Str.{IsUtf8}
use Rattle.json.specs.Lex.{tokens}
use Rattle.json.proofs.Printed.Utf8.{IsUtf8-quoted}
use Rattle.city_journal.proofs.NameRead.{tokens_quoted}
use Rattle.city_journal.proofs.line_parts.text_of.Goals as goal

pub returns-in_default : goal.returns-in_default
returns-in_default c = record {
  written = λ s utf e. c.in_default.ensures.cases.0 (subst IsUtf8 (sym e) (IsUtf8-quoted s utf));
}

pub returns : goal.returns
returns c = record {
  written = λ s utf e. c.next_text.ensures.written s []
      (c.in_ok-reader.ensures.ok ∙ ap tokens (c.in-Ok.ensures.cases.0 ∙ e) ∙ tokens_quoted s);
}
