use Rattle.city_options.proofs.LineAnswers.{IsText, fault_answered, line_refused, names_answered, not_free, only}
use Rattle.city_options.proofs.LineAnswers.{read_line, text_fault, unknown_fault, wanting}
use Rattle.city_options.proofs.LineFindings.{fault}
use Rattle.city_options.specs.CommandLines.{AnswersOptions, IsLineOf, Line}
use Rattle.clap.specs.Simple.{App}
use Rattle.clap.specs.Walk.{Text}
use Rattle.clap.specs.Words.{HasKind, fault_of, found_of, is_simple, is_simple_and_free, matches_of}
use Rattle.clap.specs.declared.error.kind.ErrorKind.TheVariants.{UnknownArgument}
use Rattle.std.proofs.Common.{List, [], ap, drop, inr, map, refl, string_bytes, subst, sym, ◌∙◌, ◌≡◌}
use Rattle.city_options.proofs.command_line.asked_by.Goals as goal

pub returns-in_err-command : goal.returns-in_err-command
returns-in_err-command c =
    let args : List Text = drop 1 (map string_bytes c.args.words.now) in
    let answer = c.from_residual.result in
    let short = wanting answer c.from_residual.ensures.1 in
    let options = λ (line : Line) (is : IsLineOf line args). line_refused answer is (rw short refl) (λ free. short) in
    record {
      names = names_answered args answer options;
      shown = λ word rest asks are. inr short;
      unknown = λ met. rw short refl;
      options = options;
      within = rw short tt;
    }

pub returns-in-Ok : goal.returns-in-Ok
returns-in-Ok c =
    let words : List Text = map string_bytes c.args.words.now in
    let args : List Text = drop 1 words in
    let command_is = c.in_ok-command.ensures in
    let are = (c.in-Ok.ensures.ok.2 (ap is_simple command_is)).0 ∙ ap (λ (a : App). matches_of a words) command_is in
    let free : fault args ≡ [] =
    sym (ap (λ (a : App). fault_of a words) command_is) ∙ c.in-Ok.ensures.kinds (ap is_simple_and_free command_is) in
    let answer = c.by_given.result in
    let options = λ (line : Line) (is : IsLineOf line args). subst (λ l. AnswersOptions l answer)
    (read_line (found_of c.in-Ok.matches) c.given_in.result is are free c.given_in.ensures)
    c.by_given.ensures.answers in
    record {
      names = names_answered args answer options;
      shown = λ word rest asks is. absurd (not_free (ap fault is ∙ (text_fault word rest asks).1) free);
      unknown = λ met. absurd (not_free (unknown_fault args met) free);
      options = options;
      within = c.by_given.ensures.within;
    }

pub returns : goal.returns
returns c =
    let words : List Text = map string_bytes c.args.words.now in
    let args : List Text = drop 1 words in
    let command_is = c.in_ok-command.ensures in
    let answer = c.without_names.result in
    let can = c.without_names.ensures in
    let kind = subst (λ (a : App). HasKind (fault_of a words) c.in-Err.error) command_is
    (c.in-Err.ensures.kinds (ap is_simple_and_free command_is)) in
    let options = λ (line : Line) (is : IsLineOf line args). fault_answered _ answer is can.memory can.mistake kind in
    record {
      names = names_answered args answer options;
      shown = λ word rest asks is.
          let text = text_fault word rest asks in can.shown (only IsText (ap fault is ∙ text.1) text.2 kind);
      unknown = λ met. can.mistake (only (λ k. k ≡ UnknownArgument) (unknown_fault args met) refl kind);
      options = options;
      within = can.within;
    }
