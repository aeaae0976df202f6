use Rattle.city_program.proofs.Prelude.{List, ℕ, drop, map, string_bytes, inl, inr, refl, subst}
use Rattle.city_program.specs.Programs.{AsksFor}
use Rattle.city_serve.proofs.KnownBytes.{keeps_same}
use Rattle.city_serve.proofs.Taken.{takes_none}
use Rattle.city_program.proofs.program.run_program.Goals as goal

pub returns-in-Ok : goal.returns-in-Ok
returns-in-Ok g c =
    let arguments : List (List ℕ) = drop 1 (map string_bytes c.args.words.now) in
    let asks : AsksFor arguments c.asked_by.result = record {
      names = c.asked_by.ensures.names;
      shown = c.asked_by.ensures.shown;
      unknown = c.asked_by.ensures.unknown;
      options = c.asked_by.ensures.options;
      within = c.asked_by.ensures.within;
    } in
    inl (record {
      asked = c.in-Ok.asked;
      asks = subst (AsksFor arguments) c.in-Ok.is asks;
      named = c.run_asked.ensures.named;
      ended = c.run_asked.ensures.ended;
    })

pub returns-in-Err : goal.returns-in-Err
returns-in-Err g c =
    let arguments : List (List ℕ) = drop 1 (map string_bytes c.args.words.now) in
    let asks : AsksFor arguments c.asked_by.result = record {
      names = c.asked_by.ensures.names;
      shown = c.asked_by.ensures.shown;
      unknown = c.asked_by.ensures.unknown;
      options = c.asked_by.ensures.options;
      within = c.asked_by.ensures.within;
    } in
    inr (record {
      fault = c.in-Err.fault;
      asks = subst (AsksFor arguments) c.in-Err.is asks;
      kept = keeps_same (g.W.Write.contents c.args.output.now.0);
      same = refl;
      steps = takes_none (g.F.TextFiles.steps c.args.files.now);
      line = c.refuse_line.ensures;
    })
