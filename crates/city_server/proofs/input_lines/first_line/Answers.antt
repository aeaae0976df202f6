use Rattle.std.proofs.lemmas.Bool.{eqb-true}
use Rattle.city_server.proofs.Cutting.{cut_at, line_before, line_if_none}
use Rattle.city_server.proofs.input_lines.first_line.Goals as goal

pub returns-in-None : goal.returns-in-None
returns-in-None c = line_if_none c.args.bytes.now c.in-None.ensures

pub returns-in-Some : goal.returns-in-Some
returns-in-Some c =
    let found = c.in-Some.ensures in (
      line_before c.args.bytes.now c.in-Some.at found,
      cut_at c.args.bytes.now c.in-Some.at found.0.high (eqb-true _ 10 found.1),
    )
