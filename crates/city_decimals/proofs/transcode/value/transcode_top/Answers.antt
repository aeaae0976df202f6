use Rattle.city_decimals.proofs.Prelude.{rules, on_ok_weaker, value_is, value-begin_object}
use Rattle.json.specs.Json.{value}
use Rattle.city_decimals.proofs.Streams.{written_with, written_as}
use Rattle.city_decimals.proofs.Directions.{top_object, changed_other}
use Rattle.city_decimals.proofs.Starts.{no_brace}
use Rattle.city_decimals.proofs.transcode.value.transcode_top.Goals as goal

pub returns-in_err-token-clause-err : goal.returns-in_err-token-clause-err
returns-in_err-token-clause-err c refused = search (rules, value_is)

pub returns-then-depth-eq0-clause-err : goal.returns-then-depth-eq0-clause-err
unfolding value
returns-then-depth-eq0-clause-err c never = search rules

pub returns-else-depth-eq0-clause-ok : goal.returns-else-depth-eq0-clause-ok
returns-else-depth-eq0-clause-ok c = search (rules, value-begin_object, on_ok_weaker, written_with, top_object)

pub returns-else-depth-eq0-clause-err : goal.returns-else-depth-eq0-clause-err
returns-else-depth-eq0-clause-err c refused = search (rules, value-begin_object)

pub returns-in_default : goal.returns-in_default
returns-in_default c = search (rules, no_brace, on_ok_weaker, written_as, changed_other)
