use Rattle.city_journal.proofs.LineParts.{before_found, before_given}
use Rattle.city_journal.proofs.line_parts.before.Goals as goal

pub returns-clause-found : goal.returns-clause-found
returns-clause-found c = before_found c.args.bytes.now c.args.suffix.now c.strip_suffix.result c.strip_suffix.ensures.cases

pub returns-clause-written : goal.returns-clause-written
returns-clause-written c = before_given c.args.bytes.now c.args.suffix.now c.strip_suffix.result c.strip_suffix.ensures.cases
