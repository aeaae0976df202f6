use Rattle.city_journal.proofs.LineParts.{behind_found, behind_given}
use Rattle.city_journal.proofs.line_parts.behind.Goals as goal

pub returns-clause-found : goal.returns-clause-found
returns-clause-found c = behind_found c.args.bytes.now c.args.prefix.now c.strip_prefix.result c.strip_prefix.ensures.cases

pub returns-clause-written : goal.returns-clause-written
returns-clause-written c = behind_given c.args.bytes.now c.args.prefix.now c.strip_prefix.result c.strip_prefix.ensures.cases
