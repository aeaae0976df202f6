use Rattle.city_tokens.proofs.Prelude.{arith}
use Rattle.city_tokens.proofs.CommandMembers.{verb_taken, other_taken}
use Rattle.city_tokens.proofs.command.CommandPartsMemberVisitor.visit_member.Goals as goal

pub returns-in-Some : goal.returns-in-Some
returns-in-Some c =
    let text = c.in_ok-text in
    let copy = c.in_ok-copy in
    verb_taken c.args.self.now c.in-Some.verb copy.copy text.text.now c.in-Some.ensures copy.ensures (grind arith)
    (text.ensures c.args.depth)

pub returns : goal.returns
returns c =
    let read = c.in_ok-other in
    other_taken c.args.self.now read.other read.ensures.named (grind arith) read.ensures.read
