use Rattle.city_tokens.proofs.Prelude.{IfSome_then}
use Rattle.city_tokens.proofs.ResolvedParts.{body_taken}
use Rattle.city_tokens.proofs.body.BodyPartsMemberVisitor.visit_member.Goals as goal

pub returns : goal.returns
returns c =
    IfSome_then c.visit_member.result c.visit_member.ensures
    (λ taken h. body_taken taken c.args.self.now.object c.visit_member.new.self c.args.name.now c.args.depth
    c.args.reader.now c.visit_member.new.reader c.if-is_name.ensures c.if-is_name-2.ensures h)
