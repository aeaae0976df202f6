use Rattle.city_tokens.proofs.document.Listings.{listed}
use Rattle.city_tokens.proofs.Options.{given}
use Rattle.city_tokens.proofs.objects.ListingMemberVisitor.visit_member.Goals as goal

pub returns : goal.returns
returns c =
    let o = c.in_ok-object in
    let grown = given c.push.result c.ok.result c.in_ok-ok.field-0 (λ _. _) c.ok.ensures.value c.in_ok-ok.was
    c.push.ensures.ok in
    listed c.args.self.now.objects c.push.new.self c.in_ok-id.id _ o.object grown c.in_ok-id.ensures o.ensures
