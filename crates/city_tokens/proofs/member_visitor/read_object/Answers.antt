use Rattle.city_tokens.proofs.member_visitor.read_object.Goals as goal

pub returns : goal.returns
returns g c = rw (c.in_ok-next.ensures, c.in-BeginObject.is) c.read_opened.ensures
