use Rattle.std.proofs.Common.{◌∙◌, sym, ap, subst}
use Rattle.std.specs.Arc.{arc_value}
use Rattle.std.specs.Map.{keys_of}
use Rattle.city_live.specs.Naming.{AreNamed}
use Rattle.city_live.specs.Watched.{with_name}
use Rattle.city_live.proofs.Names.{keys_added, named_added}
use Rattle.city_live.proofs.watchers.Watchers.add.Goals as goal

pub invariant_of-self-2 : goal.invariant_of-self-2
invariant_of-self-2 c =
    subst AreNamed (sym c.in_ok-insert.ensures.entries)
    (named_added c.self.inside.by_name.entries c.in_ok-key.key c.in_ok-name.name
    (c.in_ok-name.ensures ∙ sym (c.in_ok-key.ensures ∙ c.deref.ensures)) c.self.invariant)

pub returns-clause-added : goal.returns-clause-added
returns-clause-added c =
    ap (λ ws. keys_of ws) c.in_ok-insert.ensures.entries
    ∙ (keys_added c.self.inside.by_name.entries c.in_ok-key.key c.in_ok-name.name
    ∙ (ap (with_name (keys_of c.self.inside.by_name.entries)) (c.in_ok-key.ensures ∙ c.deref.ensures)
    ∙ ap (λ l. with_name l (arc_value c.args.hand.now)) c.self.view_is))
