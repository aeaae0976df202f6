use Rattle.std.proofs.Common.{◌∙◌, sym, ap, subst}
use Rattle.std.specs.Map.{keys_of}
use Rattle.city_live.specs.Naming.{AreNamed}
use Rattle.city_live.specs.Watched.{without_name}
use Rattle.city_live.proofs.Names.{keys_removed, named_removed}
use Rattle.city_live.proofs.watchers.Watchers.remove.Goals as goal

pub invariant_of-self : goal.invariant_of-self
invariant_of-self c =
    subst AreNamed (sym c.remove.ensures.entries) (named_removed _ c.self.inside.by_name.entries c.self.invariant)

pub returns : goal.returns
returns c =
    ap (λ ws. keys_of ws) c.remove.ensures.entries
    ∙ (keys_removed _ c.self.inside.by_name.entries ∙ ap (λ l. without_name l c.args.hand.now) c.self.view_is)
