use Rattle.city_locks.proofs.Prelude.{rules, ◌∙◌, ap, without}
use Rattle.std.proofs.lemmas.Fn.{filter_same}
use Rattle.city_locks.proofs.holders.Holders.release.Goals as goal

pub returns : goal.returns
returns c = filter_same _ _ _ (λ x b f' k. search rules) _ _ c.retain.ensures.filtered
    ∙ ap (λ hs. without hs c.args.stamp) c.self.view_is
