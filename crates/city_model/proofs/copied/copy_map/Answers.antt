use Rattle.city_model.proofs.Prelude.{◌≡◌, ◌++◌, sym, ap, ◌∙◌, subst, slice_cmp, IsStrictlySortedBy, keys_of}
use Rattle.city_model.proofs.Prelude.{append-nil}
use Rattle.std.proofs.Common.{nat_cmp}
use Rattle.std.proofs.lemmas.Iterator.Adapters.{YieldsList-from_vec}
use Rattle.city_model.proofs.MapsMade.{collected}
use Rattle.city_model.proofs.copied.copy_map.Goals as goal

pub returns : goal.returns
returns g c =
    let copies = c.loop-id.copies in
    let done : c.args.map.now.entries ≡ copies.items =
    c.loop-id.invariant ∙ ap (λ es. copies.items ++ es) c.in-None.ensures.steps.0 ∙ append-nil copies.items in
    collected copies.items c.in_ok-copy-3.copy c.collect.result c.in_ok-copy-3.was c.collect.ensures.ran
    (YieldsList-from_vec copies.items c.into_iter.ensures.rest (c.into_iter.ensures.len ∙ copies.ok.0))
    (subst (λ es. IsStrictlySortedBy (slice_cmp nat_cmp) (keys_of es)) done c.len.ensures.ordered) ∙ sym done
