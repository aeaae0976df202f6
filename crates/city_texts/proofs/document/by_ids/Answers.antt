use Rattle.city_texts.proofs.Prelude.{[], ◌∙◌, nat_cmp, IsFromIterResult, slice_cmp, made}
use Rattle.std.proofs.lemmas.Iterator.Adapters.{fact_from_collect, YieldsList-from_vec}
use Rattle.city_tokens.proofs.document.Listings.{faultless_each, listed_entries}
use Rattle.city_tokens.proofs.Options.{given}
use Rattle.city_texts.proofs.document.by_ids.Goals as goal

pub returns : goal.returns
returns c =
    let resolved = c.args.resolved in
    let objects = c.in_ok-objects.objects in
    let all = YieldsList-from_vec resolved.items c.into_iter.ensures.rest (c.into_iter.ensures.len ∙ resolved.ok.0) in
    let is : IsFromIterResult (slice_cmp nat_cmp) resolved.items objects =
    given c.collect.result c.ok.result objects (λ m. IsFromIterResult (slice_cmp nat_cmp) resolved.items m)
    c.ok.ensures.value c.in_ok-objects.was
    (fact_from_collect (λ xs m. IsFromIterResult (slice_cmp nat_cmp) xs m) c.collect.result c.collect.ensures.ran
    all) in
    record {
      entries = λ points all found pairs listed. listed_entries points all resolved.items objects found is pairs listed;
      faultless = λ points all pairs.
          rw (made resolved.items objects is) (faultless_each points all resolved.items [] pairs tt);
    }
