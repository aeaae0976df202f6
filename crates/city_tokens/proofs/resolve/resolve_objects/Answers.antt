use Rattle.city_tokens.proofs.Prelude.{rules, ℕ, List, ◌≡◌, ◌∷◌, ◌++◌, [], refl, sym, ap, ◌∙◌, append_assoc}
use Rattle.city_tokens.proofs.Prelude.{into_iter_items, Object, IsResolvedObject, points_of}
use Rattle.std.specs.Bool.{if◌then◌else◌}
use Rattle.std.proofs.lemmas.List.{append-nil, nil_from_length}
use Rattle.city_tokens.proofs.Pairing.{pairs_push}
use Rattle.city_tokens.proofs.resolve.resolve_objects.Goals as goal

pub loop-id-preserved : goal.loop-id-preserved
loop-id-preserved c =
    let l = c.loop-id in
    let done = l.invariant.0 in
    let unresolved : List ℕ × Object = (c.in-Some.id, c.in-Some.object) in
    let resolved : List ℕ × Object = (c.in-Some.id, c.in_ok-object.object) in
    let R = IsResolvedObject (points_of c.args.vertices.now) in
    let pushed : c.push.new.self.items ≡ l.resolved.items ++ resolved ∷ [] =
    c.push.ensures.items
    ∙ ap (λ b. if b then l.resolved.items ++ resolved ∷ [] else l.resolved.items) (sym c.in_ok-ok.ensures.variant) in
    let all = pairs_push R done l.resolved.items unresolved resolved l.invariant.2
    (refl, c.in_ok-object.ensures.resolved, c.in_ok-object.ensures.faultless) in
    let left = l.invariant.1 ∙ ap (λ left. done ++ left) c.in-Some.ensures.steps.0
    ∙ sym (append_assoc done (unresolved ∷ []) (into_iter_items c.next.new.self)) in
    (done ++ unresolved ∷ [], left, rw pushed all)

pub returns : goal.returns
returns c =
    let l = c.loop-id in
    let none : into_iter_items l.id-iterator ≡ [] = nil_from_length (into_iter_items l.id-iterator) (search rules) in
    rw (l.invariant.1, none, append-nil l.invariant.0) l.invariant.2
