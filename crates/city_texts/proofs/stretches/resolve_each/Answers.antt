use Rattle.city_texts.proofs.Prelude.{◌≡◌, length, IfSome, arith, Pairs, IsResolvedObject, points_of}
use denote.Param.Send.{sendable}
use Rattle.std.proofs.Crossing as values
use Rattle.city_members.proofs.Crossing.{text_sends}
use Rattle.city_model.proofs.Crossing.{object_sends}
use Rattle.city_texts.proofs.Crossing.{unresolved_sends}
use Rattle.city_tokens.proofs.Options.{given}
use Rattle.city_tokens.proofs.Pairing.{pairs_given}
use Rattle.city_texts.proofs.stretches.resolve_each.Goals as goal

pub map_vec-requires-send-J : goal.map_vec-requires-send-J
map_vec-requires-send-J g c κs within =
    search (text_sends, unresolved_sends, values.crosses, sendable) depth 60 fits 20000

pub map_vec-requires-send-X : goal.map_vec-requires-send-X
map_vec-requires-send-X g c κs within = search (text_sends, object_sends, values.crosses, sendable) depth 60 fits 20000

pub returns : goal.returns
returns g c =
    let jobs = c.args.stretches in
    let resolved = c.in_ok-resolved.resolved in
    let len = given c.map_vec.result c.ok.result resolved (λ v. _) c.ok.ensures.value c.in_ok-resolved.was
    c.map_vec.ensures.len in
    let each = given c.map_vec.result c.ok.result resolved (λ v. _) c.ok.ensures.value c.in_ok-resolved.was
    c.map_vec.ensures.each in
    let same : length resolved.items ≡ length jobs.items = omega (arith, len, resolved.ok.0, jobs.ok.0) in
    let R = IsResolvedObject (points_of c.args.vertices.now) in
    pairs_given (λ s o. IfSome o (λ p. Pairs R s.items p.items)) jobs.items resolved.items same (λ i d e less.
    let job = (each i e less).1 in
    rw (job.job_is d) job.call.met)
