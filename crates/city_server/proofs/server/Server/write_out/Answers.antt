use Rattle.std.proofs.Common.{◌≡◌, ℕ, List, subst}
use Rattle.std.specs.Prelude.{OnErr}
use Rattle.city_serve.specs.ServedTexts.{AppendsSome}
use Rattle.city_server.proofs.Unsynced.{some_written}
use Rattle.city_server.proofs.server.Server.write_out.Goals as goal

pub returns-clause-err : goal.returns-clause-err
returns-clause-err g c =
    let old = g.W.Write.contents c.args.output.now.0 in
    let new = g.W.Write.contents c.write_synced.new.output.0 in
    let same : c.as_slice.result.now ≡ c.args.self.now.told.answers.items = cc (c.as_slice.ensures.value) in
    subst (λ (l : List ℕ). OnErr c.write_synced.result (AppendsSome old new l)) same
    (some_written c.write_synced.result _ _ c.as_slice.result.now old new c.write_synced.new.output.1
    c.write_synced.ensures.fault)
