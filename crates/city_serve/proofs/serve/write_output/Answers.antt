use Rattle.city_serve.proofs.Prelude.{◌++◌, take, refl, ◌∙◌}
use Rattle.city_serve.proofs.KnownBytes.{appends_more, appends_then_keeps, more_written, some_appended}
use Rattle.city_serve.proofs.serve.write_output.Goals as goal

pub returns-in_default-clause-cut_short : goal.returns-in_default-clause-cut_short
returns-in_default-clause-cut_short g c =
    let so_far = c.loop-rest.invariant in
    λ _. some_appended _ _ so_far.0 c.loop-rest.rest.now c.args.bytes.now so_far.1
    (appends_then_keeps (g.W.Write.contents c.args.writer.now.0) (g.W.Write.contents c.loop-rest.writer.0)
    (g.W.Write.contents c.write_some.new.self.0) so_far.0 so_far.2 (c.in_default.ensures.kept refl))

pub loop-rest-preserved : goal.loop-rest-preserved
loop-rest-preserved g c =
    let so_far = c.loop-rest.invariant in
    let n = c.in-Some.count in
    let rest = c.loop-rest.rest.now in (
      so_far.0 ++ take n rest,
      more_written so_far.0 rest c.args.bytes.now n so_far.1,
      appends_more (g.W.Write.contents c.args.writer.now.0) (g.W.Write.contents c.loop-rest.writer.0)
          (g.W.Write.contents c.write_some.new.self.0) so_far.0 (take n rest) so_far.2 c.in-Some.ensures.written,
      c.in-Some.ensures.unfailed refl ∙ so_far.3,
    )

pub returns-clause-cut_short : goal.returns-clause-cut_short
returns-clause-cut_short g c =
    let so_far = c.loop-rest.invariant in
    λ _. some_appended _ _ so_far.0 c.loop-rest.rest.now c.args.bytes.now so_far.1
    (appends_then_keeps (g.W.Write.contents c.args.writer.now.0) (g.W.Write.contents c.loop-rest.writer.0)
    (g.W.Write.contents c.flush.new.self.0) so_far.0 so_far.2 c.flush.ensures.kept)
