use Rattle.city_serve.proofs.Prelude.{IfErr-weaker, inl, inr, refl, ◌∙◌, ◌∷◌, []}
use Rattle.std.proofs.Common.{rules}
use Rattle.city_serve.proofs.Replacing.{unplaced}
use Rattle.city_serve.proofs.Taken.{takes_more}
use Rattle.city_serve.specs.Steps.{Created, GivenUp, Synced}
use Rattle.city_serve.proofs.deliver.replace.Goals as goal

pub returns-then-not-write_output-clause-fault : goal.returns-then-not-write_output-clause-fault
returns-then-not-write_output-clause-fault g c =
    let path = c.args.path.now in
    let steps = g.F.TextFiles.steps in (
      Created path ∷ Synced ∷ GivenUp ∷ [],
      inr (inl (
        c.if-not-write_output.ensures.cut_short (search rules),
        c.give_up.ensures.texts ∙ c.filled_new.ensures.texts,
        c.if-not-write_output.ensures.failed (search rules),
        refl,
      )),
      takes_more (steps c.args.files.now) (steps c.filled_new.new.files) (steps c.give_up.new.self)
          (Created path ∷ Synced ∷ []) (GivenUp ∷ []) (search rules) c.give_up.ensures.steps,
    )

pub returns-clause-fault : goal.returns-clause-fault
returns-clause-fault g c =
    let path = c.args.path.now in
    let steps = g.F.TextFiles.steps in
    let text = g.F.TextFiles.text in
    IfErr-weaker c.place.result _ _ (λ f is. unplaced path c.args.report.now c.args.model.now
    g.F.OutputFiles.are_known (g.F.New.Write.contents c.in-Some.new) (text c.args.files.now)
    (text c.filled_new.new.files) (text c.place.new.files) (g.F.OutputFiles.have_failed c.place.new.files)
    (g.W.Write.contents c.args.writer.now.0) (g.W.Write.contents c.write_output.new.writer.0)
    c.write_output.new.writer.1 (steps c.args.files.now) (steps c.filled_new.new.files) (steps c.place.new.files) f
    is.0 c.in-Some.ensures.contents c.filled_new.ensures.texts (search rules) (search rules) is.1 is.2)
    c.place.ensures.fault
