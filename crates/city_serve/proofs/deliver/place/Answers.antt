use Rattle.city_serve.proofs.Prelude.{ap, ◌∙◌}
use Rattle.std.proofs.Common.{rules}
use Rattle.city_serve.proofs.Replacing.{given_up, unlisted}
use Rattle.city_serve.proofs.deliver.place.Goals as goal

pub returns-in-Err-clause-fault : goal.returns-in-Err-clause-fault
returns-in-Err-clause-fault g c =
    let steps = g.F.TextFiles.steps in
    given_up c.args.path.now g.F.OutputFiles.are_known (g.F.New.Write.contents c.args.new)
    (g.F.TextFiles.text c.args.files.now) (steps c.args.files.now) (steps c.look_again.new.self)
    (steps c.give_up.new.self) (g.F.TextFiles.text c.give_up.new.self)
    (g.F.OutputFiles.have_failed c.look_again.new.self) (g.F.OutputFiles.have_failed c.give_up.new.self) c.in-Err.fault
    c.in-Err.ensures.fault (c.give_up.ensures.texts ∙ c.look_again.ensures.texts) c.give_up.ensures.failed
    c.in-Err.ensures.steps c.give_up.ensures.steps

pub returns-then-not-sync_folder-clause-fault : goal.returns-then-not-sync_folder-clause-fault
returns-then-not-sync_folder-clause-fault g c =
    let steps = g.F.TextFiles.steps in
    let path = c.args.path.now in
    let text = g.F.TextFiles.text in
    let synced = c.sync_folder.ensures.texts in
    let looked = c.look_again.ensures.texts in
    unlisted path g.F.OutputFiles.are_known (g.F.New.Write.contents c.args.new)
    (text c.args.files.now) (steps c.args.files.now) (steps c.look_again.new.self)
    (steps c.rename.new.self) (steps c.sync_folder.new.self) (text c.sync_folder.new.self)
    (g.F.OutputFiles.have_failed c.sync_folder.new.self) (
      ap (λ f. f path) synced ∙ c.if-not-rename.ensures.placed (search rules),
      λ other apart. ap (λ f. f other) synced ∙ c.if-not-rename.ensures.others other apart ∙ ap (λ f. f other) looked,
    )
    (search rules) (search rules) (search rules) (search rules)
