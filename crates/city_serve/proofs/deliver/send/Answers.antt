use Rattle.city_serve.proofs.Prelude.{IfErr-weaker, List, ap, drop, sym, take, ℕ}
use Rattle.std.proofs.Common.{Bor, option_map}
use Rattle.std.proofs.lemmas.List.{take-append-drop}
use Rattle.city_serve.proofs.Replacing.{cut_nowhere, cut_without_file}
use Rattle.city_serve.proofs.deliver.send.Goals as goal

pub returns-then-nowhere-clause-fault : goal.returns-then-nowhere-clause-fault
returns-then-nowhere-clause-fault g c =
    let bytes = c.args.bytes.now in
    let at = c.args.at in
    IfErr-weaker c.write_all.result _ _ (λ f is. cut_nowhere (option_map (λ s. s.now) c.args.file)
    c.args.nowhere (take at bytes) (drop at bytes) c.split_at.result.0.now (g.F.TextFiles.text c.args.files.now)
    (g.F.OutputFiles.have_failed c.args.files.now) (g.W.Write.contents c.args.writer.now.0)
    (g.W.Write.contents c.write_all.new.writer.0) c.write_all.new.writer.1 (g.F.TextFiles.steps c.args.files.now) f is
    c.if-nowhere.true c.split_at.ensures.front) c.write_all.ensures.fault

pub returns-in-None-clause-fault : goal.returns-in-None-clause-fault
returns-in-None-clause-fault g c =
    let bytes = c.args.bytes.now in
    let at = c.args.at in
    let now : Bor (List ℕ) → List ℕ = λ s. s.now in
    IfErr-weaker c.write_all-in-None.result _ _ (λ f is. cut_without_file (option_map now c.args.file)
    c.args.nowhere (take at bytes) (drop at bytes) bytes (g.F.TextFiles.text c.args.files.now)
    (g.F.OutputFiles.have_failed c.args.files.now) (g.W.Write.contents c.args.writer.now.0)
    (g.W.Write.contents c.write_all-in-None.new.writer.0) c.write_all-in-None.new.writer.1
    (g.F.TextFiles.steps c.args.files.now) f is c.if-nowhere.false (ap (option_map now) c.in-None.is)
    (sym (take-append-drop at bytes))) c.write_all-in-None.ensures.fault
