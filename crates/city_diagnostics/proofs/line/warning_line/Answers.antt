use Rattle.city_diagnostics.proofs.Prelude.{◌∙◌, ap, codes, IfOk-weaker, Members, object, put, string, string_bytes}
use Rattle.city_diagnostics.proofs.Prelude.{subst, sym, ◌≡◌}
use Rattle.city_details.specs.Why.{worded}
use Rattle.city_diagnostics.proofs.Heads.{warned}
use Rattle.city_diagnostics.specs.Warnings.{Warns}
use Rattle.city_diagnostics.specs.internal.Heads.{with_place}
use Rattle.city_diagnostics.proofs.line.warning_line.Goals as goal

pub returns : goal.returns
returns c =
    let name = c.args.name.now in
    let script = c.args.at.script in
    let command = c.args.at.command in
    let message = string_bytes c.args.diagnostic.message in
    let cure = c.args.diagnostic.cure.now in
    let ms = c.args.diagnostic.details in
    let placed = c.in_ok-add_place.ensures ∙ ap (with_place script command) c.in_ok-details.ensures in
    let all : c.text-2.new.self ≡ put (codes "warning") (string name)
    (put (codes "text") (string (codes "scripts")) (with_place script command (worded message cure ms))) =
    c.in_ok-text-2.ensures
    ∙ ap (put (codes "warning") (string name)) (c.in_ok-text.ensures
    ∙ ap (put (codes "text") (string (codes "scripts"))) placed) in
    let warns = subst (λ (m : Members). Warns (object m)) (sym all)
    (name, warned name script command message cure ms) in
    IfOk-weaker c.line_of.result _ _ (λ line is. (c.text-2.new.self, warns, is)) c.line_of.ensures
