use Rattle.city_diagnostics.proofs.Prelude.{◌≡◌, ◌∙◌, ap, Members, List, ℕ, object, string_bytes, sym, subst}
use Rattle.city_diagnostics.proofs.Prelude.{IfOk-weaker}
use Rattle.city_diagnostics.proofs.Prelude.{Tells, rank_of, name_of, codes}
use Rattle.city_diagnostics.proofs.Heads.{told}
use Rattle.city_diagnostics.specs.internal.Heads.{with_named, with_head}
use Rattle.city_details.specs.Why.{worded}
use Rattle.city_diagnostics.proofs.line.document_line.Goals as goal

pub returns : goal.returns
returns c =
    let f = c.args.fault.now in
    let message = string_bytes c.args.diagnostic.message in
    let cure = c.args.diagnostic.cure.now in
    let ms = c.args.diagnostic.details in
    let head : c.add_head.new.details ≡ with_head (codes "model") (rank_of f) (name_of f) (worded message cure ms) =
    c.in_ok-add_head.ensures
    ∙ ap (λ (n : ℕ). with_head (codes "model") n c.name_of.result.now c.in_ok-details.details) c.number_of.ensures
    ∙ ap (λ (s : List ℕ). with_head (codes "model") (rank_of f) s c.in_ok-details.details) c.name_of.ensures
    ∙ ap (with_head (codes "model") (rank_of f) (name_of f)) c.in_ok-details.ensures in
    let all : c.add_named.new.details ≡ with_named f
    (with_head (codes "model") (rank_of f) (name_of f) (worded message cure ms)) =
    c.in_ok-add_named.ensures ∙ ap (with_named f) head in
    let tells = subst (λ (m : Members). Tells f (object m)) (sym all) (told f message cure ms) in
    IfOk-weaker c.line_of.result _ _ (λ line is. (c.add_named.new.details, tells, is)) c.line_of.ensures
