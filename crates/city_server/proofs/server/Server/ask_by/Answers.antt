use Rattle.std.proofs.Common.{◌∙◌, None, Some, ap, inl, inr, refl, subst}
use Rattle.std.proofs.lemmas.Result.{on_ok_weaker}
use Rattle.city_lines.specs.declared.answer.Form.TheVariants as forms
use Rattle.city_server.proofs.Handling.{asked_refused, refused}
use Rattle.city_server.specs.Answered.{IsError}
use Rattle.city_server.specs.Sessions.{Adds}
use Rattle.city_server.specs.declared.telling.Telling.{Telling}
use Rattle.city_server.proofs.server.Server.ask_by.Goals as goal

pub returns-in-Err : goal.returns-in-Err
returns-in-Err g c =
    on_ok_weaker c.refuse.result
    (λ h. asked_refused forms.Plain c.args.hand c.args.tag c.args.request
    (refused c.args.hand c.args.tag (Some c.args.by) None (inl (ap Some c.requires)) (inr refl)
    (c.refuse.ensures.hands ∙ (c.forget_key.ensures.hands ∙ c.in-Err.ensures.err))
    (subst (λ (v : Telling). Adds (IsError v.decimals (Some c.args.by) None) v c.refuse.new.self.told)
    c.forget_key.ensures.told h)))
    c.refuse.ensures.told
