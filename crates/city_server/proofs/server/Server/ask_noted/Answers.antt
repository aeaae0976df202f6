use Rattle.std.proofs.Common.{◌∙◌, None, Some, ap, inl, inr, refl, subst}
use Rattle.std.proofs.lemmas.Result.{on_ok_weaker}
use Rattle.city_lines.specs.declared.answer.Form.TheVariants as forms
use Rattle.city_server.proofs.Handling.{asked_refused, refused}
use Rattle.city_server.specs.Answered.{IsError}
use Rattle.city_server.specs.Sessions.{Adds}
use Rattle.city_server.specs.declared.telling.Telling.{Telling}
use Rattle.city_server.proofs.server.Server.ask_noted.Goals as goal

pub returns-in_default : goal.returns-in_default
returns-in_default g c =
    on_ok_weaker c.refuse.result
    (λ h. asked_refused forms.Plain c.args.hand c.args.tag c.args.request
    (refused c.args.hand c.args.tag (Some c.args.hand) c.args.tag (inl refl) (inl refl) c.refuse.ensures.hands h))
    c.refuse.ensures.told

pub returns-then-is_err : goal.returns-then-is_err
returns-then-is_err g c =
    on_ok_weaker c.refuse-then-is_err.result
    (λ h. asked_refused forms.Plain c.args.hand c.args.tag c.args.request
    (refused c.args.hand c.args.tag (Some c.in-Ok.by) c.args.tag (inl (ap Some c.in-Ok.ensures)) (inl refl)
    (c.refuse-then-is_err.ensures.hands ∙ (c.forget_key.ensures.hands ∙ c.note_key.ensures.hands))
    (subst
    (λ (v : Telling). Adds (IsError v.decimals (Some c.in-Ok.by) c.args.tag) v c.refuse-then-is_err.new.self.told)
    (c.forget_key.ensures.told ∙ c.note_key.ensures.told) h)))
    c.refuse-then-is_err.ensures.told
