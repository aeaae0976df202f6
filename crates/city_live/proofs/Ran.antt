-- A script's commands, one by one.
use Rattle.std.specs.Prelude.{◌≡◌, ◌==◌, ◌++◌, ◌∷◌, ℕ, List, [], false, Option, None, Some, option_map, refl}
use Rattle.std.specs.Prelude.{if◌then◌else◌, slice_get, length}
use Rattle.std.proofs.Common.{sym, ◌∙◌, ap, subst}
use Rattle.city_model.specs.declared.command.Cause.{Cause}
use Rattle.city_model.specs.declared.command.Command.{Command}
use Rattle.city_model.specs.declared.command.Reply.{Reply}
use Rattle.city_model.specs.declared.command.Reply.TheVariants as replies
use Rattle.city_model.specs.Meaning.{is_refusal}
use Rattle.city_model.specs.Scripts.{is_end}
use Rattle.city_session.specs.Acting.{IsActed, told_after}
use Rattle.city_session.specs.declared.acted.Acted.TheVariants as acts
use Rattle.city_session.specs.Grown.{Grown, with_reply}
use Rattle.city_session.specs.Live.{SessionState, grown_at}
use Rattle.city_session.proofs.Recorded.{at_own, at_other}
use Rattle.city_live.specs.Continuing.{GoesOn}
use Rattle.city_live.specs.Heard.{answered_by, refused_at, script_told}
use Rattle.city_live.specs.Running.{RunsTo}
use Rattle.city_live.specs.SoFar.{ArePlain}
use Rattle.city_live.proofs.Continued.{acted, goes_then}
use Rattle.city_live.proofs.Worked.{one_reply, some_same, told_plainly}

reply_more : (o : Option Grown) (command : Command) (reply : Reply) (g : Grown)
    → option_map (told_after command (acts.Replied reply)) o ≡ Some g
    → (before : Grown) × (o ≡ Some before) × (g.told ≡ before.told ++ (command, reply) ∷ [])
reply_more None command reply g e = absurd (cc)
reply_more (Some b) command reply g e =
    (b, refl, ap (λ (x : Grown). x.told) (some_same g (with_reply command reply b) (sym e)))

refused_here : (o : Option Command) (command : Command) (cause : Cause) → o ≡ Some command → is_end command ≡ false
    → refused_at o (Some cause) ≡ (command, replies.Refused cause) ∷ []
refused_here o command cause is goes =
    ap (λ x. refused_at x (Some cause)) is
    ∙ ap (λ b. if b then [] else (command, replies.Refused cause) ∷ []) goes

plain_more : (rs : List Reply) (r : Reply) → ArePlain rs → is_refusal r ≡ false → ArePlain (rs ++ r ∷ [])
plain_more [] r p h = (h, tt)
plain_more (x ∷ rs) r p h = (p.0, plain_more rs r p.1 h)

module _ {stamp : ℕ} {cs : List Command} {rs : List Reply} {s t u : SessionState} (a : RunsTo stamp cs rs None s t)
  where
    goes_on : (command : Command) (reply : Reply) → IsActed stamp command (acts.Replied reply) t u → GoesOn stamp s u
    goes_on command reply h = goes_then stamp a.goes (acted stamp command (acts.Replied reply) a.goes.opened h)

    told_now : (command : Command) (reply : Reply) → IsActed stamp command (acts.Replied reply) t u → (g : Grown)
        → grown_at u.growing stamp ≡ Some g → g.told ≡ answered_by cs rs ++ (command, reply) ∷ []
    told_now command reply h g is =
        let b = reply_more (grown_at t.growing stamp) command reply g
        (sym (at_own stamp _ t.growing u.growing h.growing) ∙ is) in
        b.2 ∙ ap (λ l. l ++ (command, reply) ∷ []) (a.told b.0 b.1 ∙ told_plainly cs rs)

    others_now : (command : Command) (reply : Reply) → IsActed stamp command (acts.Replied reply) t u → (v : ℕ)
        → (stamp == v) ≡ false → grown_at u.growing v ≡ grown_at s.growing v
    others_now command reply h v ne = at_other stamp v _ t.growing u.growing h.growing ne ∙ a.others v ne

    pub ran_refused : {now : List Reply} → now ≡ rs → (command : Command) (reply : Reply) (cause : Cause)
        → IsActed stamp command (acts.Replied reply) t u → reply ≡ replies.Refused cause
        → slice_get cs (length rs) ≡ Some command → is_end command ≡ false → RunsTo stamp cs now (Some cause) s u
    ran_refused {now} same command reply cause h is next goes = record {
      goes = goes_on command reply h;
      told = λ g e. told_now command reply h g e
          ∙ (ap (λ r. answered_by cs rs ++ (command, r) ∷ []) is
          ∙ (ap (λ l. answered_by cs rs ++ l) (sym (refused_here (slice_get cs (length rs)) command cause next goes))
          ∙ ap (λ l. script_told cs l (Some cause)) (sym same)));
      plain = subst ArePlain (sym same) a.plain;
      others = others_now command reply h;
    }

    pub ran_replied : {now : List Reply} (command : Command) (reply : Reply) → now ≡ rs ++ reply ∷ []
        → is_refusal reply ≡ false
        → IsActed stamp command (acts.Replied reply) t u → slice_get cs (length rs) ≡ Some command
        → RunsTo stamp cs now None s u
    ran_replied {now} command reply same unrefused h next = record {
      goes = goes_on command reply h;
      told = λ g e. told_now command reply h g e
          ∙ (sym (one_reply cs rs command reply next)
          ∙ (sym (told_plainly cs (rs ++ reply ∷ [])) ∙ ap (λ l. script_told cs l None) (sym same)));
      plain = subst ArePlain (sym same) (plain_more rs reply a.plain unrefused);
      others = others_now command reply h;
    }
