-- What a transaction was told, as the script of its commands that were not refused.
use Rattle.std.specs.Prelude.{◌≡◌, ◌<◌, ◌≤◌, ◌+◌, ◌++◌, ℕ, List, [], ◌∷◌, true, false, length, refl}
use Rattle.std.proofs.Common.{sym, ◌∙◌, ap, subst, arith}
use Rattle.std.proofs.lemmas.List.{length-append, length-map}
use Rattle.std.proofs.lemmas.List.Elements.{filter-append}
use Rattle.city_members.proofs.Ids.{bool_cases}
use Rattle.city_model.specs.declared.command.Command.{Command}
use Rattle.city_model.specs.declared.command.Command.TheVariants.{Commit, Abort}
use Rattle.city_model.specs.declared.command.Reply.{Reply}
use Rattle.city_model.specs.declared.end.Outcome.{Outcome}
use Rattle.city_model.specs.Marks.{Snapshot}
use Rattle.city_model.specs.Meaning.{Effect, effect, reply_of, step, GoesOn, is_refusal}
use Rattle.city_model.specs.Runs.{Trace, EndsAt, EndsFrom, view_at_end, goes_to}
use Rattle.city_model.specs.Scripts.{is_end, ends_once}
use Rattle.city_model.specs.Standing.{Held, Answered, IsTraceUnderLocks}
use Rattle.city_model.proofs.GoingOn.{goes_on_case, goes_on_to, answered_next}
use Rattle.city_model.proofs.History.{Next}
use Rattle.city_model.proofs.Refused.{refused_stays}
use Rattle.city_session.specs.Grown.{commands_in, replies_in, unrefused}

-- ---- one command

goes_not_end : (v : Snapshot) (c : Command) (P : Reply → Snapshot → Type 0) → GoesOn (effect v c) P → is_end c ≡ false
goes_not_end v Commit P h = absurd h
goes_not_end v Abort P h = absurd h
goes_not_end v c P h = refl

-- a refused command leaves the view to those after it
refused_next : (held : Held) (v : Snapshot) (d : Answered) (ds : List Answered) (w : Snapshot)
    → is_refusal d.1 ≡ true → GoesOn (effect v d.0) (Next held d.1 ds w) → IsTraceUnderLocks held v ds w
refused_next held v d ds w refused h = goes_on_case (Next held d.1 ds w) (effect v d.0)
    (λ reply u is next.
    let stays : step v d.0 ≡ v =
    refused_stays v d.0 (ap (λ e. is_refusal (reply_of e)) is ∙ (ap is_refusal next.0 ∙ refused)) in
    subst (λ x. IsTraceUnderLocks held x ds w) (answered_next v d.0 reply u is ∙ stays) next.1) h

-- ---- all of them

pub trace_of : (held : Held) (v : Snapshot) (told : List Answered) (w : Snapshot) → IsTraceUnderLocks held v told w
    → Trace v (commands_in told) (replies_in told) w
trace_of held v [] w h = h
trace_of held v (d ∷ ds) w h =
    goes_on_to _ _ (effect v d.0) (λ reply u is next. (next.0, trace_of held u ds w next.1)) h.1

-- with an ending command behind them they have its outcome
pub ends_as : (held : Held) (v : Snapshot) (told : List Answered) (w : Snapshot) (i : ℕ) (end : Command) (o : Outcome)
    → IsTraceUnderLocks held v told w → ((j : ℕ) → EndsAt w end j o)
    → EndsFrom v i (commands_in (unrefused told) ++ end ∷ []) (replies_in (unrefused told)) o
ends_as held v [] w i end o h f = subst (λ x. EndsAt x end i o) h (f i)
ends_as held v (d ∷ ds) w i end o h f = bool_cases (is_refusal d.1)
    (λ r. rw r (ends_as held v ds w i end o (refused_next held v d ds w r h.1) f))
    (λ r. rw r (goes_on_to _ _ (effect v d.0)
    (λ reply u is next. (next.0, ap is_refusal next.0 ∙ r, ends_as held u ds w (i + 1) end o next.1 f)) h.1))

further : (held : Held) (v : Snapshot) (e : Effect) (w : Snapshot) (cs : List Command) (r : Reply) (ds : List Answered)
    → is_refusal r ≡ false → ((u : Snapshot) → IsTraceUnderLocks held u ds w → view_at_end u cs ≡ w)
    → GoesOn e (Next held r ds w) → goes_to v e (λ u. view_at_end u cs) ≡ w
further held v e w cs r ds h f g = grind arith

-- with a Commit behind them they lead to the same view
pub leads_to : (held : Held) (v : Snapshot) (told : List Answered) (w : Snapshot) → IsTraceUnderLocks held v told w
    → view_at_end v (commands_in (unrefused told) ++ Commit ∷ []) ≡ w
leads_to held v [] w h = sym h
leads_to held v (d ∷ ds) w h = bool_cases (is_refusal d.1)
    (λ r. rw r (leads_to held v ds w (refused_next held v d ds w r h.1)))
    (λ r. rw r (further held v (effect v d.0) w (commands_in (unrefused ds) ++ Commit ∷ []) d.1 ds r
    (λ u. leads_to held u ds w) h.1))

-- and they are a script
pub ends_last : (held : Held) (v : Snapshot) (told : List Answered) (w : Snapshot) (end : Command) → is_end end ≡ true
    → IsTraceUnderLocks held v told w → ends_once (commands_in (unrefused told) ++ end ∷ []) ≡ true
ends_last held v [] w end e h = rw e refl
ends_last held v (d ∷ ds) w end e h = bool_cases (is_refusal d.1)
    (λ r. rw r (ends_last held v ds w end e (refused_next held v d ds w r h.1)))
    (λ r. rw (r, goes_not_end v d.0 (Next held d.1 ds w) h.1)
    (goes_on_case (Next held d.1 ds w) (effect v d.0) (λ reply u is next. ends_last held u ds w end e next.1) h.1))

-- ---- how many they are

pub with_end : (told : List Answered) (end : Command) (most : ℕ) → length (unrefused told) < most
    → length (commands_in (unrefused told) ++ end ∷ []) ≤ most
with_end told end most h =
    omega (arith, length-append (commands_in (unrefused told)) (end ∷ []), length-map (unrefused told) (λ d. d.0))

pub one_more_done : (told : List Answered) (c : Command) (r : Reply) → is_refusal r ≡ false
    → length (unrefused (told ++ (c, r) ∷ [])) ≡ length (unrefused told) + 1
one_more_done told c r h = rw (filter-append, length-append, h) refl

pub one_more_refused : (told : List Answered) (c : Command) (r : Reply) → is_refusal r ≡ true
    → length (unrefused (told ++ (c, r) ∷ [])) ≡ length (unrefused told)
one_more_refused told c r h = rw (filter-append, length-append, h) (omega arith)
