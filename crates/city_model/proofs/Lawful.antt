-- The map after a script: sound after a sound one, and lawful after a lawful one.
use Rattle.city_model.proofs.Prelude.{◌≡◌, ◌<◌, ℕ, suc, ◌+◌, List, [], ◌∷◌, length, take, true, false, refl, sym, subst}
use Rattle.city_model.proofs.Prelude.{arith, false≢true, Command, Reply, End, Outcome, CityMap, Snapshot, unmarked}
use Rattle.city_model.proofs.Prelude.{IsSoundView, Effect, Answers, GoesOn, effect, is_refusal, HasNoOrphan, IsSound}
use Rattle.city_model.proofs.Prelude.{IsLawful}
use Rattle.city_model.proofs.Prelude.{Scripted, Trace, EndsFrom, IsScriptResult, view_at_end, map_left, left_by}
use Rattle.city_model.proofs.Prelude.{model_after, IsSerialHistoryFrom, IsSerialHistory, is_end, ends_once, step}
use Rattle.city_model.proofs.Prelude.{answer}
use Rattle.std.proofs.Common.{zero}
use Rattle.city_model.specs.Runs.{goes_to}
use Rattle.city_model.proofs.Endings.{committed_at}
use Rattle.city_model.proofs.GoingOn.{goes_on_case, effect_is}
use Rattle.city_members.proofs.Ids.{bool_cases}
use Rattle.city_model.proofs.MarksKept.{sound_effect}

-- ---- a trace

pub trace_sound : (v : Snapshot) (cs : List Command) (rs : List Reply) (w : Snapshot) → IsSoundView v → Trace v cs rs w
    → IsSoundView w
trace_sound v [] [] w s f = subst IsSoundView (sym f) s
trace_sound v (c ∷ cs) (r ∷ rs) w s f =
    goes_on_case _ (effect v c) (λ reply u is g. trace_sound u cs rs w (sound_effect v c reply u is s) g.1) f
trace_sound v cs rs w s f = absurd f

abbrev IsTraced : Snapshot → List Command → Type 0
IsTraced v cs = (replies : List Reply) × (w : Snapshot) × Trace v cs replies w

traced_further : (v : Snapshot) (c : Command) (cs : List Command) → is_end c ≡ false → IsTraced (step v c) cs
    → IsTraced v (c ∷ cs)
traced_further v c cs on t = (answer v c ∷ t.0, t.1, grind (arith, effect_is))

-- the commands of a script before its last are all answered
pub trace_there : (v : Snapshot) (cs : List Command) (k : ℕ) → ends_once cs ≡ true → k < length cs
    → IsTraced v (take k cs)
trace_there v [] k e less = absurd (false≢true e)
trace_there v (c ∷ cs) zero e less = ([], v, refl)
trace_there v (c ∷ cs) (suc k) e less =
    search (arith, bool_cases, traced_further, trace_there (step v c) cs k)

-- ---- a script to its end

sound_to : (v : Snapshot) (e : Effect) (others : Snapshot → Snapshot) → IsSoundView v
    → ((reply : Reply) (u : Snapshot) → e ≡ Answers reply u → IsSoundView (others u)) → IsSoundView (goes_to v e others)
sound_to v (Answers reply u) others s f =
    bool_cases (is_refusal reply) (λ h. rw h s) (λ h. rw h (f reply u refl))
sound_to v e others s f = s

sound_at_end : (v : Snapshot) (cs : List Command) → IsSoundView v → IsSoundView (view_at_end v cs)
sound_at_end v [] s = s
sound_at_end v (c ∷ cs) s = sound_to v _ _ s (λ reply u is. sound_at_end u cs (sound_effect v c reply u is s))

-- its end after a command with this reply
abbrev pub EndsFurther : Reply → ℕ → List Command → List Reply → Outcome → Reply → Snapshot → Type 0
EndsFurther r i cs rs outcome reply u = (reply ≡ r) × (is_refusal reply ≡ false) × EndsFrom u (i + 1) cs rs outcome

no_orphan_to : (v : Snapshot) (e : Effect) (r : Reply) (i : ℕ) (cs : List Command) (rs : List Reply)
    → ((u : Snapshot) → EndsFrom u (i + 1) cs rs Outcome.Committed → HasNoOrphan (view_at_end u cs).map)
    → GoesOn e (EndsFurther r i cs rs Outcome.Committed) → HasNoOrphan (goes_to v e (λ u. view_at_end u cs)).map
no_orphan_to v e r i cs rs f g = grind arith

no_orphan_from : (v : Snapshot) (i : ℕ) (cs : List Command) (rs : List Reply) → EndsFrom v i cs rs Outcome.Committed
    → HasNoOrphan (view_at_end v cs).map
no_orphan_from v i [] rs h = absurd h
no_orphan_from v i (c ∷ cs) [] h = grind (arith, committed_at v c v h)
no_orphan_from v i (c ∷ cs) (r ∷ rs) h =
    no_orphan_to v (effect v c) r i cs rs (λ u. no_orphan_from u (i + 1) cs rs) h

-- a committed script leaves a lawful map of a sound one
pub lawful_when_committed : (m : CityMap) (cs : List Command) (rs : List Reply) → IsSound m
    → IsScriptResult m cs rs Outcome.Committed → IsLawful (map_left m cs Outcome.Committed)
lawful_when_committed m cs rs s h = ((sound_at_end (unmarked m) cs (s, tt)).0, no_orphan_from (unmarked m) 0 cs rs h)

-- whatever a script's outcome, it leaves a lawful map of a lawful one
pub lawful_left : (m : CityMap) (cs : List Command) (rs : List Reply) (o : Outcome) → IsLawful m
    → IsScriptResult m cs rs o → IsLawful (map_left m cs o)
lawful_left m cs rs Outcome.Committed s h = lawful_when_committed m cs rs s.0 h
lawful_left m cs rs o s h = s

-- ---- scripts run one at a time

lawful_from : (scripts : List Scripted) (m : CityMap) (place : ℕ) (ends : List End) → IsLawful m
    → IsSerialHistoryFrom scripts m place ends → IsLawful (model_after scripts m ends)
lawful_from scripts m place [] l h = l
lawful_from scripts m place (e ∷ es) l h = lawful_from scripts (left_by scripts m e) (place + 1) es
    (rw h.0.is_there (lawful_left m h.0.script.1 e.replies e.outcome l h.0.result)) h.2

-- after scripts run one at a time a lawful map is lawful
pub lawful_after : (scripts : List Scripted) (m : CityMap) (ends : List End) → IsLawful m
    → IsSerialHistory scripts m ends → IsLawful (model_after scripts m ends)
lawful_after scripts m ends l h = lawful_from scripts m 0 ends l h
