-- More is said, step by step.
use Rattle.std.specs.Prelude.{◌≡◌, ◌++◌, ◌∷◌, ℕ, List, [], Bool, false, Option, None, Some, refl, is_some, map}
use Rattle.std.specs.Prelude.{All, Result, Ok, Err, OnErr, get_or, option_map}
use Rattle.std.proofs.Common.{sym, ◌∙◌, ap, subst, arith}
use Rattle.std.proofs.lemmas.List.{append-nil, append_assoc, map_push}
use Rattle.std.proofs.lemmas.List.Elements.{All-append, All-push}
use Rattle.city_model.specs.CityMap.{CityValue, object_at}
use Rattle.city_model.specs.declared.object.Object.{Object}
use Rattle.city_txn.specs.CoreState.{committed}
use Rattle.city_session.specs.Live.{SessionState, IsLive}
use Rattle.city_live.specs.declared.answer.Answer.{Answer}
use Rattle.city_live.specs.declared.ghosts.event.Event.{Event}
use Rattle.city_live.specs.declared.ghosts.event.Event.TheVariants as events
use Rattle.city_live.specs.Continuing.{Continues}
use Rattle.city_live.specs.Heard.{model_of, heard}
use Rattle.city_live.specs.Noting.{Noted}
use Rattle.city_live.specs.Replaying.{Notes}
use Rattle.city_live.specs.declared.answer.Fault.{Fault}
use Rattle.city_live.specs.declared.answer.What.TheVariants as told
use Rattle.city_live.specs.declared.request.Request.{Request}
use Rattle.city_live.specs.declared.request.Request.TheVariants as requests
use Rattle.city_live.specs.declared.task.Task.{Task}
use Rattle.city_live.specs.declared.task.Task.TheVariants as task
use Rattle.city_live.specs.Coming.{Came, just_came, with_stamp, taken, left_by, end_asked, request_for, OfCame, IsNext}
use Rattle.city_live.specs.Coming.{IsTakenFor, IsAnswerFor, IsBegunFor, IsAskedFor, IsNamed}
use Rattle.city_live.specs.Works.{Working, IsFresh}
use Rattle.city_model.specs.Runs.{Scripted}
use Rattle.std.specs.declared.sync.Arc.{Arc}
use Rattle.std.specs.declared.alloc.Global.{Global}
use Rattle.city_live.specs.Serving.{Served, Logged, Proceeds, Follows, IsSaid, told_by, told_in, is_coming, came_in}
use Rattle.city_live.specs.Serving.{HasCome, HasAsked, AsksEnd, HasBegun, MayTake, IsByeOf, IsLeaving}
use Rattle.city_live.proofs.Hearing.{came_more}
use Rattle.city_live.proofs.Continued as continued
use Rattle.city_live.proofs.Replayed.{stays, notes_then}

pub told_both : (es fs : List Event) → told_in (es ++ fs) ≡ told_in es ++ told_in fs
told_both [] fs = refl
told_both (e ∷ es) fs =
    ap (λ l. told_by e ++ l) (told_both es fs) ∙ sym (append_assoc (told_by e) (told_in es) (told_in fs))

pub none_alone : (P : Event → Type 0) → All P []
none_alone P k d h = absurd (omega (arith, h))

pub one_alone : (P : Event → Type 0) (e : Event) → P e → All P (e ∷ [])
one_alone P e p = All-push P [] e (none_alone P) p

pub goes_same : (s : Served) → Proceeds s s
goes_same s = record {
  more = [];
  events = sym (append-nil s.events);
  answers = sym (append-nil s.answers);
  alone = none_alone (λ e. is_coming e ≡ false);
  continues = continued.same s.session;
  notes = stays refl;
  first = refl;
}

pub goes_then : {s t u : Served} → Proceeds s t → Proceeds t u → Proceeds s u
goes_then {s} {t} {u} a b = record {
  more = a.more ++ b.more;
  events = b.events ∙ (ap (λ l. l ++ b.more) a.events ∙ append_assoc s.events a.more b.more);
  answers = b.answers ∙ (ap (λ l. l ++ told_in b.more) a.answers
      ∙ (append_assoc s.answers (told_in a.more) (told_in b.more)
      ∙ ap (λ l. s.answers ++ l) (sym (told_both a.more b.more))));
  alone = All-append (λ e. is_coming e ≡ false) a.more b.more a.alone b.alone;
  continues = continued.then a.continues b.continues;
  notes = notes_then a.notes b.notes;
  first = b.first ∙ a.first;
}

pub same : (s : Served) → Follows s s
same s = record { goes = goes_same s; came = refl }

pub then : {s t u : Served} → Follows s t → Follows t u → Follows s u
then a b = record { goes = goes_then a.goes b.goes; came = b.came ∙ a.came }

-- the request is taken or answered behind what follows, or before it
pub goes : {s u : Served} → Follows s u → Proceeds s u
goes f = f.goes

pub goes_behind : {s t u : Served} → Follows s t → Proceeds t u → Proceeds s u
goes_behind f p = goes_then f.goes p

pub goes_before : {s t u : Served} → Proceeds s t → Follows t u → Proceeds s u
goes_before p f = goes_then p f.goes

-- ---- the request that came last, still to be taken or answered

pub still_asked : {s u : Served} {by : List ℕ} {tag : Option (List ℕ)} {request : Request} → Follows s u
    → HasAsked by tag request s → HasAsked by tag request u
still_asked f h = record { came = f.came ∙ h.came }

pub still_come : {s u : Served} {by : List ℕ} {tag : Option (List ℕ)} → Follows s u → HasCome by tag s
    → HasCome by tag u
still_come f h = record { request = h.request; came = f.came ∙ h.came }

pub still_end : {s u : Served} {is_kept : Bool} {by : List ℕ} {tag : Option (List ℕ)} → Follows s u
    → AsksEnd is_kept by tag s → AsksEnd is_kept by tag u
still_end f h = record { request = h.request; came = f.came ∙ h.came; ends = h.ends }

pub still_leaving : {s u : Served} {by : List ℕ} {tag : Option (List ℕ)} → Follows s u → IsLeaving by tag s
    → IsLeaving by tag u
still_leaving {by = by} {tag = tag} f h = record { came = subst (OfCame (IsByeOf by tag)) (sym f.came) h.came }

-- where nothing has changed
pub still_same : {s u : Served} {by : List ℕ} {tag : Option (List ℕ)} {request : Request} → u ≡ s
    → HasAsked by tag request s → HasAsked by tag request u
still_same e h = record { came = ap came_in e ∙ h.came }

pub asked_come : {s : Served} {by : List ℕ} {tag : Option (List ℕ)} {request : Request} → HasAsked by tag request s
    → HasCome by tag s
asked_come {request = request} h = record { request = request; came = h.came }

pub end_come : {s : Served} {is_kept : Bool} {by : List ℕ} {tag : Option (List ℕ)} → AsksEnd is_kept by tag s
    → HasCome by tag s
end_come h = record { request = h.request; came = h.came }

pub asked_leaving : {s : Served} {by : List ℕ} {tag : Option (List ℕ)} → HasAsked by tag requests.Bye s
    → IsLeaving by tag s
asked_leaving {by = by} {tag = tag} h =
    record { came = subst (OfCame (IsByeOf by tag)) (sym h.came) (refl, refl, refl) }

pub asks_end : {s : Served} {by : List ℕ} {tag : Option (List ℕ)} (is_kept : Bool) (request : Request)
    → end_asked request ≡ Some is_kept → HasAsked by tag request s → AsksEnd is_kept by tag s
asks_end is_kept request e h = record { request = request; came = h.came; ends = e }

next_begun : (stamp : ℕ) (name : List ℕ) (t : Task) → IsNext (request_for name t) stamp (Some stamp)
next_begun stamp name (task.Script s rs cause) = refl
next_begun stamp name (task.Single asked) = refl

-- a work that is begun may run
pub begun_take : {s : Served} {stamp : ℕ} {by : List ℕ} {tag : Option (List ℕ)} (name : List ℕ) (t : Task)
    → HasBegun stamp by tag (request_for name t) s → MayTake stamp by tag s
begun_take {stamp = stamp} {by = by} {tag = tag} name t h = record {
  came = subst (OfCame (IsTakenFor stamp by tag)) (sym h.came)
      (record { by = refl; tagged = refl; follows = next_begun stamp name t });
}

next_end : (stamp : ℕ) (is_kept : Bool) (r : Request) → end_asked r ≡ Some is_kept → IsNext r stamp None
next_end stamp is_kept (requests.Script s) e = absurd (cc)
next_end stamp is_kept (requests.Begin name) e = absurd (cc)
next_end stamp is_kept (requests.Do s) e = (ap is_some e, refl)
next_end stamp is_kept requests.Commit e = (refl, refl)
next_end stamp is_kept requests.Abort e = (refl, refl)
next_end stamp is_kept requests.Bye e = (refl, refl)
next_end stamp is_kept r e = absurd (cc)

-- a work may be ended
pub end_take : {s : Served} (stamp : ℕ) {is_kept : Bool} {by : List ℕ} {tag : Option (List ℕ)}
    → AsksEnd is_kept by tag s → MayTake stamp by tag s
end_take stamp {is_kept} {by} {tag} h = record {
  came = subst (OfCame (IsTakenFor stamp by tag)) (sym h.came)
      (record { by = refl; tagged = refl; follows = next_end stamp is_kept h.request h.ends });
}

-- a Bye is still to be answered behind the end of its work
left_taken : (stamp : ℕ) (by : List ℕ) (tag : Option (List ℕ)) (c : Came) → IsByeOf by tag c → (r : Request)
    → r ≡ requests.Bye → OfCame (IsByeOf by tag) (left_by r (with_stamp stamp c))
left_taken stamp by tag c b requests.Bye e = b
left_taken stamp by tag c b r e = absurd (cc)

pub taken_leaving : (stamp : ℕ) (by : List ℕ) (tag : Option (List ℕ)) (o : Option Came) → OfCame (IsByeOf by tag) o
    → OfCame (IsByeOf by tag) (taken stamp o)
taken_leaving stamp by tag None b = absurd b
taken_leaving stamp by tag (Some c) b = left_taken stamp by tag c b c.request b.2

-- ---- what is begun or asked for it

pub begun_for : (new : Working) (by name : List ℕ) (t : Task) (tag : Option (List ℕ)) (ks : Option (List Scripted))
    → new ≡ record { by = by; name = name; task = t; tag = None; kept = ks } → IsFresh t → IsNamed name t
    → (o : Option Came) → o ≡ Some (just_came by tag (request_for name t)) → OfCame (IsBegunFor new) o
begun_for new by name t tag ks e fresh named o is =
    subst (OfCame (IsBegunFor new)) (sym is)
    (subst (λ w. IsBegunFor w (just_came by tag (request_for name t))) (sym e)
    (record { hand = refl; request = refl; named = named; fresh = fresh; first = refl }))

pub ask_for : (by : List ℕ) (tag : Option (List ℕ)) (script : Scripted) (o : Option Came)
    → o ≡ Some (just_came by tag (requests.Do script)) → OfCame (IsAskedFor by tag script) o
ask_for by tag script o is =
    subst (OfCame (IsAskedFor by tag script)) (sym is) (record { by = refl; tagged = refl; request = refl })

pub came_begun : (before after : List Event) (stamp : ℕ) (w : Working) (c : Came)
    → after ≡ before ++ events.Begins stamp w ∷ [] → (heard before).came ≡ Some c
    → (heard after).came ≡ Some (with_stamp stamp c)
came_begun before after stamp w c e is =
    ap (λ l. (heard l).came) e
    ∙ (came_more before (events.Begins stamp w) ∙ ap (option_map (with_stamp stamp)) is)

pub came_taken : (before after : List Event) (stamp : ℕ) (hand : Arc (List ℕ) Global) (tag : Option (List ℕ))
    → after ≡ before ++ events.Requests stamp hand tag ∷ [] → (heard after).came ≡ taken stamp (heard before).came
came_taken before after stamp hand tag e =
    ap (λ l. (heard l).came) e ∙ came_more before (events.Requests stamp hand tag)

-- ---- its answer

fault_so : (by : List ℕ) (tag : Option (List ℕ)) (f : Fault) (request : Request) (o : Option Came)
    → o ≡ Some (just_came by tag request) → IsAnswerFor by tag (told.Fault f) o
fault_so by tag f request o e =
    subst (IsAnswerFor by tag (told.Fault f)) (sym e) (record { by = refl; tagged = refl; kind = refl })

pub fault_for : {s : Served} {by : List ℕ} {tag : Option (List ℕ)} (f : Fault) → HasCome by tag s
    → IsAnswerFor by tag (told.Fault f) (came_in s)
fault_for {s} {by} {tag} f h = fault_so by tag f h.request (came_in s) h.came

bye_so : (by : List ℕ) (tag : Option (List ℕ)) (o : Option Came) → OfCame (IsByeOf by tag) o
    → IsAnswerFor by tag told.Bye o
bye_so by tag None h = absurd h
bye_so by tag (Some c) h = record { by = h.0; tagged = h.1; kind = h.2 }

pub bye_for : {s : Served} {by : List ℕ} {tag : Option (List ℕ)} → IsLeaving by tag s
    → IsAnswerFor by tag told.Bye (came_in s)
bye_for {s} {by} {tag} h = bye_so by tag (came_in s) h.came

pub watching_for : {s : Served} {by : List ℕ} {tag : Option (List ℕ)} (version : ℕ) → HasAsked by tag requests.Watch s
    → IsAnswerFor by tag (told.Watching version) (came_in s)
watching_for {s} {by} {tag} version h =
    subst (IsAnswerFor by tag (told.Watching version)) (sym h.came)
    (record { by = refl; tagged = refl; kind = refl })

pub unwatched_for : {s : Served} {by : List ℕ} {tag : Option (List ℕ)} → HasAsked by tag requests.Unwatch s
    → IsAnswerFor by tag told.Unwatched (came_in s)
unwatched_for {s} {by} {tag} h =
    subst (IsAnswerFor by tag told.Unwatched) (sym h.came) (record { by = refl; tagged = refl; kind = refl })

pub model_for : {s : Served} {by : List ℕ} {tag : Option (List ℕ)} (city : CityValue) (version : ℕ)
    → HasAsked by tag requests.Model s → IsAnswerFor by tag (told.Model city version) (came_in s)
model_for {s} {by} {tag} city version h =
    subst (IsAnswerFor by tag (told.Model city version)) (sym h.came)
    (record { by = refl; tagged = refl; kind = refl })

pub look_for : {s : Served} {by : List ℕ} {tag : Option (List ℕ)} {ids : List (List ℕ)}
    (objects : List (List ℕ × Option Object)) (version : ℕ) → map (λ o. o.0) objects ≡ ids
    → HasAsked by tag (requests.Look ids) s → IsAnswerFor by tag (told.Look objects version) (came_in s)
look_for {s} {by} {tag} objects version same h =
    subst (IsAnswerFor by tag (told.Look objects version)) (sym h.came)
    (record { by = refl; tagged = refl; kind = ap requests.Look (sym same) })

-- one event is noted behind those so far
pub one_more : {before seen noted after : List Event} (e : Event) → seen ≡ before → noted ≡ seen ++ e ∷ []
    → after ≡ noted → after ≡ before ++ e ∷ []
one_more e a b c = c ∙ (b ∙ ap (λ l. l ++ e ∷ []) a)

-- ---- what a method leaves, by its parts

-- a talks' value, by its parts
abbrev pub served : SessionState → Logged → Option (List Noted) → ℕ → ℕ → List (List ℕ) → Served
served session log noted first version watchers = record {
  session = session;
  events = log.events;
  answers = log.answers;
  noted = noted;
  first = first;
  version = version;
  watchers = watchers;
}

module _ {s : Served} {session after : SessionState} {log : Logged} {before later : Option (List Noted)}
    {first version next : ℕ} {names others : List (List ℕ)}
    (is : served session log before first version names ≡ s)
    (proceeds : Continues session after) (notes : Notes before later (committed session.core) (committed after.core))
  where
    -- these events are noted, with the answers that they tell
    pub noting : (logged : Logged) (more : List Event) → logged.events ≡ log.events ++ more
        → logged.answers ≡ log.answers ++ told_in more → All (λ e. is_coming e ≡ false) more
        → Proceeds s (served after logged later first next others)
    noting logged more events answers alone =
        subst (λ v. Proceeds v (served after logged later first next others)) is (record {
          more = more;
          events = events;
          answers = answers;
          alone = alone;
          continues = proceeds;
          notes = notes;
          first = refl;
        })

    -- the same, and the request isn't taken or answered
    pub noting_still : (logged : Logged) (more : List Event) → logged.events ≡ log.events ++ more
        → logged.answers ≡ log.answers ++ told_in more → All (λ e. is_coming e ≡ false) more
        → (heard (log.events ++ more)).came ≡ (heard log.events).came
        → Follows s (served after logged later first next others)
    noting_still logged more events answers alone came = record {
      goes = noting logged more events answers alone;
      came = ap (λ l. (heard l).came) events ∙ (came ∙ ap came_in is);
    }

    -- an answer, of a script or a transaction or of none
    pub answering : (logged : Logged) (stamp : Option ℕ) (a : Answer) → IsSaid stamp a log logged
        → Proceeds s (served after logged later first next others)
    answering logged stamp a said =
        noting logged (events.Says stamp a said.is_told ∷ []) said.events
        (said.answers ∙ ap (λ l. log.answers ++ l) (sym (append-nil (told_by (events.Says stamp a said.is_told)))))
        (one_alone (λ e. is_coming e ≡ false) (events.Says stamp a said.is_told) refl)

    -- an answer of a script or a transaction
    pub saying : (logged : Logged) (stamp : ℕ) (a : Answer) → IsSaid (Some stamp) a log logged
        → Follows s (served after logged later first next others)
    saying logged stamp a said = record {
      goes = answering logged (Some stamp) a said;
      came = ap (λ l. (heard l).came) said.events
          ∙ (came_more log.events (events.Says (Some stamp) a said.is_told) ∙ ap came_in is);
    }

    -- an event that is no answer
    pub quietly : (logged : Logged) (e : Event) → told_by e ≡ [] → is_coming e ≡ false
        → logged.events ≡ log.events ++ e ∷ [] → logged.answers ≡ log.answers
        → Proceeds s (served after logged later first next others)
    quietly logged e none no_coming events answers =
        noting logged (e ∷ []) events
        (answers ∙ (sym (append-nil log.answers) ∙ ap (λ l. log.answers ++ l) (sym (ap (λ l. l ++ []) none))))
        (one_alone (λ e. is_coming e ≡ false) e no_coming)

    pub silently : Follows s (served after log later first next others)
    silently = noting_still log [] (sym (append-nil log.events)) (sym (append-nil log.answers))
        (none_alone (λ e. is_coming e ≡ false)) (ap (λ l. (heard l).came) (append-nil log.events))

-- ---- what is seen

pub objects_seen : {s : SessionState} → IsLive s → (objects : List (List ℕ × Option Object))
    → All (λ o. o.1 ≡ committed s.core o.0) objects → All (λ o. o.1 ≡ model_of s.start s.closed o.0) objects
objects_seen {s} l objects a k d h = a k d h ∙ ap (λ m. m (get_or objects k d).0) l.city

pub city_seen : {s : SessionState} → IsLive s → (city : CityValue) → city ≡ (s.core.frame, s.core.city)
    → (city.0 ≡ s.start.0) × (object_at city.1 ≡ model_of s.start s.closed)
city_seen {s} l city e = (ap (λ x. x.0) e ∙ l.frame, ap (λ (x : CityValue). object_at x.1) e ∙ l.city)

-- ---- the ids of a look, one by one

pub none_alone_of : {A : Type 0} (P : A → Type 0) (xs : List A) → xs ≡ [] → All P xs
none_alone_of P xs e = subst (All P) (sym e) (λ k d h. absurd (omega (arith, h)))

module _ {A B : Type 0} where
  pub ids_over : (objects : List (A × B)) (all : List A) → objects ≡ [] → {left : List A} → left ≡ all
      → map (λ o. o.0) objects ++ left ≡ all
  ids_over objects all none {left} e = ap (λ (l : List (A × B)). map (λ o. o.0) l ++ left) none ∙ e

  pub ids_more : (objects after : List (A × B)) (o : A × B) (left rest all : List A) → after ≡ objects ++ o ∷ []
      → left ≡ o.0 ∷ rest → map (λ o. o.0) objects ++ left ≡ all → map (λ o. o.0) after ++ rest ≡ all
  ids_more objects after o left rest all pushed next is =
      ap (λ (l : List (A × B)). map (λ o. o.0) l ++ rest) pushed
      ∙ (ap (λ l. l ++ rest) (map_push (λ (o : A × B). o.0) objects o)
      ∙ (append_assoc (map (λ o. o.0) objects) (o.0 ∷ []) rest
      ∙ (ap (λ l. map (λ o. o.0) objects ++ l) (sym next) ∙ is)))

  pub ids_all : (objects : List (A × B)) (left all : List A) → left ≡ []
      → map (λ o. o.0) objects ++ left ≡ all → map (λ o. o.0) objects ≡ all
  ids_all objects left all over is =
      sym (append-nil (map (λ o. o.0) objects)) ∙ (ap (λ l. map (λ o. o.0) objects ++ l) (sym over) ∙ is)

-- what holds at an error, whatever came
pub on_err : {T E P : Type 0} (r : Result T E) → P → OnErr r P
on_err (Ok x) p = tt
on_err (Err x) p = p

-- ---- what the methods of hands name

pub ruleset serving = (goes_behind, goes_before, still_asked)

pub ruleset leaving = (goes, goes_then, asked_come, still_come, asks_end, asked_leaving)

pub ruleset opening = (goes, same, begun_take)

pub ruleset refusing = (goes_then, asked_come, still_come)

pub ruleset asking = (goes_before, goes_then, asked_come, still_come)

pub ruleset committing = (goes_before, end_come, end_take)

pub ruleset aborting = (goes, goes_then, end_come, still_come)

pub ruleset giving_up = (then, goes, goes_behind, still_end, still_leaving)

pub ruleset ending = (goes_before, end_take, still_leaving)

pub ruleset showing = (city_seen, model_for, asked_come)

pub ruleset looking = (objects_seen, look_for, asked_come)
