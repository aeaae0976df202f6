-- The desk after a turn of a script with an open transaction, as contracts see it.
use Rattle.city_scheduler.proofs.Prelude.{◌≡◌, ◌<◌, ◌+◌, ℕ, suc, zero, true, false, List, [], ◌∷◌, ◌++◌, length, Option}
use Rattle.city_scheduler.proofs.Prelude.{Some, refl, ap, sym, subst, ◌∙◌, arith, length-append, slice_set, slice_get}
use Rattle.city_scheduler.proofs.Prelude.{slice_index_or, option_and_then, false≢true, slice_get_read, Command, End}
use Rattle.city_scheduler.proofs.Prelude.{Outcome, CityValue, is_refusal, Scripted, map_left, Change, is_end, ends_once}
use Rattle.city_scheduler.proofs.Prelude.{is_commit, answered, Answer, CoreState, committed, snapshot, is_open}
use Rattle.city_scheduler.proofs.Prelude.{KeepsOthers, answer_in, CommandOutcome, Progress, Idle, Open, Turn}
use Rattle.city_scheduler.proofs.Prelude.{AttemptEnded}
use Rattle.city_scheduler.proofs.Prelude.{HasStepped, DeskState, progress_to, ended_progress, phase_of, replies_of}
use Rattle.city_scheduler.proofs.Prelude.{room_of, is_ended, stamp_of, HasRoom, StandsAs, IsSerial, IsDue, end_of}
use Rattle.std.proofs.Common.{◌||◌}
use Rattle.std.specs.List.{list_any}
use Rattle.std.proofs.lemmas.Bool.{or_from}
use Rattle.std.proofs.lemmas.List.{set-get_or}
use Rattle.std.proofs.lemmas.List.Folds.{list_any-append}
use Rattle.city_model.specs.declared.command.Command.TheVariants.{Commit}
use Rattle.city_model.specs.Marks.{Snapshot, unmarked}
use Rattle.city_model.specs.Runs.{EndsAt}
use Rattle.city_model.proofs.Endings.{committed_at}
use Rattle.city_model.proofs.Replied.{goes_on, ends_later, answered_more, result_from, committed_from}
use Rattle.city_txn.specs.CoreState.{held}
use Rattle.city_scheduler.specs.internal.Attempt.{GoesOn}
use Rattle.city_scheduler.specs.Serial.{IsAttempt}
use Rattle.city_scheduler.specs.Turning.{IsNext, IsOpenAt, IsAnswered}
use Rattle.city_scheduler.proofs.ScriptReads.{script_there, has_commands}
use Rattle.city_scheduler.proofs.ScriptTurns.{LeavesDesk, turned, IsStampOf, own_stamp}
use Rattle.city_scheduler.specs.declared.turn.Turn.TheVariants as turns
use Rattle.city_scheduler.proofs.ScriptTurns as script_turns

-- a command other than a commit or an abort has another after it
not_last : (cs : List Command) (k : ℕ) (c : Command) → ends_once cs ≡ true → slice_get cs k ≡ Some c
    → is_end c ≡ false → k + 1 < length cs
not_last [] k c e h g = absurd (cc)
not_last (d ∷ cs) zero c e h g = grind (arith, has_commands cs, ends_later d cs)
not_last (d ∷ cs) (suc k) c e h g = grind (arith, not_last cs k c, ends_later d cs e, goes_on d cs k c e)

commits : (v : Snapshot) (c : Command) (i : ℕ) (o : Outcome) → is_commit o ≡ true → EndsAt v c i o
    → (o ≡ Outcome.Committed) × (c ≡ Commit)
commits v c i o h e = grind (arith, committed_at v c v)

module _ {S : Type 0} (list : S → List Change) {d : DeskState} {shelf : S} {seen : DeskState × S}
    {base : Option CityValue} {n stamp since : ℕ} {names : List (List ℕ)} {capacity : ℕ} (run : (d, shelf) ≡ seen)
    (s : IsSerial d (list shelf) base) (r : HasRoom d names capacity) (opened : phase_of seen.0 n ≡ Open stamp since)
    (there_seen : n < length seen.0.scripts) where
  there : n < length d.scripts
  there = rw (← run) at there_seen

  is : phase_of d n ≡ Open stamp since
  is = rw (← run) at opened

  attempt : IsAttempt d n stamp since (replies_of d n)
  attempt = subst (λ p. StandsAs d n p (replies_of d n)) is (s.standing.each n)

  unended : is_ended (phase_of d n) ≡ false
  unended = ap is_ended is

  own : IsStampOf d n stamp
  own = own_stamp d n stamp s.standing (ap stamp_of is)

  open_at : (t : ℕ) → is_open d.core t ≡ true → IsOpenAt d t
  open_at t opened = let owner = s.standing.owner t opened in
      record { script = owner.0; began = owner.1; phase = owner.2 }

  module _ (command : Command) (next : slice_get attempt.script.1 (length (replies_of d n)) ≡ Some command)
      (core : CoreState) where
    is_next : IsNext d n stamp since command
    is_next = record {
      phase = is;
      next = ap (option_and_then (λ (x : Scripted). slice_get x.1 (length (replies_of d n)))) attempt.is_there ∙ next;
    }

    abbrev answered_so : (answer : Answer) → is_end command ≡ false → answer_in d.core stamp command ≡ answer
        → IsAnswered d n stamp since answer
    answered_so answer on so = record { command = command; next = is_next; goes_on = on; answered = so }

    -- its script goes on
    went_on : (turn : Turn) (q : Progress)
        → GoesOn stamp command turn (slice_index_or d.progress n ended_progress) q d.core core
        → KeepsOthers stamp d.core core → committed core ≡ committed d.core
        → LeavesDesk n turn d (turned d n d.ends q d.begun core) names capacity (list shelf) (list shelf) base
    went_on turns.Began q h k city = absurd h
    went_on turns.Replied q h k city =
        let last = not_last attempt.script.1 (length (replies_of d n)) command
        (s.scripted n attempt.script attempt.is_there) next h.goes_on in
        let more = length-append (replies_of d n) (h.reply ∷ []) in
        rw (h.heard, is) (script_turns.goes_on s r there unended stamp d.begun core (Open stamp since)
        (replies_of d n ++ h.reply ∷ []) turns.Replied k own city refl refl refl (λ _. (since, refl)) (record {
          script = attempt.script;
          is_there = attempt.is_there;
          opened = h.opened;
          begun = attempt.begun;
          since = attempt.since;
          unfinished = omega arith;
          unrefused = list_any-append is_refusal (replies_of d n) (h.reply ∷ [])
              ∙ or_from (list_any is_refusal (replies_of d n)) (list_any is_refusal (h.reply ∷ [])) attempt.unrefused
              (ap (λ b. b || false) h.unrefused);
          stands = rw (answered_more attempt.script.1 (replies_of d n) command h.reply next)
              (h.stands (answered attempt.script.1 (replies_of d n)) attempt.stands);
        }) (omega arith) (omega arith) (record {
          stamp = stamp;
          since = since;
          is = answered_so _ h.goes_on h.granted;
          reply = h.reply;
          after = h.after;
          does = h.does;
          unrefused = h.unrefused;
          moves = refl;
          begun = refl;
          ends = refl;
        }))
    went_on turns.Waits q h k city =
        let still : slice_index_or d.progress n ended_progress
        ≡ progress_to (Open stamp since) (replies_of d n) (room_of d n) =
        ap (λ f. progress_to f (replies_of d n) (room_of d n)) is in
        rw (h.same, still) (script_turns.goes_on s r there unended stamp d.begun core (Open stamp since)
        (replies_of d n) turns.Waits k own city refl refl refl (λ _. (since, refl)) (record {
          script = attempt.script;
          is_there = attempt.is_there;
          opened = h.opened;
          begun = attempt.begun;
          since = attempt.since;
          unfinished = attempt.unfinished;
          unrefused = attempt.unrefused;
          stands = h.stands (answered attempt.script.1 (replies_of d n)) attempt.stands;
        }) (omega arith) (omega arith) (record {
          waits = record {
            stamp = stamp;
            since = since;
            is = answered_so _ h.goes_on h.waits;
            other = h.blocked.0;
            younger = h.blocked.1;
            opened = open_at h.blocked.0 h.blocked.2;
          };
          progress = ap (slice_set d.progress n) (sym still) ∙ set-get_or d.progress n ended_progress;
          begun = refl;
          ends = refl;
        }))
    went_on turns.Died q h k city =
        rw h.idle (script_turns.goes_on s r there unended stamp d.begun core (Idle stamp) [] turns.Died k own city refl
        refl refl (λ o. absurd (false≢true (sym h.closed ∙ o))) (refl, attempt.begun) (omega arith) (omega arith)
        (record {
          stamp = stamp;
          since = since;
          is = answered_so _ h.goes_on h.dies;
          other = h.blocked.0;
          older = h.blocked.1;
          opened = open_at h.blocked.0 h.blocked.2;
          moves = refl;
          begun = refl;
          ends = refl;
        }))
    went_on turns.Ended q h k city = absurd h
    went_on turns.AlreadyEnded q h k city = absurd h

    -- its script ends
    ended : (outcome : Outcome) (after : List Change) (taken : List ℕ)
        → AttemptEnded stamp command (length (replies_of d n)) outcome d.core core (list shelf) after
        → LeavesDesk n turns.Ended d
        (turned d n (d.ends ++ end_of d n attempt.script.0 since outcome ∷ []) ended_progress d.begun core)
        (slice_set names n taken) capacity (list shelf) after base
    ended outcome after taken h =
        let result = result_from (held d.core stamp) (unmarked (committed d.core)) (snapshot d.core stamp) 0
        attempt.script.1 (replies_of d n) command outcome attempt.stands attempt.unrefused next
        (subst (λ i. EndsAt (snapshot d.core stamp) command i outcome) (omega arith) h.ends) in
        script_turns.ends s r there unended attempt.script attempt.is_there since outcome stamp core after taken h.keeps
        own h.closed attempt.since result
        (subst (λ p. IsDue d n p since outcome) (sym is)
        (refl, record { command = command; next = is_next; ends = h.ends; granted = h.granted })) h.publishes
        (λ one. let by = commits (snapshot d.core stamp) command (length (replies_of d n)) outcome one h.ends in
        ap (map_left (committed d.core) attempt.script.1) by.0 ∙ ap (λ (x : Snapshot). x.map)
        (committed_from (held d.core stamp) (unmarked (committed d.core)) (snapshot d.core stamp) attempt.script.1
        (replies_of d n) attempt.stands attempt.unrefused (next ∙ ap Some by.1)))

  -- ---- as the code reads the script and its progress, and writes its end

  pub place_for_end : length d.ends < capacity
  place_for_end = omega (arith, script_turns.place_left s r there unended, r.places)

  pub place_for_reply : {p : Progress} → p ≡ slice_index_or d.progress n p → length p.replies.list < p.replies.room
  place_for_reply {p} read =
      grind (
        arith,
        script_turns.read_as s r there unended p read,
        r.replies n there unended,
        attempt.is_there,
        attempt.unfinished,
      )

  module _ {p : Progress} {x : Scripted} {cs : List Command} {number : ℕ} {command : Command}
      (read : p ≡ slice_index_or d.progress n p) (script : x ≡ slice_index_or d.scripts n x) (list_is : cs ≡ x.1)
      (count : number ≡ length p.replies.list) (at_number : command ≡ slice_index_or cs number command) where
    read_now : p ≡ slice_index_or d.progress n ended_progress
    read_now = script_turns.read_as s r there unended p read

    next_read : slice_get attempt.script.1 (length (replies_of d n)) ≡ Some command
    next_read =
        slice_get_read attempt.script.1 (length attempt.script.1) (length (replies_of d n)) command refl
        attempt.unfinished (cc (script_there d.scripts n x there script, attempt.is_there, read_now))

    pub turn_goes_on : {q : Progress} {core : CoreState} {after : List Change} {turn : Turn}
        → HasStepped stamp command (CommandOutcome.GoesOn turn) p q d.core core (list shelf) after
        → LeavesDesk n turn seen.0 (turned d n d.ends q d.begun core) names capacity (list seen.1) after base
    turn_goes_on {q} {core} {after} {turn} h =
        let so = subst (λ (y : Progress). GoesOn stamp command turn y q d.core core) read_now h.so in
        rw (← run, h.changes) (went_on command next_read core turn q so h.keeps h.city)

    pub turn_ends : {q w : Progress} {core : CoreState} {after : List Change} {outcome : Outcome} {ends : List End}
        {name : List ℕ} (taken : List ℕ) {room : ℕ}
        → HasStepped stamp command (CommandOutcome.Ends outcome) p q d.core core (list shelf) after → w ≡ ended_progress
        → ends ≡ d.ends
        ++ (record { script = n; name = name; since = since; replies = q.replies.list; outcome = outcome }) ∷ []
        → name ≡ slice_index_or names n name → room ≡ capacity
        → LeavesDesk n turns.Ended seen.0 (turned d n ends w d.begun core) (slice_set names n taken) room (list seen.1)
        after base
    turn_ends {q} {w} {core} {after} {outcome} {ends} {name} taken {room} h over more named same =
        let called = script_turns.called s r there unended attempt.script name attempt.is_there named in
        let last = rw (called, h.0, read_now) at more in
        let ending = subst (λ (y : Progress). AttemptEnded stamp command (length y.replies.list) outcome d.core core
        (list shelf) after) read_now h.1 in
        rw (← run, over, last, same) (ended command next_read core outcome after taken ending)
