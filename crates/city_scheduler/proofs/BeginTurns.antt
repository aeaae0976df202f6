-- The beginning of a script, done or refused.
use Rattle.city_scheduler.proofs.Prelude.{◌≡◌, ◌<◌, ◌≤◌, ◌+◌, ℕ, true, false, List, [], ◌∷◌, ◌++◌, length, Option, Some}
use Rattle.city_scheduler.proofs.Prelude.{refl, ap, sym, subst, ◌∙◌, arith, slice_set, slice_get, slice_index_or}
use Rattle.city_scheduler.proofs.Prelude.{false≢true, Command, Reply, End, Outcome, CityMap, object_at, CityValue}
use Rattle.city_scheduler.proofs.Prelude.{Scripted, IsScriptResult, Change, ends_once, CoreState, committed, is_open}
use Rattle.city_scheduler.proofs.Prelude.{StandsUnderLocks, KeepsOthers, Progress, Phase, NotBegun, Idle, Open}
use Rattle.city_scheduler.proofs.Prelude.{DeskState, ended_progress, phase_of, replies_of, room_of, is_ended, stamp_of}
use Rattle.city_scheduler.proofs.Prelude.{is_not_begun, HasRoom, StandsAs, AreStanding, IsSerial, IsDue}
use Rattle.std.proofs.lemmas.Bool.{false_from_ne_true}
use Rattle.std.proofs.lemmas.Option.{slice_get-get_or}
use Rattle.city_scheduler.specs.Turning.{stamp_for, begun_after}
use Rattle.city_scheduler.proofs.ScriptReads.{has_commands}
use Rattle.city_scheduler.proofs.ScriptTurns.{LeavesDesk, turned, one_if, IsStampOf, own_stamp}
use Rattle.city_scheduler.specs.declared.turn.Turn.TheVariants as turns
use Rattle.city_scheduler.proofs.ScriptTurns as script_turns

below_begun : (d : DeskState) (k t : ℕ) (p : Phase) (rs : List Reply) → StandsAs d k p rs → stamp_of p ≡ Some t
    → t < d.begun
below_begun d k t p rs h e = grind arith

no_memory_result : (m : CityMap) (all : List Command) → ends_once all ≡ true
    → IsScriptResult m all [] (Outcome.NoMemory 0)
no_memory_result m [] h = absurd (false≢true h)
no_memory_result m (c ∷ cs) h = refl

-- the stamp is the script's alone, and no transaction of it is open
record IsFresh (d : DeskState) (n stamp : ℕ) : Type 0 where
  own : IsStampOf d n stamp
  closed : is_open d.core stamp ≡ true → ⊥
  below : stamp < begun_after d.begun (phase_of d n)
  unended : is_ended (phase_of d n) ≡ false
  unheard : replies_of d n ≡ []

fresh : (d : DeskState) (n stamp : ℕ) (p : Phase) → AreStanding d → phase_of d n ≡ p → stamp_for d p ≡ Some stamp
    → IsFresh d n stamp
fresh d n stamp NotBegun st is its =
    let same : d.begun ≡ stamp = cc in
    let next : begun_after d.begun (phase_of d n) ≡ d.begun + 1 = ap (begun_after d.begun) is in
    let none : (k : ℕ) → stamp_of (phase_of d k) ≡ Some stamp → ⊥ =
    λ k h. let less = below_begun d k stamp (phase_of d k) (replies_of d k) (st.each k) h in omega arith in
    record {
      own = record { was = λ t h. absurd (cc (ap stamp_of is)); alone = λ k h. absurd (none k h) };
      closed = λ h. let owner = st.owner stamp h in none owner.0 (ap stamp_of owner.2);
      below = omega arith;
      unended = ap is_ended is;
      unheard = subst (λ p. StandsAs d n p (replies_of d n)) is (st.each n);
    }
fresh d n stamp (Idle t) st is its =
    let same : t ≡ stamp = cc in
    let own : stamp_of (phase_of d n) ≡ Some stamp = ap stamp_of is ∙ its in
    let stands : StandsAs d n (Idle t) (replies_of d n) = subst (λ p. StandsAs d n p (replies_of d n)) is (st.each n) in
    let next : begun_after d.begun (phase_of d n) ≡ d.begun = ap (begun_after d.begun) is in
    record {
      own = own_stamp d n stamp st own;
      closed = λ h. let owner = st.owner stamp h in
          let here : owner.0 ≡ n = st.apart owner.0 n stamp (ap stamp_of owner.2) own in
          let both : Idle t ≡ Open stamp owner.1 = sym is ∙ (ap (phase_of d) (sym here) ∙ owner.2) in
          absurd (cc);
      below = omega (arith, stands.1);
      unended = ap is_ended is;
      unheard = stands.0;
    }
fresh d n stamp p st is its = absurd (cc)

-- the stamps left
begun_room : (b : ℕ) (p : Phase) → (b ≤ begun_after b p) × (begun_after b p ≤ b + one_if (is_not_begun p))
begun_room b p = grind arith

due_unbegun : (d : DeskState) (n stamp : ℕ) (p : Phase) → stamp_for d p ≡ Some stamp
    → IsDue d n p (length d.ends) (Outcome.NoMemory 0)
due_unbegun d n stamp p e = grind arith

module _ {S : Type 0} (list : S → List Change) {d : DeskState} {shelf : S} {seen : DeskState × S}
    {base : Option CityValue} {n stamp : ℕ} {names : List (List ℕ)} {capacity : ℕ} (run : (d, shelf) ≡ seen)
    (s : IsSerial d (list shelf) base) (r : HasRoom d names capacity)
    (its_seen : stamp_for seen.0 (phase_of seen.0 n) ≡ Some stamp) (there_seen : n < length seen.0.scripts) where
  there : n < length d.scripts
  there = rw (← run) at there_seen

  its : stamp_for d (phase_of d n) ≡ Some stamp
  its = rw (← run) at its_seen

  is_fresh : IsFresh d n stamp
  is_fresh = fresh d n stamp (phase_of d n) s.standing refl its

  abbrev script : Scripted
  script = slice_index_or d.scripts n ([], [])

  script_is : slice_get d.scripts n ≡ Some script
  script_is = slice_get-get_or d.scripts n ([], []) there

  pub place_for_end : length d.ends < capacity
  place_for_end = omega (arith, script_turns.place_left s r there is_fresh.unended, r.places)

  module _ {p : Progress} {since : ℕ} {core : CoreState} (read : p ≡ slice_index_or d.progress n p)
      (now : since ≡ length d.ends) where
    pub turn_begins : {begun : ℕ} → begun ≡ begun_after seen.0.begun (phase_of seen.0 n)
        → KeepsOthers stamp d.core core
        → core.city ≡ d.core.city → is_open core stamp ≡ true → StandsUnderLocks core stamp []
        → LeavesDesk n turns.Began seen.0
        (turned d n d.ends (record { phase = Open stamp since; replies = p.replies }) begun core) names capacity
        (list seen.1) (list shelf) base
    turn_begins {begun} more keeps objects opened stands =
        let begun_now : begun ≡ begun_after d.begun (phase_of d n) = rw (← run) at more in
        let unheard : (slice_index_or d.progress n ended_progress).replies ≡ record { list = []; room = room_of d n } =
        ap (λ (l : List Reply). record { list = l; room = room_of d n }) is_fresh.unheard in
        let stamps = begun_room d.begun (phase_of d n) in
        rw (← run, now, begun_now, script_turns.read_as s r there is_fresh.unended p read, unheard)
        (script_turns.goes_on s r there is_fresh.unended stamp (begun_after d.begun (phase_of d n)) core
        (Open stamp (length d.ends)) [] turns.Began keeps is_fresh.own (λ i id. object_at (objects i) id) refl refl refl
        (λ _. (length d.ends, refl)) (record {
          script = script;
          is_there = script_is;
          opened = opened;
          begun = is_fresh.below;
          since = omega arith;
          unfinished = has_commands script.1 (s.scripted n script script_is);
          unrefused = refl;
          stands = stands;
        }) (omega arith) (omega arith)
        (record { stamp = stamp; is_its = its; moves = refl; begun = refl; ends = refl }))

    pub turn_unbegun : {w : Progress} {ends : List End} {name : List ℕ} (taken : List ℕ) {room : ℕ} → core ≡ d.core
        → w ≡ ended_progress
        → ends ≡ d.ends
        ++ (record {
          script = n;
          name = name;
          since = since;
          replies = p.replies.list;
          outcome = Outcome.NoMemory 0;
        }) ∷ [] → name ≡ slice_index_or names n name → room ≡ capacity
        → LeavesDesk n turns.Ended seen.0 (turned d n ends w d.begun core) (slice_set names n taken) room (list seen.1)
        (list shelf) base
    turn_unbegun {w} {ends} {name} taken {room} same over more named long =
        let called = script_turns.called s r there is_fresh.unended script name script_is named in
        let last = rw (called, now, script_turns.read_as s r there is_fresh.unended p read) at more in
        let result : IsScriptResult (committed d.core) script.1 (replies_of d n) (Outcome.NoMemory 0) =
        rw is_fresh.unheard (no_memory_result (committed d.core) script.1 (s.scripted n script script_is)) in
        rw (← run, same, over, last, long) (script_turns.ends s r there is_fresh.unended script script_is
        (length d.ends) (Outcome.NoMemory 0) stamp d.core (list shelf) taken
        (record { frame = refl; opened = λ t ne. refl; others = λ t done ne h. h }) is_fresh.own
        (false_from_ne_true (is_open d.core stamp) is_fresh.closed) (omega arith) result
        (due_unbegun d n stamp (phase_of d n) its) (refl, refl) (λ e. absurd (false≢true e)))
