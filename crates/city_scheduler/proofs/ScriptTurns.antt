-- The desk after a turn of one script, whether the script goes on or ends.
use Rattle.city_scheduler.proofs.Prelude.{◌≡◌, ◌≢◌, ◌<◌, ◌≤◌, ◌+◌, ℕ, Bool, true, false, cond, List, [], ◌∷◌, ◌++◌}
use Rattle.city_scheduler.proofs.Prelude.{length, Option, Some, refl, ap, sym, subst, ◌∙◌, arith, length-append}
use Rattle.city_scheduler.proofs.Prelude.{append-nil, slice_set, slice_get, slice_index_or, false≢true, cases_eq}
use Rattle.city_scheduler.proofs.Prelude.{get_or-set_same, count_by-le-length, Reply, End, Outcome, CityMap, object_at}
use Rattle.city_scheduler.proofs.Prelude.{CityValue, Scripted, IsScriptResult, map_left, model_after, Change, has_end}
use Rattle.city_scheduler.proofs.Prelude.{is_commit, commits_in, answered, CoreState, committed, view, is_open}
use Rattle.city_scheduler.proofs.Prelude.{KeepsOthers, Progress, Phase, Idle, Open, Turn, DeskState, progress_to}
use Rattle.city_scheduler.proofs.Prelude.{ended_progress, phase_of, replies_of, room_of, is_ended, stamp_of, Publishes}
use Rattle.city_scheduler.proofs.Prelude.{commands_at, is_not_begun, ended_in, HasRoom, StandsAs, AreStanding, IsSerial}
use Rattle.city_scheduler.proofs.Prelude.{IsDue, end_of}
use Rattle.std.proofs.Common.{inl, inr, length-set}
use Rattle.std.proofs.Math.Bool.{or-false}
use Rattle.std.proofs.lemmas.Bool.{ne_eqb, eq-eqb, or_right}
use Rattle.std.proofs.lemmas.List.{get_or-set_other, get_or_default}
use Rattle.std.proofs.lemmas.List.Sums.{sum_by-set}
use Rattle.city_model.specs.Runs.{IsEndOf, left_by_found}
use Rattle.city_model.proofs.Fitting.{fits_more, has_end_more, model_more}
use Rattle.city_scheduler.specs.internal.ScriptParts.{name_at}
use Rattle.city_scheduler.specs.internal.Room.{not_begun_in}
use Rattle.city_scheduler.specs.Turning.{IsTurnAs, IsTurn, GainsCommits}
use Rattle.city_scheduler.proofs.Shelved.{shows_all, changes_after, commits_more, gained_by, left_same}
use Rattle.city_scheduler.specs.declared.turn.Turn.TheVariants as turns

-- everything about the desk after a turn
pub record LeavesDesk (n : ℕ) (turn : Turn) (d e : DeskState) (names : List (List ℕ)) (room : ℕ)
    (before after : List Change) (base : Option CityValue) : Type 0 where
  pub serial : IsSerial e after base
  pub room_left : HasRoom e names room
  pub turned : IsTurn n turn d e
  pub changes : GainsCommits d.ends e.ends before after

-- the desk after a turn of script n
abbrev pub turned : DeskState → ℕ → List End → Progress → ℕ → CoreState → DeskState
turned d n ends q begun core =
    record d { ends = ends; progress = slice_set d.progress n q; begun = begun; core = core }

abbrev pub one_if : Bool → ℕ
one_if b = cond b 1 0

-- if it holds of the new entry at its place, and of the others at theirs, it holds of each
pub each_set : (ps : List Progress) (n : ℕ) (q : Progress) (P : ℕ → Progress → Type 0) → n < length ps → P n q
    → ((j : ℕ) → j ≢ n → P j (slice_index_or ps j ended_progress)) → (j : ℕ)
    → P j (slice_index_or (slice_set ps n q) j ended_progress)
each_set ps n q P there here beside j = elim (cases_eq j n) [
  | inl same ↦ rw (same, get_or-set_same ps n q ended_progress there) here
  | inr ne ↦ rw (get_or-set_other ps n j q ended_progress ne) (beside j ne)
]

-- ---- the open transactions

-- the stamp is script n's, if it has one, and no other's
pub record IsStampOf (d : DeskState) (n stamp : ℕ) : Type 0 where
  pub was : (t : ℕ) → stamp_of (phase_of d n) ≡ Some t → t ≡ stamp
  pub alone : (k : ℕ) → stamp_of (phase_of d k) ≡ Some stamp → k ≡ n

pub own_stamp : (d : DeskState) (n stamp : ℕ) → AreStanding d → stamp_of (phase_of d n) ≡ Some stamp
    → IsStampOf d n stamp
own_stamp d n stamp st own = record { was = λ t h. cc; alone = λ k h. st.apart k n stamp h own }

module _ (d : DeskState) (n stamp : ℕ) (ends : List End) (q : Progress) (begun : ℕ) (core : CoreState)
    (there : n < length d.progress) (more : d.begun ≤ begun) (longer : length d.ends ≤ length ends)
    (k : KeepsOthers stamp d.core core) (o : IsStampOf d n stamp) where
  still : (j : ℕ) (p : Phase) (rs : List Reply) → (stamp_of p ≡ Some stamp → ⊥) → StandsAs d j p rs
      → StandsAs (turned d n ends q begun core) j p rs
  still j (Idle t) rs ne h = (h.0, omega (arith, h.1))
  still j (Open t since) rs ne h =
      let other = ne_eqb stamp t (λ same. ne (ap Some (sym same))) in
      record {
        script = h.script;
        is_there = h.is_there;
        opened = k.opened t other ∙ h.opened;
        begun = omega (arith, h.begun);
        since = omega (arith, h.since);
        unfinished = h.unfinished;
        unrefused = h.unrefused;
        stands = k.others t (answered h.script.1 rs) other h.stands;
      }
  still j p rs ne h = h

  -- the script reaches this phase, and the other transactions stand as before
  attempts_kept : AreStanding d → ((t : ℕ) → stamp_of q.phase ≡ Some t → t ≡ stamp)
      → (is_open core stamp ≡ true → (since : ℕ) × (q.phase ≡ Open stamp since))
      → StandsAs (turned d n ends q begun core) n q.phase q.replies.list → AreStanding (turned d n ends q begun core)
  attempts_kept st becomes opened stands = record {
    each = each_set d.progress n q (λ j p. StandsAs (turned d n ends q begun core) j p.phase p.replies.list) there
        stands (λ j ne. still j (phase_of d j) (replies_of d j) (λ own. ne (o.alone j own)) (st.each j));
    owner = λ t. elim (cases_eq stamp t) [
      | inl same ↦ subst (λ t. is_open core t ≡ true → (j : ℕ) × (since : ℕ)
          × (phase_of (turned d n ends q begun core) j ≡ Open t since)) same
          (λ h. (
            n,
            (opened h).0,
            ap (λ (p : Progress). p.phase) (get_or-set_same d.progress n q ended_progress there)
                ∙ (opened h).1,
          ))
      | inr ne ↦ λ h.
          let by = st.owner t (sym (k.opened t (ne_eqb stamp t ne)) ∙ h) in
          let other : by.0 ≢ n =
          λ same. ne (sym (o.was t (ap (λ j. stamp_of (phase_of d j)) (sym same) ∙ ap stamp_of by.2))) in (
            by.0,
            by.1,
            ap (λ (p : Progress). p.phase) (get_or-set_other d.progress n by.0 q ended_progress other) ∙ by.2,
          )
    ];
    apart = λ j i t. each_set d.progress n q
        (λ j p. stamp_of p.phase ≡ Some t → stamp_of (phase_of (turned d n ends q begun core) i) ≡ Some t → j ≡ i) there
        (λ a. each_set d.progress n q (λ i p. stamp_of p.phase ≡ Some t → n ≡ i) there (λ b. refl)
        (λ i ne b. sym (o.alone i (b ∙ ap Some (becomes t a)))) i)
        (λ j ne a. each_set d.progress n q (λ i p. stamp_of p.phase ≡ Some t → j ≡ i) there
        (λ b. o.alone j (a ∙ ap Some (becomes t b))) (λ i other b. st.apart j i t a b) i) j;
  }

-- ---- one end more

pub has_its_end : (es : List End) (e : End) → has_end e.script (es ++ e ∷ []) ≡ true
has_its_end es e = grind (arith, has_end_more, eq-eqb, or_right)

pub has_other_ends : (j : ℕ) (es : List End) (e : End) → (e.script ≡ j → ⊥)
    → has_end j (es ++ e ∷ []) ≡ has_end j es
has_other_ends j es e ne = grind (arith, has_end_more, ne_eqb, or-false)

-- ---- a turn of a script that hasn't ended

module _ {d : DeskState} {changes : List Change} {base : Option CityValue} {n : ℕ} {names : List (List ℕ)}
    {capacity : ℕ} (s : IsSerial d changes base) (r : HasRoom d names capacity) (there : n < length d.scripts)
    (unended : is_ended (phase_of d n) ≡ false) where
  pub within : n < length d.progress
  within = omega (arith, s.of_each)

  ended_set : (q : Progress) → ended_in (slice_set d.progress n q) ≡ ended_in d.progress + one_if (is_ended q.phase)
  ended_set q =
      grind (arith, sum_by-set (λ (p : Progress). one_if (is_ended p.phase)) d.progress n q ended_progress within)

  not_begun_set : (q : Progress) → not_begun_in (slice_set d.progress n q) + one_if (is_not_begun (phase_of d n))
      ≡ not_begun_in d.progress + one_if (is_not_begun q.phase)
  not_begun_set q =
      sum_by-set (λ (p : Progress). one_if (is_not_begun p.phase)) d.progress n q ended_progress within

  -- there is a place for its end
  pub place_left : length d.ends < length d.scripts
  place_left =
      let most = count_by-le-length (λ (p : Progress). is_ended p.phase) (slice_set d.progress n ended_progress) in
      let long = length-set d.progress n ended_progress in
      omega (arith, ended_set ended_progress, s.of_each, r.each_once)

  -- the copied name is its own
  pub called : (script : Scripted) (name : List ℕ) → slice_get d.scripts n ≡ Some script
      → name ≡ slice_index_or names n name → name ≡ script.0
  called script name is_there named =
      grind (arith, get_or_default names n name [], r.named n there unended, r.names_long)

  pub read_as : (p : Progress) → p ≡ slice_index_or d.progress n p → p ≡ slice_index_or d.progress n ended_progress
  read_as p read = read ∙ get_or_default d.progress n p ended_progress within

  pub goes_on : (stamp begun : ℕ) (core : CoreState) (phase : Phase) (replies : List Reply) (turn : Turn)
      → KeepsOthers stamp d.core core → IsStampOf d n stamp → committed core ≡ committed d.core
      → stamp_of phase ≡ Some stamp → is_ended phase ≡ false → is_not_begun phase ≡ false
      → (is_open core stamp ≡ true → (since : ℕ) × (phase ≡ Open stamp since))
      → StandsAs (turned d n d.ends (progress_to phase replies (room_of d n)) begun core) n phase replies
      → d.begun ≤ begun → begun ≤ d.begun + one_if (is_not_begun (phase_of d n))
      → IsTurnAs d (turned d n d.ends (progress_to phase replies (room_of d n)) begun core) n turn
      → LeavesDesk n turn d (turned d n d.ends (progress_to phase replies (room_of d n)) begun core) names capacity
      changes changes base
  goes_on stamp begun core phase replies turn k o city its on started opened stands more stamps so =
      let q : Progress = progress_to phase replies (room_of d n) in
      let none : one_if (is_not_begun q.phase) ≡ 0 = ap one_if started in
      let going : one_if (is_ended q.phase) ≡ 0 = ap one_if on in
      record {
        serial = record {
          lawful = s.lawful;
          scripted = s.scripted;
          fits = s.fits;
          frame = k.frame ∙ s.frame;
          city = city ∙ s.city;
          standing = attempts_kept d n stamp d.ends q begun core within more (omega arith) k o s.standing (λ t h. cc)
              opened stands;
          ended = each_set d.progress n q (λ j p. j < length d.scripts → has_end j d.ends ≡ is_ended p.phase) within
              (λ lt. s.ended n lt ∙ (unended ∙ sym on)) (λ j ne. s.ended j);
          of_each = length-set d.progress n q ∙ s.of_each;
          shelf = s.shelf;
          based = s.based;
        };
        room_left = record {
          named = each_set d.progress n q
              (λ j p. j < length d.scripts → is_ended p.phase ≡ false → slice_index_or names j [] ≡ name_at d.scripts j)
              within (λ lt h. r.named n lt unended) (λ j ne. r.named j);
          replies = each_set d.progress n q
              (λ j p. j < length d.scripts → is_ended p.phase ≡ false
              → p.replies.room ≡ length (commands_at d.scripts j))
              within (λ lt h. r.replies n lt unended) (λ j ne. r.replies j);
          names_long = r.names_long;
          each_once = omega (arith, r.each_once, ended_set q);
          stamps = omega (arith, r.stamps, not_begun_set q);
          places = r.places;
        };
        turned = record { keeps = record { start = refl; scripts = refl; taken = refl }; so = so };
        changes = ([], sym (append-nil changes), omega arith);
      }

  pub ends : (script : Scripted) → slice_get d.scripts n ≡ Some script → (since : ℕ) (outcome : Outcome) (stamp : ℕ)
      (core : CoreState) (after : List Change) (taken : List ℕ)
      → KeepsOthers stamp d.core core → IsStampOf d n stamp → is_open core stamp ≡ false
      → since ≤ length d.ends → IsScriptResult (committed d.core) script.1 (replies_of d n) outcome
      → IsDue d n (phase_of d n) since outcome
      → Publishes (is_commit outcome) stamp d.core core changes after
      → (is_commit outcome ≡ true → map_left (committed d.core) script.1 outcome ≡ view d.core stamp)
      → LeavesDesk n turns.Ended d
      (turned d n (d.ends ++ end_of d n script.0 since outcome ∷ []) ended_progress d.begun core)
      (slice_set names n taken) capacity changes after base
  ends script is_there since outcome stamp core after taken k o closed early result due publishes shown =
      let start : CityMap = object_at d.start.1 in
      let last : End = end_of d n script.0 since outcome in
      let long = length-append d.ends (last ∷ []) in
      let left : model_after d.scripts start (d.ends ++ last ∷ []) ≡ map_left (committed d.core) script.1 outcome =
      model_more d.scripts d.ends last start
      ∙ (ap (λ (f : Option Scripted). left_by_found (model_after d.scripts start d.ends) f outcome) is_there
      ∙ ap (λ (m : CityMap). map_left m script.1 outcome) (sym s.city)) in
      let gained = gained_by (is_commit outcome) stamp d.core core start changes after
      (model_after d.scripts start (d.ends ++ last ∷ []))
      (s.city ∙ sym (shows_all d.scripts start d.ends changes s.shelf)) (λ one. left ∙ shown one)
      (λ none. left ∙ left_same (committed d.core) script.1 outcome none) publishes in
      let count = commits_more d.ends last ∙ ap (λ k. commits_in d.ends + k) (sym gained.2) in
      record {
        serial = record {
          lawful = s.lawful;
          scripted = s.scripted;
          fits = fits_more d.scripts d.ends last start 0 s.fits (s.ended n there ∙ unended)
              (subst (λ (m : CityMap). IsEndOf d.scripts m (0 + length d.ends) last) s.city
              (record { script = script; is_there = is_there; named = refl; since = omega arith; result = result }));
          frame = k.frame ∙ s.frame;
          city = gained.3;
          standing = attempts_kept d n stamp (d.ends ++ last ∷ []) ended_progress d.begun core within (omega arith)
              (omega arith) k o s.standing (λ t h. absurd (cc)) (λ h. absurd (false≢true (sym closed ∙ h))) refl;
          ended = each_set d.progress n ended_progress
              (λ j p. j < length d.scripts → has_end j (d.ends ++ last ∷ []) ≡ is_ended p.phase) within
              (λ lt. has_its_end d.ends last) (λ j ne lt. has_other_ends j d.ends last (λ same. ne (sym same))
              ∙ s.ended j lt);
          of_each = length-set d.progress n ended_progress ∙ s.of_each;
          shelf = rw gained.1 (changes_after d.scripts start d.ends changes s.shelf last gained.0 count gained.4);
          based = s.based;
        };
        room_left = record {
          named = each_set d.progress n ended_progress
              (λ j p. j < length d.scripts → is_ended p.phase ≡ false
              → slice_index_or (slice_set names n taken) j [] ≡ name_at d.scripts j)
              within (λ lt h. absurd (false≢true (sym h)))
              (λ j ne lt h. get_or-set_other names n j taken [] ne ∙ r.named j lt h);
          replies = each_set d.progress n ended_progress
              (λ j p. j < length d.scripts → is_ended p.phase ≡ false
              → p.replies.room ≡ length (commands_at d.scripts j))
              within (λ lt h. absurd (false≢true (sym h))) (λ j ne. r.replies j);
          names_long = length-set names n taken ∙ r.names_long;
          each_once = omega (arith, r.each_once, ended_set ended_progress);
          stamps = omega (arith, r.stamps, not_begun_set ended_progress);
          places = r.places;
        };
        turned = record {
          keeps = record { start = refl; scripts = refl; taken = refl };
          so = record {
            script = script;
            is_there = is_there;
            since = since;
            outcome = outcome;
            due = due;
            ends = refl;
            moves = refl;
            begun = refl;
          };
        };
        changes = (gained.0, gained.1, count);
      }
