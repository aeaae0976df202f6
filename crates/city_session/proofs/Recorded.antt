-- A session's record after each of its calls.
use Rattle.std.specs.Prelude.{◌≡◌, ◌<◌, ◌≤◌, ◌==◌, ◌+◌, ◌-◌, ◌^◌, ◌++◌, ℕ, List, [], ◌∷◌, Bool, true, false, Option, None}
use Rattle.std.specs.Prelude.{Some, is_some, option_map, length, take, if◌then◌else◌, refl}
use Rattle.std.specs.Prelude.{min}
use Rattle.std.proofs.Common.{sym, ◌∙◌, ap, ap₂, subst, arith, inl, inr}
use Rattle.std.proofs.lemmas.Bool.{cases_eq, ne_eqb, eq-eqb, false≢true}
use Rattle.std.proofs.lemmas.List.{length-append}
use Rattle.city_model.specs.declared.command.Command.{Command}
use Rattle.city_model.specs.declared.command.Command.TheVariants.{Commit, Abort}
use Rattle.city_model.specs.declared.end.Outcome.{Outcome}
use Rattle.city_model.specs.CityMap.{CityMap, CityValue, object_at}
use Rattle.city_model.specs.Marks.{Snapshot, unmarked}
use Rattle.city_model.specs.Relations.{IsLawful, HasNoOrphan}
use Rattle.city_model.specs.Runs.{model_after}
use Rattle.city_txn.specs.CoreState.{CoreState, committed, view, snapshot, is_open, held, StandsUnderLocks, KeepsOthers}
use Rattle.city_txn.specs.CoreState.{IsTransactionEnd, IsRolledBack}
use Rattle.city_session.specs.Grown.{Grown, Closed, max_commands, unrefused, with_reply, scripts_of, ends_from}
use Rattle.city_session.specs.Grown.{is_full, is_full_there, IsTold}
use Rattle.city_session.specs.Live.{SessionState, grown_at, IsStanding, IsLive}
use Rattle.city_session.specs.Acting.{GrowsTo, told_after, IsAnswered, IsActed, HasEnded, IsForgotten}
use Rattle.city_session.specs.declared.acted.Acted.{Acted}
use Rattle.city_session.specs.declared.acted.Acted.TheVariants as acts
use Rattle.city_session.specs.internal.Answering.{IsAnsweredIn}
use Rattle.city_session.specs.internal.Recorded.{left, left_by_all, IsRunAt, IsRecorded}
use Rattle.city_session.proofs.AsScripts.{trace_of, ends_as, leads_to, ends_last, with_end}
use Rattle.city_session.proofs.Ran.{left_by_more, run_more, told_at, within_at, scripted_at, lawful_at, are_scripts}
use Rattle.city_session.proofs.Ran.{history_of, model_of, model_of_first}

-- ---- what it promises

pub live_of : {start : CityValue} {closed : List Closed} {ended stamps : ℕ} {growing : List (ℕ × Grown)}
    {core : CoreState} → IsRecorded start closed ended stamps growing core
    → IsLive (record { start = start; closed = closed; growing = growing; stamps = stamps; core = core })
live_of {start} {closed} r =
    let m = object_at start.1 in
    let all = are_scripts closed in
    let first : (n : ℕ) → model_after (scripts_of closed) m (take n (ends_from 0 closed)) ≡ left_by_all m (take n closed) =
    λ n. model_of_first (scripts_of closed) m 0 closed n all in
    record {
      scripts = λ n s h. scripted_at m 0 closed n s r.runs h;
      within = λ n c h. within_at m 0 closed n c r.runs h;
      fits = history_of (scripts_of closed) m 0 closed all r.runs;
      told = λ n c h. subst (λ x. IsTold x c.0.told) (sym (first n)) (told_at m 0 closed n c r.runs h);
      lawful = λ n. subst IsLawful (sym (first n)) (lawful_at m 0 closed n r.lawful r.runs);
      city = r.city ∙ sym (model_of (scripts_of closed) m 0 closed all);
      frame = r.frame;
      opened = r.opened;
      standing = r.standing;
      given = r.given;
    }

-- ---- the open ones after a call

some_same : {A : Type 0} (a b : A) → Some a ≡ Some b → a ≡ b
some_same a b e = cc

pub at_own : (stamp : ℕ) (o : Option Grown) (before after : List (ℕ × Grown)) → GrowsTo stamp o before after
    → grown_at after stamp ≡ o
at_own stamp o before after g =
    g stamp ∙ ap (λ b. if b then o else grown_at before stamp) (eq-eqb stamp stamp refl)

pub at_other : (stamp t : ℕ) (o : Option Grown) (before after : List (ℕ × Grown)) → GrowsTo stamp o before after
    → (stamp == t) ≡ false → grown_at after t ≡ grown_at before t
at_other stamp t o before after g e = g t ∙ ap (λ b. if b then o else grown_at before t) e

-- the same ones
pub grows_same : (stamp : ℕ) (o : Option Grown) (growing : List (ℕ × Grown)) → o ≡ grown_at growing stamp
    → GrowsTo stamp o growing growing
grows_same stamp o growing e t = elim (cases_eq stamp t) [
  | inl same ↦ rw (eq-eqb stamp t same) (sym (e ∙ ap (grown_at growing) same))
  | inr ne ↦ rw (ne_eqb stamp t ne) refl
]

module _ {start : CityValue} {closed : List Closed} {ended stamps : ℕ} {growing : List (ℕ × Grown)} {core : CoreState}
    (r : IsRecorded start closed ended stamps growing core) (stamp : ℕ) (after : List (ℕ × Grown)) {new : CoreState}
    (o : Option Grown) (k : KeepsOthers stamp core new) (grows : GrowsTo stamp o growing after)
    (own : is_open new stamp ≡ is_some o) where
  opened_after : (t : ℕ) → is_open new t ≡ is_some (grown_at after t)
  opened_after t = elim (cases_eq stamp t) [
    | inl same ↦ subst (λ u. is_open new u ≡ is_some (grown_at after u)) same
        (own ∙ ap is_some (sym (at_own stamp o growing after grows)))
    | inr ne ↦
        let e = ne_eqb stamp t ne in
        k.opened t e ∙ (r.opened t ∙ ap is_some (sym (at_other stamp t o growing after grows e)))
  ]

  standing_after : (more : List Closed) → length closed ≤ length more
      → ((g : Grown) → o ≡ Some g → IsStanding more new stamp g) → (t : ℕ) (g : Grown) → grown_at after t ≡ Some g
      → IsStanding more new t g
  standing_after more longer here t g h = elim (cases_eq stamp t) [
    | inl same ↦ subst (λ u. IsStanding more new u g) same
        (here g (sym (at_own stamp o growing after grows) ∙ (ap (grown_at after) same ∙ h)))
    | inr ne ↦
        let e = ne_eqb stamp t ne in
        let s = r.standing t g (sym (at_other stamp t o growing after grows e) ∙ h) in
        record { since = omega (arith, s.since, longer); stands = k.others t g.told e s.stands }
  ]

  given_after : (given : ℕ) → stamps ≤ given → (is_some o ≡ true → stamp < given) → (t : ℕ) → is_open new t ≡ true
      → t < given
  given_after given more here t h = elim (cases_eq stamp t) [
    | inl same ↦ subst (λ u. u < given) same (here (sym own ∙ (ap (is_open new) same ∙ h)))
    | inr ne ↦ omega (arith, r.given t (sym (k.opened t (ne_eqb stamp t ne)) ∙ h), more)
  ]

-- ---- a transaction begun

pub begun : {start : CityValue} {closed : List Closed} {ended stamps : ℕ} {growing after : List (ℕ × Grown)}
    {core new : CoreState} → IsRecorded start closed ended stamps growing core → (stamp given since : ℕ) → stamp < given
    → stamps ≤ given → KeepsOthers stamp core new → committed new ≡ committed core
    → GrowsTo stamp (Some (record { since = since; told = [] })) growing after → is_open new stamp ≡ true
    → StandsUnderLocks new stamp [] → since ≡ length closed
    → IsRecorded start closed ended given after new
begun {closed = closed} {after = after} {new = new} r stamp given since below more k city grows opened stands counted =
    let g : Grown = record { since = since; told = [] } in
    record {
      lawful = r.lawful;
      runs = r.runs;
      city = city ∙ r.city;
      frame = k.frame ∙ r.frame;
      opened = opened_after r stamp after (Some g) k grows opened;
      standing = standing_after r stamp after (Some g) k grows opened closed (omega arith)
          (λ x e. subst (IsStanding closed new stamp) (some_same g x e)
          (record { since = omega (arith, counted); stands = stands }));
      given = given_after r stamp after (Some g) k grows opened given more (λ _. below);
      counted = r.counted;
    }

-- ---- a command

is_some_map : (f : Grown → Grown) (o : Option Grown) → is_some (option_map f o) ≡ is_some o
is_some_map f None = refl
is_some_map f (Some g) = refl

mapped_from : (f : Grown → Grown) (o : Option Grown) (g : Grown) → option_map f o ≡ Some g
    → (x : Grown) × (o ≡ Some x) × (f x ≡ g)
mapped_from f None g e = absurd (cc)
mapped_from f (Some x) g e = (x, refl, some_same (f x) g e)

pub acted : {start : CityValue} {closed : List Closed} {ended stamps : ℕ} {growing after : List (ℕ × Grown)}
    {core new : CoreState} → IsRecorded start closed ended stamps growing core → (stamp : ℕ) (f : Grown → Grown)
    → ((g : Grown) → (f g).since ≡ g.since) → KeepsOthers stamp core new → committed new ≡ committed core
    → is_open new stamp ≡ is_open core stamp
    → GrowsTo stamp (option_map f (grown_at growing stamp)) growing after
    → ((g : Grown) → StandsUnderLocks core stamp g.told → StandsUnderLocks new stamp (f g).told)
    → IsRecorded start closed ended stamps after new
acted {closed = closed} {stamps = stamps} {growing = growing} {after = after} {new = new} r stamp f same k city opened grows stands =
    let o = option_map f (grown_at growing stamp) in
    let own : is_open new stamp ≡ is_some o =
    opened ∙ (r.opened stamp ∙ sym (is_some_map f (grown_at growing stamp))) in
    record {
      lawful = r.lawful;
      runs = r.runs;
      city = city ∙ r.city;
      frame = k.frame ∙ r.frame;
      opened = opened_after r stamp after o k grows own;
      standing = standing_after r stamp after o k grows own closed (omega arith) (λ g e.
          let was = mapped_from f (grown_at growing stamp) g e in
          let s = r.standing stamp was.0 was.1 in
          subst (IsStanding closed new stamp) was.2
          (record { since = omega (arith, same was.0, s.since); stands = stands was.0 s.stands }));
      given = given_after r stamp after o k grows own stamps (omega arith)
          (λ e. r.given stamp (sym opened ∙ (own ∙ e)));
      counted = r.counted;
    }

map_same : (o : Option Grown) → option_map (λ g. g) o ≡ o
map_same None = refl
map_same (Some g) = refl

-- none of them told anything
grows_as_told : (stamp : ℕ) (growing : List (ℕ × Grown))
    → GrowsTo stamp (option_map (λ g. g) (grown_at growing stamp)) growing growing
grows_as_told stamp growing = grows_same stamp _ growing (map_same (grown_at growing stamp))

-- ---- the open ones looked up the same

pub regrown : {start : CityValue} {closed : List Closed} {ended stamps : ℕ} {growing after : List (ℕ × Grown)}
    {core : CoreState} → IsRecorded start closed ended stamps growing core
    → ((t : ℕ) → grown_at after t ≡ grown_at growing t) → IsRecorded start closed ended stamps after core
regrown r same = record {
  lawful = r.lawful;
  runs = r.runs;
  city = r.city;
  frame = r.frame;
  opened = λ t. r.opened t ∙ ap is_some (sym (same t));
  standing = λ t g h. r.standing t g (sym (same t) ∙ h);
  given = r.given;
  counted = r.counted;
}

-- told nothing, the open ones are looked up as before
grown_same : (stamp : ℕ) (growing after : List (ℕ × Grown))
    → GrowsTo stamp (option_map (λ g. g) (grown_at growing stamp)) growing after
    → (t : ℕ) → grown_at after t ≡ grown_at growing t
grown_same stamp growing after grows t = grows t ∙ sym (grows_as_told stamp growing t)

module _ (stamp : ℕ) (command : Command) (full : Bool) (core new : CoreState) where
  -- only one that is full has no room
  full_then : (answer : Acted) → IsAnsweredIn stamp command full answer core new → full ≡ true
      → answer ≡ acts.TooMany
  full_then (acts.Replied reply) k h = absurd (false≢true (sym k.0 ∙ h))
  full_then acts.Waits k h = absurd (false≢true (sym k.0 ∙ h))
  full_then acts.Dies k h = absurd (false≢true (sym k.0 ∙ h))
  full_then acts.TooMany k h = refl
  full_then acts.NoMemory k h = absurd (false≢true (sym k.0 ∙ h))

  city_then : (answer : Acted) → IsAnsweredIn stamp command full answer core new → committed new ≡ committed core
  city_then (acts.Replied reply) k = k.1.city
  city_then acts.Waits k = k.1.city
  city_then acts.Dies k = k.1.city
  city_then acts.TooMany k = ap committed k.1
  city_then acts.NoMemory k = k.1.city

-- a transaction that is full is told nothing
pub full_told : (stamp : ℕ) (command : Command) (g : Grown) {h : Grown} (core new : CoreState) (answer : Acted)
    → IsAnsweredIn stamp command (is_full g) answer core new → h ≡ told_after command answer g → is_full g ≡ true
    → h ≡ g
full_told stamp command g core new answer k told full =
    told ∙ ap (λ a. told_after command a g) (full_then stamp command (is_full g) core new answer k full)

-- a command was answered
pub act_answered : {start : CityValue} {closed : List Closed} {ended stamps : ℕ} {growing after : List (ℕ × Grown)}
    {core new : CoreState} (stamp : ℕ) (command : Command) (full : Bool) (answer : Acted)
    → IsRecorded start closed ended stamps growing core → IsAnsweredIn stamp command full answer core new
    → GrowsTo stamp (option_map (told_after command answer) (grown_at growing stamp)) growing after
    → IsRecorded start closed ended stamps after new
act_answered stamp command full (acts.Replied reply) r k grows =
    acted r stamp (with_reply command reply) (λ g. refl) k.1.keeps k.1.city k.1.opened grows (λ g. k.1.own g.told)
act_answered stamp command full acts.Waits r k grows =
    acted r stamp (λ g. g) (λ g. refl) k.1.keeps k.1.city k.1.opened grows (λ g. k.1.own g.told)
act_answered stamp command full acts.Dies r k grows =
    acted r stamp (λ g. g) (λ g. refl) k.1.keeps k.1.city k.1.opened grows (λ g. k.1.own g.told)
act_answered {start} {closed} {ended} {stamps} {growing} {after} {core} {new} stamp command full acts.TooMany r k grows =
    subst (IsRecorded start closed ended stamps after) (sym k.1) (regrown r (grown_same stamp growing after grows))
act_answered stamp command full acts.NoMemory r k grows =
    acted r stamp (λ g. g) (λ g. refl) k.1.keeps k.1.city k.1.opened grows (λ g. k.1.own g.told)

-- the next stamp isn't open
pub next_is_free : {start : CityValue} {closed : List Closed} {ended stamps : ℕ} {growing : List (ℕ × Grown)}
    {core : CoreState} → IsRecorded start closed ended stamps growing core → is_open core stamps ≡ false
next_is_free {stamps = stamps} r = grind (arith, r.given stamps)

none_from : (o : Option Grown) → is_some o ≡ false → o ≡ None
none_from None h = refl
none_from (Some g) h = absurd (false≢true (sym h))

pub there_from : (o : Option Grown) → is_some o ≡ true → (g : Grown) × (o ≡ Some g)
there_from None h = absurd (false≢true h)
there_from (Some g) h = (g, refl)

pub is_there : {start : CityValue} {closed : List Closed} {ended stamps : ℕ} {growing : List (ℕ × Grown)}
    {core : CoreState} → IsRecorded start closed ended stamps growing core → (stamp : ℕ) → is_open core stamp ≡ true
    → None ≡ grown_at growing stamp → ⊥
is_there r stamp opened none = false≢true (ap is_some none ∙ (sym (r.opened stamp) ∙ opened))

-- one added and taken out again
pub unadded : {start : CityValue} {closed : List Closed} {ended stamps : ℕ} {growing : List (ℕ × Grown)}
    {core : CoreState} → IsRecorded start closed ended stamps growing core → (stamp : ℕ)
    (mid after : List (ℕ × Grown)) (o : Option Grown) → is_open core stamp ≡ false → GrowsTo stamp o growing mid
    → GrowsTo stamp None mid after → (t : ℕ) → grown_at after t ≡ grown_at growing t
unadded {growing = growing} r stamp mid after o closed added taken t = elim (cases_eq stamp t) [
  | inl same ↦ subst (λ u. grown_at after u ≡ grown_at growing u) same (at_own stamp None mid after taken
      ∙ sym (none_from (grown_at growing stamp) (sym (r.opened stamp) ∙ closed)))
  | inr ne ↦
      let e = ne_eqb stamp t ne in
      at_other stamp t None mid after taken e ∙ at_other stamp t o growing mid added e
]

-- ---- the end of one

run_to_commit : (core : CoreState) (stamp place : ℕ) (g : Grown) → StandsUnderLocks core stamp g.told
    → length (unrefused g.told) < max_commands → g.since ≤ place → HasNoOrphan (view core stamp)
    → IsRunAt (committed core) place (g, true)
run_to_commit core stamp place g stands within since none =
    let v = unmarked (committed core) in
    let w = snapshot core stamp in
    record {
      since = since;
      told = (w, trace_of (held core stamp) v g.told w stands);
      result = ends_as (held core stamp) v g.told w 0 Commit Outcome.Committed stands (λ _. (inl (refl, none), refl));
      scripted = ends_last (held core stamp) v g.told w Commit refl stands;
      within = with_end g.told Commit max_commands within;
    }

run_to_abort : (core : CoreState) (stamp place : ℕ) (g : Grown) → StandsUnderLocks core stamp g.told
    → length (unrefused g.told) < max_commands → g.since ≤ place → IsRunAt (committed core) place (g, false)
run_to_abort core stamp place g stands within since =
    let v = unmarked (committed core) in
    let w = snapshot core stamp in
    record {
      since = since;
      told = (w, trace_of (held core stamp) v g.told w stands);
      result = ends_as (held core stamp) v g.told w 0 Abort Outcome.Aborted stands (λ _. (refl, refl));
      scripted = ends_last (held core stamp) v g.told w Abort refl stands;
      within = with_end g.told Abort max_commands within;
    }

counted_more : (ended more n : ℕ) → (ended < 2 ^ 64 - 1 → ended ≡ n) → more ≡ min (ended + 1) (2 ^ 64 - 1)
    → more < 2 ^ 64 - 1 → more ≡ n + 1
counted_more ended more n h e less = grind (arith, h, e, less)

module _ {start : CityValue} {closed : List Closed} {ended stamps : ℕ} {growing after : List (ℕ × Grown)}
    {core new : CoreState} (r : IsRecorded start closed ended stamps growing core) (stamp : ℕ)
    (k : KeepsOthers stamp core new) (over : is_open new stamp ≡ false) (grows : GrowsTo stamp None growing after) where
  -- it is the last that has ended
  ended_at : (g : Grown) (is_kept : Bool) (more : ℕ) → more ≡ min (ended + 1) (2 ^ 64 - 1)
      → IsRunAt (committed core) (length closed) (g, is_kept) → committed new ≡ left (committed core) (g, is_kept)
      → IsRecorded start (closed ++ (g, is_kept) ∷ []) more stamps after new
  ended_at g is_kept more up run city =
      let m = object_at start.1 in
      let c : Closed = (g, is_kept) in
      let long = length-append closed (c ∷ []) in
      record {
        lawful = r.lawful;
        runs = run_more m 0 closed c r.runs (subst (λ (x : CityMap). IsRunAt x (0 + length closed) c) r.city
            (subst (λ p. IsRunAt (committed core) p c) (omega arith) run));
        city = city ∙ (ap (λ (x : CityMap). left x c) r.city ∙ sym (left_by_more m closed c));
        frame = k.frame ∙ r.frame;
        opened = opened_after r stamp after None k grows over;
        standing = standing_after r stamp after None k grows over (closed ++ c ∷ []) (omega (arith, long))
            (λ x e. absurd (cc));
        given = given_after r stamp after None k grows over stamps (omega arith) (λ e. absurd (false≢true e));
        counted = λ less. counted_more ended more (length closed) r.counted up less ∙ sym long;
      }

  pub committed_end : (g : Grown) → grown_at growing stamp ≡ Some g → length (unrefused g.told) < max_commands
      → HasNoOrphan (view core stamp) → committed new ≡ view core stamp → (more : ℕ)
      → more ≡ min (ended + 1) (2 ^ 64 - 1) → IsRecorded start (closed ++ (g, true) ∷ []) more stamps after new
  committed_end g here within none city more up =
      let s = r.standing stamp g here in
      ended_at g true more up (run_to_commit core stamp (length closed) g s.stands within s.since none)
      (city ∙ sym (ap (λ (v : Snapshot). v.map)
      (leads_to (held core stamp) (unmarked (committed core)) g.told (snapshot core stamp) s.stands)))

  pub undone_end : (g : Grown) → grown_at growing stamp ≡ Some g → length (unrefused g.told) < max_commands
      → committed new ≡ committed core → (more : ℕ) → more ≡ min (ended + 1) (2 ^ 64 - 1)
      → IsRecorded start (closed ++ (g, false) ∷ []) more stamps after new
  undone_end g here within city more up =
      let s = r.standing stamp g here in
      ended_at g false more up (run_to_abort core stamp (length closed) g s.stands within s.since) city

  pub forgotten : committed new ≡ committed core → IsRecorded start closed ended stamps after new
  forgotten city = record {
    lawful = r.lawful;
    runs = r.runs;
    city = city ∙ r.city;
    frame = k.frame ∙ r.frame;
    opened = opened_after r stamp after None k grows over;
    standing = standing_after r stamp after None k grows over closed (omega arith) (λ x e. absurd (cc));
    given = given_after r stamp after None k grows over stamps (omega arith) (λ e. absurd (false≢true e));
    counted = r.counted;
  }

-- ---- a session as it is opened

pub opened_city : (city : CityValue) → IsLawful (object_at city.1)
    → IsRecorded city [] 0 0 []
    (record { frame = city.0; city = city.1; writes = []; opened = []; logs = []; locks = [] })
opened_city city lawful = record {
  lawful = lawful;
  runs = tt;
  city = refl;
  frame = refl;
  opened = λ t. refl;
  standing = λ t g e. absurd (cc);
  given = λ t o. absurd (false≢true o);
  counted = λ _. refl;
}

pub same_committed : (v w : CoreState) → v.city ≡ w.city → committed v ≡ committed w
same_committed v w e = ap (λ o. object_at o) e

-- ---- what is seen of it

abbrev pub state : CityValue → List Closed → List (ℕ × Grown) → ℕ → CoreState → SessionState
state start closed growing stamps core =
    record { start = start; closed = closed; growing = growing; stamps = stamps; core = core }

module _ (start : CityValue) (closed : List Closed) (stamps stamp : ℕ) (growing after : List (ℕ × Grown))
    (command : Command) (core new : CoreState) where
  answered_then : (answer : Acted)
      → IsAnsweredIn stamp command (is_full_there (grown_at growing stamp)) answer core new
      → (is_full_there (grown_at growing stamp) ≡ true → after ≡ growing)
      → IsAnswered stamp command answer (state start closed growing stamps core) (state start closed after stamps new)
  answered_then (acts.Replied reply) k same = k.1
  answered_then acts.Waits k same = k.1
  answered_then acts.Dies k same = k.1
  answered_then acts.TooMany k same = (k.0, ap₂ (λ g c. state start closed g stamps c) (same k.0) k.1)
  answered_then acts.NoMemory k same = k.1

module _ {start : CityValue} {closed : List Closed} {growing : List (ℕ × Grown)} {stamps : ℕ} {core : CoreState}
    {seen : SessionState} (run : state start closed growing stamps core ≡ seen) where
  -- a fact about the session inside, as one about what is seen of it
  seen_as : (P : SessionState → Type 0) → P (state start closed growing stamps core) → P seen
  seen_as P h = subst P run h

  pub seen_open : (stamp : ℕ) {b : Bool} → is_open seen.core stamp ≡ b → is_open core stamp ≡ b
  seen_open stamp h = ap (λ (v : SessionState). is_open v.core stamp) run ∙ h

  -- a command was answered
  pub seen_acted : (stamp : ℕ) (command : Command) {after : List (ℕ × Grown)} (new : CoreState) (answer : Acted)
      → IsAnsweredIn stamp command (is_full_there (grown_at growing stamp)) answer core new
      → GrowsTo stamp (option_map (told_after command answer) (grown_at growing stamp)) growing after
      → (is_full_there (grown_at growing stamp) ≡ true → after ≡ growing)
      → IsActed stamp command answer seen (state start closed after stamps new)
  seen_acted stamp command {after} new answer k grows same =
      seen_as (λ v. IsActed stamp command answer v (state start closed after stamps new)) (record {
        room = full_then stamp command (is_full_there (grown_at growing stamp)) core new answer k;
        answered = answered_then start closed stamps stamp growing after command core new answer k same;
        growing = grows;
        given = refl;
        start = refl;
        closed = refl;
        city = city_then stamp command (is_full_there (grown_at growing stamp)) core new answer k;
      })

  pub seen_ended : {stamp : ℕ} {after : List (ℕ × Grown)} {new : CoreState} {more : List Closed} (g : Grown)
      (is_kept : Bool) → grown_at growing stamp ≡ Some g → more ≡ closed ++ (g, is_kept) ∷ []
      → GrowsTo stamp None growing after → IsTransactionEnd stamp core new
      → HasEnded stamp is_kept seen (state start more after stamps new)
  seen_ended {stamp} {after} {new} {more} g is_kept here longer grows over =
      seen_as (λ v. HasEnded stamp is_kept v (state start more after stamps new)) (record {
        ended = g;
        is_there = here;
        closed = longer;
        growing = grows;
        over = over;
        given = refl;
        start = refl;
      })

  pub seen_forgotten : {stamp : ℕ} {after : List (ℕ × Grown)} {new : CoreState} → GrowsTo stamp None growing after
      → IsRolledBack stamp core new → IsForgotten stamp seen (state start closed after stamps new)
  seen_forgotten {stamp} {after} {new} grows undone =
      seen_as (λ v. IsForgotten stamp v (state start closed after stamps new))
      (record { closed = refl; growing = grows; undone = undone; given = refl; start = refl })
