-- A history under locks holds from each other map with the same objects at all held ids, marks too.
use Rattle.city_model.proofs.Prelude.{arith, ◌≡◌, ℕ, List, [], ◌∷◌, Bool, true, false, ap, sym, subst, ◌∙◌}
use Rattle.city_model.proofs.Prelude.{if◌then◌else◌}
use Rattle.city_model.proofs.Prelude.{length, Option, refl, is_some, Command, Reply, Exclusive, CityMap, has_id, Action}
use Rattle.city_model.proofs.Prelude.{Refuses, Edits, Marks, GoesBack, action, Effect, Answers, applied, effect}
use Rattle.city_model.proofs.Prelude.{left, step, locks_of, Marked, Snapshot, unmarked, marks_from, IsSoundView}
use Rattle.city_model.proofs.Prelude.{IsSound, Held}
use Rattle.city_model.proofs.Prelude.{covers, AllHeld, Answered, IsTraceUnderLocks, locks_id_exclusively, Lock}
use Rattle.city_model.proofs.Prelude.{answered, locks_id, AgreeOn, Mode, Trace}
use Rattle.city_model.specs.Actions as actions
use Rattle.city_model.specs.Meaning.{back}
use Rattle.city_model.specs.Standing.{exclusive_ids}
use Rattle.city_model.specs.TraceLaw.{carried_map, carried_marks, carried, as_named, stronger_of, named_by, TraceLaw}
use Rattle.city_model.proofs.ActionKinds.{map_after}
use Rattle.city_model.proofs.FramedActions.{taken_to, framed, WritesAt, writes_locked}
use Rattle.city_model.proofs.FrameLaw.{frame, same_locks}
use Rattle.city_model.proofs.GoingOn.{goes_on_case, goes_on_to, answered_next}
use Rattle.city_model.proofs.MarksKept.{from_mapped, sound_effect}
use Rattle.city_model.proofs.History.{Next, held_named, held_exclusively, not_named, more_held, follows_held}
use Rattle.city_members.proofs.Ids.{same_id_itself}

module _ (held : Held) (other : CityMap) where
  -- held ids are carried as they are
  abbrev pub IsCarried : CityMap → Type 0
  IsCarried m = (q : List ℕ) → is_some (held q) ≡ true → m q ≡ carried_map held other m q

  abbrev pub AreCarried : List Marked → Type 0
  AreCarried [] = Unit {0}
  AreCarried (k ∷ ks) = IsCarried k.1 × AreCarried ks

  abbrev pub IsCarriedView : Snapshot → Type 0
  IsCarriedView v = IsCarried v.map × AreCarried v.marks

  -- ---- going back

  from_carried : (name : List ℕ) (ks : List Marked)
      → marks_from name (carried_marks held other ks) ≡ carried_marks held other (marks_from name ks)
  from_carried name ks = from_mapped (carried_map held other) name ks

  are_from : (name : List ℕ) (ks : List Marked) → AreCarried ks → AreCarried (marks_from name ks)
  are_from name [] is = tt
  are_from name (k ∷ ks) is = grind (arith, are_from name ks is.1)

  is_back : (name : List ℕ) (v : Snapshot) (ks : List Marked) → IsCarriedView v → AreCarried ks
      → IsCarriedView (left v (back name v ks))
  is_back name v [] is are = is
  is_back name v (k ∷ ks) is are = (are.0, are)

  -- ---- an action

  abbrev carried_action : Action → Action
  carried_action (Edits reply ids k) = Edits reply ids (carried_map held other k)
  carried_action a = a

  abbrev carried_effect : Effect → Effect
  carried_effect (Answers reply u) = Answers reply (carried held other u)
  carried_effect e = e

  back_carried : (name : List ℕ) (v : Snapshot) (ks : List Marked)
      → back name (carried held other v) (carried_marks held other ks) ≡ carried_effect (back name v ks)
  back_carried name v [] = refl
  back_carried name v (k ∷ ks) = refl

  applied_carried : (v : Snapshot) (a : Action)
      → applied (carried held other v) (carried_action a) ≡ carried_effect (applied v a)
  applied_carried v (Refuses cause) = refl
  applied_carried v (Edits reply ids k) = refl
  applied_carried v (Marks name) = refl
  applied_carried v (GoesBack name) =
      ap (back name (carried held other v)) (from_carried name v.marks) ∙ back_carried name v (marks_from name v.marks)
  applied_carried v actions.Commits = refl
  applied_carried v actions.Aborts = refl

  picked : {X : Type 0} (b d : Bool) (x y z : X) → (b ≡ true → d ≡ true) → (d ≡ true → b ≡ false → x ≡ y)
      → (if b then x else (if d then y else z)) ≡ (if d then x else z)
  picked b d x y z f g = grind arith

  -- the ids of its writes are held exclusively
  taken_is_carried : (m : CityMap) (ids : List (List ℕ)) (a : Action) → WritesAt ids a
      → ((q : List ℕ) → has_id ids q ≡ true → covers (held q) Exclusive ≡ true)
      → ((q : List ℕ) → covers (held q) Exclusive ≡ true → has_id ids q ≡ false → map_after m a q ≡ m q)
      → taken_to (carried_map held other m) a ≡ carried_action a
  taken_is_carried m ids (Edits reply js k) at all beside =
      ap (Edits reply js) (λ i q. picked (has_id js q) (covers (held q) Exclusive) (k q) (m q) (other q)
      (λ h. all q (ap (λ ls. has_id ls q) at ∙ h)) (λ h e. beside q h (ap (λ ls. has_id ls q) at ∙ e)) i)
  taken_is_carried m ids a at all beside = refl

  -- ---- one command

  module _ (v : Snapshot) (c : Command) (s : IsSoundView v) (t : IsSoundView (carried held other v))
      (is : IsCarriedView v)
      (all : AllHeld held (locks_of v.map c)) where
    on : AgreeOn (locks_of v.map c) v.map (carried_map held other v.map)
    on q h = grind (arith, is.0 q, held_named held (locks_of v.map c) q all h)

    same : locks_of v.map c ≡ locks_of (carried_map held other v.map) c
    same = same_locks v.map (carried_map held other v.map) c on

    still : (q : List ℕ) → covers (held q) Exclusive ≡ false → map_after v.map (action v.map c) q ≡ v.map q
    still q e = frame v.map c q s.0 (not_named held (locks_of v.map c) q all e)

    action_carried : action (carried_map held other v.map) c ≡ carried_action (action v.map c)
    action_carried =
        framed v.map (carried_map held other v.map) c t.0 on
        ∙ taken_is_carried v.map (exclusive_ids (locks_of v.map c)) (action v.map c) (writes_locked v.map c)
        (λ q. held_exclusively held (locks_of v.map c) q all)
        (λ q h apart. frame v.map c q s.0 apart)

    is_carried_after : IsCarried (map_after v.map (action v.map c))
    is_carried_after q h = grind (arith, is.0 q h, still q)

    effect_carried : effect (carried held other v) c ≡ carried_effect (effect v c)
    effect_carried = ap (applied (carried held other v)) action_carried ∙ applied_carried v (action v.map c)

    is_carried_left : (a : Action) → IsCarried (map_after v.map a) → IsCarriedView (left v (applied v a))
    is_carried_left (Refuses cause) now = is
    is_carried_left (Edits reply ids k) now = (now, is.1)
    is_carried_left (Marks name) now = (is.0, (is.0, is.1))
    is_carried_left (GoesBack name) now = is_back name v (marks_from name v.marks) is (are_from name v.marks is.1)
    is_carried_left a now = grind arith

    module _ (reply : Reply) (u : Snapshot) (answers : effect v c ≡ Answers reply u) where
      answer_carried : effect (carried held other v) c ≡ Answers reply (carried held other u)
      answer_carried = effect_carried ∙ ap carried_effect answers

      is_carried_next : IsCarriedView u
      is_carried_next =
          rw (answered_next v c reply u answers) (is_carried_left (action v.map c) is_carried_after)

  -- a history under locks holds from the carried view, and leads to the carried one
  pub history_carried : (v : Snapshot) (ds : List Answered) (w : Snapshot) → IsSoundView v
      → IsSoundView (carried held other v)
      → IsCarriedView v
      → IsTraceUnderLocks held v ds w → IsTraceUnderLocks held (carried held other v) ds (carried held other w)
  history_carried v [] w s t is f = ap (carried held other) f
  history_carried v (d ∷ ds) w s t is f = (
    rw (← same v d.0 s t is f.0) f.0,
    goes_on_case (Next held d.1 ds w) (effect v d.0) (λ reply u answers g.
        let moved = answer_carried v d.0 s t is f.0 reply u answers in
        rw moved (
          g.0,
          history_carried u ds w (sound_effect v d.0 reply u answers s) (sound_effect _ d.0 reply _ moved t)
              (is_carried_next v d.0 s t is f.0 reply u answers) g.1,
        )) f.1,
  )

-- with its locks held, a history from a map without marks holds from each other sound map with the same objects at all
-- held ids
pub history_kept : (held : Held) (m other : CityMap) (ds : List Answered) (w : Snapshot) → IsSound m → IsSound other
    → ((q : List ℕ) → is_some (held q) ≡ true → m q ≡ other q)
    → IsTraceUnderLocks held (unmarked m) ds w → IsTraceUnderLocks held (unmarked other) ds (carried held other w)
history_kept held m other ds w s t agree f =
    let at : (q : List ℕ) → carried_map held other m q ≡ other q = λ q. grind arith in
    let same : carried_map held other m ≡ other = λ i q. at q i in
    let is = λ (q : List ℕ) (h : is_some (held q) ≡ true). agree q h ∙ sym (at q) in
    subst (λ (k : CityMap). IsTraceUnderLocks held (unmarked k) ds (carried held other w)) same
    (history_carried held other (unmarked m) ds w (s, tt) (subst IsSound (sym same) t, tt) (is, tt) f)

-- ---- commands do the same from two maps with the same objects at the ids of their locks

covers_right : (x y : Option Mode) (b : Mode) → covers y b ≡ true → covers (stronger_of x y) b ≡ true
covers_right x y b h = grind arith

-- ---- the ids of locks, taken as held, hold the locks

all_held : (held : Held) (ls : List Lock) → ((q : List ℕ) → locks_id ls q ≡ true → is_some (held q) ≡ true)
    → ((q : List ℕ) → locks_id_exclusively ls q ≡ true → covers (held q) Exclusive ≡ true) → AllHeld held ls
all_held held [] s x = tt
all_held held (l ∷ ls) s x = grind (arith, same_id_itself l.0, s l.0, x l.0, all_held held ls)

abbrev named_in : List Lock → Held
named_in ls q = as_named (locks_id_exclusively ls q) (locks_id ls q)

named_held : (ls : List Lock) → AllHeld (named_in ls) ls
named_held ls = all_held (named_in ls) ls (λ q h. grind arith) (λ q h. grind arith)

-- ---- the commands with their replies

trace_long : (v : Snapshot) (cs : List Command) (rs : List Reply) (w : Snapshot) → Trace v cs rs w
    → length cs ≡ length rs
trace_long v [] [] w f = refl
trace_long v (c ∷ cs) (r ∷ rs) w f =
    goes_on_case _ (effect v c) (λ reply u is g. let rest = trace_long u cs rs w g.1 in omega arith) f
trace_long v cs rs w f = absurd f

trace_follows : (v : Snapshot) (cs : List Command) (rs : List Reply) (w : Snapshot) → Trace v cs rs w
    → IsTraceUnderLocks (named_by v cs) v (answered cs rs) w
trace_follows v [] [] w f = f
trace_follows v (c ∷ cs) (r ∷ rs) w f =
    let held = named_by v (c ∷ cs) in
    let first = more_held _ held (locks_of v.map c) (λ q b h. grind arith) (named_held (locks_of v.map c)) in (
      first,
      goes_on_to _ _ (effect v c) (λ reply u is g. (
        g.0,
        follows_held (named_by u cs) held u (answered cs rs) w (λ q b h. covers_right _ (named_by (step v c) cs q) b
            (subst (λ x. covers (named_by x cs q) b ≡ true) (answered_next v c reply u is) h))
            (trace_follows u cs rs w g.1),
      )) f,
    )
trace_follows v cs rs w f = absurd f

read_off : (held : Held) (v : Snapshot) (cs : List Command) (rs : List Reply) (w : Snapshot) → length cs ≡ length rs
    → IsTraceUnderLocks held v (answered cs rs) w → Trace v cs rs w
read_off held v [] [] w e f = f
read_off held v (c ∷ cs) (r ∷ rs) w e f =
    goes_on_to _ _ (effect v c) (λ reply u is g. (g.0, read_off held u cs rs w (omega arith) g.1)) f.1
read_off held v cs rs w e f = absurd (omega arith)

pub trace_law : (m : CityMap) (cs : List Command) → IsSound m → TraceLaw m cs
trace_law m cs s rs w f n t agree =
    read_off (named_by (unmarked m) cs) (unmarked n) cs rs (carried (named_by (unmarked m) cs) n w)
    (trace_long (unmarked m) cs rs w f)
    (history_kept (named_by (unmarked m) cs) m n (answered cs rs) w s t agree (trace_follows (unmarked m) cs rs w f))
