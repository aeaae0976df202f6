-- The commands of an open script over a view, their locks, and one more of them.
use Rattle.city_model.proofs.Prelude.{arith, ◌≡◌, ℕ, List, [], ◌∷◌, ◌++◌, true, false, sym, subst, is_some, false≢true}
use Rattle.city_model.proofs.Prelude.{Command, Reply, Mode, Exclusive, Answers, effect, locks_of, Snapshot, IsSoundView}
use Rattle.city_model.proofs.Prelude.{Held, Lock, covers, AllHeld, Answered, IsTraceUnderLocks, locks_id}
use Rattle.city_model.proofs.Prelude.{locks_id_exclusively}
use Rattle.city_members.proofs.Ids.{same_id_true}
use Rattle.city_model.proofs.GoingOn.{goes_on_case, goes_on_to}
use Rattle.city_model.proofs.MarksKept.{sound_effect}

-- an id of the locks is held
pub held_named : (held : Held) (ls : List Lock) (q : List ℕ) → AllHeld held ls → locks_id ls q ≡ true
    → is_some (held q) ≡ true
held_named held [] q a h = absurd (false≢true h)
held_named held (l ∷ ls) q a h = grind (arith, same_id_true q l.0, held_named held ls q a.1)

-- an id of the exclusive locks is held so
pub held_exclusively : (held : Held) (ls : List Lock) (q : List ℕ) → AllHeld held ls → locks_id_exclusively ls q ≡ true
    → covers (held q) Exclusive ≡ true
held_exclusively held [] q a h = absurd (false≢true h)
held_exclusively held (l ∷ ls) q a h = grind (arith, same_id_true q l.0, held_exclusively held ls q a.1)

pub not_named : (held : Held) (ls : List Lock) (q : List ℕ) → AllHeld held ls → covers (held q) Exclusive ≡ false
    → locks_id_exclusively ls q ≡ false
not_named held ls q a h = grind (arith, held_exclusively held ls q a)

-- ---- one more command, and more locks

abbrev pub HoldsMore : Held → Held → Type 0
HoldsMore held more = (q : List ℕ) (b : Mode) → covers (held q) b ≡ true → covers (more q) b ≡ true

pub more_held : (held more : Held) (ls : List Lock) → HoldsMore held more → AllHeld held ls → AllHeld more ls
more_held held more [] h a = tt
more_held held more (l ∷ ls) h a = (h l.0 l.1 a.0, more_held held more ls h a.1)

-- after a command with this reply
abbrev pub Next : Held → Reply → List Answered → Snapshot → Reply → Snapshot → Type 0
Next held r ds w reply u = (reply ≡ r) × IsTraceUnderLocks held u ds w

pub follows_more : (held more : Held) (v : Snapshot) (ds : List Answered) (w : Snapshot) (c : Command) (r : Reply)
    (k : Snapshot)
    → HoldsMore held more → IsTraceUnderLocks held v ds w → AllHeld more (locks_of w.map c) → effect w c ≡ Answers r k
    → IsTraceUnderLocks more v (ds ++ (c, r) ∷ []) k
follows_more held more v [] w c r k h f a e = grind arith
follows_more held more v (d ∷ ds) w c r k h f a e = (
  more_held held more (locks_of v.map d.0) h f.0,
  goes_on_to _ _ (effect v d.0) (λ reply u is g. (g.0, follows_more held more u ds w c r k h g.1 a e)) f.1,
)

-- the same history with more locks
pub follows_held : (held more : Held) (v : Snapshot) (ds : List Answered) (w : Snapshot) → HoldsMore held more
    → IsTraceUnderLocks held v ds w → IsTraceUnderLocks more v ds w
follows_held held more v [] w h f = f
follows_held held more v (d ∷ ds) w h f = (
  more_held held more (locks_of v.map d.0) h f.0,
  goes_on_to _ _ (effect v d.0) (λ reply u is g. (g.0, follows_held held more u ds w h g.1)) f.1,
)

-- the same with more locks, from and to equal views
pub follows_same : (held more : Held) (v other : Snapshot) (ds : List Answered) (w k : Snapshot) → HoldsMore held more
    → v ≡ other → w ≡ k → IsTraceUnderLocks held v ds w → IsTraceUnderLocks more other ds k
follows_same held more v other ds w k h e g f = search (arith, follows_held)

-- a history leads to a sound view
pub follows_sound : (held : Held) (v : Snapshot) (ds : List Answered) (w : Snapshot) → IsSoundView v
    → IsTraceUnderLocks held v ds w → IsSoundView w
follows_sound held v [] w s f = subst IsSoundView (sym f) s
follows_sound held v (d ∷ ds) w s f =
    goes_on_case _ (effect v d.0) (λ reply u is g. follows_sound held u ds w (sound_effect v d.0 reply u is s) g.1) f.1
