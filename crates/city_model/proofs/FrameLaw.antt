-- A command reads and writes only locked ids.
use Rattle.city_model.proofs.Prelude.{arith, ◌≡◌, ℕ, List, [], ◌∷◌, true, false, refl, sym, ap, ◌∙◌, Reply, Command}
use Rattle.city_model.proofs.Prelude.{CityMap, Action, Edits, action, has_id, applied, left, step, answer, locks_of}
use Rattle.city_model.proofs.Prelude.{IsSound, unmarked, is_end, Lock, locks_id, locks_id_exclusively, AgreeOn}
use Rattle.city_model.specs.FrameLaw.{FrameLaw}
use Rattle.city_model.specs.Meaning.{reply_of}
use Rattle.city_model.specs.Standing.{exclusive_ids}
use Rattle.city_model.proofs.ActionKinds.{map_after}
use Rattle.city_model.proofs.FramedActions.{taken_to, framed, edits_locked, WritesAt, writes_locked}
use Rattle.city_model.proofs.GoingOn.{effect_is}
use Rattle.city_members.proofs.Ids.{same_id_itself}

pub exclusive_is_named : (ls : List Lock) (id : List ℕ) → locks_id_exclusively ls id ≡ true → locks_id ls id ≡ true
exclusive_is_named [] id h = h
exclusive_is_named (l ∷ ls) id h = grind (arith, exclusive_is_named ls id)

-- ---- ids not locked exclusively stay

left_beside : (m n : CityMap) (a : Action) (ids : List (List ℕ)) (q : List ℕ) → WritesAt ids a → has_id ids q ≡ false
    → map_after n (taken_to n a) q ≡ n q
left_beside m n a ids q w h = grind arith

pub frame : (m : CityMap) (c : Command) (q : List ℕ) → IsSound m → locks_id_exclusively (locks_of m c) q ≡ false
    → map_after m (action m c) q ≡ m q
frame m c q s h =
    ap (λ (a : Action). map_after m a q) (framed m m c s (λ id k. refl))
    ∙ left_beside m m (action m c) (exclusive_ids (locks_of m c)) q (writes_locked m c) h

-- an id not written by an edit stays
pub unwritten_stays : (m : CityMap) (c : Command) (reply : Reply) (ids : List (List ℕ)) (n : CityMap) (q : List ℕ)
    → IsSound m → action m c ≡ Edits reply ids n → has_id ids q ≡ false → n q ≡ m q
unwritten_stays m c reply ids n q s is h =
    ap (λ (a : Action). map_after m a q) (sym is)
    ∙ frame m c q s (ap (λ js. has_id js q) (edits_locked m c reply ids n is) ∙ h)

-- ---- two maps with the same objects at the ids of the first one's locks

pub same_locks : (m n : CityMap) (c : Command) → AgreeOn (locks_of m c) m n → locks_of m c ≡ locks_of n c
same_locks m n c a = grind (arith, same_id_itself)

left_there : (m n : CityMap) (a : Action) (ids : List (List ℕ)) (q : List ℕ) → WritesAt ids a → has_id ids q ≡ true
    → m q ≡ n q → map_after m a q ≡ map_after n (taken_to n a) q
left_there m n a ids q w h e = grind arith

-- an id locked exclusively becomes the same
pub same_after : (m n : CityMap) (c : Command) (q : List ℕ) → IsSound n → AgreeOn (locks_of m c) m n
    → locks_id_exclusively (locks_of m c) q ≡ true → map_after m (action m c) q ≡ map_after n (action n c) q
same_after m n c q t a h =
    left_there m n (action m c) (exclusive_ids (locks_of m c)) q (writes_locked m c) h
    (a q (exclusive_is_named (locks_of m c) q h))
    ∙ sym (ap (λ (b : Action). map_after n b q) (framed m n c t a))

-- ---- without marks

reply_taken : (m n : CityMap) (a : Action) → reply_of (applied (unmarked n) (taken_to n a))
    ≡ reply_of (applied (unmarked m) a)
reply_taken m n a = grind arith

same_answer : (m n : CityMap) (c : Command) → IsSound n → AgreeOn (locks_of m c) m n
    → answer (unmarked n) c ≡ answer (unmarked m) c
same_answer m n c t a =
    ap (λ (b : Action). reply_of (applied (unmarked n) b)) (framed m n c t a) ∙ reply_taken m n (action m c)

left_at : (m : CityMap) (a : Action) (q : List ℕ) → (left (unmarked m) (applied (unmarked m) a)).map q ≡ map_after m a q
left_at m a q = grind arith

at_after : (m : CityMap) (c : Command) (q : List ℕ) → (step (unmarked m) c).map q ≡ map_after m (action m c) q
at_after m c q = left_at m (action m c) q

pub frame_law : (m : CityMap) (c : Command) → IsSound m → is_end c ≡ false → FrameLaw m c
frame_law m c s on n t a = record {
  reply = answer (unmarked m) c;
  left = step (unmarked m) c;
  left_there = step (unmarked n) c;
  here = effect_is (unmarked m) c on;
  there = grind (arith, effect_is (unmarked n) c on, same_answer m n c t a);
  locks = same_locks m n c a;
  written = λ id h. (
    a id (exclusive_is_named (locks_of m c) id h),
    at_after m c id ∙ same_after m n c id t a h ∙ sym (at_after n c id),
  );
  kept = λ id h. (
    at_after m c id ∙ frame m c id s h,
    at_after n c id ∙ frame n c id t (rw (← same_locks m n c a) h),
  );
}
