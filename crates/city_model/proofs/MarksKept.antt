-- The maps of marks: each is sound, and is the map of the mark's time.
use Rattle.city_model.proofs.Prelude.{arith, ◌≡◌, ℕ, List, [], ◌∷◌, ◌++◌, false, map, refl, ap, ◌∙◌, if◌then◌else◌}
use Rattle.city_model.proofs.Prelude.{Command, Reply, Mark, Back, NoMark, WentBack, Refused, CityMap, Action, action}
use Rattle.city_model.proofs.Prelude.{Refuses, Edits, Marks, GoesBack, same_id, Marked, Snapshot, marks_from}
use Rattle.city_model.proofs.Prelude.{IsSoundView}
use Rattle.city_model.proofs.Prelude.{IsSound, Answers, applied, effect, left, step}
use Rattle.city_model.specs.Marks.{AreSound}
use Rattle.city_model.specs.Meaning.{back}
use Rattle.city_model.specs.Scripts.{is_mark}
use Rattle.city_model.proofs.ActionKinds.{map_after, IsKindOf, kind_of}
use Rattle.city_model.proofs.GoingOn.{answered_next}
use Rattle.city_members.proofs.Ids.{same_id_itself}
use Rattle.city_model.proofs.SoundAfter.{sound_after}

-- ---- soundness

sound_from : (name : List ℕ) (ks : List Marked) → AreSound ks → AreSound (marks_from name ks)
sound_from name [] s = tt
sound_from name (k ∷ ks) s = grind (arith, sound_from name ks s.1)

sound_back : (name : List ℕ) (v : Snapshot) (ks : List Marked) → IsSoundView v → AreSound ks
    → IsSoundView (left v (back name v ks))
sound_back name v [] s a = s
sound_back name v (k ∷ ks) s a = (a.0, a)

sound_applied : (v : Snapshot) (a : Action) → IsSoundView v → IsSound (map_after v.map a)
    → IsSoundView (left v (applied v a))
sound_applied v (Refuses cause) s t = s
sound_applied v (Edits reply ids n) s t = (t, s.1)
sound_applied v (Marks name) s t = (s.0, (s.0, s.1))
sound_applied v (GoesBack name) s t = sound_back name v (marks_from name v.marks) s (sound_from name v.marks s.1)
sound_applied v a s t = grind arith

pub sound_step : (v : Snapshot) (c : Command) → IsSoundView v → IsSoundView (step v c)
sound_step v c s = sound_applied v (action v.map c) s (sound_after v.map c s.0)

-- each answered command keeps the map and every mark's map sound
pub sound_effect : (v : Snapshot) (c : Command) (reply : Reply) (u : Snapshot) → effect v c ≡ Answers reply u
    → IsSoundView v
    → IsSoundView u
sound_effect v c reply u is s = rw (answered_next v c reply u is) (sound_step v c s)

-- ---- going back

-- marks, each changed the same way
pub from_mapped : {X Y : Type 0} (f : X → Y) (name : List ℕ) (ks : List (List ℕ × X))
    → marks_from name (map (λ k. (k.0, f k.1)) ks) ≡ map (λ k. (k.0, f k.1)) (marks_from name ks)
from_mapped f name [] = refl
from_mapped f name (k ∷ ks) = grind (arith, from_mapped f name ks)

-- no mark of the list has this name
abbrev pub HasNone : List ℕ → List Marked → Type 0
HasNone name [] = Unit {0}
HasNone name (k ∷ ks) = (same_id name k.0 ≡ false) × HasNone name ks

-- the newest mark of the name is found, and the newer ones are dropped
pub newer_dropped : (name : List ℕ) (newer : List Marked) (m : CityMap) (older : List Marked) → HasNone name newer
    → marks_from name (newer ++ (name, m) ∷ older) ≡ (name, m) ∷ older
newer_dropped name [] m older h = ap (λ b. if b then (name, m) ∷ older else marks_from name older) (same_id_itself name)
newer_dropped name (k ∷ ks) m older h = grind (arith, newer_dropped name ks m older h.1)

-- going back gives the mark's map, and keeps the mark and the marks before it
pub went_back : (v : Snapshot) (name : List ℕ) (newer : List Marked) (m : CityMap) (older : List Marked)
    → HasNone name newer → v.marks ≡ newer ++ (name, m) ∷ older
    → effect v (Back name) ≡ Answers WentBack (record { map = m; marks = (name, m) ∷ older })
went_back v name newer m older h e = ap (back name v) (ap (marks_from name) e ∙ newer_dropped name newer m older h)

-- going back at once changes nothing
pub back_at_once : (v : Snapshot) (name : List ℕ)
    → effect (step v (Mark name)) (Back name) ≡ Answers WentBack (step v (Mark name))
back_at_once v name = went_back (step v (Mark name)) name [] v.map v.marks tt refl

none_from : (name : List ℕ) (ks : List Marked) → HasNone name ks → marks_from name ks ≡ []
none_from name [] h = refl
none_from name (k ∷ ks) h = grind (arith, none_from name ks)

-- without a mark of the name, going back is refused
pub not_gone_back : (v : Snapshot) (name : List ℕ) → HasNone name v.marks
    → effect v (Back name) ≡ Answers (Refused (NoMark name)) v
not_gone_back v name h = grind (arith, none_from name v.marks h)

-- ---- all other commands leave the marks

plain_applied : (v : Snapshot) (c : Command) (a : Action) → IsKindOf c a → is_mark c ≡ false
    → left v (applied v a) ≡ record { map = map_after v.map a; marks = v.marks }
plain_applied v c a k h = grind arith

pub plain_step : (v : Snapshot) (c : Command) → is_mark c ≡ false
    → step v c ≡ record { map = map_after v.map (action v.map c); marks = v.marks }
plain_step v c h = plain_applied v c (action v.map c) (kind_of v.map c) h
