-- A command reads and writes only locked ids: at another map, equal to this one there, it does the same.
use Rattle.std.specs.Prelude.{◌≡◌, ℕ, List, true, false}
use Rattle.city_model.specs.declared.command.Command.{Command}
use Rattle.city_model.specs.declared.command.Reply.{Reply}
use Rattle.city_model.specs.CityMap.{CityMap}
use Rattle.city_model.specs.Marks.{Snapshot, unmarked}
use Rattle.city_model.specs.Meaning.{Answers, effect, locks_of}
use Rattle.city_model.specs.Relations.{IsSound}
use Rattle.city_model.specs.Standing.{Lock, locks_id, locks_id_exclusively}

-- two maps have the same at each id of the locks
abbrev pub AgreeOn : List Lock → CityMap → CityMap → Type 0
AgreeOn ls m n = (id : List ℕ) → locks_id ls id ≡ true → m id ≡ n id

-- one command, other than an end of its script, at two maps: the reply and the locks are the same; at each id locked
-- exclusively the two maps have the same object before, and the same one after; each other id keeps its object
pub record IsFramed (m n : CityMap) (c : Command) : Type 0 where
  pub reply : Reply
  pub left : Snapshot
  pub left_there : Snapshot
  pub here : effect (unmarked m) c ≡ Answers reply left
  pub there : effect (unmarked n) c ≡ Answers reply left_there
  pub locks : locks_of m c ≡ locks_of n c
  pub written : (id : List ℕ) → locks_id_exclusively (locks_of m c) id ≡ true
      → (m id ≡ n id) × (left.map id ≡ left_there.map id)
  pub kept : (id : List ℕ) → locks_id_exclusively (locks_of m c) id ≡ false
      → (left.map id ≡ m id) × (left_there.map id ≡ n id)

-- the command does the same at each other sound map equal to this one on the ids that it locks here
abbrev pub FrameLaw : CityMap → Command → Type 0
FrameLaw m c = (n : CityMap) → IsSound n → AgreeOn (locks_of m c) m n → IsFramed m n c
