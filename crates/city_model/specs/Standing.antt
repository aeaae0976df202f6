-- The commands of an open transaction stand: from the committed map they would get their replies again, and the locks
-- of each are held.
use Rattle.std.specs.Prelude.{◌≡◌, ℕ, List, [], ◌∷◌, Bool, true, false, not, Option, Some, None, map}
use Rattle.std.specs.Prelude.{if◌then◌else◌}
use Rattle.city_model.specs.declared.command.Command.{Command}
use Rattle.city_model.specs.declared.command.Reply.{Reply}
use Rattle.city_model.specs.declared.mode.Mode.{Mode}
use Rattle.city_model.specs.declared.mode.Mode.TheVariants.{Shared, Exclusive}
use Rattle.city_model.specs.CityMap.{has_id}
use Rattle.city_model.specs.Mode.{is_exclusive}
use Rattle.city_model.specs.Marks.{Snapshot}
use Rattle.city_model.specs.Meaning.{effect, GoesOn, locks_of}

-- the mode of a transaction at each id, if it is a holder
abbrev pub Held : Type 0
Held = List ℕ → Option Mode

abbrev pub Lock : Type 0
Lock = List ℕ × Mode

-- the lock is held, in this mode or a stronger one
abbrev pub covers : Option Mode → Mode → Bool
covers None mode = false
covers (Some Exclusive) mode = true
covers (Some Shared) mode = not (is_exclusive mode)

abbrev pub AllHeld : Held → List Lock → Type 0
AllHeld held [] = Unit {0}
AllHeld held (l ∷ ls) = (covers (held l.0) l.1 ≡ true) × AllHeld held ls

-- a command and its reply
abbrev pub Answered : Type 0
Answered = Command × Reply

-- the first of the commands, as many as there are replies, each with its reply; there are no more replies than commands
abbrev pub answered : List Command → List Reply → List Answered
answered cs [] = []
answered [] (r ∷ rs) = []
answered (c ∷ cs) (r ∷ rs) = (c, r) ∷ answered cs rs

-- from the first view the commands, without an end of a script, get these replies, each with its locks held, and lead
-- to the second
abbrev pub IsTraceUnderLocks : Held → Snapshot → List Answered → Snapshot → Type 0
IsTraceUnderLocks held v [] w = w ≡ v
IsTraceUnderLocks held v (d ∷ ds) w =
    AllHeld held (locks_of v.map d.0) × GoesOn (effect v d.0) (λ reply u. (reply ≡ d.1) × IsTraceUnderLocks held u ds w)

-- ---- the ids of locks

abbrev pub locked_ids : List Lock → List (List ℕ)
locked_ids ls = map (λ l. l.0) ls

-- the ids locked exclusively
abbrev pub exclusive_ids : List Lock → List (List ℕ)
exclusive_ids [] = []
exclusive_ids (l ∷ ls) = if is_exclusive l.1 then l.0 ∷ exclusive_ids ls else exclusive_ids ls

-- whether the locks name the id
abbrev pub locks_id : List Lock → List ℕ → Bool
locks_id ls id = has_id (locked_ids ls) id

-- whether they name it exclusively
abbrev pub locks_id_exclusively : List Lock → List ℕ → Bool
locks_id_exclusively ls id = has_id (exclusive_ids ls) id
