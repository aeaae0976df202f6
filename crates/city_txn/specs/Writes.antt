-- The ids written by open transactions.
use Rattle.std.specs.Prelude.{◌==◌, ℕ, Bool, false, List, [], ◌∷◌, Option, None, Some, if◌then◌else◌}
use Rattle.std.specs.Map.{lookup}
use Rattle.std.specs.Ordering.{nat_cmp}
use Rattle.std.specs.Cmp.Lexicographic.{slice_cmp}
use Rattle.std.specs.BTreeMap.{is_at}
use Rattle.city_model.specs.declared.object.Object.{Object}

-- a written id: its writer, and its object for the writer
abbrev pub Write : Type 0
Write = ℕ × Option Object

abbrev pub write_of : List (List ℕ × Write) → List ℕ → Option Write
write_of ws id = lookup (is_at (slice_cmp nat_cmp id)) ws

abbrev pub is_by : ℕ → Option Write → Bool
is_by stamp None = false
is_by stamp (Some w) = w.0 == stamp

-- the transaction's write, or the committed object
abbrev pub own_or : ℕ → Option Write → Option Object → Option Object
own_or stamp None o = o
own_or stamp (Some w) o = if w.0 == stamp then w.1 else o

-- the transaction's write at an id
abbrev pub own_write : ℕ → Option Write → Option (Option Object)
own_write stamp None = None
own_write stamp (Some w) = if w.0 == stamp then Some w.1 else None

-- the write, unless it is by the transaction
abbrev pub unless_by : ℕ → Option Write → Option Write
unless_by stamp w = if is_by stamp w then None else w

abbrev pub with_some : {Y : Type 0} → List ℕ → Option Y → List (List ℕ × Y) → List (List ℕ × Y)
with_some id None es = es
with_some id (Some y) es = (id, y) ∷ es

-- the ids with the values of f; an id without value is left out
abbrev pub made_by : {X Y : Type 0} → (List ℕ → X → Option Y) → List (List ℕ × X) → List (List ℕ × Y)
made_by f [] = []
made_by f (e ∷ es) = with_some e.0 (f e.0 e.1) (made_by f es)
