-- The writes of a transaction, as a change.
use Rattle.std.specs.Prelude.{◌≡◌, ℕ, List, Some}
use Rattle.std.specs.Map.{keys_of}
use Rattle.std.specs.Ordering.{nat_cmp}
use Rattle.std.specs.Cmp.Lexicographic.{slice_cmp}
use Rattle.std.specs.List.Sorted.{IsStrictlySortedBy}
use Rattle.city_model.specs.CityMap.{has_id}
use Rattle.city_model.specs.Relations.{IsLawful}
use Rattle.city_model.specs.Runs.{Change, after_change}
use Rattle.city_txn.specs.declared.txn_core.Prepared.{Prepared}
use Rattle.city_txn.specs.declared.txn_core.Prepared.TheVariants.{Ready, Refused}
use Rattle.city_txn.specs.Writes.{Write, write_of, is_by, own_write, made_by}
use Rattle.city_txn.specs.CoreState.{CoreState, committed, view}
use Rattle.city_txn.specs.Acting.{RefusesCommit}

-- the writes of the transaction among these, in their order
abbrev pub change_in : List (List ℕ × Write) → ℕ → Change
change_in writes stamp = made_by (λ id w. own_write stamp (Some w)) writes

-- The change turns the committed map into the transaction's view, which is lawful; its ids are the ids written by the
-- transaction, in byte order, each once.
pub record IsChangeOf (v : CoreState) (stamp : ℕ) (change : Change) : Type 0 where
  pub makes_view : after_change (committed v) change ≡ view v stamp
  pub ids : (id : List ℕ) → has_id (keys_of change) id ≡ is_by stamp (write_of v.writes id)
  pub in_byte_order : IsStrictlySortedBy (slice_cmp nat_cmp) (keys_of change)
  pub lawful : IsLawful (view v stamp)

-- ready with its change, or refused as a commit is
abbrev pub IsPrepared : CoreState → ℕ → Prepared → Type 0
IsPrepared v stamp (Ready change) = IsChangeOf v stamp change
IsPrepared v stamp (Refused cause) = RefusesCommit v stamp cause
