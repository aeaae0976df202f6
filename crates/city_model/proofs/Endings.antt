-- The place of the first ending command of a script, and its reply.
use Rattle.city_model.proofs.Prelude.{◌≡◌, ℕ, ◌-◌, ◌≤◌, arith, ◌==◌, List, false, refl, Command, Commit, Abort, Orphan}
use Rattle.city_model.proofs.Prelude.{Committed, Aborted, Refused, Snapshot, effect, IsReply, Does, HasNoOrphan}
use Rattle.city_model.proofs.Prelude.{IsLeastOrphan, is_end}
use Rattle.std.proofs.Common.{inr}
use Rattle.city_model.proofs.GoingOn.{effect_is, answered_no_ending}

pub zero_rest : (n m k : ℕ) → n ≤ m → k ≡ m - n → (k == 0) ≡ (n == m)
zero_rest n m k h e = grind (arith, h, e)

-- ---- the ending replies of a script

not_committed : {X : Type 0} (v : Snapshot) (c : Command) → is_end c ≡ false → IsReply v (effect v c) Committed → X
not_committed v c on h = let is = effect_is v c on in grind (arith, answered_no_ending v c _ _ is)

-- only a Commit of a map without orphan is answered so
pub committed_at : (v : Snapshot) (c : Command) (w : Snapshot) → Does v c Committed w → (c ≡ Commit) × HasNoOrphan v.map
committed_at v Commit w h = (refl, grind arith)
committed_at v Abort w h = absurd (grind arith)
committed_at v c w h = not_committed v c refl h.0

pub commit_refused : (v : Snapshot) (id : List ℕ) → IsLeastOrphan v.map id → Does v Commit (Refused (Orphan id)) v
commit_refused v id least = (inr (id, refl, least), refl)

pub aborts : (v : Snapshot) → Does v Abort Aborted v
aborts v = (refl, refl)
