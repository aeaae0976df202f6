-- How a session goes on under the requests of hands.
use Rattle.std.specs.Prelude.{◌≡◌, ◌≤◌, ◌++◌, ℕ, List, true}
use Rattle.city_txn.specs.CoreState.{committed, is_open}
use Rattle.city_session.specs.Grown.{Closed}
use Rattle.city_session.specs.Live.{SessionState}

-- The opening city is the same, what has ended stands as it stood, before whatever has ended since, and no stamp is
-- taken back.
pub record Continues (s u : SessionState) : Type 0 where
  pub start : u.start ≡ s.start
  pub more : List Closed
  pub closed : u.closed ≡ s.closed ++ more
  pub given : s.stamps ≤ u.stamps

-- Nothing has ended or begun, and the committed city is the same; the transaction of the stamp is open.
pub record GoesOn (stamp : ℕ) (s u : SessionState) : Type 0 where
  pub opened : is_open u.core stamp ≡ true
  pub start : u.start ≡ s.start
  pub closed : u.closed ≡ s.closed
  pub given : u.stamps ≡ s.stamps
  pub city : committed u.core ≡ committed s.core
