use Rattle.city_locks.proofs.Prelude.{◌≡◌, ◌++◌, take, drop, mode_among, with_holder}
use Rattle.city_locks.proofs.holders.Holders.grant.Given as goal

abbrev pub invariant-loop-i : goal.invariant-loop-i
invariant-loop-i l = record {
  same : l.self-inside.list.items ≡ l.fn.self;
  held : mode_among (drop l.i l.self-inside.list.items) l.stamp ≡ mode_among l.self-inside.list.items l.stamp;
  given : take l.i l.self-inside.list.items ++ with_holder (drop l.i l.self-inside.list.items) l.stamp l.mode
      ≡ with_holder l.self-inside.list.items l.stamp l.mode;
}
