use Rattle.city_lines.proofs.Prelude.{ℕ, List, drop, HasMember, HasNone}
use Rattle.city_lines.proofs.members.Members.find.Given as goal

-- what holds of the members that are left holds of all
abbrev pub invariant-loop-member : goal.invariant-loop-member
invariant-loop-member l =
    let left = drop l.member-index l.self.list.items in
    ((text : List ℕ) → HasMember l.name text left → HasMember l.name text l.self.list.items)
    × (HasNone l.name left → HasNone l.name l.self.list.items)
