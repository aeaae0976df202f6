use Rattle.city_tokens.proofs.Prelude.{◌≡◌, Some, true, false, refl, sym, arith, read_key, no_members, put}
use Rattle.city_tokens.proofs.Reading.{member_shorter, seen_value, members_begin, members_next, members_end}
use Rattle.city_tokens.proofs.member_visitor.read_rest.Goals as goal

pub members-init : goal.members-init
members-init g c = (no_members, members_begin c.args.depth c.args.reader.now, λ h. rw c.new-kept.ensures.empty h)

pub members-smaller : goal.members-smaller
members-smaller g c =
    let named : read_key c.members.reader ≡ Some (Some c.in-Some.name.now, c.next_key.new.self) = grind arith in
    let off : c.in_ok-taken.taken ≡ false = grind arith in
    let passed = rw off at c.in_ok-taken.ensures in
    member_shorter _ named (seen_value (sym passed.0) refl c.in_ok-read_member.ensures.1)

pub members-preserved : goal.members-preserved
members-preserved g c =
    let l = c.members in
    let k = c.in-Some.name.now in
    let read = c.in_ok-read_member.ensures in
    let named : read_key l.reader ≡ Some (Some k, c.next_key.new.self) = grind arith in
    let off : c.in_ok-taken.taken ≡ false = grind arith in
    let passed = rw off at c.in_ok-taken.ensures in
    let next = members_next l.invariant.1 named (seen_value (sym passed.0) refl read.1) in
    (put k read.0 l.invariant.0, next, λ h. rw read.2 (passed.1 read.0 l.invariant.0 _ (l.invariant.2 h)))

pub members-smaller-then-taken : goal.members-smaller-then-taken
members-smaller-then-taken g c =
    let named : read_key c.members.reader ≡ Some (Some c.in-Some.name.now, c.next_key.new.self) = grind arith in
    let on : c.in_ok-taken.taken ≡ true = grind arith in
    member_shorter _ named (rw on at c.in_ok-taken.ensures).1

pub members-preserved-then-taken : goal.members-preserved-then-taken
members-preserved-then-taken g c =
    let l = c.members in
    let k = c.in-Some.name.now in
    let named : read_key l.reader ≡ Some (Some k, c.next_key.new.self) = grind arith in
    let on : c.in_ok-taken.taken ≡ true = grind arith in
    let taken = rw on at c.in_ok-taken.ensures in
    (put k taken.0 l.invariant.0, members_next l.invariant.1 named taken.1, λ h. taken.2 _ _ (l.invariant.2 h))

pub returns : goal.returns
returns g c =
    (c.members.invariant.0, members_end c.members.invariant.1 (grind arith), c.members.invariant.2)
