use Rattle.city_writer.proofs.Prelude.{◌∙◌, sym}
use Rattle.city_writer.specs.internal.tree.MembersLeft.{value_of}
use Rattle.city_writer.proofs.tree.Beside.{parts_integral, put_after, put_before, put_over}
use Rattle.city_writer.proofs.tree.kept_members.KeptMembers.take.Goals as goal

pub invariant_of-self-in-Less : goal.invariant_of-self-in-Less
invariant_of-self-in-Less c =
    let first = c.take_first-self-inside-in-Less.ensures in
    let whole = rw (c.in-Some.is, c.in-Some-first.is) at c.self.invariant.1 in
    let is = put_after c.in-Some.own.now (value_of c.in-Some.value) c.in-Some-first.name.now _ _
    (sym c.cmp.ensures ∙ c.in-Less.is) in
    (first.none, rw (c.in-Some.is, first.taken) (parts_integral _ _ _ _ is whole).1)

pub returns-in-Less : goal.returns-in-Less
returns-in-Less c =
    let first = c.take_first-self-inside-in-Less.ensures in
    let whole = rw (c.in-Some.is, c.in-Some-first.is) at c.self.invariant.1 in
    let is = put_after c.in-Some.own.now (value_of c.in-Some.value) c.in-Some-first.name.now _ _
    (sym c.cmp.ensures ∙ c.in-Less.is) in (
      sym (rw (c.in-Some.is, c.in-Some-first.is) at c.self.view_is) ∙ rw (c.in-Some.is, first.taken) is,
      (parts_integral _ _ _ _ is whole).0,
    )

pub invariant_of-self-in-Equal : goal.invariant_of-self-in-Equal
invariant_of-self-in-Equal c =
    let first = c.take_first-self-inside-in-Equal.ensures in
    let whole = rw (c.in-Some.is, c.in-Some-first.is) at c.self.invariant.1 in
    let is = put_over c.in-Some.own.now (value_of c.in-Some.value) c.in-Some-first.name.now _ _
    (sym c.cmp.ensures ∙ c.in-Equal.is) in
    (first.none, rw first.taken (parts_integral _ _ _ _ is whole).1)

pub returns-in-Equal : goal.returns-in-Equal
returns-in-Equal c =
    let first = c.take_first-self-inside-in-Equal.ensures in
    let whole = rw (c.in-Some.is, c.in-Some-first.is) at c.self.invariant.1 in
    let is = put_over c.in-Some.own.now (value_of c.in-Some.value) c.in-Some-first.name.now _ _
    (sym c.cmp.ensures ∙ c.in-Equal.is) in (
      sym (rw (c.in-Some.is, c.in-Some-first.is) at c.self.view_is) ∙ rw first.taken is,
      (parts_integral _ _ _ _ is whole).0,
    )

pub invariant_of-self-in-Greater : goal.invariant_of-self-in-Greater
invariant_of-self-in-Greater c =
    let whole = rw (c.in-Some.is, c.in-Some-first.is) at c.self.invariant.1 in
    let is = put_before c.in-Some.own.now (value_of c.in-Some.value) c.in-Some-first.name.now _ _
    (sym c.cmp.ensures ∙ c.in-Greater.is) in
    (c.self.invariant.0, rw c.in-Some-first.is (parts_integral _ _ _ _ is whole).1)

pub returns-in-Greater : goal.returns-in-Greater
returns-in-Greater c =
    let whole = rw (c.in-Some.is, c.in-Some-first.is) at c.self.invariant.1 in
    let is = put_before c.in-Some.own.now (value_of c.in-Some.value) c.in-Some-first.name.now _ _
    (sym c.cmp.ensures ∙ c.in-Greater.is) in (
      sym (rw (c.in-Some.is, c.in-Some-first.is) at c.self.view_is) ∙ rw c.in-Some-first.is is,
      (parts_integral _ _ _ _ is whole).0,
    )
