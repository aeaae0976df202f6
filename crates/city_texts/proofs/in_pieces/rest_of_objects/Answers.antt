use Rattle.city_texts.proofs.Prelude.{◌≡◌, ℕ, List, [], ◌∷◌, ◌++◌, Some, refl, sym, ap, ◌∙◌, subst}
use Rattle.city_texts.proofs.Prelude.{append_assoc, arith, read_key, no_members, Object}
use Rattle.city_tokens.specs.internal.Objects.{IsListing}
use Rattle.city_texts.specs.internal.Parts.{IsNextObject}
use Rattle.city_texts.proofs.Parts.{next_shorter, object_shorter, objects_over}
use Rattle.city_tokens.proofs.Reading.{member_shorter, members_begin, members_end}
use Rattle.city_texts.proofs.in_pieces.rest_of_objects.Goals as goal

pub objects-init : goal.objects-init
objects-init c =
    (no_members, members_begin 125 c.args.reader.now, rw c.new-objects.ensures.items ([], refl, tt))

pub objects-smaller : goal.objects-smaller
objects-smaller c =
    let named : read_key c.objects.reader ≡ Some (Some c.in-Some.name.now, c.next_key.new.self) = grind arith in
    let passed = c.in_ok-pass_objects.ensures in
    omega (
      arith,
      member_shorter _ named c.in_ok-object.ensures.1,
      next_shorter IsNextObject object_shorter passed.0 _ _
          passed.1,
    )

pub objects-preserved : goal.objects-preserved
objects-preserved c =
    let l = c.objects in
    let e : List ℕ × Object = (c.in_ok-id.id, c.in_ok-object.object) in
    let named : read_key l.reader ≡ Some (Some c.in_ok-id.id, c.next_key.new.self) = grind arith in
    let pushed : c.push.new.self.items ≡ l.objects.items ++ e ∷ [] = grind arith in
    let passed = c.in_ok-pass_objects.ensures in
    let over = objects_over l.objects.items (e ∷ passed.0) _ l.reader _ l.invariant.0 l.invariant.1 l.invariant.2
    (c.read_object.new.reader, (c.next_key.new.self, named, c.in_ok-object.ensures), passed.1) in
    let all = passed.2 ∙ ap (λ xs. xs ++ passed.0) pushed ∙ append_assoc l.objects.items (e ∷ []) passed.0 in
    (over.0, over.1, subst (λ xs. IsListing xs over.0) (sym all) over.2)

pub returns : goal.returns
returns c =
    let i = c.objects.invariant in
    (i.0, members_end i.1 (grind arith), rw c.from_vec.ensures i.2)
