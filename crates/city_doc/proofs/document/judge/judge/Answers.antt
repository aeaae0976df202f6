use Rattle.city_doc.proofs.Prelude.{sym, view, ◌∙◌, refl}
use Rattle.city_doc.specs.document.AllFaults.{IsFaultOfTree}
use Rattle.city_doc.proofs.document.AllFaults.{wrong_alone}
use Rattle.city_doc.proofs.document.Begun.{one_begun, emptiness}
use Rattle.city_doc.proofs.document.Faultless.{is_taken, some_found, none_found, not_missing, city_is}
use Rattle.city_doc.proofs.document.judge.judge.Goals as goal

pub returns-in-Some : goal.returns-in-Some
returns-in-Some c =
    let wrong = rw c.in-Some.is at (sym c.wrong_member.ensures) in
    one_begun (IsFaultOfTree (view c.args.tree)) c.args.first_only _ _
    (wrong_alone (view c.args.tree) _ _ _ c.requires wrong c.in_ok-name.ensures refl) c.in_ok-faults.ensures

pub unreachable-requires : goal.unreachable-requires
unreachable-requires c =
    let right = rw c.in_default.is at (sym c.wrong_member.ensures) in
    let none = rw c.in_default-take_objects.is at (sym c.take_objects.ensures) in
    is_taken (view c.args.tree) right none

pub returns-then-not-is_empty : goal.returns-then-not-is_empty
returns-then-not-is_empty c =
    let right = rw c.in_default.is at (sym c.wrong_member.ensures) in
    let taken = rw c.in-Some-take_objects.is at (sym c.take_objects.ensures) in
    let faults = c.in_ok-faults-2.faults in
    some_found (view c.args.tree) _ _ _ _ c.requires right (c.as_slice.ensures ∙ c.in_ok-points.ensures) taken
    c.in_ok-objects.ensures.ordered c.in_ok-objects.ensures.read c.args.first_only faults.items
    c.in_ok-faults-2.ensures (emptiness _ _ _ faults.items c.is_empty.ensures faults.ok.0 c.if-not-is_empty.true)

pub unreachable-requires-in_default-2 : goal.unreachable-requires-in_default-2
unreachable-requires-in_default-2 c =
    let right = rw c.in_default.is at (sym c.wrong_member.ensures) in
    let taken = rw c.in-Some-take_objects.is at (sym c.take_objects.ensures) in
    let faults = c.in_ok-faults-2.faults in
    let city = none_found (view c.args.tree) _ _ _ _ c.requires right (c.as_slice.ensures ∙ c.in_ok-points.ensures)
    taken c.in_ok-objects.ensures.ordered c.in_ok-objects.ensures.read c.args.first_only faults.items
    c.in_ok-faults-2.ensures (emptiness _ _ _ faults.items c.is_empty.ensures faults.ok.0 c.if-not-is_empty.false) in
    not_missing (view c.args.tree) _ _ c.in_ok-city.field-0 city c.in_ok-city.ensures c.in_default-2.is

pub returns : goal.returns
returns c =
    let right = rw c.in_default.is at (sym c.wrong_member.ensures) in
    let taken = rw c.in-Some-take_objects.is at (sym c.take_objects.ensures) in
    let faults = c.in_ok-faults-2.faults in
    let city = none_found (view c.args.tree) _ _ _ _ c.requires right (c.as_slice.ensures ∙ c.in_ok-points.ensures)
    taken c.in_ok-objects.ensures.ordered c.in_ok-objects.ensures.read c.args.first_only faults.items
    c.in_ok-faults-2.ensures (emptiness _ _ _ faults.items c.is_empty.ensures faults.ok.0 c.if-not-is_empty.false) in
    city_is (view c.args.tree) _ _ c.in-Some-2.city city (rw c.in-Some-2.is at c.in_ok-city.ensures)
