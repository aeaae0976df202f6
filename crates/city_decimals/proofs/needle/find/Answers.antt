use Rattle.city_decimals.proofs.Prelude.{rules, ◌≡◌, ◌+◌, ◌-◌, length, drop, take, take_all, length-drop, subst, Some}
use Rattle.city_decimals.proofs.Prelude.{None, arith, false}
use Rattle.std.specs.Prelude.{slice_index}
use Rattle.memchr.specs.Find.{IsFirstByte, is_byte, occurs_at}
use Rattle.memchr.proofs.lemmas.MatchLemmas.{OccursAt-true}
use Rattle.city_decimals.proofs.RareBytes.{none_more, none_before, none_here, none_left}
use Rattle.city_decimals.proofs.needle.find.Goals as goal

pub returns-in_default : goal.returns-in_default
returns-in_default c =
    let text = c.args.text.now in
    let l = c.loop-from in
    let same : take (length text - l.from) (drop l.from text) ≡ drop l.from text
    = take_all (length text - l.from) (drop l.from text) (omega (arith, length-drop l.from text)) in
    let found : IsFirstByte (is_byte (slice_index c.args.needle.now c.args.rare)) (drop l.from text) None
    = subst (λ t. IsFirstByte (is_byte (slice_index c.args.needle.now c.args.rare)) t None) same (search rules) in
    none_more text c.args.needle.now c.args.rare l.from c.requires l.invariant.0 l.invariant.1 found

pub returns-then-occurs_at : goal.returns-then-occurs_at
returns-then-occurs_at c =
    let text = c.args.text.now in
    let l = c.loop-from in
    let same : take (length text - l.from) (drop l.from text) ≡ drop l.from text
    = take_all (length text - l.from) (drop l.from text) (omega (arith, length-drop l.from text)) in
    let found : IsFirstByte (is_byte (slice_index c.args.needle.now c.args.rare)) (drop l.from text)
    (Some c.in-Some.step)
    = subst (λ t. IsFirstByte (is_byte (slice_index c.args.needle.now c.args.rare)) t (Some c.in-Some.step)) same
    (search rules) in
    let before = none_before text c.args.needle.now c.args.rare l.from c.requires l.invariant.0 l.invariant.1
    c.in-Some.step found.0 in
    let place = l.from + c.in-Some.step - c.args.rare in
    let here = OccursAt-true text c.args.needle.now place (search rules) in (
      record { low = omega arith; high = omega (arith, here.fits); before = before },
      here,
    )

pub loop-from-preserved : goal.loop-from-preserved
loop-from-preserved c =
    let text = c.args.text.now in
    let l = c.loop-from in
    let same : take (length text - l.from) (drop l.from text) ≡ drop l.from text
    = take_all (length text - l.from) (drop l.from text) (omega (arith, length-drop l.from text)) in
    let found : IsFirstByte (is_byte (slice_index c.args.needle.now c.args.rare)) (drop l.from text)
    (Some c.in-Some.step)
    = subst (λ t. IsFirstByte (is_byte (slice_index c.args.needle.now c.args.rare)) t (Some c.in-Some.step)) same
    (search rules) in
    let before = none_before text c.args.needle.now c.args.rare l.from c.requires l.invariant.0 l.invariant.1
    c.in-Some.step found.0 in
    let no_place : occurs_at text c.args.needle.now (l.from + c.in-Some.step - c.args.rare) ≡ false = search rules in (
      omega (arith, l.invariant.0),
      none_here text c.args.needle.now c.args.rare l.from c.requires l.invariant.0 l.invariant.1 c.in-Some.step before
          no_place,
    )

pub returns : goal.returns
returns c =
    let l = c.loop-from in
    none_left c.args.text.now c.args.needle.now c.args.rare l.from c.requires l.invariant.0 l.invariant.1
    (search rules)
