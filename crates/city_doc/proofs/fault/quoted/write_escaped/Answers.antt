use Rattle.city_doc.proofs.Prelude.{false, sym, arith, has_written_of_eq, encode_ascii}
use Rattle.std.proofs.lemmas.Fmt.{hex_byte}
use Rattle.city_doc.proofs.fault.Escapes.{short_escape, control_escape, no_escape}
use Rattle.city_doc.proofs.fault.quoted.write_escaped.Goals as goal

pub returns-in-Some : goal.returns-in-Some
returns-in-Some g c = λ plain ok.
    let is = c.in-Some.ensures in
    let above = rw is.0 at is.2 in
    has_written_of_eq _ _ _ _ _ (rw (encode_ascii _ is.3, is.0) (sym (short_escape c.args.c is.1 above)))
    (c.write.ensures.writes plain ok)

pub returns-in-None : goal.returns-in-None
returns-in-None g c =
    let low = c.if-c-lt32.true in
    let written = rw (c.laid_out.ensures, c.in_radix.ensures) at c.write-in-None.ensures.writes in
    rw (control_escape c.args.c low c.in-None.ensures) (rw (hex_byte false c.args.c (omega (arith, low))) at written)

pub returns-in-None-2 : goal.returns-in-None-2
returns-in-None-2 g c = λ plain ok.
    has_written_of_eq _ _ _ _ _ (sym (no_escape c.args.c (omega arith) c.in-None.ensures))
    (c.write_char.ensures.writes plain ok)
