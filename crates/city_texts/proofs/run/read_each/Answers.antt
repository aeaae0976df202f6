use Rattle.city_texts.proofs.Prelude.{◌<◌, IfSome, arith}
use denote.Param.Send.{param_send, arg_send}
use denote.Exit.{no}
use denote.Param.{param}
use Rattle.std.proofs.option.Option.TheSendSync as option
use Rattle.city_texts.specs.contracts.run.Piece as Piece
use Rattle.city_texts.specs.internal.Runs.{IsPiece}
use Rattle.city_texts.proofs.Crossing.{piece_sends}
use Rattle.city_tokens.proofs.Options.{given}
use Rattle.city_tokens.proofs.Pairing.{each_given}
use Rattle.city_texts.proofs.run.read_each.Goals as goal

pub map_indices-requires-send-X : goal.map_indices-requires-send-X
map_indices-requires-send-X g c κs within =
    let piece = piece_sends (param 1 g.row.T) c.type_bounds.send-T in
    param_send 1 _ (arg_send _ no _ (option.the_send (Piece.the_row (param 1 g.row.T)) piece))

pub returns : goal.returns
returns g c =
    let read = c.in_ok-pieces.pieces in
    let len = given c.map_indices.result c.ok.result read (λ v. _) c.ok.ensures.value c.in_ok-pieces.was
    c.map_indices.ensures.len in
    let each = given c.map_indices.result c.ok.result read (λ v. _) c.ok.ensures.value c.in_ok-pieces.was
    c.map_indices.ensures.each in
    each_given (λ p. IfSome p (IsPiece g.T.Part.stands c.args.text.now)) read.items (λ i d less.
    let below : i < c.saturating_sub-count.result = omega (arith, len, read.ok.0, less) in
    (each i d below).1.met)
