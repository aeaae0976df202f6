use Rattle.city_serve.proofs.Prelude.{is_newline}
use Rattle.city_serve.proofs.Inputs.{first_position}
use Rattle.city_serve.proofs.serve.first_newline.Goals as goal

pub returns : goal.returns
returns c = first_position is_newline c.args.bytes.now c.memchr.result c.memchr.ensures
