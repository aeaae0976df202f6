use Rattle.city_writer.proofs.Prelude.{to_z-of_z, on_ok_weaker}
use Rattle.city_writer.proofs.tree.Integers.{integer_reads, text_of_integer}
use Rattle.city_writer.proofs.tree.triples.write_integer.Goals as goal

pub returns-clause-tokens : goal.returns-clause-tokens
returns-clause-tokens c =
    on_ok_weaker c.write_i64.result (λ e. cc (to_z-of_z c.ranges.n, text_of_integer c.args.n)) c.write_i64.ensures.ok

pub returns-clause-reads : goal.returns-clause-reads
returns-clause-reads c = on_ok_weaker c.write_i64.result (λ e. integer_reads c.args.n c.ranges.n) c.write_i64.ensures.ok
