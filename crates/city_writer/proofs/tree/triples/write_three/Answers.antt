use Rattle.city_writer.proofs.Prelude.{to_z-of_z, append_assoc}
use Rattle.city_writer.proofs.document.PutMembers.{on_ok}
use Rattle.city_writer.proofs.tree.Integers.{integer_reads}
use Rattle.city_writer.proofs.tree.ReadBack.{array_reads}
use Rattle.city_writer.proofs.tree.triples.write_three.Goals as goal

pub returns-clause-tokens : goal.returns-clause-tokens
returns-clause-tokens c =
    on_ok c.end_array.result c.end_array.ensures.ok (λ e.
    rw (e, c.in_ok-write_integer-3.ensures.tokens, to_z-of_z c.ranges.z, c.in_ok-write_integer-2.ensures.tokens)
    (rw (to_z-of_z c.ranges.y, c.in_ok-write_integer.ensures.tokens, to_z-of_z c.ranges.x)
    (rw c.in_ok-begin_array.ensures.ok (simp append_assoc))))

pub returns-clause-reads : goal.returns-clause-reads
returns-clause-reads c =
    on_ok c.end_array.result c.end_array.ensures.ok (λ e. array_reads _
    (integer_reads c.args.x c.ranges.x, (integer_reads c.args.y c.ranges.y, (integer_reads c.args.z c.ranges.z, tt))))
