use Rattle.city_writer.proofs.Prelude.{◌≡◌, ◌∙◌, ap, entries, entries_ascend, with_points}
use Rattle.std.proofs.Common.{take}
use Rattle.std.specs.FinMap.{len-entries}
use Rattle.std.proofs.Math.Seq.{take-length}
use Rattle.city_writer.proofs.object.WrittenObjects.{written_in_turn, ordered_in_turn}
use Rattle.city_writer.proofs.document.PutMembers.{on_ok}
use Rattle.city_writer.proofs.tree.Appended.{object_closed}
use Rattle.city_writer.proofs.tree.ReadBack.{object_reads}
use Rattle.city_writer.proofs.object.text.write_objects.Goals as goal

pub returns : goal.returns
returns c =
    let all = entries c.args.city.now.1 in
    let ascend = entries_ascend c.args.city.now.1 in
    let whole : take c.len.result c.iter.result ≡ all =
    ap (λ es. take c.len.result es) c.iter.ensures
    ∙ ap (λ n. take n all) (c.len.ensures ∙ len-entries c.args.city.now.1) ∙ take-length all in
    let done = rw whole at c.in_ok-write_first.ensures in
    record {
      pool = on_ok c.end_object.result c.end_object.ensures.ok (λ e. done.pool);
      before = on_ok c.end_object.result c.end_object.ensures.ok
          (λ e. c.end_object.ensures.room.0 ∙ done.before ∙ c.begin_object.ensures.room.0);
      tokens = on_ok c.end_object.result c.end_object.ensures.ok (λ e later.
          rw (written_in_turn (with_points c.write_first.new.pool later) all ascend)
          (object_closed _ _ _ _ _ c.in_ok-begin_object.ensures.ok (done.tokens later) e));
      reads = on_ok c.end_object.result c.end_object.ensures.ok (λ e pool small.
          rw (written_in_turn pool all ascend)
          (object_reads _ (ordered_in_turn pool all ascend) (done.reads pool small)));
      kept = on_ok c.end_object.result c.end_object.ensures.ok (λ e. done.kept);
    }
