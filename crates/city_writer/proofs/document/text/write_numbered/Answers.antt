use Rattle.city_writer.proofs.Prelude.{[], ◌∙◌, city_points, transform_data, vertices_data, MembersReadBack, ReadsBack}
use Rattle.city_writer.proofs.document.PiecesWritten.{city_written, city_reads}
use Rattle.city_writer.proofs.document.PutMembers.{all_pooled, city_put, on_ok, both_ok}
use Rattle.city_writer.proofs.document.text.write_numbered.Goals as goal

pub returns-clause-tokens : goal.returns-clause-tokens
returns-clause-tokens c =
    let kept = c.map-members.ensures in
    let city = c.args.city.now in
    let pooled = all_pooled _ _ (city_points city) c.requires c.in_ok-write_objects.ensures.pool in
    let name = c.in_ok-write_name.ensures in
    let put = city_put _ city _ _ pooled c.frame-frame.ensures
    (c.new-kept.ensures ∙ kept.members) kept.ordered kept.kept in
    on_ok c.write_rest.result c.write_rest.ensures.tokens (λ e.
    city_written city _ _ _ _ _ _ _ _ _ _ put c.in_ok-begin_object.ensures.ok name.tokens name.left
    (c.in_ok-write_objects.ensures.tokens []) c.as_slice.ensures c.frame-frame.ensures e)

pub returns-clause-reads : goal.returns-clause-reads
returns-clause-reads c =
    let kept = c.map-members.ensures in
    let city = c.args.city.now in
    let pooled = all_pooled _ _ (city_points city) c.requires c.in_ok-write_objects.ensures.pool in
    let put = city_put _ city _ _ pooled c.frame-frame.ensures
    (c.new-kept.ensures ∙ kept.members) kept.ordered kept.kept in
    let rest = c.write_rest.ensures in
    both_ok {P = MembersReadBack c.write_name.new.self
    × (ReadsBack (transform_data c.frame-frame.result.now) × ReadsBack (vertices_data c.as_slice.result.now))}
    c.write_rest.result (both_ok c.write_rest.result rest.left rest.reads (λ l r. (l, r))) rest.in_range
    (λ h range.
    let small = rw c.as_slice.ensures at range.fewer in
    city_reads city _ _ _ _ put c.as_slice.ensures c.frame-frame.ensures (c.in_ok-write_name.ensures.reads h.0)
    (c.in_ok-write_objects.ensures.reads _ small) h.1.0 h.1.1)

pub returns-clause-kept : goal.returns-clause-kept
returns-clause-kept c =
    let kept = c.map-members.ensures in
    let frame = c.frame-frame.ensures in
    on_ok c.write_rest.result c.write_rest.ensures.kept (λ h. record {
      at_top = rw frame at kept.kept;
      at_transform = rw frame at h;
      objects = c.in_ok-write_objects.ensures.kept;
    })

pub returns-clause-in_range : goal.returns-clause-in_range
returns-clause-in_range c =
    let pooled = all_pooled _ _ (city_points c.args.city.now) c.requires c.in_ok-write_objects.ensures.pool in
    on_ok c.write_rest.result c.write_rest.ensures.in_range (λ h.
    rw (← c.frame-frame.ensures, ← pooled, ← c.as_slice.ensures) h)
