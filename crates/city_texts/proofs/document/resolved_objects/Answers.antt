use Rattle.city_texts.proofs.Prelude.{IfSome_then}
use Rattle.city_texts.proofs.document.resolved_objects.Goals as goal

pub returns : goal.returns
returns c =
    IfSome_then c.resolve_objects.result c.resolve_objects.ensures (λ resolved h. (
      c.in_ok-vertices.vertices,
      c.in_ok-objects.objects,
      c.in_ok-vertices.was,
      c.in_ok-objects.was,
      rw (← c.into_vec.ensures) (rw (← c.as_slice.ensures) h),
    ))
