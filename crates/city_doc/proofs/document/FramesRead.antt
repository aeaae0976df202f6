-- The written members of the top give the frame again.
use Rattle.city_doc.proofs.Prelude.{◌≡◌, true, Some, refl, and_parts, Data, put, object}
use Rattle.city_doc.proofs.Prelude.{get_member-put, Frame, top_members, transform_members, kept_at_top}
use Rattle.city_doc.proofs.Prelude.{lacks_each, kept_at_transform, members_integral}
use Rattle.city_doc.proofs.Prelude.{frame_members, is_i64_triple, get_member-put_apart, frame_of}
use Rattle.std.proofs.Common.{codes}
use Rattle.city_doc.proofs.document.KeptMembers.{kept_all, left_put, left_lacking}
use Rattle.city_doc.proofs.tree.ListsRead.{triple_read}
use Rattle.city_writer.proofs.Laws.{top_members_lacking}

-- the frame of its own members, among others
pub frame_read : (f : Frame) (vertices objects : Data) → is_i64_triple f.scale ≡ true → is_i64_triple f.translate ≡ true
    → kept_at_top f.extra ≡ true → kept_at_transform f.more ≡ true
    → frame_of (object (put (codes "CityObjects") objects (put (codes "vertices") vertices (frame_members f)))) ≡ Some f
frame_read f vertices objects in_scale in_translate keeps keeps_more =
    let lacks = top_members_lacking f.extra keeps in
    let none : lacks_each top_members f.extra ≡ true = rw (
      lacks.no_objects,
      lacks.no_transform,
      lacks.no_type,
      lacks.no_version,
      lacks.no_vertices,
    ) refl in
    simp (
      get_member-put,
      get_member-put_apart,
      triple_read f.scale in_scale,
      triple_read f.translate in_translate,
      left_put,
      left_lacking transform_members f.more (and_parts (members_integral f.more) _ keeps_more).1,
      kept_all kept_at_transform f.more keeps_more,
      left_lacking top_members f.extra none,
      kept_all kept_at_top f.extra keeps,
    )
