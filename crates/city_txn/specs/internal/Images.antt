-- The meaning of an undo image at its id, if the city has x there.
use Rattle.std.specs.Prelude.{ℕ, Bool, false, Option, None, Some, is_none, unwrap_or}
use Rattle.std.specs.Prelude.{if◌then◌else◌}
use Rattle.std.specs.Option.{option_flatten}
use Rattle.city_model.specs.declared.object.Object.{Object}
use Rattle.city_model.specs.Relations.{is_orphan_there}
use Rattle.city_txn.specs.declared.undo_image.UndoImage.{UndoImage}

-- the object for its transaction: none if a placeholder stands there
abbrev pub seen_under : Option Object → UndoImage → Option Object
seen_under x i = if i.deleted then None else x

-- the previous object; until the first write, the current one
abbrev pub before_image : Option Object → UndoImage → Option Object
before_image x i = unwrap_or i.before (seen_under x i)

-- the committed object, with or without an image
abbrev pub committed_at : Option Object → Option UndoImage → Option Object
committed_at x None = x
committed_at x (Some i) = before_image x i

-- the write of the image: its transaction, and the object for it
abbrev pub write_at : Option Object → Option UndoImage → Option (ℕ × Option Object)
write_at x None = None
write_at x (Some i) = if is_none i.before then None else Some (i.by, seen_under x i)

-- whether an orphan was written
abbrev pub is_orphan_written : Option (ℕ × Option Object) → Bool
is_orphan_written None = false
is_orphan_written (Some w) = is_orphan_there w.1

abbrev pub writer_of : Option UndoImage → Option ℕ
writer_of None = None
writer_of (Some i) = Some i.by

-- the image of an id reserved and not written
abbrev pub unwritten_image : ℕ → Bool → UndoImage
unwritten_image stamp deleted = record { by = stamp; deleted = deleted; before = None }

-- of one written over x at once
abbrev pub first_image : ℕ → Option Object → Bool → UndoImage
first_image stamp x deleted = record { by = stamp; deleted = deleted; before = Some x }

-- the image after a write over x
abbrev pub written_over : Option Object → Bool → UndoImage → UndoImage
written_over x deleted i = record { by = i.by; deleted = deleted; before = Some (before_image x i) }

-- with or without an image before
abbrev pub image_put : ℕ → Option Object → Bool → Option UndoImage → UndoImage
image_put stamp x deleted None = first_image stamp x deleted
image_put stamp x deleted (Some i) = written_over x deleted i

-- the object to put back into the city if the write is undone
abbrev pub put_back : UndoImage → Option Object
put_back i = option_flatten i.before

abbrev pub put_back_at : Option UndoImage → Option Object
put_back_at None = None
put_back_at (Some i) = put_back i

-- the image after that: nothing is written, and a placeholder stands there if there was no previous object
abbrev pub image_unwritten : UndoImage → UndoImage
image_unwritten i = if is_none i.before then i else unwritten_image i.by (is_none (put_back i))
