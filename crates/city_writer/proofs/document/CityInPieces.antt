-- A city written in pieces by several workers.
use Rattle.city_writer.proofs.Prelude.{◌≡◌, ℕ, List, [], ◌∷◌, ◌++◌, Option, true, false, is_some, list_all, refl, sym}
use Rattle.city_writer.proofs.Prelude.{ap, ◌∙◌, subst, append_assoc, entries, entries_ascend, CityValue, Frame, Members}
use Rattle.city_writer.proofs.Prelude.{Point, pool_of, city_points, tree_of, tokens_of, transform_data, vertices_data}
use Rattle.city_writer.proofs.Prelude.{AreOrdered, kept_at_top, kept_at_transform, members_from, IsInRange}
use Rattle.city_writer.proofs.Prelude.{MembersReadBack, ReadsBack, new_points, objects_data, end_object}
use Rattle.std.proofs.Common.{codes, length, ◌<◌, ◌^◌}
use Rattle.std.specs.Str.{IsUtf8}
use Rattle.json.specs.Lex.{tokens}
use Rattle.json.specs.Print.{print}
use Rattle.city_writer.specs.document.Canonical.{city_text}
use Rattle.city_writer.specs.document.Texts.{IsTextOf}
use Rattle.city_writer.specs.internal.Pieces.{EachPiece, joined, joined_by_commas}
use Rattle.city_writer.specs.internal.document.Pieces.{IsListed, IsWritten, IsWrittenIfKnown, frame_own, head_tokens}
use Rattle.city_writer.specs.internal.object.InTurn.{entry_points}
use Rattle.city_writer.specs.internal.tree.Appended.{IsAppended, IsPrinted}
use Rattle.city_writer.specs.internal.tree.OwnMembers.{written}
use Rattle.city_writer.specs.report.JsonLines.{IsCompactJson}
use Rattle.city_writer.proofs.EachPiece.{all_made}
use Rattle.city_writer.proofs.document.CityTexts.{text_printed, city_json, city_written}
use Rattle.city_writer.proofs.object.WrittenObjects.{written_in_turn, ordered_in_turn}
use Rattle.city_writer.proofs.document.OwnMembers.{city_own}
use Rattle.city_writer.proofs.document.PiecesWritten.{each_known, pieces_written, city_printed, city_reads}
use Rattle.city_writer.proofs.document.PutMembers.{IsPut, city_put}
use Rattle.city_writer.proofs.pool.NumberedPoints.{are_in, points_in_pool}
use Rattle.city_writer.proofs.pool.NewPoints.{all_new}
use Rattle.city_writer.proofs.pool.PointsAgain.{listed_once, points_joined}
use Rattle.city_writer.proofs.pool.Repeats.{pool_is_without_repeats}
use Rattle.city_writer.proofs.tree.CompactJson.{lexed_again}
use Rattle.city_writer.proofs.tree.ReadBack.{object_reads}

-- the new points of all pieces are the points of the city
pub numbered_points : (len : ℕ) (city : CityValue) (pieces : List (Option (List Point)))
    → list_all is_some pieces ≡ true → EachPiece len (entries city.1) pieces IsListed
    → new_points [] pieces ≡ pool_of city
numbered_points len city pieces all each =
    let made = all_made IsListed len (entries city.1) pieces all each in
    sym (all_new [] pieces (listed_once len (entries city.1) pieces made))
    ∙ sym (pool_is_without_repeats (joined pieces (λ ps. ps)))
    ∙ points_joined (λ ps. ps) len (entries city.1) pieces [] made ∙ pool_is_without_repeats (city_points city)

-- the objects as they are written
pub objects_written : {A : Type 0} (f : A → List ℕ) (len : ℕ) (city : CityValue) (os : List (Option A))
    (points : List Point)
    → points ≡ pool_of city → length points < 2 ^ 63 → list_all is_some os ≡ true
    → EachPiece len (entries city.1) os (λ es a. IsWrittenIfKnown points es (f a))
    → IsWritten points (entries city.1) (joined_by_commas false os f)
objects_written f len city os points pooled small all each =
    let there : are_in points (entry_points (entries city.1)) ≡ true = rw pooled (points_in_pool (city_points city)) in
    let made = all_made (λ es a. IsWrittenIfKnown points es (f a)) len (entries city.1) os all each in
    pieces_written points f len (entries city.1) os (each_known points f len (entries city.1) os small there made)

-- promises of a city, from its head, its objects and its rest, written one after the other
module _ (points : List Point) (city : CityValue) (frame : Frame) (kept left : Members)
    (bytes head objects behind all : List ℕ) (pooled : points ≡ pool_of city) (frame_is : frame ≡ city.0)
    (kept_is : kept ≡ frame.extra) (ordered : AreOrdered frame.extra) (at_top : kept_at_top frame.extra ≡ true)
    (left_is : left ≡ members_from (codes "CityObjects") kept) (head_is : IsAppended bytes (head_tokens kept) head)
    (objects_are : IsWritten points (entries city.1) objects) (behind_is : behind ≡ head ++ objects)
    (rest_is : IsAppended behind (written left 0 (frame_own points frame) (end_object ∷ [])) all) where
  city_is_put : IsPut kept (city_own points city) (tree_of city)
  city_is_put = city_put points city frame kept pooled frame_is kept_is ordered at_top

  is_printed : IsPrinted ((head_is.text ++ objects) ++ rest_is.text) (tokens_of (tree_of city))
  is_printed =
      let same = ap (λ ms. written ms 0 (frame_own points frame) (end_object ∷ [])) left_is
      ∙ ap (λ f. written (members_from (codes "CityObjects") kept) 0 (frame_own points f) (end_object ∷ [])) frame_is in
      city_printed points city kept head_is.text objects rest_is.text city_is_put (entries_ascend city.1)
      head_is.printed objects_are (subst (IsPrinted rest_is.text) same rest_is.printed)

  lexed : tokens (print (tokens_of (tree_of city))) ≡ tokens_of (tree_of city)
  lexed = lexed_again (tree_of city) is_printed.printable

  utf8 : IsUtf8 (print (tokens_of (tree_of city)))
  utf8 = subst IsUtf8 is_printed.text_is is_printed.utf8

  pub is_text : all ≡ bytes ++ city_text city
  is_text =
      rest_is.all_is ∙ ap (λ b. b ++ rest_is.text) (behind_is ∙ ap (λ h. h ++ objects) head_is.all_is)
      ∙ simp append_assoc (ap (λ t. bytes ++ t) (sym (append_assoc head_is.text objects rest_is.text)
      ∙ is_printed.text_is ∙ text_printed city lexed utf8))

  pub is_json : IsCompactJson (city_text city)
  is_json = city_json city lexed utf8

  pub is_written : MembersReadBack kept → ReadsBack (transform_data frame) × ReadsBack (vertices_data points)
      → kept_at_transform frame.more ≡ true → IsInRange points frame → IsTextOf (city_text city) city
  is_written left_reads reads kept_transform in_range =
      let range = rw (pooled, frame_is) at in_range in
      let es = entries city.1 in
      let objects_read : ReadsBack (objects_data points es) =
      rw (written_in_turn points es (entries_ascend city.1))
      (object_reads _ (ordered_in_turn points es (entries_ascend city.1)) objects_are.reads) in
      let tree_reads = city_reads city points points frame kept city_is_put refl frame_is left_reads objects_read
      reads.0 reads.1 in
      city_written city lexed utf8 tree_reads
      (record {
        at_top = rw frame_is at at_top;
        at_transform = rw frame_is at kept_transform;
        objects = objects_are.kept;
      }) range
