-- Pieces of the objects of a city, written and put together.
use Rattle.city_writer.proofs.Prelude.{◌≡◌, ℕ, Bool, true, false, List, [], ◌∷◌, ◌++◌, Option, Some, None, refl, sym}
use Rattle.city_writer.proofs.Prelude.{ap, ◌∙◌, subst, append_assoc, drop, Token, key, begin_object, end_object}
use Rattle.city_writer.proofs.Prelude.{Entries, Point, are_kept_objects, and_parts, list_all-append, tokens_of}
use Rattle.city_writer.proofs.Prelude.{tokens_of_members, MembersReadBack, with_points, keys_of, nat_cmp, slice_cmp}
use Rattle.city_writer.proofs.Prelude.{entries, CityValue, tree_of, Members, members_before, members_from, Data}
use Rattle.city_writer.proofs.Prelude.{objects_data, closing_members, Frame, ReadsBack, transform_data, vertices_data}
use Rattle.std.proofs.Common.{length, ◌<◌, ◌^◌, take, codes, suc, zero, ◌-◌}
use Rattle.std.specs.List.Sorted.{IsStrictlySortedBy}
use Rattle.std.specs.Str.{IsUtf8}
use Rattle.json.specs.Lex.{tokens}
use Rattle.json.specs.Print.{print, print_from}
use Rattle.city_writer.specs.internal.Pieces.{joined_by_commas}
use Rattle.city_writer.proofs.EachPiece.{EachMade, holds_of_all}
use Rattle.city_writer.specs.internal.document.Pieces.{IsWritten, IsWrittenIfKnown, frame_own, head_tokens}
use Rattle.city_writer.specs.internal.object.InTurn.{in_turn, entry_points}
use Rattle.city_writer.specs.internal.tree.Appended.{IsPrinted}
use Rattle.city_writer.specs.internal.tree.OwnMembers.{Own, part, written}
use Rattle.city_writer.proofs.object.WrittenObjects.{written_in_turn}
use Rattle.city_writer.proofs.document.OwnMembers.{city_own}
use Rattle.city_writer.proofs.document.PutMembers.{IsPut, put_written, put_reads}
use Rattle.city_writer.proofs.tree.Among.{string_reads}
use Rattle.city_writer.proofs.pool.NumberedPoints.{are_in}
use Rattle.city_writer.proofs.pool.PointsAgain.{points_known, points_parted}
use Rattle.city_writer.proofs.tree.Appended.{printed, members_after}
use Rattle.city_writer.proofs.tree.Appended.{printed-append, after_begin, before_end, members-closed}
use Rattle.city_writer.proofs.tree.TextsJoined.{texts_printed}

module _ (pool : List Point) where
  -- the tokens of objects, each under its id
  abbrev pub members : Entries → List Token
  members es = tokens_of_members (in_turn pool es)

  members-append : (xs ys : Entries) → members (xs ++ ys) ≡ members xs ++ members ys
  members-append [] ys = refl
  members-append (x ∷ xs) ys = simp (members-append xs ys, append_assoc)

  reads-append : (xs ys : Entries) → MembersReadBack (in_turn pool xs) → MembersReadBack (in_turn pool ys)
      → MembersReadBack (in_turn pool (xs ++ ys))
  reads-append [] ys h k = k
  reads-append (x ∷ xs) ys h k = (h.0, reads-append xs ys h.1 k)

  kept-append : (xs ys : Entries) → are_kept_objects xs ≡ true → are_kept_objects ys ≡ true
      → are_kept_objects (xs ++ ys) ≡ true
  kept-append xs ys h k = list_all-append _ xs ys ∙ rw (h, k) refl

  module _ {A : Type 0} (f : A → List ℕ) where
    -- a piece is written if its points are known
    pub each_known : (len : ℕ) (es : Entries) (os : List (Option A)) → length pool < 2 ^ 63
        → are_in pool (entry_points es) ≡ true → EachMade len es os (λ es a. IsWrittenIfKnown pool es (f a))
        → EachMade len es os (λ es a. IsWritten pool es (f a))
    each_known len es [] small there h = h
    each_known len es (None ∷ os) small there h = absurd h.0
    each_known len es (Some a ∷ os) small there h =
        let first = entry_points (take len es) in
        let rest = entry_points (drop len es) in
        let both = sym (list_all-append _ first rest) ∙ ap (are_in pool) (points_parted len es) ∙ there in
        let parts = and_parts (are_in pool first) (are_in pool rest) both in
        (h.0 (points_known pool first parts.0) small, each_known len (drop len es) os small parts.1 h.1)

    -- the pieces, put together, are the objects
    pub pieces_written : (len : ℕ) (es : Entries) (os : List (Option A))
        → EachMade len es os (λ es a. IsWritten pool es (f a)) → IsWritten pool es (joined_by_commas false os f)
    pieces_written len es os h = record {
      printed = texts_printed members refl members-append (λ b es text. members_after b (in_turn pool es) text)
          f (λ es a written. written.printed) len es os h;
      reads = holds_of_all (λ es. MembersReadBack (in_turn pool es)) tt reads-append (λ es a written. written.reads)
          len es os h;
      kept = holds_of_all (λ es. are_kept_objects es ≡ true) refl kept-append (λ es a written. written.kept)
          len es os h;
    }

-- the text of a piece, if its points are known
pub piece_written : (points first pool : List Point) (es : Entries) (before text : List ℕ) (old ts : List Token)
    → first ≡ points → pool ≡ with_points first (entry_points es) → before ≡ [] → old ≡ []
    → ((later : List Point) → ts ≡ old ++ tokens_of_members (in_turn (with_points pool later) es))
    → ((ps : List Point) → length ps < 2 ^ 63 → MembersReadBack (in_turn ps es)) → are_kept_objects es ≡ true
    → text ≡ before ++ print ts → tokens (print ts) ≡ ts → IsUtf8 (print ts) → IsWrittenIfKnown points es text
piece_written points first pool es before text old ts first_is added before_is old_is written_is reads kept text_is again
    utf8 known small =
    let same : pool ≡ points = added ∙ ap (λ ps. with_points ps (entry_points es)) first_is ∙ known in
    let tokens_are : ts ≡ members points es =
    written_is [] ∙ ap (λ us. us ++ members pool es) old_is ∙ ap (λ ps. members ps es) same in
    let printed_is : IsPrinted (print ts) ts = printed ts again utf8 in
    record {
      printed = rw (text_is, before_is) (subst (IsPrinted (print ts)) tokens_are printed_is);
      reads = reads points small;
      kept = kept;
    }

part-append : (kept : Members) (n : ℕ) (m : List ℕ) (o : Option Data) (a b : List Token)
    → part kept n m o (a ++ b) ≡ a ++ part kept n m o b
part-append kept zero m (Some d) a b = simp append_assoc
part-append kept zero m None a b = simp append_assoc
part-append kept (suc n) m o a b = simp append_assoc

-- earlier tokens stay
pub written-append : (kept : Members) (n : ℕ) (own : Own) (a b : List Token)
    → written kept n own (a ++ b) ≡ a ++ written kept n own b
written-append kept n [] a b = append_assoc a b _
written-append kept n (o ∷ own) a b =
    ap (written (members_from o.0 kept) (n - 1) own) (part-append kept n o.0 o.1 a b)
    ∙ written-append (members_from o.0 kept) (n - 1) own a (part kept n o.0 o.1 b)

module _ (pool : List Point) (city : CityValue) (kept : Members) where
  abbrev rest_tokens : List Token
  rest_tokens = written (members_from (codes "CityObjects") kept) 0 (frame_own pool city.0) (end_object ∷ [])

  abbrev city_tokens : List Token
  city_tokens = (head_tokens kept ++ members pool (entries city.1)) ++ rest_tokens

  city_parted : IsPut kept (city_own pool city) (tree_of city)
      → IsStrictlySortedBy (slice_cmp nat_cmp) (keys_of (entries city.1)) → city_tokens ≡ tokens_of (tree_of city)
  city_parted put ascend =
      let es = entries city.1 in
      let mine = members pool es in
      let name = codes "CityObjects" in
      let front = (begin_object ∷ []) ++ (tokens_of_members (members_before name kept) ++ key name ∷ []) in
      let closed : tokens_of (objects_data pool es) ≡ begin_object ∷ (mine ++ end_object ∷ []) =
      ap (λ ms. begin_object ∷ closing_members ms) (written_in_turn pool es ascend)
      ∙ ap (λ ts. begin_object ∷ ts) (members-closed (in_turn pool es)) in
      let same : (head_tokens kept ++ mine) ++ end_object ∷ [] ≡ front ++ tokens_of (objects_data pool es) =
      append_assoc (front ++ begin_object ∷ []) mine (end_object ∷ [])
      ∙ append_assoc front (begin_object ∷ []) (mine ++ end_object ∷ []) ∙ ap (λ ts. front ++ ts) (sym closed) in
      sym (written-append (members_from name kept) 0 (frame_own pool city.0) (head_tokens kept ++ mine)
      (end_object ∷ []))
      ∙ ap (written (members_from name kept) 0 (frame_own pool city.0)) same
      ∙ put_written 0 [] put

  rest_first : (b : Bool) → print_from b rest_tokens ≡ print rest_tokens
  rest_first b =
      let split = written-append (members_from (codes "CityObjects") kept) 0 (frame_own pool city.0)
      (end_object ∷ []) [] in
      rw split (before_end b _)

  -- the head, the objects and the rest are the city
  pub city_printed : (head objects rest : List ℕ) → IsPut kept (city_own pool city) (tree_of city)
      → IsStrictlySortedBy (slice_cmp nat_cmp) (keys_of (entries city.1)) → IsPrinted head (head_tokens kept)
      → IsWritten pool (entries city.1) objects → IsPrinted rest rest_tokens
      → IsPrinted ((head ++ objects) ++ rest) (tokens_of (tree_of city))
  city_printed head objects rest put ascend h o r =
      subst (IsPrinted ((head ++ objects) ++ rest)) (city_parted put ascend)
      (printed-append _ _ (head ++ objects) rest
      (printed-append (head_tokens kept) _ head objects h o.printed
      (after_begin ((begin_object ∷ []) ++ (tokens_of_members (members_before (codes "CityObjects") kept)
      ++ key (codes "CityObjects") ∷ [])) _)) r (rest_first _))

-- ---- the same by one writer

pub city_written : (city : CityValue) (pool points : List Point) (frame : Frame) (kept left : Members)
    (old begun named objects last : List Token) → IsPut kept (city_own pool city) (tree_of city)
    → begun ≡ old ++ begin_object ∷ []
    → named ≡ begun ++ (tokens_of_members (members_before (codes "CityObjects") kept) ++ key (codes "CityObjects") ∷ [])
    → left ≡ members_from (codes "CityObjects") kept → objects ≡ named ++ tokens_of (objects_data pool (entries city.1))
    → points ≡ pool → frame ≡ city.0 → last ≡ written left 0 (frame_own points frame) objects
    → last ≡ old ++ tokens_of (tree_of city)
city_written city pool points frame kept left old begun named objects last put begun_is named_is left_is objects_are
    points_are frame_is last_is =
    let name = codes "CityObjects" in
    let own = frame_own pool city.0 in
    let whole = objects_are ∙ ap (λ ts. ts ++ tokens_of (objects_data pool (entries city.1))) (named_is
    ∙ ap (λ ts. ts ++ (tokens_of_members (members_before name kept) ++ key name ∷ [])) begun_is) in
    last_is ∙ ap (λ ps. written left 0 (frame_own ps frame) objects) points_are
    ∙ ap (λ f. written left 0 (frame_own pool f) objects) frame_is ∙ ap (λ ms. written ms 0 own objects) left_is
    ∙ ap (written (members_from name kept) 0 own) whole ∙ put_written 0 old put

pub city_reads : (city : CityValue) (pool points : List Point) (frame : Frame) (kept : Members)
    → IsPut kept (city_own pool city) (tree_of city) → points ≡ pool → frame ≡ city.0 → MembersReadBack kept
    → ReadsBack (objects_data pool (entries city.1)) → ReadsBack (transform_data frame)
    → ReadsBack (vertices_data points) → ReadsBack (tree_of city)
city_reads city pool points frame kept put points_are frame_is left objects transform vertices =
    put_reads put left
    (objects, (rw frame_is at transform, (string_reads _, (string_reads _, (rw points_are at vertices, tt)))))
