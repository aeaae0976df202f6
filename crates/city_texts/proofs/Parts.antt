-- Parts one after another: runs of them, and the parts so far with the next ones.
use Rattle.city_texts.proofs.Prelude.{ℕ, ◌<◌, ◌≤◌, List, [], ◌∷◌, ◌++◌, length, Option, Some, None, refl, ap}
use Rattle.city_texts.proofs.Prelude.{subst, append_assoc, append-nil, arith, Token, Data, Members, put, Object}
use Rattle.city_texts.proofs.Prelude.{Pairs}
use Rattle.std.proofs.Common.{inl, inr}
use Rattle.std.proofs.lemmas.Grind.{flat_map-append}
use Rattle.std.specs.Vec.{vec_items}
use Rattle.city_texts.specs.declared.run.Piece.{Piece}
use Rattle.city_texts.specs.declared.run.Run.{Run}
use Rattle.city_tokens.specs.internal.Objects.{IsListing}
use Rattle.city_texts.specs.internal.Parts.{AreNext, IsNextObject, IsNextItem}
use Rattle.city_texts.specs.internal.Runs.{IsPiece, IsRun, IsAppended, IsLeft, ArePassed, parts_of}
use Rattle.city_tokens.proofs.Reading.{AreFound, AreRead, members_next, items_next, member_shorter, value_shorter}
use Rattle.city_tokens.proofs.Pairing.{pairs_push}
use Rattle.city_tokens.proofs.document.Listings.{listed}

module _ {A : Type 0} (R : A → List Token → List Token → Type 0) where
  pub next_append : (xs ys : List A) (old mid new : List Token) → AreNext R xs old mid → AreNext R ys mid new
      → AreNext R (xs ++ ys) old new
  next_append [] ys old mid new h k = rw h k
  next_append (x ∷ xs) ys old mid new h k = (h.0, h.1, next_append xs ys h.0 mid new h.2 k)

  pub next_push : (xs : List A) (x : A) (old mid new : List Token) → AreNext R xs old mid → R x mid new
      → AreNext R (xs ++ x ∷ []) old new
  next_push xs x old mid new h one = next_append xs (x ∷ []) old mid new h (new, one, refl)

  pub next_shorter : ((x : A) (old new : List Token) → R x old new → length new < length old) → (xs : List A)
      (old new : List Token) → AreNext R xs old new → length new ≤ length old
  next_shorter less [] old new h = omega (arith, ap length h)
  next_shorter less (x ∷ xs) old new h =
      omega (arith, less x old h.0 h.1, next_shorter less xs h.0 new h.2)

  -- a run with the next piece, or as it was
  pub run_appended : (text : List ℕ) (o : Option (Unit {0})) (old : Run A) (next : Piece A) (new : Run A)
      → IsAppended o old next new → IsRun R text old → IsPiece R text next → IsRun R text new
  run_appended text None old next new is h k = rw (is.0, is.1, is.2) h
  run_appended text (Some _) old next new is h k =
      let more = rw (← is.1) at k in
      rw (is.0, is.2, is.3, flat_map-append vec_items old.pieces.items (next.parts ∷ []), append-nil next.parts.items)
      (next_append (parts_of old) next.parts.items _ _ _ h more)

  -- the rest of a run is a run
  pub run_left : (text : List ℕ) (old new : Run A) → IsLeft old new → IsRun R text old → IsRun R text new
  run_left text old new (inl same) h = rw same h
  run_left text old new (inr end) h = rw (end.0, end.1, end.2) refl

  -- the passed parts stand there
  pub run_passed : (text : List ℕ) (run : Run A) (more : List A) (before after : List Token)
      → ArePassed text run more before after → IsRun R text run → AreNext R more before after
  run_passed text run more before after (inl none) h = rw (none.0, none.1) refl
  run_passed text run more before after (inr all) h = rw (all.0, all.1, all.2) h

pub object_shorter : (e : List ℕ × Object) (old new : List Token) → IsNextObject e old new → length new < length old
object_shorter e old new h = member_shorter old h.1 h.2.1

pub item_shorter : {A : Type 0} (R : A → Data → Type 0) (depth : ℕ) (x : A) (old new : List Token)
    → IsNextItem R depth x old new → length new < length old
item_shorter R depth x old new h = value_shorter depth old new h.0 h.1

-- the members so far, and the next objects
pub objects_over : (es more : List (List ℕ × Object)) (start now new : List Token) (found : Members)
    → AreFound 125 start now found → IsListing es found → AreNext IsNextObject more now new
    → (all : Members) × AreFound 125 start new all × IsListing (es ++ more) all
objects_over es [] start now new found h is next = (found, rw (← next) h, rw (append-nil es) is)
objects_over es (e ∷ more) start now new found h is next =
    let read = next.1 in
    let grown = listed es (es ++ e ∷ []) e.0 e.0 e.1 refl refl read.2 in
    let one = members_next h read.1 grown.1 in
    let rest = objects_over (es ++ e ∷ []) more start next.0 new (put e.0 grown.0 found) one (grown.2 found found is)
    next.2 in
    (rest.0, rest.1, subst (λ xs. IsListing xs rest.0) (append_assoc es (e ∷ []) more) rest.2)

-- the items so far, and the next ones
module _ {A : Type 0} (R : A → Data → Type 0) (depth : ℕ) where
  pub items_over : (xs more : List A) (start now new : List Token) (ds : List Data) → AreRead depth start now ds
      → Pairs R xs ds → AreNext (IsNextItem R depth) more now new
      → (all : List Data) × AreRead depth start new all × Pairs R (xs ++ more) all
  items_over xs [] start now new ds h is next = (ds, rw (← next) h, rw (append-nil xs) is)
  items_over xs (x ∷ more) start now new ds h is next =
      let read = next.1 in
      let one = items_next h read.1 in
      let rest = items_over (xs ++ x ∷ []) more start next.0 new (ds ++ read.0 ∷ []) one
      (pairs_push R xs ds x read.0 is read.2) next.2 in
      (rest.0, rest.1, subst (λ ys. Pairs R ys rest.0) (append_assoc xs (x ∷ []) more) rest.2)
