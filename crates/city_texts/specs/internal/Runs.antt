-- Parts of a text read beforehand by several workers, and their meaning.
use Rattle.std.specs.Prelude.{◌≡◌, ◌++◌, ◌⊎◌, ℕ, List, [], ◌∷◌, Option, Some, None, flat_map}
use Rattle.std.specs.Vec.{vec_items}
use Rattle.json.specs.Token.{Token}
use Rattle.city_reader.specs.Positions.{tokens_from}
use Rattle.city_texts.specs.declared.run.Piece.{Piece}
use Rattle.city_texts.specs.declared.run.Run.{Run}
use Rattle.city_texts.specs.internal.Parts.{AreNext}

-- the parts of all pieces
abbrev pub parts_of : {A : Type 0} → Run A → List A
parts_of r = flat_map vec_items r.pieces.items

-- the parts stand in the text between the two positions
abbrev pub IsPiece : {A : Type 0} → (A → List Token → List Token → Type 0) → List ℕ → Piece A → Type 0
IsPiece R text p = AreNext R p.parts.items (tokens_from p.from text) (tokens_from p.to text)

abbrev pub IsRun : {A : Type 0} → (A → List Token → List Token → Type 0) → List ℕ → Run A → Type 0
IsRun R text r = AreNext R (parts_of r) (tokens_from r.from text) (tokens_from r.to text)

-- the next piece was put behind the old run, if an answer says so; nothing changed otherwise
abbrev pub IsAppended : {A : Type 0} → Option (Unit {0}) → Run A → Piece A → Run A → Type 0
IsAppended None old next new =
    (new.from ≡ old.from) × (new.to ≡ old.to) × (new.pieces.items ≡ old.pieces.items)
IsAppended (Some _) old next new =
    (new.from ≡ old.from) × (old.to ≡ next.from) × (new.to ≡ next.to)
    × (new.pieces.items ≡ old.pieces.items ++ next.parts ∷ [])

-- all of a run is left, or only its end
abbrev pub IsLeft : {A : Type 0} → Run A → Run A → Type 0
IsLeft old new = (new ≡ old) ⊎ ((new.from ≡ old.to) × (new.to ≡ old.to) × (new.pieces.items ≡ []))

-- the passed parts are none, or all of a run from the reader's place
abbrev pub ArePassed : {A : Type 0} → List ℕ → Run A → List A → List Token → List Token → Type 0
ArePassed text run more before after =
    ((more ≡ []) × (after ≡ before))
    ⊎ ((more ≡ parts_of run) × (before ≡ tokens_from run.from text) × (after ≡ tokens_from run.to text))
