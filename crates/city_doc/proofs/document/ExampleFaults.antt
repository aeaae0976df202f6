-- Two objects and all their faults: the worked case of the order of faults.
use Rattle.city_doc.proofs.Prelude.{◌∷◌, [], refl, arith, inl, inr, codes, object, string, put, Data}
use Rattle.city_doc.proofs.Prelude.{Members, no_members, member, AreOrdered, UnknownType, BadGeometry}
use Rattle.city_doc.proofs.Prelude.{Relations}
use Rattle.city_model.specs.Types as types
use Rattle.city_doc.specs.document.AllFaults.{StandsAt, IsBefore, AreThose}
use Rattle.city_doc.proofs.document.Finders.{told_all}

-- its type is unknown, its geometry is no array, and its parents are none
abbrev odd : Data
odd =
    object (put (codes "type") (string (codes "+B"))
    (put (codes "geometry") (string (codes "x")) (put (codes "parents") (string (codes "x")) no_members)))

-- its type is missing
abbrev bare : Data
bare = object no_members

abbrev objects : Members
objects = member (codes "a") odd (member (codes "b") bare no_members)

ordered : AreOrdered objects
ordered = ((refl, tt), (tt, tt))

-- all faults of the two, each once, in order; a bad geometry isn't asked for its vertices
pub all_of_two : AreThose (StandsAt [] objects)
    (UnknownType (codes "a") ∷ UnknownType (codes "b") ∷ BadGeometry (codes "a") ∷ Relations (codes "a") ∷ [])
unfolding types.type_named
all_of_two = told_all [] objects ordered

-- the number comes first, and then the id
pub number_first : IsBefore (UnknownType (codes "b")) (BadGeometry (codes "a"))
number_first = inl (search (arith))

pub then_id : IsBefore (UnknownType (codes "a")) (UnknownType (codes "ab"))
then_id = inr (refl, refl)
