-- Types of city objects with one name are one type, and families are compared either way round.
use Rattle.city_model.proofs.Prelude.{arith, ◌≡◌, true, Some, sym, ap, ◌∙◌, ObjectType, first_named, same_family}
use Rattle.std.proofs.lemmas.Slice.Eq.{bytes_eq-Decides}
use Rattle.city_model.specs.Relations.{same_type}
use Rattle.city_model.specs.Types.{name_of, all_types}

pub named : (kind : ObjectType) → first_named (name_of kind) all_types ≡ Some kind
named kind = grind arith

-- types of one name are one type
pub same_type_is : (kind other : ObjectType) → same_type kind other ≡ true → kind ≡ other
same_type_is kind other h =
    let names = (bytes_eq-Decides (name_of kind) (name_of other)).0 h in
    let same : Some kind ≡ Some other =
    sym (named kind) ∙ ap (λ name. first_named name all_types) names ∙ named other in
    cc

pub same_family_back : (kind other : ObjectType) → same_family kind other ≡ true → same_family other kind ≡ true
same_family_back kind other h = grind arith
