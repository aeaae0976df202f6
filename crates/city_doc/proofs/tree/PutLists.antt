-- Lists put in at their names, and taken out.
use Rattle.city_doc.proofs.Prelude.{◌≡◌, List, ℕ, [], None, refl, arith, Data, Members, get_member, without, put_list}
use Rattle.city_doc.proofs.Prelude.{list_data}
use Rattle.std.proofs.Common.{false}
use Rattle.city_model.specs.CityMap.{same_id}
use Rattle.city_tokens.proofs.Laws.{get_member-put_apart, without-absent, without-put}

pub get_member-put_list_apart : {A : Type 0} (q k : List ℕ) (f : A → Data) (xs : List A) (ms : Members)
    → same_id q k ≡ false → get_member q (put_list k f xs ms) ≡ get_member q ms
get_member-put_list_apart q k f [] ms apart = refl
get_member-put_list_apart q k f xs ms apart = get_member-put_apart q k (list_data f xs) ms apart

pub without-put_list : {A : Type 0} (name : List ℕ) (f : A → Data) (xs : List A) (ms : Members)
    → get_member name ms ≡ None → without name (put_list name f xs ms) ≡ ms
without-put_list name f xs ms none = grind (arith, without-absent, without-put)
