-- Editing the encoded attributes of an object has the same effect as editing the attributes themselves.
use Rattle.std.specs.Prelude.{◌≡◌, ◌↔◌, ℕ, List, [], ◌∷◌, false, cond, Option, Some, is_some, codes}
use Rattle.std.specs.Prelude.{option_and_then}
use Rattle.std.specs.Str.{bytes_eq}
use Rattle.json.specs.Tree.{MembersHaveNumbers}
use Rattle.serde_json.specs.Data.{Data, object, Members, no_members, member, put}
use Rattle.serde_json.specs.Find.{get_member, as_object}
use Rattle.serde_json.specs.Read.{of_json, of_members}
use Rattle.serde_json.specs.Written.{outline}
use Rattle.city_decimals.specs.Shapes.{form_of, in_form}
use Rattle.city_decimals.specs.Encoded.{encoded, encoded_members}
use Rattle.city_decimals.specs.Decoded.{decoded}
use Rattle.city_decimals.specs.Arranged.{arranged, arranged_members}
use Rattle.city_decimals.specs.Arranged as spec
use Rattle.json.specs.Json as json
use Rattle.json.specs.Find as find

abbrev pub attributes : List ℕ
attributes = codes "attributes"

-- ---- members as read

-- the members, and each of the others in its place
abbrev pub put_each : Members → Members → Members
put_each no_members ms = ms
put_each (member k d others) ms = put_each others (put k d ms)

-- the members except for those of a name
abbrev pub without : List ℕ → Members → Members
without name no_members = no_members
without name (member k d ms) = cond (bytes_eq name k) (without name ms) (member k d (without name ms))

abbrev pub without_each : List (List ℕ) → Members → Members
without_each [] ms = ms
without_each (name ∷ names) ms = without_each names (without name ms)

-- each of the named members is among the others, with the same value
abbrev pub AreAmong : Members → Members → Type 0
AreAmong no_members found = Unit {0}
AreAmong (member k d named) found = (get_member k found ≡ Some d) × AreAmong named found

-- ---- members of JSON

-- the members, then the others: of a repeated name the last one counts
abbrev pub append : json.Members → json.Members → json.Members
append json.no_members others = others
append (json.member k j ms) others = json.member k j (append ms others)

abbrev pub leave_out : List ℕ → json.Members → json.Members
leave_out name json.no_members = json.no_members
leave_out name (json.member k j ms) = cond (bytes_eq name k) (leave_out name ms) (json.member k j (leave_out name ms))

abbrev pub leave_out_each : List (List ℕ) → json.Members → json.Members
leave_out_each [] ms = ms
leave_out_each (name ∷ names) ms = leave_out_each names (leave_out name ms)

-- each of the named members is among the others, with the same value, its numbers exactly as written
abbrev pub AreWithin : json.Members → json.Members → Type 0
AreWithin json.no_members found = Unit {0}
AreWithin (json.member k j named) found = (find.get_member k found ≡ Some j) × AreWithin named found

-- ---- encoded members as read

-- the encoded value of a member, as read
abbrev pub member_read : List ℕ → json.Json → Option Data
member_read k j = of_json (in_form (form_of false k j) (encoded j))

-- the editor reads the encoded members as ds
abbrev pub AreRead : json.Members → Members → Type 0
AreRead ms ds = of_members (encoded_members false ms) no_members ≡ Some ds

-- the members are read as ds, and ds, written and decoded, is the members, arranged
abbrev pub AreKeptAs : json.Members → Members → Type 0
AreKeptAs ms ds = AreRead ms ds × (decoded (outline (object ds)) ≡ arranged (json.object ms))

-- ---- the laws

-- Under `attributes` the editor finds the last member of the name, as read, and reads an object exactly if it is one.
abbrev pub FindsAttributes : Type 0
FindsAttributes =
    (ms : json.Members) (ds : Members) → MembersHaveNumbers ms → AreRead ms ds
    → (get_member attributes ds ≡ option_and_then (member_read attributes) (find.get_member attributes ms))
    × ((j : json.Json) (d : Data) → member_read attributes j ≡ Some d
    → is_some (as_object d) ≡ is_some (find.as_object j))

-- setting e among d keeps it as a followed by s
abbrev pub KeepsSets : Type 0
KeepsSets =
    (a s : json.Members) (d e : Members) → MembersHaveNumbers a → MembersHaveNumbers s → AreRead a d → AreRead s e
    → AreKeptAs (append a s) (put_each e d)

-- leaving names out of d keeps it as a without these names; nothing is left of one exactly if nothing is left of the
-- other
abbrev pub KeepsUnsets : Type 0
KeepsUnsets =
    (a : json.Members) (d : Members) (names : List (List ℕ)) → MembersHaveNumbers a → AreRead a d
    → AreKeptAs (leave_out_each names a) (without_each names d)
    × ((without_each names d ≡ no_members) ↔ (leave_out_each names a ≡ json.no_members))

-- e is among d exactly if s is within a, both arranged
abbrev pub KeepsExpects : Type 0
KeepsExpects =
    (a s : json.Members) (d e : Members) → MembersHaveNumbers a → MembersHaveNumbers s → AreRead a d → AreRead s e
    → AreAmong e d ↔ AreWithin (arranged_members s json.no_members) (arranged_members a json.no_members)

-- an object is written with these attributes in their place
abbrev pub KeepsPlaces : Type 0
KeepsPlaces =
    (ms b : json.Members) (ds es : Members) → MembersHaveNumbers ms → MembersHaveNumbers b → AreRead ms ds
    → AreRead b es
    → decoded (outline (object (put attributes (object es) ds)))
    ≡ json.object (spec.put attributes (arranged (json.object b)) (arranged_members ms json.no_members))
