-- The members of a line.
use Rattle.std.specs.Prelude.{◌≡◌, ◌≢◌, ◌⊎◌, ℕ, List, [], ◌∷◌, ◌++◌, Bool, true, false, codes, filter, flat_map}
use Rattle.std.specs.Prelude.{Option, Some, None}
use Rattle.json.specs.Lex.{tokens}
use Rattle.json.specs.Token.{Token, begin_object, end_object, key}
use Rattle.city_lines.specs.declared.members.Member.{Member}
use Rattle.city_lines.specs.declared.name.Name.{Name}
use Rattle.city_lines.specs.declared.name.Name.TheVariants.{Hand, Id, Key, Vertices, Script, Begin, Do, Commit, Abort}
use Rattle.city_lines.specs.declared.name.Name.TheVariants.{Watch, Look, Ids, Model, Save, Made, Bye}

abbrev pub name_text : Name → List ℕ
name_text Hand = codes "hand"
name_text Id = codes "id"
name_text Key = codes "key"
name_text Vertices = codes "vertices"
name_text Script = codes "script"
name_text Begin = codes "begin"
name_text Do = codes "do"
name_text Commit = codes "commit"
name_text Abort = codes "abort"
name_text Watch = codes "watch"
name_text Look = codes "look"
name_text Ids = codes "ids"
name_text Model = codes "model"
name_text Save = codes "save"
name_text Made = codes "made"
name_text Bye = codes "bye"

-- a member of this name asks for something
abbrev pub is_request : Name → Bool
is_request Hand = false
is_request Id = false
is_request Key = false
is_request Vertices = false
is_request Script = true
is_request Begin = true
is_request Do = true
is_request Commit = true
is_request Abort = true
is_request Watch = true
is_request Look = true
is_request Ids = true
is_request Model = true
is_request Save = true
is_request Made = true
is_request Bye = true

-- the name and the tokens of the value
abbrev pub member_tokens : Member → List Token
member_tokens m = key (name_text m.name) ∷ tokens m.text.now

-- the text is an object with these members and no others
abbrev pub IsObjectOf : List ℕ → List Member → Type 0
IsObjectOf text members = tokens text ≡ begin_object ∷ (flat_map member_tokens members ++ end_object ∷ [])

-- the members that ask for something
abbrev pub requests : List Member → List Member
requests = filter (λ m. is_request m.name)

-- a member has this name and this text
abbrev pub HasMember : Name → List ℕ → List Member → Type 0
HasMember name text [] = ⊥
HasMember name text (m ∷ ms) = ((m.name ≡ name) × (m.text.now ≡ text)) ⊎ HasMember name text ms

-- no member has this name
abbrev pub HasNone : Name → List Member → Type 0
HasNone name [] = Unit {0}
HasNone name (m ∷ ms) = (m.name ≢ name) × HasNone name ms

-- the text of the member of this name, if there is one
abbrev pub IsText : Name → List Member → Option (List ℕ) → Type 0
IsText name ms None = HasNone name ms
IsText name ms (Some text) = HasMember name text ms
