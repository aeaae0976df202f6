-- What a line asks for.
use Rattle.std.specs.Prelude.{◌≡◌, ◌⊎◌, ℕ, List, [], ◌∷◌, ◌++◌, Option, Some, None, codes, map, true, false}
use Rattle.json.specs.Lex.{tokens}
use Rattle.json.specs.Token.{begin_array, end_array, boolean, string}
use Rattle.city_live.specs.declared.request.Request.{Request}
use Rattle.city_live.specs.declared.request.Request.TheVariants as engine
use Rattle.city_tokens.specs.script.Scripts.{IsReadAs}
use Rattle.city_lines.specs.Members.{IsObjectOf, HasMember, HasNone, IsText, requests}
use Rattle.city_lines.specs.declared.line.Ask.{Ask}
use Rattle.city_lines.specs.declared.line.Ask.TheVariants as asks
use Rattle.city_lines.specs.declared.line.Line.{Line}
use Rattle.city_lines.specs.declared.members.Member.{Member}
use Rattle.city_lines.specs.declared.name.Name.{Name}
use Rattle.city_lines.specs.declared.name.Name.TheVariants as names

-- ---- scripts

-- the text of scripts that has this one alone
abbrev pub script_text : List ℕ → List ℕ
script_text text = 91 ∷ (text ++ 93 ∷ [])

abbrev pub vertices_text : Option (List ℕ) → List ℕ
vertices_text None = []
vertices_text (Some text) = codes ",\"vertices\":" ++ text

-- the text of scripts that has one script, of this command and a commit
abbrev pub command_text : List ℕ → Option (List ℕ) → List ℕ
command_text text vertices =
    codes "[{\"name\":\"\",\"commands\":[" ++ (text ++ (codes ",\"commit\"]" ++ (vertices_text vertices ++ codes "}]")))

-- ---- values

abbrev pub IsString : List ℕ → List ℕ → Type 0
IsString text s = tokens text ≡ string s ∷ []

abbrev pub IsTrueText : List ℕ → Type 0
IsTrueText text = tokens text ≡ boolean true ∷ []

-- the text is an array of texts
abbrev pub AreStrings : List ℕ → List (List ℕ) → Type 0
AreStrings text ss = tokens text ≡ begin_array ∷ (map string ss ++ end_array ∷ [])

-- ---- requests

-- the member of this name is `true`, or else the command is this word
abbrev pub IsPlain : Name → List ℕ → Member → Type 0
IsPlain name word m =
    ((m.name ≡ name) × IsTrueText m.text.now) ⊎ ((m.name ≡ names.Do) × IsString m.text.now word)

-- the request member asks for this, with these vertices
abbrev pub AsksEngine : Member → Option (List ℕ) → Request → Type 0
AsksEngine m vertices (engine.Script s) = (m.name ≡ names.Script) × IsReadAs (script_text m.text.now) (s ∷ [])
AsksEngine m vertices (engine.Begin name) = (m.name ≡ names.Begin) × IsString m.text.now name
AsksEngine m vertices (engine.Do s) = (m.name ≡ names.Do) × IsReadAs (command_text m.text.now vertices) (s ∷ [])
AsksEngine m vertices engine.Commit = IsPlain names.Commit (codes "commit") m
AsksEngine m vertices engine.Abort = IsPlain names.Abort (codes "abort") m
AsksEngine m vertices engine.Watch = (m.name ≡ names.Watch) × IsTrueText m.text.now
AsksEngine m vertices engine.Unwatch = (m.name ≡ names.Watch) × (tokens m.text.now ≡ boolean false ∷ [])
AsksEngine m vertices (engine.Look ids) = ⊥
AsksEngine m vertices engine.Model = ⊥
AsksEngine m vertices engine.Bye = (m.name ≡ names.Bye) × IsTrueText m.text.now

abbrev pub Asks : Member → Option (List ℕ) → Ask → Type 0
Asks m vertices (asks.Engine r) = AsksEngine m vertices r
Asks m vertices (asks.LookAtOne id) = (m.name ≡ names.Look) × IsString m.text.now id
Asks m vertices (asks.LookAtEach ids) = (m.name ≡ names.Look) × ((ss : List (List ℕ)) × AreStrings m.text.now ss)
Asks m vertices asks.Ids = (m.name ≡ names.Ids) × IsTrueText m.text.now
Asks m vertices asks.Model = (m.name ≡ names.Model) × IsTrueText m.text.now
Asks m vertices asks.Save = (m.name ≡ names.Save) × IsTrueText m.text.now
Asks m vertices (asks.Made key) = (m.name ≡ names.Made) × IsString m.text.now key

-- the member of this name is this text, if there is one
abbrev pub IsOwnText : Name → List Member → Option (List ℕ) → Type 0
IsOwnText name ms None = HasNone name ms
IsOwnText name ms (Some s) = (text : List ℕ) × HasMember name text ms × IsString text s

-- one member alone asks for something, and it asks for this
pub record AskedBy (ms : List Member) (ask : Ask) : Type 0 where
  pub request : Member
  pub only : requests ms ≡ request ∷ []
  pub vertices : Option (List ℕ)
  pub given : IsText names.Vertices ms vertices
  pub asked : Asks request vertices ask

-- the members say this
pub record IsLineOf (members : List Member) (line : Line) : Type 0 where
  pub hand : IsOwnText names.Hand members (Some line.hand)
  pub tag : IsText names.Id members line.tag
  pub key : IsOwnText names.Key members line.key
  pub asked : AskedBy members line.ask

-- the text is an object of some members, and they say this
abbrev pub IsRequest : List ℕ → Line → Type 0
IsRequest text line = (members : List Member) × IsObjectOf text members × IsLineOf members line
