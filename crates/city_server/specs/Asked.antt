-- What comes of a line of the input: what is told for it, and what becomes of the hands.
use Rattle.std.specs.Prelude.{◌≡◌, ◌⊎◌, ◌+◌, ℕ, Bool, true, List, [], ◌∷◌, ◌++◌, Option, Some, None, codes, is_some}
use Rattle.std.specs.Arc.{arc_value}
use Rattle.serde_json.specs.Data.{Members}
use Rattle.city_lines.specs.Answers.{line_text}
use Rattle.city_lines.specs.Told.{committed_data, made_data, one}
use Rattle.city_lines.specs.declared.answer.Form.{Form}
use Rattle.city_lines.specs.declared.line.Ask.{Ask}
use Rattle.city_lines.specs.declared.line.Ask.TheVariants as asks
use Rattle.city_lines.specs.declared.line.Line.{Line}
use Rattle.city_live.specs.Serving.{Served, IsHandled}
use Rattle.city_live.specs.declared.answer.Answer.{Answer}
use Rattle.city_live.specs.declared.answer.What.{What}
use Rattle.city_live.specs.declared.answer.What.TheVariants as what
use Rattle.city_live.specs.declared.request.Request.{Request}
use Rattle.city_live.specs.declared.request.Request.TheVariants as requests
use Rattle.city_writer.specs.internal.tree.PartTokens.{tokens_of_members}
use Rattle.city_writer.specs.report.Ends.{count_data}
use Rattle.city_server.specs.Answered.{IsAnswerTold, IsError, IsLineRead, IsWritten, told_number}

-- ---- answers

-- each of these is told so, in their order, and nothing else is
abbrev pub EachTold : {A : Type 0} → (A → List ℕ → Type 0) → List A → List ℕ → Type 0
EachTold P [] out = out ≡ []
EachTold P (x ∷ xs) out = (first : List ℕ) × (rest : List ℕ) × P x first × EachTold P xs rest × (out ≡ first ++ rest)

-- the version of the model that an answer has
abbrev pub model_version : What → Option ℕ
model_version (what.Model city version) = Some version
model_version w = None

-- a member alone is told to a hand
abbrev pub IsMemberTold : Bool → List ℕ → Option (List ℕ) → Members → List ℕ → Type 0
IsMemberTold decimals hand id ms out = IsWritten decimals (line_text (Some hand) id (tokens_of_members ms)) out

-- An answer to a save. If it has the model, that is saved, and the version is told, or an error.
abbrev pub IsSaveTold : Bool → ℕ → Answer → Option ℕ → List ℕ → Type 0
IsSaveTold decimals n a None out = IsAnswerTold decimals n Form.Plain a out
IsSaveTold decimals n a (Some version) out =
    IsMemberTold decimals (arc_value a.hand) a.tag (one (codes "saved") (count_data version)) out
    ⊎ IsError decimals (Some (arc_value a.hand)) a.tag out

-- ---- a request

-- nothing is done for a request, and its hand is told an error; its name and the `id` may be left out
pub record IsRefused (decimals : Bool) (hand : List ℕ) (id : Option (List ℕ)) (s u : Served) (out : List ℕ)
    : Type 0 where
  pub same : u ≡ s
  pub to : Option (List ℕ)
  pub to_is : (to ≡ Some hand) ⊎ (to ≡ None)
  pub with_id : Option (List ℕ)
  pub id_is : (with_id ≡ id) ⊎ (with_id ≡ None)
  pub is : IsError decimals to with_id out

-- the engine does a request, and its answers are told so, in their order
pub record IsServedBy (P : Answer → List ℕ → Type 0) (hand : List ℕ) (id : Option (List ℕ)) (request : Request)
    (s u : Served) (out : List ℕ) : Type 0 where
  pub answers : List Answer
  pub handled : IsHandled hand id request answers s u
  pub told : EachTold P answers out

-- the engine does the request of this line, or it is refused
abbrev pub IsAsked : Bool → ℕ → Form → List ℕ → Option (List ℕ) → Request → Served → Served → List ℕ → Type 0
IsAsked decimals n form hand id request s u out =
    IsServedBy (IsAnswerTold decimals n form) hand id request s u out ⊎ IsRefused decimals hand id s u out

-- the model is asked for and saved, or that is refused
abbrev pub IsSaved : Bool → ℕ → List ℕ → Option (List ℕ) → Served → Served → List ℕ → Type 0
IsSaved decimals n hand id s u out =
    IsServedBy (λ a. IsSaveTold decimals n a (model_version a.what)) hand id requests.Model s u out
    ⊎ IsRefused decimals hand id s u out

-- it has a key, and the end of a commit with it is told again
pub record IsKnown (decimals : Bool) (hand : List ℕ) (id key : Option (List ℕ)) (s u : Served) (out : List ℕ)
    : Type 0 where
  pub same : u ≡ s
  pub has_key : is_some key ≡ true
  pub name : List ℕ
  pub version : ℕ
  pub is : IsMemberTold decimals hand id (one (codes "ended") (committed_data name version)) out

-- whether a commit with a key was made is told
pub record IsMadeTold (decimals : Bool) (hand : List ℕ) (id : Option (List ℕ)) (s u : Served) (out : List ℕ)
    : Type 0 where
  pub same : u ≡ s
  pub version : Option ℕ
  pub is : IsMemberTold decimals hand id (one (codes "made") (made_data version)) out

-- what comes of what line n asks for
abbrev pub IsDone : Bool → ℕ → List ℕ → Option (List ℕ) → Option (List ℕ) → Ask → Served → Served → List ℕ → Type 0
IsDone decimals n hand id key (asks.Engine r) s u out =
    IsAsked decimals n Form.Plain hand id r s u out ⊎ IsKnown decimals hand id key s u out
IsDone decimals n hand id key (asks.LookAtOne one_id) s u out =
    IsAsked decimals n Form.One hand id (requests.Look (one_id ∷ [])) s u out
IsDone decimals n hand id key (asks.LookAtEach ids) s u out =
    IsAsked decimals n Form.Each hand id (requests.Look ids) s u out
IsDone decimals n hand id key asks.Ids s u out = IsAsked decimals n Form.Ids hand id requests.Model s u out
IsDone decimals n hand id key asks.Model s u out = IsAsked decimals n Form.Plain hand id requests.Model s u out
IsDone decimals n hand id key asks.Save s u out = IsSaved decimals n hand id s u out
IsDone decimals n hand id key (asks.Made k) s u out = IsMadeTold decimals hand id s u out

-- ---- a line

-- the line is no request, or memory runs out for it: an error is told, and nothing is done
pub record IsFault (decimals : Bool) (s u : Served) (out : List ℕ) : Type 0 where
  pub same : u ≡ s
  pub hand : Option (List ℕ)
  pub id : Option (List ℕ)
  pub is : IsError decimals hand id out

-- the line is read as a request, and this comes of it
pub record IsRead (decimals : Bool) (line : List ℕ) (n : ℕ) (s u : Served) (out : List ℕ) : Type 0 where
  pub request : Line
  pub read : IsLineRead decimals line request
  pub done : IsDone decimals n request.hand request.tag request.key request.ask s u out

-- what comes of line n of the input
abbrev pub IsAnswered : Bool → List ℕ → ℕ → Served → Served → List ℕ → Type 0
IsAnswered decimals line n s u out = IsRead decimals line n s u out ⊎ IsFault decimals s u out

-- Lines are answered one after another, in their order, and nothing else is told. The line before has the first number,
-- and the last line has the second.
abbrev pub AreAnswered : Bool → List (List ℕ) → ℕ → ℕ → Served → Served → List ℕ → Type 0
AreAnswered decimals [] n m s u out = (m ≡ n) × (u ≡ s) × (out ≡ [])
AreAnswered decimals (l ∷ ls) n m s u out =
    (first : List ℕ) × (rest : List ℕ) × (t : Served) × IsAnswered decimals l (told_number (n + 1)) s t first
    × AreAnswered decimals ls (told_number (n + 1)) m t u rest × (out ≡ first ++ rest)
