-- What comes of one line, put together of the calls that handle it.
use Rattle.std.proofs.Common.{◌≡◌, ◌⊎◌, ◌+◌, ◌∙◌, ◌∷◌, [], ℕ, List, Option, None, Some, refl, sym, ap, subst, inl, inr}
use Rattle.std.proofs.Common.{Bool, true}
use Rattle.std.specs.Prelude.{codes, is_some}
use Rattle.city_lines.specs.Told.{committed_data, made_data, one}
use Rattle.city_lines.specs.declared.answer.Form.{Form}
use Rattle.city_lines.specs.declared.line.Line.{Line}
use Rattle.city_live.specs.Serving.{Served, IsHandled}
use Rattle.city_live.specs.declared.answer.Answer.{Answer}
use Rattle.city_live.specs.declared.request.Request.{Request}
use Rattle.city_live.specs.declared.request.Request.TheVariants as requests
use Rattle.city_server.proofs.Answering.{adds_as, adds_line}
use Rattle.city_server.specs.Answered.{IsAnswerTold, IsError, IsLineRead, told_number}
use Rattle.city_server.specs.Asked.{EachTold, IsAnswered, IsAsked, IsDone, IsFault, IsKnown, IsMadeTold, IsMemberTold}
use Rattle.city_server.specs.Asked.{IsRead, IsRefused, IsSaved, IsSaveTold, IsServedBy, model_version}
use Rattle.city_server.specs.Sessions.{Adds, AddsAnswers}
use Rattle.city_server.specs.declared.telling.Telling.{Telling}

-- ---- a request

pub refused : (hand : List ℕ) (id to with_id : Option (List ℕ)) {s u : Served} {a b : Telling}
    → (to ≡ Some hand) ⊎ (to ≡ None) → (with_id ≡ id) ⊎ (with_id ≡ None) → u ≡ s
    → Adds (IsError a.decimals to with_id) a b → Adds (IsRefused a.decimals hand id s u) a b
refused hand id to with_id {s} {u} {a} {b} is_to is_id same h =
    adds_as (IsError a.decimals to with_id) (IsRefused a.decimals hand id s u)
    (λ out is. record { same = same; to = to; to_is = is_to; with_id = with_id; id_is = is_id; is = is }) h

pub asked_refused : (form : Form) (hand : List ℕ) (id : Option (List ℕ)) (request : Request) {s u : Served}
    {a b : Telling} → Adds (IsRefused a.decimals hand id s u) a b
    → Adds (IsAsked a.decimals a.line form hand id request s u) a b
asked_refused form hand id request {s} {u} {a} h =
    adds_as (IsRefused a.decimals hand id s u) (IsAsked a.decimals a.line form hand id request s u) (λ out is. inr is) h

pub asked_told : (form : Form) (hand : List ℕ) (id : Option (List ℕ)) (request : Request) (answers : List Answer)
    {s t u : Served} {a b : Telling} → IsHandled hand id request answers s t → u ≡ t
    → Adds (EachTold (IsAnswerTold a.decimals a.line form) answers) a b
    → Adds (IsAsked a.decimals a.line form hand id request s u) a b
asked_told form hand id request answers {s} {t} {u} {a} handled same h =
    adds_as (EachTold (IsAnswerTold a.decimals a.line form) answers)
    (IsAsked a.decimals a.line form hand id request s u)
    (λ out is. inl (record {
      answers = answers;
      handled = subst (IsHandled hand id request answers s) (sym same) handled;
      told = is;
    })) h

pub saved_refused : (hand : List ℕ) (id : Option (List ℕ)) {s u : Served} {a b : Telling}
    → Adds (IsRefused a.decimals hand id s u) a b → Adds (IsSaved a.decimals a.line hand id s u) a b
saved_refused hand id {s} {u} {a} h =
    adds_as (IsRefused a.decimals hand id s u) (IsSaved a.decimals a.line hand id s u) (λ out is. inr is) h

pub saved_told : (hand : List ℕ) (id : Option (List ℕ)) (answers : List Answer) {s t u : Served} {a b : Telling}
    → IsHandled hand id requests.Model answers s t → u ≡ t
    → Adds (EachTold (λ x. IsSaveTold a.decimals a.line x (model_version x.what)) answers) a b
    → Adds (IsSaved a.decimals a.line hand id s u) a b
saved_told hand id answers {s} {t} {u} {a} handled same h =
    adds_as (EachTold (λ x. IsSaveTold a.decimals a.line x (model_version x.what)) answers)
    (IsSaved a.decimals a.line hand id s u)
    (λ out is. inl (record {
      answers = answers;
      handled = subst (IsHandled hand id requests.Model answers s) (sym same) handled;
      told = is;
    })) h

-- with a key
pub engine_asked : (hand : List ℕ) (id key : Option (List ℕ)) (request : Request) {s u : Served} {a b : Telling}
    → Adds (IsAsked a.decimals a.line Form.Plain hand id request s u) a b
    → Adds (λ out. IsAsked a.decimals a.line Form.Plain hand id request s u out
    ⊎ IsKnown a.decimals hand id key s u out) a b
engine_asked hand id key request {s} {u} {a} h =
    adds_as (IsAsked a.decimals a.line Form.Plain hand id request s u)
    (λ out. IsAsked a.decimals a.line Form.Plain hand id request s u out ⊎ IsKnown a.decimals hand id key s u out)
    (λ out is. inl is) h

pub known_told : (hand : List ℕ) (id key : Option (List ℕ)) (request : Request) (name : List ℕ) (version : ℕ)
    {s u : Served} {a b : Telling} → is_some key ≡ true → u ≡ s
    → Adds (IsMemberTold a.decimals hand id (one (codes "ended") (committed_data name version))) a b
    → Adds (λ out. IsAsked a.decimals a.line Form.Plain hand id request s u out
    ⊎ IsKnown a.decimals hand id key s u out) a b
known_told hand id key request name version {s} {u} {a} has same h =
    adds_as (IsMemberTold a.decimals hand id (one (codes "ended") (committed_data name version)))
    (λ out. IsAsked a.decimals a.line Form.Plain hand id request s u out ⊎ IsKnown a.decimals hand id key s u out)
    (λ out is. inr (record { same = same; has_key = has; name = name; version = version; is = is })) h

pub made_told : (hand : List ℕ) (id : Option (List ℕ)) (version : Option ℕ) {s u : Served} {a b : Telling} → u ≡ s
    → Adds (IsMemberTold a.decimals hand id (one (codes "made") (made_data version))) a b
    → Adds (IsMadeTold a.decimals hand id s u) a b
made_told hand id version {s} {u} {a} same h =
    adds_as (IsMemberTold a.decimals hand id (one (codes "made") (made_data version)))
    (IsMadeTold a.decimals hand id s u)
    (λ out is. record { same = same; version = version; is = is }) h

-- ---- a line

-- a line was counted and read, and what it asks for was done
pub line_done : (line : List ℕ) (request : Line) {s t u : Served} {a b c d : Telling}
    → b.line ≡ told_number (a.line + 1) → b.decimals ≡ a.decimals → b.answers ≡ a.answers → c ≡ b → t ≡ s
    → IsLineRead b.decimals line request
    → Adds (IsDone c.decimals c.line request.hand request.tag request.key request.ask t u) c d
    → AddsAnswers (line ∷ []) s u a d
line_done line request {s} {t} {u} {a} {b} {c} {d} counted decimals none same stays read h =
    adds_line line s u counted decimals none
    (adds_as (IsDone b.decimals b.line request.hand request.tag request.key request.ask s u)
    (IsAnswered b.decimals line b.line s u)
    (λ out is. inl (record { request = request; read = read; done = is }))
    (subst (λ v. Adds (IsDone b.decimals b.line request.hand request.tag request.key request.ask v u) b d) stays
    (subst (λ v. Adds (IsDone v.decimals v.line request.hand request.tag request.key request.ask t u) v d) same h)))

-- a line was counted, and an error told for it
pub line_fault : (line : List ℕ) (hand id : Option (List ℕ)) {s u : Served} {a b c d : Telling}
    → b.line ≡ told_number (a.line + 1) → b.decimals ≡ a.decimals → b.answers ≡ a.answers → c ≡ b → u ≡ s
    → Adds (IsError c.decimals hand id) c d → AddsAnswers (line ∷ []) s u a d
line_fault line hand id {s} {u} {a} {b} {c} {d} counted decimals none same stays h =
    adds_line line s u counted decimals none
    (adds_as (IsError b.decimals hand id) (IsAnswered b.decimals line b.line s u)
    (λ out is. inr (record { same = stays; hand = hand; id = id; is = is }))
    (subst (λ v. Adds (IsError v.decimals hand id) v d) same h))
