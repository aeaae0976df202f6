-- The request that came last, and what may be done for it.
use Rattle.std.specs.Prelude.{◌≡◌, ℕ, List, Bool, true, false, Option, None, Some, is_some, map}
use Rattle.city_model.specs.declared.command.Command.{Command}
use Rattle.city_model.specs.declared.command.Command.TheVariants.{Commit, Abort}
use Rattle.city_model.specs.Runs.{Scripted}
use Rattle.city_live.specs.declared.answer.What.{What}
use Rattle.city_live.specs.declared.answer.What.TheVariants as told
use Rattle.city_live.specs.declared.request.Request.{Request}
use Rattle.city_live.specs.declared.request.Request.TheVariants as requests
use Rattle.city_live.specs.declared.task.Task.{Task}
use Rattle.city_live.specs.declared.task.Task.TheVariants as task
use Rattle.city_live.specs.Works.{Working, first_of, IsFresh}

-- Whose request it is, its tag, and what it asks for; and the stamp of the work that is begun for it, or, of a Bye,
-- ended.
pub record Came : Type 0 where
  pub by : List ℕ
  pub tag : Option (List ℕ)
  pub request : Request
  pub stamp : Option ℕ

-- it came, and nothing is done for it yet
abbrev pub just_came : List ℕ → Option (List ℕ) → Request → Came
just_came by tag request = record { by = by; tag = tag; request = request; stamp = None }

-- ---- what it asks for

-- such a work is asked for by this
abbrev pub request_for : List ℕ → Task → Request
request_for name (task.Script s rs cause) = requests.Script s
request_for name (task.Single asked) = requests.Begin name

-- a script's work has its name
abbrev pub IsNamed : List ℕ → Task → Type 0
IsNamed name (task.Script s rs cause) = name ≡ s.0
IsNamed name (task.Single asked) = Unit {0}

abbrev pub is_commit : Option Command → Option Bool
is_commit (Some Commit) = Some true
is_commit (Some Abort) = Some false
is_commit o = None

-- whether it asks for a commit, if it asks for an end
abbrev pub end_asked : Request → Option Bool
end_asked requests.Commit = Some true
end_asked requests.Abort = Some false
end_asked requests.Bye = Some false
end_asked (requests.Do s) = is_commit (first_of (Some s))
end_asked r = None

-- ---- what may be done for it

-- the work that it asks for is begun
pub record IsBegunFor (w : Working) (c : Came) : Type 0 where
  pub hand : c.by ≡ w.by
  pub request : c.request ≡ request_for w.name w.task
  pub named : IsNamed w.name w.task
  pub fresh : IsFresh w.task
  pub first : c.stamp ≡ None

-- its command is asked for
pub record IsAskedFor (hand : List ℕ) (tag : Option (List ℕ)) (s : Scripted) (c : Came) : Type 0 where
  pub by : c.by ≡ hand
  pub tagged : c.tag ≡ tag
  pub request : c.request ≡ requests.Do s

-- a script or a transaction runs once it is begun, and is ended once
abbrev pub IsNext : Request → ℕ → Option ℕ → Type 0
IsNext (requests.Script s) t begun = begun ≡ Some t
IsNext (requests.Begin name) t begun = begun ≡ Some t
IsNext r t begun = (is_some (end_asked r) ≡ true) × (begun ≡ None)

-- its work is to run, to begin or to end
pub record IsTakenFor (t : ℕ) (hand : List ℕ) (tag : Option (List ℕ)) (c : Came) : Type 0 where
  pub by : c.by ≡ hand
  pub tagged : c.tag ≡ tag
  pub follows : IsNext c.request t c.stamp

-- an answer of this kind; a fault, where nothing was done for it
abbrev pub IsAnswerTo : What → Request → Option ℕ → Type 0
IsAnswerTo (told.Watching version) r begun = r ≡ requests.Watch
IsAnswerTo told.Unwatched r begun = r ≡ requests.Unwatch
IsAnswerTo (told.Look objects version) r begun = r ≡ requests.Look (map (λ o. o.0) objects)
IsAnswerTo (told.Model city version) r begun = r ≡ requests.Model
IsAnswerTo told.Bye r begun = r ≡ requests.Bye
IsAnswerTo (told.Fault f) r begun = begun ≡ None
IsAnswerTo w r begun = ⊥

pub record IsAnsweredBy (hand : List ℕ) (tag : Option (List ℕ)) (what : What) (c : Came) : Type 0 where
  pub by : c.by ≡ hand
  pub tagged : c.tag ≡ tag
  pub kind : IsAnswerTo what c.request c.stamp

-- a change is no answer
abbrev pub IsAnswerFor : List ℕ → Option (List ℕ) → What → Option Came → Type 0
IsAnswerFor hand tag (told.Changed changed) o = tag ≡ None
IsAnswerFor hand tag what None = ⊥
IsAnswerFor hand tag what (Some c) = IsAnsweredBy hand tag what c

abbrev pub OfCame : (Came → Type 0) → Option Came → Type 0
OfCame P None = ⊥
OfCame P (Some c) = P c

-- ---- what is left of it then

abbrev pub with_stamp : ℕ → Came → Came
with_stamp t c = record { by = c.by; tag = c.tag; request = c.request; stamp = Some t }

-- behind the end of its work a Bye is still to be answered
abbrev pub left_by : Request → Came → Option Came
left_by requests.Bye c = Some c
left_by r c = None

abbrev pub taken : ℕ → Option Came → Option Came
taken t None = None
taken t (Some c) = left_by c.request (with_stamp t c)

abbrev pub answered_by : What → Option Came → Option Came
answered_by (told.Changed changed) o = o
answered_by what o = None
