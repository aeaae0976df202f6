-- A transaction, open or closed, as a script of its own.
use Rattle.std.specs.Prelude.{◌==◌, ◌+◌, ◌++◌, ℕ, List, [], ◌∷◌, Bool, false, Option, None, Some, not, filter, map}
use Rattle.std.specs.Prelude.{length, if◌then◌else◌}
use Rattle.city_model.specs.declared.command.Command.{Command}
use Rattle.city_model.specs.declared.command.Command.TheVariants.{Commit, Abort}
use Rattle.city_model.specs.declared.command.Reply.{Reply}
use Rattle.city_model.specs.declared.command.Reply.TheVariants as replies
use Rattle.city_model.specs.declared.end.End.{End}
use Rattle.city_model.specs.declared.end.Outcome.{Outcome}
use Rattle.city_model.specs.CityMap.{CityMap}
use Rattle.city_model.specs.Marks.{Snapshot, unmarked}
use Rattle.city_model.specs.Meaning.{is_refusal}
use Rattle.city_model.specs.Runs.{Scripted, Trace}
use Rattle.city_model.specs.Standing.{Answered}
use Rattle.city_session.specs.declared.writes.Writes.{Writes}
use Rattle.std.specs.List.{fold}

-- a transaction so far: how many had ended when it began, and its commands with the replies that were told, refused
-- ones too
pub record Grown : Type 0 where
  pub since : ℕ
  pub told : List Answered

-- one that has ended, and whether its writes were kept: by a commit they are, by an abort or a death they are not
abbrev pub Closed : Type 0
Closed = Grown × Bool

abbrev pub commands_in : List Answered → List Command
commands_in told = map (λ d. d.0) told

abbrev pub replies_in : List Answered → List Reply
replies_in told = map (λ d. d.1) told

-- a refused command leaves the transaction open, and is no part of its script
abbrev pub unrefused : List Answered → List Answered
unrefused told = filter (λ d. not (is_refusal d.1)) told

-- whether it has written behind a reply, and behind all that were told
abbrev pub unsure_after : Writes → Writes
unsure_after Writes.Nothing = Writes.Nothing
unsure_after Writes.Something = Writes.Unsure
unsure_after Writes.Unsure = Writes.Unsure

abbrev pub writes_after : Writes → Reply → Writes
writes_after before (replies.Found object) = before
writes_after before replies.Absent = before
writes_after before replies.Expected = before
writes_after before replies.Marked = before
writes_after before replies.Committed = before
writes_after before replies.Aborted = before
writes_after before (replies.Refused cause) = before
writes_after before replies.WentBack = unsure_after before
writes_after before reply = Writes.Something

abbrev pub writes_of : List Answered → Writes
writes_of told = fold (λ w d. writes_after w d.1) Writes.Nothing told

-- its script, without a name: the commands that were not refused, and a Commit or an Abort behind them
abbrev pub script_of : Closed → Scripted
script_of c = ([], commands_in (unrefused c.0.told) ++ (if c.1 then Commit else Abort) ∷ [])

abbrev pub outcome_of : Closed → Outcome
outcome_of c = if c.1 then Outcome.Committed else Outcome.Aborted

abbrev pub scripts_of : List Closed → List Scripted
scripts_of closed = map script_of closed

-- its end, as that of the script of this number
abbrev pub end_at : ℕ → Closed → End
end_at place c = record {
  script = place;
  name = [];
  since = c.0.since;
  replies = replies_in (unrefused c.0.told);
  outcome = outcome_of c;
}

-- from this place on, the end at each place is of the script of the same number
abbrev pub ends_from : ℕ → List Closed → List End
ends_from place [] = []
ends_from place (c ∷ cs) = end_at place c ∷ ends_from (place + 1) cs

abbrev pub ends_of : List Closed → List End
ends_of closed = ends_from 0 closed

-- begun at the map, its commands get the replies that were told, the refused ones too
abbrev pub IsTold : CityMap → List Answered → Type 0
IsTold m told = (w : Snapshot) × Trace (unmarked m) (commands_in told) (replies_in told) w

-- ---- room for its script

-- the most commands of a script, its end among them
abbrev pub max_commands : ℕ
max_commands = 1024

-- only a Commit or an Abort has room left
abbrev pub is_full : Grown → Bool
is_full g = length (unrefused g.told) + 1 == max_commands

abbrev pub is_full_there : Option Grown → Bool
is_full_there None = false
is_full_there (Some g) = is_full g

-- with one more reply
abbrev pub with_reply : Command → Reply → Grown → Grown
with_reply command reply g = record { since = g.since; told = g.told ++ (command, reply) ∷ [] }
