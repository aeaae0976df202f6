-- The end of a script as it is written: its outcome, the cause, and its replies.
use Rattle.std.specs.Prelude.{ℕ, List, codes, Option, Some, None}
use Rattle.serde_json.specs.Data.{Data, number, unsigned, string, object, Members, no_members, put}
use Rattle.city_model.specs.declared.command.Cause.{Cause}
use Rattle.city_model.specs.declared.command.Cause.TheVariants.{NoObject, TypeFixed, HasChildren, WrongFamily}
use Rattle.city_model.specs.declared.command.Cause.TheVariants.{AlreadyAttached, NotAttached, ShortRing}
use Rattle.city_model.specs.declared.command.Cause.TheVariants.{SameTwice, OpenShell, Orphan, NoMark, Exists}
use Rattle.city_model.specs.declared.command.Cause.TheVariants.{BadAttributes, Unexpected}
use Rattle.city_model.specs.declared.end.End.{End}
use Rattle.city_model.specs.declared.end.Outcome.{Outcome}
use Rattle.city_writer.specs.tree.Lists.{list_data}
use Rattle.city_writer.specs.report.Replies.{reply_data}

abbrev pub count_data : ℕ → Data
count_data n = number (unsigned n)

-- ---- causes

abbrev pub cause_name : Cause → List ℕ
cause_name (NoObject id) = codes "NoObject"
cause_name (TypeFixed id) = codes "TypeFixed"
cause_name (HasChildren id) = codes "HasChildren"
cause_name WrongFamily = codes "WrongFamily"
cause_name AlreadyAttached = codes "AlreadyAttached"
cause_name NotAttached = codes "NotAttached"
cause_name ShortRing = codes "ShortRing"
cause_name SameTwice = codes "SameTwice"
cause_name OpenShell = codes "OpenShell"
cause_name (Orphan id) = codes "Orphan"
cause_name (NoMark name) = codes "NoMark"
cause_name (Exists id) = codes "Exists"
cause_name (BadAttributes id) = codes "BadAttributes"
cause_name (Unexpected id) = codes "Unexpected"

-- the member of a cause that names something: an object by its id, a mark by its name
abbrev pub cause_member : Cause → Option (List ℕ × List ℕ)
cause_member (NoObject id) = Some (codes "id", id)
cause_member (TypeFixed id) = Some (codes "id", id)
cause_member (HasChildren id) = Some (codes "id", id)
cause_member WrongFamily = None
cause_member AlreadyAttached = None
cause_member NotAttached = None
cause_member ShortRing = None
cause_member SameTwice = None
cause_member OpenShell = None
cause_member (Orphan id) = Some (codes "id", id)
cause_member (NoMark name) = Some (codes "mark", name)
cause_member (Exists id) = Some (codes "id", id)
cause_member (BadAttributes id) = Some (codes "id", id)
cause_member (Unexpected id) = Some (codes "id", id)

abbrev pub put_text : Option (List ℕ × List ℕ) → Members → Members
put_text None ms = ms
put_text (Some m) ms = put m.0 (string m.1) ms

-- ---- outcomes

abbrev pub outcome_name : Outcome → List ℕ
outcome_name Outcome.Committed = codes "committed"
outcome_name Outcome.Aborted = codes "aborted"
outcome_name (Outcome.Refused i cause) = codes "refused"
outcome_name (Outcome.NoMemory i) = codes "nomemory"

-- the members with the number of a refused command, the cause, and the member of the cause
abbrev pub put_refusal : ℕ → Cause → Members → Members
put_refusal i cause ms =
    put_text (cause_member cause)
    (put (codes "cause") (string (cause_name cause)) (put (codes "at") (count_data i) ms))

-- the members with the command that ended the script and the cause, if the outcome names them
abbrev pub put_ending : Outcome → Members → Members
put_ending Outcome.Committed ms = ms
put_ending Outcome.Aborted ms = ms
put_ending (Outcome.Refused i cause) ms = put_refusal i cause ms
put_ending (Outcome.NoMemory i) ms = put (codes "at") (count_data i) ms

-- ---- ends

-- the script, and the begin of its last attempt
abbrev pub heading : End → Members
heading e =
    put (codes "since") (count_data e.since)
    (put (codes "script") (count_data e.script) (put (codes "name") (string e.name) no_members))

abbrev pub end_data : End → Data
end_data e =
    object (put_ending e.outcome
    (put (codes "outcome") (string (outcome_name e.outcome))
    (put (codes "replies") (list_data reply_data e.replies) (heading e))))
