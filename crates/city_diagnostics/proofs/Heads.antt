-- The members put last tell the fault.
use Rattle.city_diagnostics.proofs.Prelude.{◌≡◌, ◌∙◌, ℕ, List, Data, Members, object, put, string, number, unsigned}
use Rattle.city_diagnostics.proofs.Prelude.{Some, codes, get, refl, false, same_id, get_member-put}
use Rattle.city_diagnostics.proofs.Prelude.{get_member-put_apart}
use Rattle.city_diagnostics.proofs.Prelude.{ReadFault, TellsFault, Tells, rank_of, name_of}
use Rattle.city_diagnostics.proofs.Prelude.{BadGeometry, BadRing, BadVertex, NotCityJson, NotJson, NotWhole, OpenShell}
use Rattle.city_diagnostics.proofs.Prelude.{OutOfMemory, Relations, TooLong, UnknownType, Unsupported}
use Rattle.city_scripts.specs.declared.fault.ScriptFault.{ScriptFault}
use Rattle.city_scripts.specs.AllFaults.{rank_of as script_rank_of}
use Rattle.city_diagnostics.specs.ScriptLines.{TellsScript, script_name_of}
use Rattle.city_diagnostics.specs.Warnings.{WarnsOf}
use Rattle.city_diagnostics.specs.internal.Heads.{with_head, with_named, with_place, with_script_named}
use Rattle.city_details.specs.Why.{worded, told_message, told_cure}
use Rattle.city_details.proofs.Words.{message_there, cure_there}

-- a name in no fault's head
record IsOther (k : List ℕ) : Type 0 where
  no_text : same_id (codes "text") k ≡ false
  no_number : same_id (codes "number") k ≡ false
  no_fault : same_id (codes "fault") k ≡ false
  no_message : same_id (codes "message") k ≡ false
  no_cure : same_id (codes "cure") k ≡ false

is_member : IsOther (codes "member")
is_member = record { no_text = refl; no_number = refl; no_fault = refl; no_message = refl; no_cure = refl }

is_id : IsOther (codes "id")
is_id = record { no_text = refl; no_number = refl; no_fault = refl; no_message = refl; no_cure = refl }

is_name : IsOther (codes "name")
is_name = record { no_text = refl; no_number = refl; no_fault = refl; no_message = refl; no_cure = refl }

is_script : IsOther (codes "script")
is_script = record { no_text = refl; no_number = refl; no_fault = refl; no_message = refl; no_cure = refl }

is_command : IsOther (codes "command")
is_command = record { no_text = refl; no_number = refl; no_fault = refl; no_message = refl; no_cure = refl }

-- putting in a member of another name keeps the fault told
still_told : (kind name : List ℕ) (n : ℕ) (k : List ℕ) (d : Data) (ms : Members) → IsOther k
    → TellsFault kind n name (object ms) → TellsFault kind n name (object (put k d ms))
still_told kind name n k d ms other told = record {
  text = get_member-put_apart (codes "text") k d ms other.no_text ∙ told.text;
  number = get_member-put_apart (codes "number") k d ms other.no_number ∙ told.number;
  fault = get_member-put_apart (codes "fault") k d ms other.no_fault ∙ told.fault;
  message = (
    told.message.0,
    told.message.1,
    get_member-put_apart (codes "message") k d ms other.no_message ∙ told.message.2,
  );
  cure = (told.cure.0, told.cure.1, get_member-put_apart (codes "cure") k d ms other.no_cure ∙ told.cure.2);
}

headed : (kind name : List ℕ) (n : ℕ) (message cure : List ℕ) (ms : Members)
    → TellsFault kind n name (object (with_head kind n name (worded message cure ms)))
headed kind name n message cure ms = record {
  text = simp (get_member-put, get_member-put_apart);
  number = simp (get_member-put, get_member-put_apart);
  fault = simp get_member-put;
  message = (told_message message, message_there message, simp (get_member-put, get_member-put_apart));
  cure = (told_cure cure, cure_there cure, simp (get_member-put, get_member-put_apart));
}

-- a fault with one detail
one_named : (kind name : List ℕ) (n : ℕ) (message cure : List ℕ) (ms : Members) (k : List ℕ) (d : Data) → IsOther k
    → let head = with_head kind n name (worded message cure ms) in
    TellsFault kind n name (object (put k d head)) × (get k (object (put k d head)) ≡ Some d)
one_named kind name n message cure ms k d other =
    let head = with_head kind n name (worded message cure ms) in
    (still_told kind name n k d head other (headed kind name n message cure ms), get_member-put k d head)

-- a fault with two details
two_named : (kind name : List ℕ) (n : ℕ) (message cure : List ℕ) (ms : Members) (k : List ℕ) (d : Data)
    (l : List ℕ) (e : Data) → IsOther k → IsOther l → same_id k l ≡ false
    → let all = put l e (put k d (with_head kind n name (worded message cure ms))) in
    TellsFault kind n name (object all) × (get k (object all) ≡ Some d) × (get l (object all) ≡ Some e)
two_named kind name n message cure ms k d l e other another apart =
    let one = put k d (with_head kind n name (worded message cure ms)) in
    let first = one_named kind name n message cure ms k d other in (
      still_told kind name n l e one another first.0,
      get_member-put_apart k l e one apart ∙ first.1,
      get_member-put l e one,
    )

-- a fault of a document is told by its head and its details
pub told : (f : ReadFault) (message cure : List ℕ) (ms : Members)
    → Tells f (object (with_named f (with_head (codes "model") (rank_of f) (name_of f) (worded message cure ms))))
told OutOfMemory message cure ms =
    record { fault = headed (codes "model") (codes "OutOfMemory") 0 message cure ms; named = tt }
told TooLong message cure ms =
    record { fault = headed (codes "model") (codes "TooLong") 1 message cure ms; named = tt }
told NotJson message cure ms =
    record { fault = headed (codes "model") (codes "NotJson") 2 message cure ms; named = tt }
told NotWhole message cure ms =
    record { fault = headed (codes "model") (codes "NotWhole") 3 message cure ms; named = tt }
told (NotCityJson member) message cure ms =
    let all = one_named (codes "model") (codes "NotCityJson") 4 message cure ms
    (codes "member") (string member) is_member in
    record { fault = all.0; named = all.1 }
told (UnknownType id) message cure ms =
    let all = one_named (codes "model") (codes "UnknownType") 5 message cure ms
    (codes "id") (string id) is_id in
    record { fault = all.0; named = all.1 }
told (Unsupported id name) message cure ms =
    let all = two_named (codes "model") (codes "Unsupported") 6 message cure ms
    (codes "id") (string id) (codes "name") (string name)
    is_id is_name refl in
    record { fault = all.0; named = (all.1, all.2) }
told (BadGeometry id) message cure ms =
    let all = one_named (codes "model") (codes "BadGeometry") 7 message cure ms
    (codes "id") (string id) is_id in
    record { fault = all.0; named = all.1 }
told (BadVertex id) message cure ms =
    let all = one_named (codes "model") (codes "BadVertex") 8 message cure ms
    (codes "id") (string id) is_id in
    record { fault = all.0; named = all.1 }
told (BadRing id) message cure ms =
    let all = one_named (codes "model") (codes "BadRing") 9 message cure ms
    (codes "id") (string id) is_id in
    record { fault = all.0; named = all.1 }
told (Relations id) message cure ms =
    let all = one_named (codes "model") (codes "Relations") 10 message cure ms
    (codes "id") (string id) is_id in
    record { fault = all.0; named = all.1 }
told (OpenShell id) message cure ms =
    let all = one_named (codes "model") (codes "OpenShell") 11 message cure ms
    (codes "id") (string id) is_id in
    record { fault = all.0; named = all.1 }

-- so is a fault of scripts
pub script_told : (f : ScriptFault) (message cure : List ℕ) (ms : Members)
    → TellsScript f (object (with_script_named f
    (with_head (codes "scripts") (script_rank_of f) (script_name_of f) (worded message cure ms))))
script_told ScriptFault.OutOfMemory message cure ms =
    record { fault = headed (codes "scripts") (codes "OutOfMemory") 0 message cure ms; named = tt }
script_told ScriptFault.TooLong message cure ms =
    record { fault = headed (codes "scripts") (codes "TooLong") 1 message cure ms; named = tt }
script_told ScriptFault.NotJson message cure ms =
    record { fault = headed (codes "scripts") (codes "NotJson") 2 message cure ms; named = tt }
script_told ScriptFault.NotWhole message cure ms =
    record { fault = headed (codes "scripts") (codes "NotWhole") 3 message cure ms; named = tt }
script_told ScriptFault.NotScripts message cure ms =
    record { fault = headed (codes "scripts") (codes "NotScripts") 4 message cure ms; named = tt }
script_told (ScriptFault.BadScript n) message cure ms =
    let all = one_named (codes "scripts") (codes "BadScript") 5 message cure ms
    (codes "script") (number (unsigned n)) is_script in
    record { fault = all.0; named = all.1 }
script_told ScriptFault.TooMany message cure ms =
    record { fault = headed (codes "scripts") (codes "TooMany") 6 message cure ms; named = tt }
script_told (ScriptFault.BadCommand n i) message cure ms =
    let all = two_named (codes "scripts") (codes "BadCommand") 7 message cure ms
    (codes "script") (number (unsigned n)) (codes "command") (number (unsigned i))
    is_script is_command refl in
    record { fault = all.0; named = (all.1, all.2) }
script_told (ScriptFault.BadVertex n i) message cure ms =
    let all = two_named (codes "scripts") (codes "BadVertex") 8 message cure ms
    (codes "script") (number (unsigned n)) (codes "command") (number (unsigned i))
    is_script is_command refl in
    record { fault = all.0; named = (all.1, all.2) }

-- so is a warning
pub warned : (name : List ℕ) (n i : ℕ) (message cure : List ℕ) (ms : Members)
    → let placed = with_place n i (worded message cure ms) in
    WarnsOf name (object (put (codes "warning") (string name)
    (put (codes "text") (string (codes "scripts")) placed)))
warned name n i message cure ms = record {
  text = simp (get_member-put, get_member-put_apart);
  warning = simp get_member-put;
  message = (told_message message, message_there message, simp (get_member-put, get_member-put_apart));
  cure = (told_cure cure, cure_there cure, simp (get_member-put, get_member-put_apart));
}
