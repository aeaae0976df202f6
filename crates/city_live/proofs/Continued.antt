-- A session goes on, step by step.
use Rattle.std.specs.Prelude.{◌≡◌, ◌≤◌, ◌++◌, ◌∷◌, ℕ, [], Bool, Option, None, Some, true, refl}
use Rattle.std.proofs.Common.{sym, ◌∙◌, ap, arith}
use Rattle.std.proofs.lemmas.List.{append-nil, append_assoc}
use Rattle.city_model.specs.declared.command.Command.{Command}
use Rattle.city_txn.specs.CoreState.{is_open}
use Rattle.city_session.specs.Live.{SessionState}
use Rattle.city_session.specs.Acting.{IsActed, IsBegun, HasEnded, IsForgotten, IsUnchanged, stamps_after}
use Rattle.city_session.specs.declared.acted.Acted.{Acted}
use Rattle.city_session.specs.declared.acted.Acted.TheVariants as acts
use Rattle.city_live.specs.Continuing.{Continues, GoesOn}

pub same : (s : SessionState) → Continues s s
same s = record { start = refl; more = []; closed = sym (append-nil s.closed); given = omega arith }

pub then : {s t u : SessionState} → Continues s t → Continues t u → Continues s u
then {s} {t} {u} a b = record {
  start = b.start ∙ a.start;
  more = a.more ++ b.more;
  closed = b.closed ∙ (ap (λ l. l ++ b.more) a.closed ∙ append_assoc s.closed a.more b.more);
  given = omega (arith, a.given, b.given);
}

-- with nothing ended
pub still : {s u : SessionState} → u.start ≡ s.start → u.closed ≡ s.closed → s.stamps ≤ u.stamps → Continues s u
still {s} {u} start closed given =
    record { start = start; more = []; closed = closed ∙ sym (append-nil s.closed); given = given }

pub begun : {s u : SessionState} (stamp : ℕ) (kept : Option ℕ) → IsBegun stamp (stamps_after kept s.stamps) s u
    → Continues s u
begun stamp None b = still b.start b.closed (omega (arith, b.given))
begun stamp (Some t) b = still b.start b.closed (omega (arith, b.given))

pub unchanged : {s u : SessionState} → IsUnchanged s u → Continues s u
unchanged h = still h.start h.closed (omega (arith, h.given))

pub ended : {s u : SessionState} (stamp : ℕ) (is_kept : Bool) → HasEnded stamp is_kept s u → Continues s u
ended stamp is_kept h = record {
  start = h.start;
  more = (h.ended, is_kept) ∷ [];
  closed = h.closed;
  given = omega (arith, h.given);
}

pub forgotten : {s u : SessionState} (stamp : ℕ) → IsForgotten stamp s u → Continues s u
forgotten stamp h = still h.start h.closed (omega (arith, h.given))

pub gone_on : {s u : SessionState} (stamp : ℕ) → GoesOn stamp s u → Continues s u
gone_on stamp h = still h.start h.closed (omega (arith, h.given))

still_open : (stamp : ℕ) (command : Command) (a : Acted) (s u : SessionState) → IsActed stamp command a s u
    → is_open u.core stamp ≡ is_open s.core stamp
still_open stamp command (acts.Replied reply) s u h = h.answered.opened
still_open stamp command acts.Waits s u h = h.answered.opened
still_open stamp command acts.Dies s u h = h.answered.opened
still_open stamp command acts.TooMany s u h = ap (λ (v : SessionState). is_open v.core stamp) h.answered.1
still_open stamp command acts.NoMemory s u h = h.answered.opened

pub acted : {s u : SessionState} (stamp : ℕ) (command : Command) (a : Acted) → is_open s.core stamp ≡ true
    → IsActed stamp command a s u → GoesOn stamp s u
acted {s} {u} stamp command a o h = record {
  opened = still_open stamp command a s u h ∙ o;
  start = h.start;
  closed = h.closed;
  given = h.given;
  city = h.city;
}

pub goes_same : (stamp : ℕ) (s : SessionState) → is_open s.core stamp ≡ true → GoesOn stamp s s
goes_same stamp s o = record { opened = o; start = refl; closed = refl; given = refl; city = refl }

pub goes_then : {s t u : SessionState} (stamp : ℕ) → GoesOn stamp s t → GoesOn stamp t u → GoesOn stamp s u
goes_then stamp a b = record {
  opened = b.opened;
  start = b.start ∙ a.start;
  closed = b.closed ∙ a.closed;
  given = b.given ∙ a.given;
  city = b.city ∙ a.city;
}
