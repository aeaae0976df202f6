-- A script after its first commands: its result if the next one ends it, and one more reply.
use Rattle.city_model.proofs.Prelude.{is_refusal, ◌≡◌, ℕ, ◌+◌, false, true, List, [], ◌∷◌, ◌++◌, length, Some, ap, sym}
use Rattle.city_model.proofs.Prelude.{◌∙◌, arith, slice_get, if◌then◌else◌, list_any, Command, Commit, Reply, Outcome}
use Rattle.city_model.proofs.Prelude.{Snapshot, EndsAt, EndsFrom, view_at_end, is_end, ends_once, Held, answered}
use Rattle.city_model.proofs.Prelude.{IsTraceUnderLocks, Effect, GoesOn, effect, or_parts, subst}
use Rattle.city_model.specs.Runs.{goes_to}
use Rattle.city_model.specs.Scripts.{is_empty_list}
use Rattle.city_model.proofs.History.{Next}
use Rattle.city_model.proofs.Lawful.{EndsFurther}

-- ---- one command

-- a command with another after it doesn't end its script
pub goes_on : (d : Command) (cs : List Command) (k : ℕ) (c : Command) → ends_once (d ∷ cs) ≡ true
    → slice_get cs k ≡ Some c → is_end d ≡ false
goes_on d cs k c e h = grind arith

pub ends_later : (d : Command) (cs : List Command) → ends_once (d ∷ cs) ≡ true → is_end d ≡ false → ends_once cs ≡ true
ends_later d cs e on = sym (ap (λ b. if b then is_empty_list cs else ends_once cs) on) ∙ e

-- ---- all of them

pub answered_more : (cs : List Command) (rs : List Reply) (c : Command) (r : Reply) → slice_get cs (length rs) ≡ Some c
    → answered cs (rs ++ r ∷ []) ≡ answered cs rs ++ (c, r) ∷ []
answered_more [] rs c r h = absurd (cc)
answered_more (d ∷ cs) [] c r h = grind arith
answered_more (d ∷ cs) (s ∷ rs) c r h = grind (arith, answered_more cs rs c r)

-- the result of a script, from its first commands and the next one, which ends it
ends_more : (held : Held) (e : Effect) (w : Snapshot) (i : ℕ) (cs : List Command) (r : Reply) (rs : List Reply)
    (o : Outcome)
    → is_refusal r ≡ false
    → ((u : Snapshot) → IsTraceUnderLocks held u (answered cs rs) w → EndsFrom u (i + 1) cs rs o)
    → GoesOn e (Next held r (answered cs rs) w) → GoesOn e (EndsFurther r i cs rs o)
ends_more held e w i cs r rs o h f g = grind arith

pub result_from : (held : Held) (v w : Snapshot) (i : ℕ) (cs : List Command) (rs : List Reply) (c : Command)
    (o : Outcome)
    → IsTraceUnderLocks held v (answered cs rs) w → list_any is_refusal rs ≡ false → slice_get cs (length rs) ≡ Some c
    → EndsAt w c (i + length rs) o → EndsFrom v i cs rs o
result_from held v w i [] rs c o f u h k = absurd (cc)
result_from held v w i (d ∷ cs) [] c o f u h k = grind arith
result_from held v w i (d ∷ cs) (r ∷ rs) c o f u h k =
    let parts = or_parts (is_refusal r) (list_any is_refusal rs) u in
    ends_more held (effect v d) w i cs r rs o parts.0
    (λ x g. result_from held x w (i + 1) cs rs c o g parts.1 h (subst (λ n. EndsAt w c n o) (omega arith) k)) f.1

-- a script with Commit as its next command leaves the view after its first commands
at_end_more : (held : Held) (v : Snapshot) (e : Effect) (w : Snapshot) (cs : List Command) (r : Reply) (rs : List Reply)
    → is_refusal r ≡ false
    → ((u : Snapshot) → IsTraceUnderLocks held u (answered cs rs) w → view_at_end u cs ≡ w)
    → GoesOn e (Next held r (answered cs rs) w) → goes_to v e (λ u. view_at_end u cs) ≡ w
at_end_more held v e w cs r rs h f g = grind arith

pub committed_from : (held : Held) (v w : Snapshot) (cs : List Command) (rs : List Reply)
    → IsTraceUnderLocks held v (answered cs rs) w → list_any is_refusal rs ≡ false
    → slice_get cs (length rs) ≡ Some Commit → view_at_end v cs ≡ w
committed_from held v w [] rs f u h = absurd (cc)
committed_from held v w (d ∷ cs) [] f u h = grind arith
committed_from held v w (d ∷ cs) (r ∷ rs) f u h =
    let parts = or_parts (is_refusal r) (list_any is_refusal rs) u in
    at_end_more held v (effect v d) w cs r rs parts.0 (λ x g. committed_from held x w cs rs g parts.1 h) f.1
