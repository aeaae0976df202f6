-- A script has one result at a map, and scripts run in their order have one list of ends, but for want of memory.
use Rattle.city_model.proofs.Prelude.{true, ◌≡◌, ℕ, ◌+◌, List, [], ◌∷◌, length, false, refl, sym, ◌∙◌, arith}
use Rattle.city_model.proofs.Prelude.{nat_list_cmp_total, Command, Cause, Reply, Committed, Aborted, Refused, End}
use Rattle.city_model.proofs.Prelude.{Outcome, CityMap}
use Rattle.city_model.proofs.Prelude.{IsLeast, Snapshot, unmarked, Effect, effect, IsReply, GoesOn, IsOrphanAt}
use Rattle.city_model.proofs.Prelude.{Scripted}
use Rattle.city_model.proofs.Prelude.{EndsAt, EndsFrom, IsScriptResult, left_by, IsEndOf, IsSerialHistoryFrom}
use Rattle.city_model.proofs.Prelude.{IsSerialHistory}
use Rattle.city_members.proofs.Ids.{same_id_true}
use Rattle.city_model.specs.Meaning.{Commits, IsCommitReply}
use Rattle.city_model.specs.SerialEnds.{is_no_memory, IsSerialFrom}
use Rattle.city_model.proofs.GoingOn.{goes_on_case, answered_no_ending, is_ending}
use Rattle.city_model.proofs.Lawful.{EndsFurther}

-- ---- the least id

pub least_is_unique : (P : List ℕ → Type 0) (a b : List ℕ) → IsLeast P a → IsLeast P b → a ≡ b
least_is_unique P a b h k = grind (arith, same_id_true a b, nat_list_cmp_total.antisymm b a, k.1 a, h.1 b)

-- ---- one command

commit_reply_is_unique : (m : CityMap) (r s : Reply) → IsCommitReply m r → IsCommitReply m s → r ≡ s
commit_reply_is_unique m r s h k = grind (arith, least_is_unique (IsOrphanAt m))

reply_is_unique : (v : Snapshot) (e : Effect) (r s : Reply) → IsReply v e r → IsReply v e s → r ≡ s
reply_is_unique v Commits r s h k = commit_reply_is_unique v.map r s h k
reply_is_unique v e r s h k = h ∙ sym k

end_is_unique : (v : Snapshot) (c : Command) (i : ℕ) (o p : Outcome) → is_no_memory o ≡ false → is_no_memory p ≡ false
    → EndsAt v c i o → EndsAt v c i p → o ≡ p
end_is_unique v c i o p n l h k = search (arith, reply_is_unique)

-- an ending reply of the script isn't one to go on with
reply_goes_on : (v : Snapshot) (c : Command) (q : Reply) (P : Reply → Snapshot → Type 0) → is_ending q ≡ true
    → IsReply v (effect v c) q → GoesOn (effect v c) P → ⊥
reply_goes_on v c q P ending h g = goes_on_case P (effect v c) (λ reply u is f.
    let same : q ≡ reply = rw is at h in grind (arith, answered_no_ending v c reply u is, same, ending)) g

refused_or_goes_on : (v : Snapshot) (e : Effect) (cause : Cause) (r : Reply) (j : ℕ) (cs : List Command)
    (rs : List Reply)
    (p : Outcome) → IsReply v e (Refused cause) → GoesOn e (EndsFurther r j cs rs p) → ⊥
refused_or_goes_on v e cause r j cs rs p h g = grind arith

ends_or_goes_on : (v : Snapshot) (c : Command) (i j : ℕ) (o p : Outcome) (r : Reply) (cs : List Command)
    (rs : List Reply)
    → is_no_memory o ≡ false → EndsAt v c i o → GoesOn (effect v c) (EndsFurther r j cs rs p) → ⊥
ends_or_goes_on v c i j Outcome.Committed p r cs rs n h g = reply_goes_on v c Committed _ refl h.0 g
ends_or_goes_on v c i j Outcome.Aborted p r cs rs n h g = reply_goes_on v c Aborted _ refl h.0 g
ends_or_goes_on v c i j (Outcome.Refused k cause) p r cs rs n h g =
    refused_or_goes_on v (effect v c) cause r j cs rs p h.1.0 g
ends_or_goes_on v c i j o p r cs rs n h g = grind arith

-- ---- one script

further_same : (e : Effect) (i : ℕ) (cs : List Command) (r s : Reply) (rs ss : List Reply) (o p : Outcome)
    → ((u : Snapshot) → EndsFrom u (i + 1) cs rs o → EndsFrom u (i + 1) cs ss p → (rs ≡ ss) × (o ≡ p))
    → GoesOn e (EndsFurther r i cs rs o) → GoesOn e (EndsFurther s i cs ss p) → ((r ∷ rs) ≡ (s ∷ ss)) × (o ≡ p)
further_same e i cs r s rs ss o p f h k = grind arith

result_from : (v : Snapshot) (i : ℕ) (cs : List Command) (rs ss : List Reply) (o p : Outcome) → is_no_memory o ≡ false
    → is_no_memory p ≡ false → EndsFrom v i cs rs o → EndsFrom v i cs ss p → (rs ≡ ss) × (o ≡ p)
result_from v i [] rs ss o p n l h k = absurd h
result_from v i (c ∷ cs) [] [] o p n l h k = (refl, end_is_unique v c i o p n l h k)
result_from v i (c ∷ cs) [] (s ∷ ss) o p n l h k = absurd (ends_or_goes_on v c i i o p s cs ss n h k)
result_from v i (c ∷ cs) (r ∷ rs) [] o p n l h k = absurd (ends_or_goes_on v c i i p o r cs rs l k h)
result_from v i (c ∷ cs) (r ∷ rs) (s ∷ ss) o p n l h k =
    further_same (effect v c) i cs r s rs ss o p (λ u. result_from u (i + 1) cs rs ss o p n l) h k

-- two results of a list of commands at one map are the same, unless there was no memory
pub result_is_unique : (m : CityMap) (cs : List Command) (rs ss : List Reply) (o p : Outcome) → is_no_memory o ≡ false
    → is_no_memory p ≡ false → IsScriptResult m cs rs o → IsScriptResult m cs ss p → (rs ≡ ss) × (o ≡ p)
result_is_unique m cs rs ss o p n l h k = result_from (unmarked m) 0 cs rs ss o p n l h k

-- ---- scripts run in their order

end_of_script_is_unique : (scripts : List Scripted) (m : CityMap) (place : ℕ) (e f : End) → e.script ≡ f.script
    → e.since ≡ f.since → is_no_memory e.outcome ≡ false → is_no_memory f.outcome ≡ false → IsEndOf scripts m place e
    → IsEndOf scripts m place f → e ≡ f
end_of_script_is_unique scripts m place e f script since n l h k = search (arith, result_is_unique)

-- the ends at each place are of one script, with its last attempt begun at one place, and neither is out of memory
abbrev pub AreInOneOrder : List End → List End → Type 0
AreInOneOrder [] [] = Unit {0}
AreInOneOrder [] (f ∷ fs) = ⊥
AreInOneOrder (e ∷ es) [] = ⊥
AreInOneOrder (e ∷ es) (f ∷ fs) = (e.script ≡ f.script) × (e.since ≡ f.since) × (is_no_memory e.outcome ≡ false)
    × (is_no_memory f.outcome ≡ false) × AreInOneOrder es fs

ends_from : (scripts : List Scripted) (m : CityMap) (k : ℕ) (es fs : List End) → AreInOneOrder es fs
    → IsSerialHistoryFrom scripts m k es → IsSerialHistoryFrom scripts m k fs → es ≡ fs
ends_from scripts m k [] [] o h g = refl
ends_from scripts m k (x ∷ es) (y ∷ fs) o h g =
    let first : x ≡ y = end_of_script_is_unique scripts m k x y o.0 o.1 o.2 o.3 h.0 g.0 in
    grind (arith, first, ends_from scripts (left_by scripts m y) (k + 1) es fs o.4)
ends_from scripts m k es fs o h g = absurd o

serial_order : (k : ℕ) (es fs : List End) → length es ≡ length fs → IsSerialFrom k es → IsSerialFrom k fs
    → AreInOneOrder es fs
serial_order k [] [] e s t = tt
serial_order k (x ∷ es) (y ∷ fs) e s t = grind (arith, serial_order (k + 1) es fs (omega arith) s.3 t.3)
serial_order k es fs e s t = absurd (omega arith)

-- two lists of ends of the same scripts, each run in its turn from the same map, are the same, unless there was no
-- memory
pub serial_ends_are_unique : (scripts : List Scripted) (m : CityMap) (es fs : List End) → length es ≡ length scripts
    → length fs ≡ length scripts
    → IsSerialFrom 0 es → IsSerialFrom 0 fs → IsSerialHistory scripts m es → IsSerialHistory scripts m fs → es ≡ fs
serial_ends_are_unique scripts m es fs a b s t h g = search (arith, ends_from, serial_order)
