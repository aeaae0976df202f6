-- Scripts that are read of a journal and run in their order lead to the city of the commits that were noted.
use Rattle.std.proofs.Common.{◌≡◌, ◌+◌, ◌∙◌, ◌∷◌, ◌++◌, ℕ, zero, suc, List, [], Bool, Some, map, refl, sym, ap, ap₂, subst}
use Rattle.std.proofs.Common.{append_assoc, arith, drop, length, take}
use Rattle.std.proofs.lemmas.List.{length-append, take-append-drop}
use Rattle.std.specs.Prelude.{IfOk, Result, Ok, Err, slice_get}
use Rattle.std.specs.List.{AllByRecursion}
use Rattle.city_model.specs.CityMap.{CityMap, CityValue, object_at}
use Rattle.city_model.specs.Runs.{Scripted, left_by, left_by_found, map_left, model_after}
use Rattle.city_model.specs.declared.end.End.{End}
use Rattle.city_model.specs.declared.end.Outcome.{Outcome}
use Rattle.city_scheduler.specs.InTurn.{AreInTurn}
use Rattle.city_live.specs.Noting.{Noted}
use Rattle.city_live.specs.Replaying.{replayed}
use Rattle.city_journal.specs.Encoded.{AreOfEncoded}
use Rattle.city_journal.specs.Reads.{commit_read}
use Rattle.city_journal.specs.Replays.{IsCommitted, LeadsTo, Replays, scripts_of}
use Rattle.city_journal.specs.Restarts.{AreScriptsOf}
use Rattle.city_journal.specs.declared.read.Commit.{Commit}
use Rattle.city_journal.proofs.ArrayTexts.{AreTexts, read_of_array}

-- the map after these scripts, each committed, one after another
abbrev pub after_each : CityMap → List Scripted → CityMap
after_each m [] = m
after_each m (s ∷ ss) = after_each (map_left m s.1 Outcome.Committed) ss

after_both : (m : CityMap) (ss us : List Scripted) → after_each m (ss ++ us) ≡ after_each (after_each m ss) us
after_both m [] us = refl
after_both m (s ∷ ss) us = after_both (map_left m s.1 Outcome.Committed) ss us

-- ---- one array

at_front : (front : List Scripted) (s : Scripted) (ss : List Scripted)
    → slice_get (front ++ s ∷ ss) (length front) ≡ Some s
at_front [] s ss = refl
at_front (x ∷ front) s ss = at_front front s ss

ends_lead : (front ss all : List Scripted) (ends : List End) (m : CityMap) → all ≡ front ++ ss
    → AreInTurn (length front) ends → length ends ≡ length ss → AllByRecursion IsCommitted ends
    → model_after all m ends ≡ after_each m ss
ends_lead front [] all [] m is turns same committed = refl
ends_lead front [] all (e ∷ es) m is turns same committed = absurd (omega (arith, same))
ends_lead front (s ∷ ss) all [] m is turns same committed = absurd (omega (arith, same))
ends_lead front (s ∷ ss) all (e ∷ es) m is turns same committed =
    let found = ap (slice_get all) turns.0 ∙ ap (λ l. slice_get l (length front)) is ∙ at_front front s ss in
    let first : left_by all m e ≡ map_left m s.1 Outcome.Committed =
    ap₂ (left_by_found m) found committed.0 in
    let next : length front + 1 ≡ length (front ++ s ∷ []) = sym (length-append front (s ∷ [])) in
    ap (λ k. model_after all k es) first
    ∙ ends_lead (front ++ s ∷ []) ss all es (map_left m s.1 Outcome.Committed)
    (is ∙ sym (append_assoc front (s ∷ []) ss)) (subst (λ k. AreInTurn k es) next turns.2) (omega (arith, same))
    committed.1

array_leads : (decimals : Bool) (ss : List Scripted) (ts : List (List ℕ)) (m after : CityMap) → AreTexts decimals ss ts
    → LeadsTo decimals ts m after → after ≡ after_each m ss
array_leads decimals ss ts m after h l =
    l.leads ∙ ends_lead [] l.read l.read l.ends m refl l.in_turn l.each_ended l.committed
    ∙ ap (after_each m) (read_of_array decimals ss ts h l.text l.is_array l.read l.is_read)

-- ---- all arrays

first_texts : (decimals : Bool) (k : ℕ) (ss : List Scripted) (ts : List (List ℕ)) → AreTexts decimals ss ts
    → AreTexts decimals (take k ss) (take k ts)
first_texts decimals zero ss ts h = tt
first_texts decimals (suc k) [] [] h = tt
first_texts decimals (suc k) [] (t ∷ ts) h = absurd h
first_texts decimals (suc k) (s ∷ ss) [] h = absurd h
first_texts decimals (suc k) (s ∷ ss) (t ∷ ts) h = (h.0, h.1, first_texts decimals k ss ts h.2)

later_texts : (decimals : Bool) (k : ℕ) (ss : List Scripted) (ts : List (List ℕ)) → AreTexts decimals ss ts
    → AreTexts decimals (drop k ss) (drop k ts)
later_texts decimals zero ss ts h = h
later_texts decimals (suc k) [] [] h = tt
later_texts decimals (suc k) [] (t ∷ ts) h = absurd h
later_texts decimals (suc k) (s ∷ ss) [] h = absurd h
later_texts decimals (suc k) (s ∷ ss) (t ∷ ts) h = later_texts decimals k ss ts h.2

no_texts : (decimals : Bool) (ss : List Scripted) (ts : List (List ℕ)) → AreTexts decimals ss ts → ts ≡ [] → ss ≡ []
no_texts decimals [] ts h e = refl
no_texts decimals (s ∷ ss) [] h e = absurd h
no_texts decimals (s ∷ ss) (t ∷ ts) h e = absurd (omega (arith, ap length e))

arrays_lead : (decimals : Bool) (ks : List ℕ) (ss : List Scripted) (ts : List (List ℕ)) (m after : CityMap)
    → AreTexts decimals ss ts → Replays decimals ks ts m after → after ≡ after_each m ss
arrays_lead decimals [] ss ts m after h r = r.1 ∙ sym (ap (after_each m) (no_texts decimals ss ts h r.0))
arrays_lead decimals (k ∷ ks) ss ts m after h r =
    arrays_lead decimals ks (drop k ss) (drop k ts) r.0 after (later_texts decimals k ss ts h) r.2
    ∙ ap (λ b. after_each b (drop k ss))
    (array_leads decimals (take k ss) (take k ts) m r.0 (first_texts decimals k ss ts h) r.1)
    ∙ sym (after_both m (take k ss) (drop k ss)) ∙ ap (after_each m) (take-append-drop k ss)

-- ---- commits

-- scripts with these texts, which lead where the commits do
record AreOf (decimals : Bool) (ts : List (List ℕ)) (ns : List Noted) : Type 0 where
  scripts : List Scripted
  texts : AreTexts decimals scripts ts
  lead : (m : CityMap) → after_each m scripts ≡ replayed m ns

commits_are : (decimals : Bool) (commits : List Commit) (ns : List Noted)
    → AreScriptsOf decimals (map commit_read commits) ns → AreOfEncoded decimals ns
    → AreOf decimals (scripts_of commits) ns
commits_are decimals [] ns h numbers =
    record { scripts = []; texts = tt; lead = λ m. ap (replayed m) (sym h) }
commits_are decimals (c ∷ cs) ns h numbers =
    let n = h.0 in
    let s : Scripted = (h.2, n.commands) in
    let known = subst (AreOfEncoded decimals) h.3 numbers in
    let more = commits_are decimals cs h.1 h.6 known.1 in
    record {
      scripts = s ∷ more.scripts;
      texts = (h.4, known.0 h.2, more.texts);
      lead = λ m. more.lead (map_left m n.commands Outcome.Committed) ∙ ap (replayed m) (sym h.3);
    }

pub replay_leads : (decimals : Bool) (ks : List ℕ) (commits : List Commit) (ns : List Noted) (m after : CityMap)
    → AreScriptsOf decimals (map commit_read commits) ns → AreOfEncoded decimals ns
    → Replays decimals ks (scripts_of commits) m after → after ≡ replayed m ns
replay_leads decimals ks commits ns m after h numbers r =
    let are = commits_are decimals commits ns h numbers in
    arrays_lead decimals ks are.scripts (scripts_of commits) m after are.texts r ∙ are.lead m

-- ---- the commits behind a place

behind_place : (decimals : Bool) (k : ℕ) (commits : List Commit) (ns : List Noted)
    → AreScriptsOf decimals (map commit_read commits) ns
    → AreScriptsOf decimals (map commit_read (drop k commits)) (drop k ns)
behind_place decimals zero commits ns h = h
behind_place decimals (suc k) [] ns h = subst (λ l. drop (suc k) l ≡ []) (sym h) refl
behind_place decimals (suc k) (c ∷ cs) ns h =
    subst (λ l. AreScriptsOf decimals (map commit_read (drop k cs)) (drop (suc k) l)) (sym h.3)
    (behind_place decimals k cs h.1 h.6)

encoded_behind : (decimals : Bool) (k : ℕ) (ns : List Noted) → AreOfEncoded decimals ns
    → AreOfEncoded decimals (drop k ns)
encoded_behind decimals zero ns h = h
encoded_behind decimals (suc k) [] h = tt
encoded_behind decimals (suc k) (n ∷ ns) h = encoded_behind decimals k ns h.1

replayed_both : (m : CityMap) (xs ys : List Noted) → replayed m (xs ++ ys) ≡ replayed (replayed m xs) ys
replayed_both m [] ys = refl
replayed_both m (x ∷ xs) ys = replayed_both (map_left m x.commands Outcome.Committed) xs ys

-- the city of a place, and the commits behind it
replayed_behind : (first m after : CityMap) (k : ℕ) (ns : List Noted) → m ≡ replayed first (take k ns)
    → after ≡ replayed m (drop k ns) → after ≡ replayed first ns
replayed_behind first m after k ns at led =
    led ∙ ap (λ x. replayed x (drop k ns)) at ∙ sym (replayed_both first (take k ns) (drop k ns))
    ∙ ap (replayed first) (take-append-drop k ns)

-- the commits behind a place, made again on its city, lead to the city of all of them
pub restart_leads : {E : Type 0} (decimals : Bool) (k : ℕ) (all cs : List Commit) (ns : List Noted)
    (first : CityMap) (city : CityValue) (result : Result CityValue E) → cs ≡ drop k all
    → AreScriptsOf decimals (map commit_read all) ns → AreOfEncoded decimals ns
    → object_at city.1 ≡ replayed first (take k ns)
    → ((ns : List Noted) → AreScriptsOf decimals (map commit_read cs) ns → AreOfEncoded decimals ns
    → IfOk result (λ c. object_at c.1 ≡ replayed (object_at city.1) ns))
    → IfOk result (λ c. object_at c.1 ≡ replayed first ns)
restart_leads decimals k all cs ns first city (Err e) are scripts numbers at leads = tt
restart_leads decimals k all cs ns first city (Ok c) are scripts numbers at leads =
    replayed_behind first (object_at city.1) (object_at c.1) k ns at
    (leads (drop k ns)
    (subst (λ l. AreScriptsOf decimals (map commit_read l) (drop k ns)) (sym are) (behind_place decimals k all ns scripts))
    (encoded_behind decimals k ns numbers))
