-- What a journal has noted leads to the city of its session.
use Rattle.std.specs.Prelude.{◌≡◌, ◌++◌, ◌∷◌, ℕ, List, [], Option, None, Some, true, false, length, option_map, is_some}
use Rattle.std.specs.Prelude.{refl, slice_get, Result, Ok, Err, OnOk}
use Rattle.std.proofs.Common.{sym, ◌∙◌, ap, subst, arith, inl, inr}
use Rattle.std.proofs.lemmas.Bool.{false≢true}
use Rattle.std.proofs.lemmas.List.{append-nil, append_assoc}
use Rattle.city_model.specs.declared.command.Command.{Command}
use Rattle.city_model.specs.declared.command.Command.TheVariants.{Commit}
use Rattle.city_model.specs.declared.command.Reply.{Reply}
use Rattle.city_model.specs.declared.end.Outcome.{Outcome}
use Rattle.city_model.specs.CityMap.{CityMap}
use Rattle.city_model.specs.Marks.{Snapshot, unmarked}
use Rattle.city_model.specs.Meaning.{Effect, effect, GoesOn, is_refusal}
use Rattle.city_model.specs.Runs.{Scripted, map_left, view_at_end, goes_to}
use Rattle.city_model.specs.Standing.{Held, Answered, IsTraceUnderLocks}
use Rattle.city_model.proofs.History.{Next}
use Rattle.city_txn.specs.CoreState.{committed, view, snapshot, held}
use Rattle.city_session.specs.Grown.{Grown}
use Rattle.city_session.specs.Live.{SessionState, IsLive, grown_at}
use Rattle.city_session.proofs.AsScripts.{leads_to}
use Rattle.city_live.specs.declared.ghosts.event.Event.{Event}
use Rattle.city_live.specs.declared.task.Task.{Task}
use Rattle.city_live.specs.declared.task.Task.TheVariants as task
use Rattle.city_live.specs.Heard.{answered_by}
use Rattle.city_live.specs.SoFar.{AreHeard, IsSoFar, IsKept, AreSoFar, ArePlain}
use Rattle.city_live.specs.Noting.{Noted, firsts}
use Rattle.city_live.specs.Replaying.{replayed, Notes, NotesCommands, NotesWork, NotesCommit}
use Rattle.city_live.specs.Works.{Working, work_at, IsAtCommit, MayCommit, commands_as, commands_noted}
use Rattle.city_live.proofs.Worked.{some_same, told_plainly}

-- ---- more and more is noted

nothing_more : (o : Option (List Noted)) → option_map (λ l. l ++ []) o ≡ o
nothing_more None = refl
nothing_more (Some l) = ap Some (append-nil l)

both_more : (o : Option (List Noted)) (xs ys : List Noted)
    → option_map (λ l. l ++ ys) (option_map (λ l. l ++ xs) o) ≡ option_map (λ l. l ++ (xs ++ ys)) o
both_more None xs ys = refl
both_more (Some l) xs ys = ap Some (append_assoc l xs ys)

still_some : (o : Option (List Noted)) (xs : List Noted) → is_some o ≡ true
    → is_some (option_map (λ l. l ++ xs) o) ≡ true
still_some None xs h = h
still_some (Some l) xs h = refl

replayed_both : (m : CityMap) (xs ys : List Noted) → replayed m (xs ++ ys) ≡ replayed (replayed m xs) ys
replayed_both m [] ys = refl
replayed_both m (x ∷ xs) ys = replayed_both (map_left m x.commands Outcome.Committed) xs ys

-- nothing is noted, and the city is the same
pub stays : {o : Option (List Noted)} {m n : CityMap} → n ≡ m → Notes o o m n
stays {o} e = record { more = []; noted = sym (nothing_more o); leads = λ h. e }

-- the same, where it is known by an equation
pub stays_so : {o p : Option (List Noted)} {m n : CityMap} → p ≡ o → n ≡ m → Notes o p m n
stays_so {o} {p} {m} {n} h e = subst (λ x. Notes o x m n) (sym h) (stays e)

pub notes_then : {a b c : Option (List Noted)} {m n k : CityMap} → Notes a b m n → Notes b c n k → Notes a c m k
notes_then {a} {m = m} x y = record {
  more = x.more ++ y.more;
  noted = y.noted ∙ (ap (option_map (λ l. l ++ y.more)) x.noted ∙ both_more a x.more y.more);
  leads = λ h. y.leads (ap is_some x.noted ∙ still_some a x.more h)
      ∙ (ap (λ q. replayed q y.more) (x.leads h) ∙ sym (replayed_both m x.more y.more));
}

-- ---- a commit

some_list : (a b : List Command) → Some a ≡ Some b → a ≡ b
some_list a b e = cc

further : (hs : Held) (v : Snapshot) (e : Effect) (w : Snapshot) (cs : List Command) (r : Reply) (ds : List Answered)
    → is_refusal r ≡ false → ((u : Snapshot) → IsTraceUnderLocks hs u ds w → view_at_end u cs ≡ w)
    → GoesOn e (Next hs r ds w) → goes_to v e (λ u. view_at_end u cs) ≡ w
further hs v e w cs r ds h f g = grind arith

at_commit : (v : Snapshot) (c : Command) (cs : List Command) → c ≡ Commit → view_at_end v (c ∷ cs) ≡ v
at_commit v c cs e = subst (λ x. view_at_end v (x ∷ cs) ≡ v) (sym e) refl

-- a script's commands before its commit lead to what it sees then
script_leads : (hs : Held) (v : Snapshot) (cs : List Command) (rs : List Reply) (w : Snapshot) → ArePlain rs
    → slice_get cs (length rs) ≡ Some Commit → IsTraceUnderLocks hs v (answered_by cs rs) w → view_at_end v cs ≡ w
script_leads hs v [] rs w plain next h = absurd (cc)
script_leads hs v (c ∷ cs) [] w plain next h = at_commit v c cs (some_same c Commit next) ∙ sym h
script_leads hs v (c ∷ cs) (r ∷ rs) w plain next h =
    further hs v (effect v c) w cs r (answered_by cs rs) plain.0
    (λ u t. script_leads hs u cs rs w plain.1 next t) h.1

-- what is noted of a work leads to what it sees at its commit
noted_leads : (hs : Held) (v w : Snapshot) (t : Task) (kept : Option (List Scripted)) (g : Grown) (cs : List Command)
    → IsAtCommit t → IsSoFar t (Some g) → IsKept t kept (Some g) → IsTraceUnderLocks hs v g.told w
    → commands_as t kept ≡ Some cs → view_at_end v cs ≡ w
noted_leads hs v w (task.Script s rs None) kept g cs at far is h e =
    ap (view_at_end v) (sym (some_list s.1 cs e))
    ∙ script_leads hs v s.1 rs w far.1 at
    (subst (λ l. IsTraceUnderLocks hs v l w) (far.0 ∙ told_plainly s.1 rs) h)
noted_leads hs v w (task.Script s rs (Some cause)) kept g cs at far is h e = absurd at
noted_leads hs v w (task.Single asked) None g cs at far is h e = absurd (cc)
noted_leads hs v w (task.Single asked) (Some ks) g cs at far is h e =
    ap (view_at_end v) (sym (some_list (firsts ks ++ Commit ∷ []) cs e))
    ∙ (ap (λ l. view_at_end v (l ++ Commit ∷ [])) is ∙ leads_to hs v g.told w h)

module _ {s : SessionState} {works : List (ℕ × Working)} {es : List Event} (r : AreHeard s works es) (l : IsLive s)
    (stamp : ℕ) (w : Working) (there : work_at works stamp ≡ Some w) (may : MayCommit (work_at works stamp)) where
  at_end : (g : Grown) → grown_at s.growing stamp ≡ Some g → (cs : List Command) → commands_noted w ≡ Some cs
      → view s.core stamp ≡ map_left (committed s.core) cs Outcome.Committed
  at_end g is cs e =
      let far : AreSoFar (Some w) (Some g) =
      subst (λ o. AreSoFar (Some w) o) is (subst (λ o. AreSoFar o (grown_at s.growing stamp)) there (r.so_far stamp)) in
      ap (λ (x : Snapshot). x.map) (sym (noted_leads (held s.core stamp) (unmarked (committed s.core))
      (snapshot s.core stamp) w.task w.kept g cs (subst MayCommit there may) far.0 far.1
      (l.standing stamp g is).stands e))

  -- its commit is noted, and then made
  commit_noted : (u : SessionState) (before after : Option (List Noted))
      → (g : Grown) → grown_at s.growing stamp ≡ Some g → committed u.core ≡ view s.core stamp
      → NotesWork (work_at works stamp) before after → Notes before after (committed s.core) (committed u.core)
  commit_noted u before after g is made noted =
      let one : NotesCommands (commands_noted w) before after = subst (λ o. NotesWork o before after) there noted in
      record {
        more = one.more;
        noted = one.noted;
        leads = λ h.
            let o = one.one h in
            made ∙ (at_end g is o.0.commands o.2 ∙ ap (replayed (committed s.core)) (sym o.1));
      }

  -- the same, or it wrote nothing
  pub commit_notes : (u : SessionState) (version next : ℕ) (before after : Option (List Noted))
      → (g : Grown) → grown_at s.growing stamp ≡ Some g → committed u.core ≡ view s.core stamp
      → (next ≡ version → view s.core stamp ≡ committed s.core)
      → NotesCommit version next (work_at works stamp) before after
      → Notes before after (committed s.core) (committed u.core)
  commit_notes u version next before after g is made counted (inl x) =
      subst (λ o. Notes before o (committed s.core) (committed u.core)) (sym x.1) (stays (made ∙ counted x.0))
  commit_notes u version next before after g is made counted (inr x) = commit_noted u before after g is made x

-- one entry is appended
pub one_noted : {A E : Type 0} (r : Result A E) (cs : Option (List Command)) (n : Noted)
    (before after : Option (List Noted)) → cs ≡ Some n.commands
    → OnOk r (after ≡ option_map (λ l. l ++ n ∷ []) before) → OnOk r (NotesCommands cs before after)
one_noted (Ok a) cs n before after e h = record { more = n ∷ []; noted = h; one = λ t. (n, refl, e) }
one_noted (Err x) cs n before after e h = h

pub commit_or_none : {A E : Type 0} (r : Result A E) (version next : ℕ) (o : Option Working)
    (before after : Option (List Noted)) → OnOk r (NotesWork o before after)
    → OnOk r (NotesCommit version next o before after)
commit_or_none (Ok a) version next o before after h = inr h
commit_or_none (Err x) version next o before after h = h

-- a journal that isn't kept isn't seen
pub unkept : (o : Option Working) (before : Option (List Noted)) → before ≡ None → NotesWork o before before
unkept None before e = tt
unkept (Some w) before e = record {
  more = [];
  noted = sym (nothing_more before);
  one = λ h. absurd (false≢true (ap is_some (sym e) ∙ h));
}
