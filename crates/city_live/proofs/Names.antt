-- The names of those that watch, each shared under itself.
use Rattle.std.specs.Prelude.{◌≡◌, ◌++◌, ℕ, List, [], ◌∷◌, Bool, true, false, Some, cond, refl}
use Rattle.std.proofs.Common.{◌∙◌, sym, ap, subst}
use Rattle.std.proofs.lemmas.List.{append_assoc}
use Rattle.std.specs.Arc.{arc_value}
use Rattle.std.specs.declared.sync.Arc.{Arc}
use Rattle.std.specs.declared.alloc.Global.{Global}
use Rattle.std.specs.declared.cmp.Ordering.{Ordering}
use Rattle.std.specs.declared.cmp.Ordering.TheVariants.{Less, Equal, Greater}
use Rattle.std.specs.BTreeMap.{insert_entry}
use Rattle.std.specs.Cmp.Lexicographic.{slice_cmp}
use Rattle.std.specs.FinMap.{nat_cmp-IsAntisymmetric, slice_cmp-IsAntisymmetric}
use Rattle.std.specs.Map.{keys_of, remove_entry}
use Rattle.std.specs.Ordering.{nat_cmp, match_ordering}
use Rattle.std.specs.Set.{remove_key}
use Rattle.city_live.specs.declared.answer.Changed.{Changed}
use Rattle.city_live.specs.Ending.{AreTold, IsToldOne}
use Rattle.city_live.specs.Naming.{AreNamed}
use Rattle.city_live.specs.Serving.{Logged}
use Rattle.city_live.specs.Watched.{with_name}
use Rattle.city_live.proofs.Telling.{told_more}

abbrev Named : Type 0
Named = List ℕ × Arc (List ℕ) Global

-- ---- one more

keys_at : (r : Ordering) (name : List ℕ) (v : Arc (List ℕ) Global) (w : Named) (ws others : List Named)
    (names : List (List ℕ)) → keys_of others ≡ names
    → keys_of (match_ordering r ((name, v) ∷ w ∷ ws) ((w.0, v) ∷ ws) (w ∷ others))
    ≡ match_ordering r (name ∷ w.0 ∷ keys_of ws) (w.0 ∷ keys_of ws) (w.0 ∷ names)
keys_at Less name v w ws others names e = refl
keys_at Equal name v w ws others names e = refl
keys_at Greater name v w ws others names e = ap (λ l. w.0 ∷ l) e

pub keys_added : (ws : List Named) (name : List ℕ) (v : Arc (List ℕ) Global)
    → keys_of (insert_entry (slice_cmp nat_cmp) ws name v) ≡ with_name (keys_of ws) name
keys_added [] name v = refl
keys_added (w ∷ ws) name v =
    keys_at (slice_cmp nat_cmp name w.0) name v w ws (insert_entry (slice_cmp nat_cmp) ws name v)
    (with_name (keys_of ws) name) (keys_added ws name v)

named_at : (r : Ordering) (name : List ℕ) (v : Arc (List ℕ) Global) (w : Named) (ws others : List Named)
    → (r ≡ Equal → name ≡ w.0) → arc_value v ≡ name → AreNamed (w ∷ ws) → AreNamed others
    → AreNamed (match_ordering r ((name, v) ∷ w ∷ ws) ((w.0, v) ∷ ws) (w ∷ others))
named_at Less name v w ws others same is all more = (is, all)
named_at Equal name v w ws others same is all more = (is ∙ same refl, all.1)
named_at Greater name v w ws others same is all more = (all.0, more)

pub named_added : (ws : List Named) (name : List ℕ) (v : Arc (List ℕ) Global) → arc_value v ≡ name → AreNamed ws
    → AreNamed (insert_entry (slice_cmp nat_cmp) ws name v)
named_added [] name v is all = (is, tt)
named_added (w ∷ ws) name v is all =
    named_at (slice_cmp nat_cmp name w.0) name v w ws (insert_entry (slice_cmp nat_cmp) ws name v)
    (slice_cmp-IsAntisymmetric nat_cmp-IsAntisymmetric name w.0) is all (named_added ws name v is all.1)

-- ---- one less

keys_without : (b : Bool) (w : Named) (ws others : List Named) (names : List (List ℕ)) → keys_of others ≡ names
    → keys_of (cond b ws (w ∷ others)) ≡ cond b (keys_of ws) (w.0 ∷ names)
keys_without true w ws others names e = refl
keys_without false w ws others names e = ap (λ l. w.0 ∷ l) e

pub keys_removed : (test : List ℕ → Bool) (ws : List Named)
    → keys_of (remove_entry test ws) ≡ remove_key test (keys_of ws)
keys_removed test [] = refl
keys_removed test (w ∷ ws) =
    keys_without (test w.0) w ws (remove_entry test ws) (remove_key test (keys_of ws)) (keys_removed test ws)

named_without : (b : Bool) (w : Named) (ws others : List Named) → AreNamed (w ∷ ws) → AreNamed others
    → AreNamed (cond b ws (w ∷ others))
named_without true w ws others all more = all.1
named_without false w ws others all more = (all.0, more)

pub named_removed : (test : List ℕ → Bool) (ws : List Named) → AreNamed ws → AreNamed (remove_entry test ws)
named_removed test [] all = tt
named_removed test (w ∷ ws) all =
    named_without (test w.0) w ws (remove_entry test ws) all (named_removed test ws all.1)

-- ---- one after another is told

abbrev pub IsToldSoFar : Arc Changed Global → Logged → Logged → List Named → List (List ℕ) → Type 0
IsToldSoFar changed l m left all =
    (done : List (List ℕ)) × AreTold done (Some changed) l m × (done ++ keys_of left ≡ all) × AreNamed left

pub told_step : {changed : Arc Changed Global} {l m k : Logged} {left others : List Named} {all : List (List ℕ)}
    {item : Named} → left ≡ item ∷ others → IsToldSoFar changed l m left all
    → IsToldOne (arc_value item.1) (arc_value changed) m k → IsToldSoFar changed l k others all
told_step {changed} {l} {m} {k} {left} {others} {all} {item} is t one =
    let named : AreNamed (item ∷ others) = subst AreNamed is t.3 in (
      t.0 ++ item.0 ∷ [],
      told_more item.0 t.1 (subst (λ n. IsToldOne n (arc_value changed) m k) named.0 one),
      append_assoc t.0 (item.0 ∷ []) (keys_of others) ∙ (ap (λ x. t.0 ++ keys_of x) (sym is) ∙ t.2),
      named.1,
    )
