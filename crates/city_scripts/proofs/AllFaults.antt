-- The list of all faults of a text of scripts: of one fault, of the faults of its items, and of a readable text.
use Rattle.city_scripts.proofs.Prelude.{◌≡◌, inl, inr, ℕ, List, ◌∷◌, true, false, true≢false, Option, Some, None, []}
use Rattle.city_scripts.proofs.Prelude.{refl, sym, subst, ◌∙◌, is_some, Data, Scripted, is_integral}
use Rattle.std.specs.Prelude.{IfSome}
use Rattle.city_scripts.specs.declared.fault.ScriptFault.{ScriptFault}
use Rattle.city_scripts.specs.declared.fault.ScriptFault.TheVariants.{TooLong, NotJson, NotWhole, NotScripts}
use Rattle.city_scripts.specs.AllFaults.{StandsAt, IsFaultOfTree, IsFaultOf, AreThose, AreFaultsOf}
use Rattle.city_tokens.specs.script.Scripts.{IsReadAs}
use Rattle.city_tokens.specs.tree.Lists.{array_of}
use Rattle.city_tokens.specs.tree.Texts.{IsTooLong, IsNoJson, HasTree, HasOtherNumber}
use Rattle.city_doc.proofs.FaultLists.{those_alike, one_alone, none_there, those_of_text, long_alone, unread_alone}
use Rattle.city_scripts.proofs.FaultlessScripts.{none_of_scripts, scripts_array}

-- ---- from the items to the text

pub in_tree : (d : Data) (ds : List Data) → is_integral d ≡ true → array_of d ≡ Some ds → (f : ScriptFault)
    → StandsAt ds f → IsFaultOfTree d f
in_tree d ds integral is NotWhole h = absurd h
in_tree d ds integral is NotScripts h = absurd h
in_tree d ds integral is f h = (integral, (ds, is, h))

pub at_items : (d : Data) (ds : List Data) → is_integral d ≡ true → array_of d ≡ Some ds → (f : ScriptFault)
    → IsFaultOfTree d f → StandsAt ds f
at_items d ds integral is NotWhole h = absurd (true≢false (sym integral ∙ h))
at_items d ds integral is NotScripts h = absurd (let both = sym is ∙ h.1 in let none : ⊥ = cc in none)
at_items d ds integral is f h =
    let same : (h.1).0 ≡ ds = (let both = sym (h.1).1 ∙ is in cc) in
    subst (λ ds. StandsAt ds f) same (h.1).2

pub those_of_items : (d : Data) (ds : List Data) (fs : List ScriptFault) → is_integral d ≡ true → array_of d ≡ Some ds
    → AreThose (StandsAt ds) fs → AreThose (IsFaultOfTree d) fs
those_of_items d ds fs integral is h =
    those_alike (StandsAt ds) (IsFaultOfTree d) fs (in_tree d ds integral is) (at_items d ds integral is) h

pub only_other : (d : Data) → is_integral d ≡ true → array_of d ≡ None → (f : ScriptFault) → IsFaultOfTree d f
    → f ≡ NotScripts
only_other d integral none NotWhole h = absurd (true≢false (sym integral ∙ h))
only_other d integral none NotScripts h = refl
only_other d integral none f h = absurd (let both = sym none ∙ (h.1).1 in let none : ⊥ = cc in none)

pub other_alone : (d : Data) → is_integral d ≡ true → array_of d ≡ None → AreThose (IsFaultOfTree d) (NotScripts ∷ [])
other_alone d integral none =
    one_alone (IsFaultOfTree d) NotScripts (integral, none) (only_other d integral none)

pub of_text : (text : List ℕ) (d : Data) (fs : List ScriptFault) → HasTree text d → AreThose (IsFaultOfTree d) fs
    → AreFaultsOf text fs
of_text text d fs tree h = those_of_text TooLong NotJson IsFaultOfTree text d fs tree h

pub too_long_alone : (text : List ℕ) → IsTooLong text → AreFaultsOf text (TooLong ∷ [])
too_long_alone text long =
    one_alone (IsFaultOf text) TooLong (inl (refl, long)) (long_alone TooLong NotJson IsFaultOfTree text long)

pub no_json_alone : (text : List ℕ) → IsNoJson text → AreFaultsOf text (NotJson ∷ [])
no_json_alone text none = one_alone (IsFaultOf text) NotJson (inr (inl (refl, none)))
    (unread_alone TooLong NotJson IsFaultOfTree text none)

pub only_fraction : (d : Data) → is_integral d ≡ false → (f : ScriptFault) → IsFaultOfTree d f → f ≡ NotWhole
only_fraction d other NotWhole h = refl
only_fraction d other NotScripts h = absurd (true≢false (sym h.0 ∙ other))
only_fraction d other f h = absurd (true≢false (sym h.0 ∙ other))

pub not_whole_alone : (text : List ℕ) → HasOtherNumber text → AreFaultsOf text (NotWhole ∷ [])
not_whole_alone text h =
    of_text text h.0 _ h.1 (one_alone (IsFaultOfTree h.0) NotWhole h.2 (only_fraction h.0 h.2))

-- a text of scripts has none
none_of_read : (text : List ℕ) (ss : List Scripted) → IsReadAs text ss → AreFaultsOf text []
none_of_read text ss (d, tree, integral, h) =
    of_text text d [] tree (none_there (IsFaultOfTree d) (by (array_of d) refl))
  where
    by : (o : Option (List Data)) → array_of d ≡ o → (f : ScriptFault) → IsFaultOfTree d f → ⊥
    by None none f k = scripts_array d ss h none
    by (Some ds) is f k = none_of_scripts d ds ss h is f (at_items d ds integral is f k)

pub none_of_some : (text : List ℕ) (o : Option (List Scripted)) → IfSome o (λ ss. IsReadAs text ss)
    → is_some o ≡ true → AreFaultsOf text []
none_of_some text None h some = absurd (true≢false (sym some))
none_of_some text (Some ss) h some = none_of_read text ss h
