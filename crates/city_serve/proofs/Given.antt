-- Facts of two texts from a run on their encoded texts.
use Rattle.city_serve.proofs.Prelude.{◌≡◌, ℕ, List, [], ◌∷◌, Bool, true, false, Option, Some, None, inl, inr, refl, sym}
use Rattle.city_serve.proofs.Prelude.{ap, ap₂, ◌∙◌, subst, arith, option_and_then, AreDecodedLines, End}
use Rattle.std.specs.Prelude.{◌&&◌}
use Rattle.json.specs.Token.{Token}
use Rattle.json.specs.Lex.{tokens}
use Rattle.json.specs.Json.{Json, value, if_last, document}
use Rattle.json.proofs.Nesting.{value-depth}
use Rattle.json.proofs.Printed.Trees.{value-json_tokens}
use Rattle.json.proofs.Unique.Spelling.{value-json_tokens_back}
use Rattle.serde_json.specs.Data.{Data, null, boolean, number, string, array, object, Items, no_items, item, Members}
use Rattle.serde_json.specs.Data.{no_members, member}
use Rattle.serde_json.specs.Read.{read, of_json}
use Rattle.city_doc.specs.declared.fault.ReadFault.{ReadFault}
use Rattle.city_scripts.specs.declared.fault.ScriptFault.{ScriptFault}
use Rattle.city_tokens.specs.tree.Texts.{HasTree}
use Rattle.city_doc.specs.document.Faults.{DocumentFault}
use Rattle.city_tokens.specs.script.Scripts.{ScriptParts}
use Rattle.city_scripts.specs.Faults.{ScriptTextFault, TreeFault, ItemsFault, PartsFault}
use Rattle.city_desk.specs.declared.fault.RunFault.{RunFault}
use Rattle.city_desk.specs.RunFaults.{IsRunFault}
use Rattle.city_serve.specs.ServedTexts.{IsFaultOfRun}
use Rattle.city_desk.specs.TextRuns.{IsRun}
use Rattle.city_serve.specs.Decimals.{IsGiven, IsReadEncoded, IsRefusedText, IsOfWholeNumbers, IsDecimalsRun}
use Rattle.city_serve.specs.Decimals.{IsFaultOfDecimalsRun}
use Rattle.city_serve.specs.internal.WholeTexts.{HasWholeNumbers}
use Rattle.json.specs.Json as json
use Rattle.serde_json.specs.Read as serde
use Rattle.city_members.specs.Integral as model
use Rattle.city_decimals.specs.Whole as decimals

-- a text read in full has a value
abbrev last : Option (Json × List Token) → Option Json
last o = option_and_then (λ p. if_last p.0 p.1) o

of_reading : (ts : List Token) (o : Option (Json × List Token)) (d : Data) → value serde.max_depth ts ≡ o
    → option_and_then of_json (last o) ≡ Some d → (j : Json) × (last (value json.max_depth ts) ≡ Some j)
of_reading ts None d is e = absurd (cc)
of_reading ts (Some (j, [])) d is e =
    let spelt = value-json_tokens_back serde.max_depth ts [] j is in
    let shallow = value-depth serde.max_depth ts [] j is in
    (j, ap last (ap (value json.max_depth) spelt ∙ value-json_tokens j json.max_depth [] (omega (arith, shallow))))
of_reading ts (Some (j, t ∷ r)) d is e = absurd (cc)

has_value : (text : List ℕ) (d : Data) → read text ≡ Some d → (j : Json) × (document text ≡ Some j)
has_value text d e = of_reading (tokens text) (value serde.max_depth (tokens text)) d refl e

-- a text refused as it stands isn't read
refused_unread : (text : List ℕ) (d : Data) → IsRefusedText text → HasTree text d → ⊥
refused_unread text d (inl long) tree = omega (arith, long, tree.0)
refused_unread text d (inr none) tree =
    let found = has_value text d tree.1.1 in
    let bad : None ≡ Some found.0 = sym (none tree.1.0) ∙ found.1 in
    absurd (cc)

given_is_encoded : (text given : List ℕ) (d : Data) → IsGiven text given → HasTree given d → IsReadEncoded text given
given_is_encoded text given d (inl encoded) tree = encoded
given_is_encoded text given d (inr (refused, same)) tree =
    absurd (refused_unread text d refused (subst (λ t. HasTree t d) same tree))

-- ---- no number is refused for its form

-- the numbers of a tree are whole by both definitions, or by neither
mutual
  same_integral : (d : Data) → decimals.is_integral d ≡ model.is_integral d
  same_integral null = refl
  same_integral (boolean b) = refl
  same_integral (number n) = refl
  same_integral (string s) = refl
  same_integral (array ds) = same_items ds
  same_integral (object ms) = same_members ms

  same_items : (ds : Items) → decimals.items_integral ds ≡ model.items_integral ds
  same_items no_items = refl
  same_items (item d ds) = ap₂ (λ a b. a && b) (same_integral d) (same_items ds)

  same_members : (ms : Members) → decimals.members_integral ms ≡ model.members_integral ms
  same_members no_members = refl
  same_members (member k d ms) = ap₂ (λ a b. a && b) (same_integral d) (same_members ms)

pub encoded_whole : (text : List ℕ) → ((d : Data) → read text ≡ Some d → decimals.is_integral d ≡ true)
    → HasWholeNumbers text
encoded_whole text whole d tree = sym (same_integral d) ∙ whole d tree.1.1

pub refused_whole : (text : List ℕ) → IsRefusedText text → HasWholeNumbers text
refused_whole text refused d tree = absurd (refused_unread text d refused tree)

not_false : (b : Bool) → b ≡ true → b ≡ false → ⊥
not_false b is other = absurd (cc)

document_whole : (text : List ℕ) → HasWholeNumbers text → DocumentFault text ReadFault.NotWhole → ⊥
document_whole text whole (inl e) = absurd (cc)
document_whole text whole (inr (inl (e, _))) = absurd (cc)
document_whole text whole (inr (inr (inl (e, _)))) = absurd (cc)
document_whole text whole (inr (inr (inr (d, tree, first)))) = not_false (model.is_integral d) (whole d tree) first.0

no_parts_fault : (ps : List ScriptParts) → PartsFault ps ScriptFault.NotWhole → ⊥
no_parts_fault ps (inl (e, _)) = absurd (cc)
no_parts_fault ps (inr (inl (n, i, e, _, _))) = absurd (cc)
no_parts_fault ps (inr (inr (n, i, e, _, _, _))) = absurd (cc)

no_items_fault : (ds : List Data) → ItemsFault ds ScriptFault.NotWhole → ⊥
no_items_fault ds (inl (n, e, _)) = absurd (cc)
no_items_fault ds (inr (ps, are, fault)) = no_parts_fault ps fault

no_tree_fault : (d : Data) → TreeFault d ScriptFault.NotWhole → ⊥
no_tree_fault d (inl (e, _)) = absurd (cc)
no_tree_fault d (inr (ds, are, fault)) = no_items_fault ds fault

scripts_whole : (text : List ℕ) → HasWholeNumbers text → ScriptTextFault text ScriptFault.NotWhole → ⊥
scripts_whole text whole (inl e) = absurd (cc)
scripts_whole text whole (inr (inl (e, _))) = absurd (cc)
scripts_whole text whole (inr (inr (inl (e, _)))) = absurd (cc)
scripts_whole text whole (inr (inr (inr (inl (e, (d, tree, other)))))) =
    not_false (model.is_integral d) (whole d tree) other
scripts_whole text whole (inr (inr (inr (inr (d, tree, integral, fault))))) = no_tree_fault d fault

whole_fault : (model commands : List ℕ) (workers viewers : ℕ) (f : RunFault) → HasWholeNumbers model
    → HasWholeNumbers commands
    → IsFaultOfRun model commands workers viewers f → IsOfWholeNumbers f
whole_fault model commands workers viewers f first second fault = (
  λ is. document_whole model first (subst (IsRunFault model commands) is fault.0).1,
  λ is. scripts_whole commands second (subst (IsRunFault model commands) is fault.0).2,
)

-- ---- a run on the given texts

module _ (model commands given_model given_commands : List ℕ) (first : IsGiven model given_model)
    (second : IsGiven commands given_commands) where
  pub decimals_run : (ends : List End) (output bytes : List ℕ) → IsRun given_model given_commands ends output
      → AreDecodedLines output bytes
      → IsDecimalsRun model commands ends bytes
  decimals_run ends output bytes ran decoded = record {
    encoded_document = given_model;
    encoded_scripts = given_commands;
    output = output;
    document_is = given_is_encoded model given_model ran.read.admitted.0 first ran.read.admitted.1;
    scripts_are = given_is_encoded commands given_commands ran.read.read_as.0 second ran.read.read_as.1;
    ran = ran;
    decoded = decoded;
  }

  pub decimals_fault : (workers viewers : ℕ) (f : RunFault) → HasWholeNumbers given_model
      → HasWholeNumbers given_commands
      → IsFaultOfRun given_model given_commands workers viewers f
      → IsFaultOfDecimalsRun model commands workers viewers f
  decimals_fault workers viewers f model_whole commands_whole fault = inr (record {
    given_document = given_model;
    given_scripts = given_commands;
    document_is = first;
    scripts_are = second;
    fault = fault;
    whole = whole_fault given_model given_commands workers viewers f model_whole commands_whole fault;
  })
