-- The texts of scripts that were written each for itself, in one array, are read as these scripts and no others.
use Rattle.std.proofs.Common.{◌≡◌, ◌∙◌, ◌∷◌, ◌++◌, ℕ, List, [], Bool, true, false, map, refl, sym, ap, ap₂, subst}
use Rattle.std.proofs.Common.{append_assoc, drop}
use Rattle.std.proofs.lemmas.List.{append_cancel_right}
use Rattle.std.specs.List.{AllByRecursion}
use Rattle.json.specs.Json.{array}
use Rattle.json.specs.Json as json
use Rattle.json.specs.Print.{print}
use Rattle.json.specs.Tree.{json_tokens}
use Rattle.serde_json.proofs.Texts.{print-outline}
use Rattle.serde_json.specs.Read.{of_json}
use Rattle.serde_json.specs.View.{items_of}
use Rattle.serde_json.specs.Written.{compact_text, items_text, outline}
use Rattle.city_decimals.proofs.CompactTexts.{text_printed}
use Rattle.city_journal.proofs.EncodedAgain.{IsRegained, decoded_each, encoded_together, regained}
use Rattle.city_decimals.proofs.Texts.{one_value}
use Rattle.city_decimals.specs.Decoded.{decoded, decoded_top}
use Rattle.city_decimals.specs.Encoded.{encoded}
use Rattle.city_decimals.specs.internal.Compact.{value_text}
use Rattle.city_decimals.specs.internal.Compact as compact
use Rattle.city_model.specs.Runs.{Scripted}
use Rattle.city_model.specs.declared.object.Point.{Point}
use Rattle.city_journal.proofs.OnlyReading.{AreWritable, plain_alone, together_only}
use Rattle.city_journal.proofs.OnlyReading.{tree_reads_only}
use Rattle.city_tokens.specs.script.Scripts.{IsReadAs, scripts_of}
use Rattle.city_writer.specs.script.Canonical.{numbered_script, script_pool, script_tree, scripts_text}
use Rattle.city_scripts.specs.WrittenScripts.{IsShort}
use Rattle.city_journal.specs.Encoded.{IsOfEncoded}
use Rattle.city_journal.specs.Entries.{IsScriptOf, IsWhole, IsWrittenAlone}
use Rattle.city_journal.specs.Replays.{IsArrayOf, array_text, others_text}

-- each text is that of its script, in a journal
abbrev pub AreTexts : Bool → List Scripted → List (List ℕ) → Type 0
AreTexts decimals [] [] = Unit {0}
AreTexts decimals [] (t ∷ ts) = ⊥
AreTexts decimals (s ∷ ss) [] = ⊥
AreTexts decimals (s ∷ ss) (t ∷ ts) =
    IsScriptOf decimals s t × IsOfEncoded decimals s × AreTexts decimals ss ts

-- ---- as they were written

-- the text is that of the script's tree
inside : (s : Scripted) (t : List ℕ) → IsWhole s t → compact_text (script_tree s) ≡ t
unfolding scripts_text
inside s t h = append_cancel_right (compact_text (script_tree s)) t (93 ∷ []) (ap (drop 1) h.alone)

others_are : (ss : List Scripted) (ts : List (List ℕ)) → AreTexts false ss ts
    → items_text true (items_of (map script_tree ss)) ≡ others_text ts ++ 93 ∷ []
others_are [] [] h = refl
others_are [] (t ∷ ts) h = absurd h
others_are (s ∷ ss) [] h = absurd h
others_are (s ∷ ss) (t ∷ ts) h =
    ap (λ x. 44 ∷ x) (ap₂ (λ x y. x ++ y) (inside s t h.0) (others_are ss ts h.2)
    ∙ sym (append_assoc t (others_text ts) (93 ∷ [])))

array_is : (ss : List Scripted) (ts : List (List ℕ)) → AreTexts false ss ts → scripts_text ss ≡ array_text ts
unfolding scripts_text
array_is [] [] h = refl
array_is [] (t ∷ ts) h = absurd h
array_is (s ∷ ss) [] h = absurd h
array_is (s ∷ ss) (t ∷ ts) h =
    ap (λ x. 91 ∷ x) (ap₂ (λ x y. x ++ y) (inside s t h.0) (others_are ss ts h.2)
    ∙ sym (append_assoc t (others_text ts) (93 ∷ [])))

all_written : (ss : List Scripted) (ts : List (List ℕ)) → AreTexts false ss ts → AllByRecursion IsWrittenAlone ss
all_written [] ts h = tt
all_written (s ∷ ss) [] h = absurd h
all_written (s ∷ ss) (t ∷ ts) h = (h.0.written, all_written ss ts h.2)

all_short : (ss : List Scripted) (ts : List (List ℕ)) → AreTexts false ss ts → AllByRecursion IsShort ss
all_short [] ts h = tt
all_short (s ∷ ss) [] h = absurd h
all_short (s ∷ ss) (t ∷ ts) h = (h.0.short, all_short ss ts h.2)

-- ---- with their numbers as they were written first

-- a script has no transform, so it has no frame
no_frame : (pool : List Point) (s : Scripted)
    → decoded_top (outline (numbered_script pool s)) ≡ decoded (outline (numbered_script pool s))
no_frame [] s = refl
no_frame (p ∷ ps) s = refl

script_regained : (s : Scripted) (whole : List ℕ) → IsWhole s whole → IsOfEncoded true s → IsRegained (script_tree s)
script_regained s whole is h = record {
  numbers = (plain_alone s is.written).numbers;
  back = ap (λ j. of_json (encoded j)) (no_frame (script_pool s) s) ∙ regained (script_tree s) h.0 h.1 h.2;
}

decoded_is : (s : Scripted) (t : List ℕ) → IsScriptOf true s t → t ≡ value_text (decoded_top (outline (script_tree s)))
decoded_is s t h =
    let j = outline (script_tree s) in
    let text : h.0 ≡ print (json_tokens j) = sym (inside s h.0 h.1) ∙ sym (print-outline (script_tree s)) in
    let same = one_value j (plain_alone s h.1.written).numbers json.max_depth h.2.0
    (ap json.document (sym text) ∙ h.2.1.1) in
    h.2.2 ∙ ap (λ i. print (json_tokens (decoded_top i))) same ∙ text_printed (decoded_top j)

decoded_others : (ss : List Scripted) (ts : List (List ℕ)) → AreTexts true ss ts
    → others_text ts ++ 93 ∷ [] ≡ compact.items_text true (decoded_each (map script_tree ss))
decoded_others [] [] h = refl
decoded_others [] (t ∷ ts) h = absurd h
decoded_others (s ∷ ss) [] h = absurd h
decoded_others (s ∷ ss) (t ∷ ts) h =
    ap (λ x. 44 ∷ x) (append_assoc t (others_text ts) (93 ∷ [])
    ∙ ap₂ (λ x y. x ++ y) (decoded_is s t h.0) (decoded_others ss ts h.2))

decoded_array : (ss : List Scripted) (ts : List (List ℕ)) → AreTexts true ss ts
    → array_text ts ≡ value_text (array (decoded_each (map script_tree ss)))
decoded_array [] [] h = refl
decoded_array [] (t ∷ ts) h = absurd h
decoded_array (s ∷ ss) [] h = absurd h
decoded_array (s ∷ ss) (t ∷ ts) h =
    ap (λ x. 91 ∷ x) (append_assoc t (others_text ts) (93 ∷ [])
    ∙ ap₂ (λ x y. x ++ y) (decoded_is s t h.0) (decoded_others ss ts h.2))

all_regained : (ss : List Scripted) (ts : List (List ℕ)) → AreTexts true ss ts
    → AllByRecursion IsRegained (map script_tree ss)
all_regained [] ts h = tt
all_regained (s ∷ ss) [] h = absurd h
all_regained (s ∷ ss) (t ∷ ts) h = (script_regained s h.0.0 h.0.1 h.1, all_regained ss ts h.2)

all_writable : (ss : List Scripted) (ts : List (List ℕ)) → AreTexts true ss ts → AreWritable ss
all_writable [] ts h = (tt, tt)
all_writable (s ∷ ss) [] h = absurd h
all_writable (s ∷ ss) (t ∷ ts) h =
    let more = all_writable ss ts h.2 in ((h.0.1.written.writable.0, more.0), (h.0.1.short, more.1))

-- ---- either way

pub read_of_array : (decimals : Bool) (ss : List Scripted) (ts : List (List ℕ)) → AreTexts decimals ss ts
    → (text : List ℕ) → IsArrayOf decimals ts text → (read : List Scripted) → IsReadAs text read → read ≡ ss
read_of_array false ss ts h text is read r =
    together_only ss read (all_written ss ts h) (all_short ss ts h)
    (subst (λ x. IsReadAs x read) (is ∙ sym (array_is ss ts h)) r)
read_of_array true ss ts h text is read r =
    let ds = map script_tree ss in
    let same = encoded_together ds (all_regained ss ts h) (array_text ts) text
    (decoded_array ss ts h ∙ sym (text_printed (array (decoded_each ds)))) is r.0 r.1.1.1 in
    tree_reads_only ss read (all_writable ss ts h) (ap scripts_of (sym same) ∙ r.3)
