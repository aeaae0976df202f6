-- The text of scripts that were written each for itself is read as them, or not at all.
use Rattle.std.proofs.Common.{◌≡◌, ◌<◌, ◌≤◌, ◌∙◌, ◌∷◌, ◌⊎◌, inl, inr, ℕ, List, [], Option, Some, None, map, length, refl}
use Rattle.std.proofs.Common.{sym, ap, arith}
use Rattle.std.proofs.lemmas.Bool.{cases_lt}
use Rattle.std.specs.List.{AllByRecursion}
use Rattle.json.proofs.Found.{Some_inj, not_found}
use Rattle.serde_json.specs.Written.{outline}
use Rattle.city_model.specs.Runs.{Scripted}
use Rattle.city_scripts.proofs.RoundTrip.{scripts_read_again}
use Rattle.city_scripts.specs.WrittenScripts.{IsShort}
use Rattle.city_tokens.proofs.Laws.{built_many, items_list-of}
use Rattle.city_tokens.specs.script.Scripts.{IsReadAs, max_scripts, scripts_of}
use Rattle.city_writer.specs.script.Canonical.{script_tree, scripts_text, scripts_tree}
use Rattle.city_writer.specs.script.Texts.{IsWritable}
use Rattle.city_journal.specs.Entries.{IsWrittenAlone}
use Rattle.city_journal.proofs.ReadsOnly.{IsPlain, array_back, array_tokens, numbers_of, reads_only}

-- ---- the tree of scripts

-- each can be written, and has no more commands than are read
abbrev pub AreWritable : List Scripted → Type 0
AreWritable ss = AllByRecursion IsWritable ss × AllByRecursion IsShort ss

counted_reads : (ss read : List Scripted) → AreWritable ss → scripts_of (scripts_tree ss) ≡ Some read
    → (max_scripts < length ss) ⊎ (length ss ≤ max_scripts) → read ≡ ss
counted_reads ss read h e (inl many) =
    not_found read (built_many script_tree (scripts_tree ss) ss (length ss)
    (ap Some (sym (items_list-of (map script_tree ss)))) refl many ∙ e)
counted_reads ss read h e (inr few) =
    Some_inj read ss (sym e ∙ scripts_read_again ss h.0 (record { number = few; each = h.1 }))

pub tree_reads_only : (ss read : List Scripted) → AreWritable ss → scripts_of (scripts_tree ss) ≡ Some read → read ≡ ss
tree_reads_only ss read h e = counted_reads ss read h e (cases_lt max_scripts (length ss))

-- ---- their text

pub plain_alone : (s : Scripted) → IsWrittenAlone s → IsPlain (script_tree s)
plain_alone s h =
    let numbers = numbers_of (scripts_text (s ∷ [])) (outline (scripts_tree (s ∷ []))) h.tokens_are in
    record { numbers = numbers.0; back = h.writable.0.reads.same }

all_plain : (ss : List Scripted) → AllByRecursion IsWrittenAlone ss → AllByRecursion IsPlain (map script_tree ss)
all_plain [] h = tt
all_plain (s ∷ ss) h = (plain_alone s h.0, all_plain ss h.1)

pub all_writable : (ss : List Scripted) → AllByRecursion IsWrittenAlone ss → AllByRecursion IsWritable ss
all_writable [] h = tt
all_writable (s ∷ ss) h = (h.0.writable.0, all_writable ss h.1)

-- a text of them all is read as they are, or not at all
pub together_only : (ss read : List Scripted) → AllByRecursion IsWrittenAlone ss → AllByRecursion IsShort ss
    → IsReadAs (scripts_text ss) read → read ≡ ss
unfolding scripts_text
together_only ss read h short r =
    let plain = all_plain ss h in
    let ds = map script_tree ss in
    let same = reads_only (scripts_text ss) (scripts_tree ss) r.0 (array_tokens ds plain) (array_back ds plain) r.1.1.1 in
    tree_reads_only ss read (all_writable ss h, short) (ap scripts_of (sym same) ∙ r.3)
