-- Lines, taken apart from both ends.
use Rattle.std.proofs.Common.{◌≡◌, ◌∙◌, ℕ, List, [], ◌∷◌, ◌++◌, Bool, Option, sym, ap}
use Rattle.std.proofs.Common.{append_assoc, codes, decimal, length, take, drop, true, false, None, Some, IfSome, IsSomeAnd}
use Rattle.std.proofs.Common.{◌==◌}
use Rattle.std.proofs.lemmas.List.{take-append-drop}
use Rattle.json.specs.Print.{quoted}
use Rattle.city_journal.specs.LineTexts.{Begins, before_sum, behind_sum, bool_text, key_member, script_member, version_end}

-- ---- the version at the end

abbrev pub before_colon : List ℕ → List ℕ
before_colon front = front ++ codes ",\"version\""

pub version_split : (bytes front : List ℕ) (v : ℕ) → bytes ≡ front ++ version_end v
    → bytes ≡ (before_colon front ++ 58 ∷ decimal v) ++ 125 ∷ []
version_split bytes front v e =
    e ∙ sym (append_assoc (before_colon front) (58 ∷ decimal v) (125 ∷ [])
    ∙ append_assoc front (codes ",\"version\"") (58 ∷ (decimal v ++ 125 ∷ [])))

pub colon_last : (rest front : List ℕ) → rest ≡ before_colon front ++ 58 ∷ [] → rest ≡ front ++ codes ",\"version\":"
colon_last rest front e = e ∙ append_assoc front (codes ",\"version\"") (58 ∷ [])

pub version_joined : (bytes whole rest front : List ℕ) (v : ℕ) → bytes ≡ whole ++ 125 ∷ [] → whole ≡ rest ++ decimal v
    → rest ≡ front ++ codes ",\"version\":" → bytes ≡ front ++ version_end v
version_joined bytes whole rest front v e f g =
    e ∙ ap (λ w. w ++ 125 ∷ []) (f ∙ ap (λ r. r ++ decimal v) g)
    ∙ append_assoc (front ++ codes ",\"version\":") (decimal v) (125 ∷ [])
    ∙ append_assoc front (codes ",\"version\":") (decimal v ++ 125 ∷ [])

-- ---- the sum before the time

abbrev pub before_time : List ℕ → List ℕ → List ℕ
before_time front digits = (front ++ digits) ++ codes "\",\"time\""

pub sum_split : (line front digits : List ℕ) (t v : ℕ) → line ≡ front ++ (digits ++ behind_sum t v)
    → line ≡ (before_time front digits ++ 58 ∷ decimal t) ++ version_end v
sum_split line front digits t v e =
    e ∙ sym (append_assoc (before_time front digits) (58 ∷ decimal t) (version_end v)
    ∙ append_assoc (front ++ digits) (codes "\",\"time\"") (58 ∷ (decimal t ++ version_end v))
    ∙ append_assoc front digits (behind_sum t v))

pub time_last : (rest front digits : List ℕ) → rest ≡ before_time front digits ++ 58 ∷ []
    → rest ≡ (front ++ digits) ++ codes "\",\"time\":"
time_last rest front digits e = e ∙ append_assoc (front ++ digits) (codes "\",\"time\"") (58 ∷ [])

-- ---- what stands before the sum

abbrev pub behind_by : Option (List ℕ) → List ℕ → List ℕ
behind_by key script = key_member key ++ script_member script

pub before_mark : (bytes by : List ℕ) (key : Option (List ℕ)) (script : List ℕ) → bytes ≡ before_sum by key script
    → bytes ≡ (codes "{\"by\":" ++ (quoted by ++ behind_by key script)) ++ codes ",\"sum\":\""
before_mark bytes by key script e =
    let mark = codes ",\"sum\":\"" in
    e ∙ sym (append_assoc (codes "{\"by\":") (quoted by ++ behind_by key script) mark
    ∙ ap (λ t. codes "{\"by\":" ++ t) (append_assoc (quoted by) (behind_by key script) mark
    ∙ ap (λ t. quoted by ++ t) (append_assoc (key_member key) (script_member script) mark)))

-- ---- what follows the sum of a first line, and the key of a key's

abbrev pub behind_base : Bool → ℕ → List ℕ
behind_base d v = codes "\",\"cityed\":1,\"decimals\":" ++ (bool_text d ++ version_end v)

abbrev pub behind_key : List ℕ → ℕ → List ℕ
behind_key name v = codes ",\"name\":" ++ (quoted name ++ version_end v)

pub not_empty : (rest : List ℕ) (r : Bool) → rest ≡ [] → r ≡ (length rest == 0) → r ≡ false → ⊥
not_empty rest r e is other = let t : r ≡ true = is ∙ ap (λ l. length l == 0) e in cc

-- ---- what is so of what is there

pub also_some : {X : Type 0} (o : Option X) (P Q : X → Type 0) → ((x : X) → P x → Q x) → IfSome o P → IfSome o Q
also_some None P Q f h = tt
also_some (Some x) P Q f h = f x h

pub also_some_and : {X : Type 0} (o : Option X) (P Q : X → Type 0) → ((x : X) → P x → Q x) → IsSomeAnd o P → IsSomeAnd o Q
also_some_and None P Q f h = h
also_some_and (Some x) P Q f h = f x h

pub begins_whole : (prefix line : List ℕ) (at : ℕ) → Begins prefix (take at line) → Begins prefix line
begins_whole prefix line at h = (
  h.0 ++ drop at line,
  sym (take-append-drop at line) ∙ ap (λ t. t ++ drop at line) h.1 ∙ append_assoc prefix h.0 (drop at line),
)
