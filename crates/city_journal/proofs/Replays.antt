-- Commits made again, one more at a time.
use Rattle.std.proofs.Common.{◌≡◌, ◌+◌, ◌-◌, ◌<◌, ◌≤◌, ◌∙◌, ◌∷◌, ◌++◌, ℕ, List, [], sym, ap, subst, length, drop, take, Bool}
use Rattle.std.proofs.Common.{arith, take_all}
use Rattle.std.proofs.lemmas.List.{length-drop}
use Rattle.std.proofs.Common.{append_assoc, get_or}
use Rattle.std.proofs.lemmas.List.{drop_more, take-map, drop-map}
use Rattle.std.specs.List.{AllByRecursion}
use Rattle.city_model.specs.CityMap.{CityMap}
use Rattle.city_journal.specs.declared.read.Commit.{Commit}
use Rattle.city_journal.proofs.Lines.{drop_twice}
use Rattle.city_journal.specs.Replays.{LeadsTo, Replays, others_text, scripts_of}

pub item_first : {X : Type 0} (xs : List X) (i : ℕ) (x : X) → i < length xs → x ≡ get_or xs i x
    → drop i xs ≡ x ∷ drop (i + 1) xs
item_first xs i x lt at = drop_more xs i x lt ∙ ap (λ y. y ∷ drop (i + 1) xs) (sym at)

pub next_script : (commits : List Commit) (i : ℕ) (x : Commit) (start text : List ℕ) → i < length commits
    → x ≡ get_or commits i x → start ≡ text ++ others_text (scripts_of (drop i commits))
    → start ≡ ((text ++ 44 ∷ []) ++ x.script.now) ++ others_text (scripts_of (drop (i + 1) commits))
next_script commits i x start text lt at before =
    let others = others_text (scripts_of (drop (i + 1) commits)) in
    before ∙ ap (λ cs. text ++ others_text (scripts_of cs)) (item_first commits i x lt at)
    ∙ sym (append_assoc (text ++ 44 ∷ []) x.script.now others ∙ append_assoc text (44 ∷ []) (x.script.now ++ others))

pub next_of_all : {X : Type 0} (P : X → Type 0) (xs : List X) (i : ℕ) (x : X) → i < length xs → x ≡ get_or xs i x → P x
    → (AllByRecursion P (drop i xs) → AllByRecursion P xs) → AllByRecursion P (drop (i + 1) xs) → AllByRecursion P xs
next_of_all P xs i x lt at one before later = before (rw (item_first xs i x lt at) (one, later))

pub one_array_more : (decimals : Bool) (n : ℕ) (commits : List Commit) (m between : CityMap)
    → LeadsTo decimals (scripts_of (take n commits)) m between → (ns : List ℕ) (after : CityMap)
    → Replays decimals ns (scripts_of (drop n commits)) between after
    → Replays decimals (n ∷ ns) (scripts_of commits) m after
one_array_more decimals n commits m between leads ns after rest = (
  between,
  rw (take-map (λ e. e.script.now) n commits) leads,
  rw (drop-map (λ e. e.script.now) n commits) rest,
)

pub one_slice_more : (decimals : Bool) (i n : ℕ) (commits : List Commit) (m between : CityMap)
    → LeadsTo decimals (scripts_of (take n (take (length commits - i) (drop i commits)))) m between
    → (ns : List ℕ) (after : CityMap) → Replays decimals ns (scripts_of (drop (i + n) commits)) between after
    → Replays decimals (n ∷ ns) (scripts_of (drop i commits)) m after
one_slice_more decimals i n commits m between leads ns after rest =
    let fits : length (drop i commits) ≤ length commits - i = search (arith, length-drop) in
    one_array_more decimals n (drop i commits) m between
    (subst (λ xs. LeadsTo decimals (scripts_of (take n xs)) m between) (take_all (length commits - i) (drop i commits) fits)
    leads) ns after
    (subst (λ xs. Replays decimals ns (scripts_of xs) between after) (sym (drop_twice n i commits)) rest)
