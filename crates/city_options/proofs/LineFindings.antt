-- Clap's findings in a line: its options and its first two names.
use Rattle.city_options.proofs.LineWalk.{AreDistinct, Goes, Place, at_end, behind, cityed_rules, excess, line_goes}
use Rattle.city_options.proofs.LineWalk.{model_next, none_next, put_last, row_of, rows_in, run, scripts_next, top}
use Rattle.city_options.specs.CommandLines.{Atomic, Check, Decimals, Explain, Flag, IsLineOf, Line, Output, ReportOnly}
use Rattle.city_options.specs.CommandLines.{Valued, Wait, Watch, Workers, ends, flag_name, gives_flag, gives_name}
use Rattle.city_options.specs.CommandLines.{gives_output, gives_value, value_name, with_flag, with_name, with_value}
use Rattle.city_options.specs.internal.CommandShape.{cityed_command}
use Rattle.city_options.specs.internal.GivenLine.{flag_text}
use Rattle.clap.specs.Faults.{built_fault, check_fault, default_fault, defaults_fault, entered_fault}
use Rattle.clap.specs.Faults.{settle_fault, walk_fault}
use Rattle.clap.specs.Kinds.{Kinds, or_else}
use Rattle.clap.specs.Simple.{App, built, entered}
use Rattle.clap.specs.Walk.{Row, Rule, Text, Walk, arg_by_id, default_rows, finished, first_of, has_row}
use Rattle.clap.specs.Walk.{more_values, nothing_held, one_of, reading_by, row_text, rows_after, settled, takes_values}
use Rattle.clap.specs.Walk.{walk_from, with_default}
use Rattle.clap.specs.declared.parser.matches.ValueSource.TheVariants.{DefaultValue}
use Rattle.std.proofs.Common.{Bool, List, None, Option, Some, [], ap, append-nil, arith, codes, cond, false, fold}
use Rattle.std.proofs.Common.{is_some, refl, subst, sym, true, ℕ, ◌∙◌, ◌∷◌, ◌≡◌}
use Rattle.std.proofs.lemmas.Bool.Decides.{nat_tests}
use Rattle.std.proofs.lemmas.List.Folds.{find-append}
use Rattle.std.proofs.lemmas.Slice.Eq.{bytes_eq-Decides}
use Rattle.std.specs.List.{AllByRecursion}
use Rattle.std.specs.Option.{option_map_or, option_or}
use Rattle.std.specs.Prelude.{find, option_and_then, option_map, slice_get, unwrap_or, ◌+◌, ◌==◌}
use Rattle.std.specs.Str.{bytes_eq}

abbrev pub app : App
app = built cityed_command

abbrev pub fault : List Text → Kinds
fault args = built_fault app nothing_held args

abbrev pub rows : List Text → List Row
rows args = rows_after cityed_rules [] args

abbrev found : Text → List Row → Option Row
found id = find (λ r. bytes_eq r.id id)

has_found : (id : Text) (rows : List Row) → has_row id rows ≡ is_some (found id rows)
has_found id [] = refl
has_found id (r ∷ rs) = grind (arith, has_found id rs)

-- what has a row: an option, or a name by its place
pub data Slot : Type 0 where
  value : Valued → Slot
  flag : Flag → Slot
  model : Slot
  scripts : Slot

abbrev pub id : Slot → Text
id (value o) = value_name o
id (flag f) = flag_name f
id model = codes "MODEL"
id scripts = codes "SCRIPTS"

-- the names for MODEL and for SCRIPTS
abbrev names_at : Place → List Text → Option Text × Option Text
names_at model_next names = (slice_get names 0, slice_get names 1)
names_at scripts_next names = (None, slice_get names 0)
names_at none_next names = (None, None)

-- the text of its row
abbrev given : (Valued → Option Text) → (Flag → Bool) → Option Text × Option Text → Slot → Option Text
given values flags names (value o) = values o
given values flags names (flag f) = cond (flags f) (Some (codes "true")) None
given values flags names model = names.0
given values flags names scripts = names.1

abbrev pub given_in : Place → Line → Slot → Option Text
given_in place line = given line.value line.has (names_at place line.names)

-- the row by default
abbrev pub default : Slot → Option Row
default (flag f) = Some (record (row_of (flag_name f) (codes "false")) { source = Some DefaultValue })
default _ = None

-- slots of different kinds have different ids
abbrev kind : Slot → ℕ
kind (flag f) = 0
kind (value o) = 1
kind model = 2
kind scripts = 3

abbrev kind_of : Text → ℕ
kind_of id =
    option_map_or (λ (a : Rule). cond (takes_values a) (unwrap_or a.index 0 + 1) 0) (arg_by_id cityed_rules id) 0

-- the finding for an id behind the defaults, by the finding before
abbrev with_defaults : Text → List Rule → Option Row → Option Row
with_defaults id rs o = fold (λ p a. option_or p (found id (with_default [] a))) o rs

-- the options and names, one by one
slots : (s : Slot) → (kind_of (id s) ≡ kind s) × (with_defaults (id s) cityed_rules None ≡ default s)
slots (value Workers) = (refl, refl)
slots (value Watch) = (refl, refl)
slots (value Output) = (refl, refl)
slots (value Wait) = (refl, refl)
slots (flag Decimals) = (refl, refl)
slots (flag Atomic) = (refl, refl)
slots (flag ReportOnly) = (refl, refl)
slots (flag Check) = (refl, refl)
slots (flag Explain) = (refl, refl)
slots model = (refl, refl)
slots scripts = (refl, refl)

-- the row of s gives nothing to a slot of another kind
aside : (s t : Slot) (v : Text) (o : Option Text) → (kind s == kind t) ≡ false
    → o ≡ cond (bytes_eq (id s) (id t)) (Some v) o
aside s t v o other = grind (arith, nat_tests, bytes_eq-Decides, slots s, slots t)

-- the rows have what is given, each once
abbrev Holds : (Slot → Option Text) → List Row → Type 0
Holds gives held = ((s : Slot) → found (id s) held ≡ option_map (row_of (id s)) (gives s)) × AreDistinct held

-- s is given too
abbrev Adds : (Slot → Option Text) → Slot → Text → (Slot → Option Text) → Type 0
Adds before s v after = (t : Slot) → after t ≡ cond (bytes_eq (id s) (id t)) (Some v) (before t)

more : (before : Slot → Option Text) {after : Slot → Option Text} (held : List Row) (s : Slot) (v : Text)
    → before s ≡ None → Adds before s v after → Holds before held → Holds after (row_of (id s) v ∷ held)
more before held s v lacks adds holds = (
  λ t. grind (arith, bytes_eq-Decides, adds t, holds.0 t),
  (has_found (id s) held ∙ ap is_some (holds.0 s ∙ ap (option_map (row_of (id s))) lacks), holds.1),
)

value_more : (o : Valued) (v : Text) (place : Place) (line : Line) (held : List Row) → line.value o ≡ None
    → Holds (given_in place line) held → Holds (given_in place (with_value o v line)) (row_of (value_name o) v ∷ held)
value_more o v place line held lacks = more _ held (value o) v lacks adds
  where
    adds : Adds (given_in place line) (value o) v (given_in place (with_value o v line))
    adds (value p) = refl
    adds t = aside (value o) t v _ refl

flag_more : (b has : Bool) → cond (cond b true has) (Some (codes "true")) None
    ≡ cond b (Some (codes "true")) (cond has (Some (codes "true")) None)
flag_more b has = grind arith

nothing : (s : Slot) → found (id s) [] ≡ option_map (row_of (id s)) (given (λ o. None) (λ f. false) (None, None) s)
nothing model = refl
nothing s = refl

holds : {line : Line} {args : List Text} (place : Place) (is : IsLineOf line args)
    → Holds (given_in place line) (rows_in place is)
holds model_next ends = (nothing, tt)
holds place ends = (nothing, tt)
holds place (gives_value o v line rest lacks name is) = value_more o v place line _ lacks (holds place is)
holds place (gives_output v line rest lacks name is) = value_more Output v place line _ lacks (holds place is)
holds place (gives_flag f line rest lacks is) =
    more _ _ (flag f) (codes "true") (ap (λ b. cond b (Some (codes "true")) None) lacks) adds (holds place is)
  where
    adds : Adds (given_in place line) (flag f) (codes "true") (given_in place (with_flag f line))
    adds (flag g) = flag_more (bytes_eq (flag_name f) (flag_name g)) (line.has g)
    adds t = aside (flag f) t (codes "true") _ refl
holds model_next (gives_name n line rest name is) = more _ _ model n refl adds (holds scripts_next is)
  where
    adds : Adds (given_in scripts_next line) model n (given_in model_next (with_name n line))
    adds model = refl
    adds t = aside model t n _ refl
holds scripts_next (gives_name n line rest name is) = more _ _ scripts n refl adds (holds none_next is)
  where
    adds : Adds (given_in none_next line) scripts n (given_in scripts_next (with_name n line))
    adds scripts = refl
    adds t = aside scripts t n _ refl
holds none_next (gives_name n line rest name is) = holds none_next is

or_none : {X : Type 0} (o : Option X) → option_or o None ≡ o
or_none o = grind arith

-- a row that is there already comes before a default
there : (o p : Option Row) (b : Bool) → (b ≡ true → is_some o ≡ true) → o ≡ option_or o (cond b p None)
there o p b some = grind arith

abbrev by_default : Rule → Text → List Text → Row
by_default a v vs = record (row_of a.id v) { values = v ∷ vs; source = Some DefaultValue; reading = reading_by a }

found_default : (id : Text) (a : Rule) (rows : List Row)
    → found id (with_default rows a) ≡ option_or (found id rows) (found id (with_default [] a))
found_default id a rows = by_test (has_row a.id rows) a.defaults refl
  where
    by_test : (b : Bool) (ds : List Text) → has_row a.id rows ≡ b
        → found id (cond b rows (default_rows a.id (reading_by a) ds rows))
        ≡ option_or (found id rows) (found id (default_rows a.id (reading_by a) ds []))
    by_test true [] has = sym (or_none (found id rows))
    by_test false [] has = sym (or_none (found id rows))
    by_test true (v ∷ vs) has = there (found id rows) (Some (by_default a v vs)) (bytes_eq a.id id) (λ same.
        subst (λ i. is_some (found i rows) ≡ true) ((bytes_eq-Decides a.id id).0 same)
        (sym (has_found a.id rows) ∙ has))
    by_test false (v ∷ vs) has =
        ap (found id) (put_last a.id (more_values DefaultValue (v ∷ vs)) (by_default a v vs ∷ []) rows has)
        ∙ find-append (λ r. bytes_eq r.id id) rows (by_default a v vs ∷ [])

found_behind : (id : Text) (rows : List Row) (rs : List Rule)
    → found id (fold with_default rows rs) ≡ with_defaults id rs (found id rows)
found_behind id rows [] = refl
found_behind id rows (a ∷ rs) =
    found_behind id (with_default rows a) rs ∙ ap (with_defaults id rs) (found_default id a rows)

or_default : (s : Slot) (o : Option Row) → with_defaults (id s) cityed_rules o ≡ option_or o (default s)
or_default s None = (slots s).1
or_default s (Some r) = refl

-- a default right in itself is no fault
defaults_right : (rs : List Rule) (rows : List Row) → AllByRecursion (λ a. default_fault [] a ≡ []) rs
    → defaults_fault rows rs ≡ []
unfolding defaults_fault
defaults_right [] rows right = refl
defaults_right (a ∷ rs) rows right = grind (arith, right.0, defaults_right rs (with_default rows a) right.1)

or_no_fault : (k : Kinds) → or_else k [] ≡ k
or_no_fault k = grind arith

-- the fault of a walk from its start
abbrev pub ending : Kinds × Walk → Kinds
ending end = or_else end.0 (or_else (entered_fault app end.1.stopped)
    (or_else (settle_fault cityed_rules false end.1.held)
    (or_else (defaults_fault (settled cityed_rules end.1.held).rows cityed_rules)
    (check_fault top (finished cityed_rules end.1.held) (is_some (entered app end.1.stopped))))))

module _ {line : Line} {args : List Text} (is : IsLineOf line args) where
  pub goes : Goes (walk_from nothing_held) (excess line.names model_next) args (rows_in model_next is)
  goes = line_goes (rows_in model_next is) (holds model_next is).1 model_next is [] refl [] None (refl, refl)

  at_last : run (walk_from nothing_held) args
      ≡ behind (excess line.names model_next) (run (at_end goes.end) [])
  at_last = ap (run (walk_from nothing_held)) (sym (append-nil args)) ∙ goes.passes []

  pub line_fault : fault args ≡ excess line.names model_next
  unfolding walk_fault
  line_fault =
      let held = (at_end goes.end).held in
      let right = defaults_right cityed_rules (settled cityed_rules held).rows
      (refl, (refl, (refl, (refl, (refl, (refl, (refl, (refl, (refl, (refl, (refl, (refl, (refl, tt))))))))))))) in
      ap ending at_last ∙ rw (goes.end.rests.0, right) (or_no_fault _ ∙ or_no_fault _)

  found_at : (s : Slot) → found (id s) (rows args)
      ≡ option_or (option_map (row_of (id s)) (given_in model_next line s)) (default s)
  found_at s =
      ap (λ end. found (id s) (finished cityed_rules end.1.held)) at_last
      ∙ ap (λ held. found (id s) (fold with_default held cityed_rules)) goes.end.rests.1
      ∙ found_behind (id s) (rows_in model_next is) cityed_rules
      ∙ ap (with_defaults (id s) cityed_rules) ((holds model_next is).0 s) ∙ or_default s _

  pub text_found : (s : Slot) → default s ≡ None → first_of (id s) (rows args) ≡ given_in model_next line s
  text_found s none = ap (option_and_then (λ (r : Row). slice_get r.values 0)) (found_at s ∙ ap (option_or _) none)
      ∙ elim (given_in model_next line s) as (λ o. option_and_then (λ (r : Row). slice_get r.values 0)
      (option_or (option_map (row_of (id s)) o) None) ≡ o) [ None ↦ refl | Some v ↦ refl ]

  pub flag_found : (f : Flag) → one_of (flag_name f) (rows args) ≡ Some (flag_text (line.has f))
  flag_found f = ap (option_and_then row_text) (found_at (flag f))
      ∙ elim (line.has f) as (λ b. option_and_then row_text (option_or (option_map (row_of (flag_name f))
      (cond b (Some (codes "true")) None)) (default (flag f))) ≡ Some (flag_text b)) [ true ↦ refl | false ↦ refl ]
