-- Clap's walk over a line of options and names: it ends with a row for each, and only a third name is a fault.
use Rattle.city_options.specs.CommandLines.{Decimals, Flag, IsLineOf, IsName, Line, Output, Valued, Workers, ends}
use Rattle.city_options.specs.CommandLines.{flag_name, gives_flag, gives_name, gives_output, gives_value, value_name}
use Rattle.city_options.specs.internal.CommandShape.{cityed_command}
use Rattle.clap.proofs.OnLiterals.{clap_on_literals}
use Rattle.clap.specs.Faults.{other_fault, settle_fault, step_fault, turn_fault, walk_fault}
use Rattle.clap.specs.Kinds.{Kinds, or_else}
use Rattle.clap.specs.Simple.{Shape, built}
use Rattle.clap.specs.Walk.{Held, Row, Rule, Step, Text, Waiting, Walk, after_step, arg_by_id, at_row, has_row, idle}
use Rattle.clap.specs.Walk.{more_values, option, option_word, plain_word, settled_rows, subcommand_met}
use Rattle.clap.specs.Walk.{subcommand_or_other, walk_from, walked, with_values, without}
use Rattle.clap.specs.declared.builder.value_parser.Reading.TheVariants.{AsWritten}
use Rattle.clap.specs.declared.error.kind.ErrorKind.TheVariants.{ArgumentConflict, UnknownArgument}
use Rattle.clap.specs.declared.parser.matches.ValueSource.TheVariants.{CommandLine}
use Rattle.std.proofs.Common.{Bool, List, None, Option, Some, [], ap, append-nil, append_assoc, ap₂, arith, codes, cond}
use Rattle.std.proofs.Common.{false, fold, refl, subst, sym, true, ℕ, ◌&&◌, ◌++◌, ◌∙◌, ◌∷◌, ◌≡◌}
use Rattle.std.proofs.Math.Bool.{and-false}
use Rattle.std.proofs.lemmas.Bool.{false_from_ne_true}
use Rattle.std.proofs.lemmas.Bool.Decides.{nat_tests}
use Rattle.std.proofs.lemmas.List.Folds.{list_any-append}
use Rattle.std.proofs.lemmas.Slice.Eq.{bytes_eq-Decides}
use Rattle.std.specs.Prelude.{if◌then◌else◌, ⊤, ◌==◌}

abbrev pub top : Shape
top = (built cityed_command).top

abbrev pub cityed_rules : List Rule
cityed_rules = top.rules

-- the row of an argument used once
abbrev pub row_of : Text → Text → Row
row_of id v =
    record { id = id; values = v ∷ []; count = None; source = Some CommandLine; reading = AsWritten }

-- rows without the id are changed at their end
pub put_last : (id : Text) (change : Row → List Row) (new rows : List Row) → has_row id rows ≡ false
    → at_row id change new rows ≡ rows ++ new
put_last id change new [] lacks = refl
put_last id change new (r ∷ rs) lacks = grind (arith, put_last id change new rs)

abbrev pub AreDistinct : List Row → Type 0
AreDistinct [] = ⊤
AreDistinct (r ∷ rs) = (has_row r.id rs ≡ false) × AreDistinct rs

-- the rows before a row lack its id
new_id : (before : List Row) (r : Row) (after : List Row) → AreDistinct (before ++ r ∷ after)
    → has_row r.id before ≡ false
new_id [] r after distinct = refl
new_id (x ∷ xs) r after distinct =
    grind (arith, list_any-append, bytes_eq-Decides, distinct.0, new_id xs r after distinct.1)

-- ---- the walk

abbrev held : List Row → Option (Text × List Text) → Held
held rows pending = record { rows = rows; pending = pending; skip = 0 }

-- the walk stands between two words, and the next name goes to the place
abbrev pub at : List Row → Option (Text × List Text) → ℕ → Walk
at rows pending place = record (walk_from (held rows pending)) { position = place }

-- the faults from there on, and where it ends
abbrev pub run : Walk → List Text → Kinds × Walk
run w words = (walk_fault top [] w words, fold (walked cityed_rules []) w words)

abbrev pub behind : Kinds → Kinds × Walk → Kinds × Walk
behind kinds end = (or_else kinds end.0, end.1)

step : (w : Walk) (word : Text) (rest : List Text) {kinds : Kinds} {next : Walk} → turn_fault top [] w word ≡ kinds
    → walked cityed_rules [] w word ≡ next → run w (word ∷ rest) ≡ behind kinds (run next rest)
unfolding walk_fault
step w word rest faults is = ap₂ (λ (k : Kinds) (v : Walk). behind k (run v rest)) faults is

-- a name is no option
no_option : (w : Waiting) (p : ℕ) (word : Text) (h : Held) (met : Option Text) → met ≡ None → IsName word
    → (subcommand_or_other cityed_rules met w p word h ≡ plain_word cityed_rules w word h)
    × (other_fault top met word h ≡ [])
no_option w p [] h met none name = (rw none refl, rw none refl)
no_option w p (b ∷ bs) h met none name =
    let no_hyphen : (b == 45) ≡ false = false_from_ne_true (b == 45) (λ same.
    name (ap (λ k. Some k) (grind (arith, nat_tests, same)))) in
    (rw (none, no_hyphen, no_hyphen) refl, rw (none, no_hyphen, no_hyphen) refl)

-- the walk with an option, or nothing, waiting for a value
abbrev waits : Waiting → List Row → Option (Text × List Text) → ℕ → Walk
waits w rows pending p = record (at rows pending p) { waiting = w }

name_step : (w : Waiting) (rows : List Row) (pending : Option (Text × List Text)) (p : ℕ) (word : Text)
    (rest : List Text) → subcommand_met [] w word ≡ None → IsName word
    → run (waits w rows pending p) (word ∷ rest)
    ≡ (let met = plain_word cityed_rules w word (held rows pending) in behind (step_fault top p met.0 met.1)
    (run (after_step cityed_rules word (waits w rows pending p) met.0 met.1) rest))
unfolding walked
name_step w rows pending p word rest none name =
    let no = no_option w p word (held rows pending) _ none name in
    step (waits w rows pending p) word rest
    (ap₂ (λ (f : Kinds) (met : Held × Step). or_else f (step_fault top p met.0 met.1)) no.1 no.0)
    (ap (λ (met : Held × Step). after_step cityed_rules word (waits w rows pending p) met.0 met.1) no.0)

-- what is pending there is no fault, and with it the rows are these
abbrev pub Rests : List Row → Option (Text × List Text) → List Row → Type 0
Rests rows pending found =
    (settle_fault cityed_rules false (held rows pending) ≡ []) × (settled_rows cityed_rules pending rows ≡ found)

-- the end of a walk, with these rows
pub record End (all : List Row) : Type 0 where
  pub rows : List Row
  pub pending : Option (Text × List Text)
  pub place : ℕ
  pub rests : Rests rows pending all

abbrev pub at_end : {all : List Row} → End all → Walk
at_end end = at end.rows end.pending end.place

-- the words are passed to such an end, with these faults
pub record Goes (w : Walk) (kinds : Kinds) (words : List Text) (all : List Row) : Type 0 where
  pub end : End all
  pub passes : (rest : List Text) → run w (words ++ rest) ≡ behind kinds (run (at_end end) rest)

onward : {w next : Walk} {kinds : Kinds} {words left : List Text} {all : List Row}
    → ((rest : List Text) → run w (words ++ rest) ≡ run next (left ++ rest)) → Goes next kinds left all
    → Goes w kinds words all
onward passes more = record { end = more.end; passes = λ rest. passes rest ∙ more.passes rest }

-- the fault of a second use
abbrev again : Text → List Row → Kinds
again id rows = if has_row id rows && true then ArgumentConflict ∷ [] else []

used : (id v : Text) (rows : List Row) → has_row id rows ≡ false → (or_else (again id rows) [] ≡ [])
    × (with_values id AsWritten CommandLine (v ∷ []) (without id rows) ≡ rows ++ row_of id v ∷ [])
used id v rows lacks = (
  ap (λ b. or_else (if b && true then ArgumentConflict ∷ [] else []) []) lacks,
  ap (with_values id AsWritten CommandLine (v ∷ [])) (put_last id (λ _. []) [] rows lacks ∙ append-nil rows)
      ∙ put_last id (more_values CommandLine (v ∷ [])) (row_of id v ∷ []) rows lacks,
)

module _ (rows : List Row) (pending : Option (Text × List Text)) {found : List Row} (rests : Rests rows pending found)
    (p : ℕ) where
  value_step : (o : Valued) (v : Text) → has_row (value_name o) found ≡ false
      → (turn_fault top [] (at rows pending p) (codes "--" ++ value_name o) ≡ [])
      × (walked cityed_rules [] (at rows pending p) (codes "--" ++ value_name o)
      ≡ waits (option (value_name o)) found (Some (value_name o, [])) p)
      × (option_word (arg_by_id cityed_rules (value_name o)) (value_name o) v (held found (Some (value_name o, [])))
      ≡ (held found (Some (value_name o, v ∷ [])), idle))
      × Rests found (Some (value_name o, v ∷ [])) (found ++ row_of (value_name o) v ∷ [])
  unfolding clap_on_literals
  value_step Workers v lacks = (rw rests.0 refl, rw rests.1 refl, refl, used _ v found lacks)
  value_step o v lacks = (rw rests.0 refl, rw rests.1 refl, refl, used _ v found lacks)

  value_then : (o : Valued) (v : Text) {kinds : Kinds} {left : List Text} {all : List Row} → IsName v
      → has_row (value_name o) found ≡ false
      → (Rests found (Some (value_name o, v ∷ [])) (found ++ row_of (value_name o) v ∷ [])
      → Goes (at found (Some (value_name o, v ∷ [])) p) kinds left all)
      → Goes (at rows pending p) kinds ((codes "--" ++ value_name o) ∷ v ∷ left) all
  value_then o v {left = left} name lacks more =
      let s = value_step o v lacks in
      onward (λ rest. step _ _ _ s.0 s.1 ∙ name_step (option (value_name o)) found _ p v (left ++ rest) refl name
      ∙ ap (λ (to : Held × Waiting). run (record (at found None p) { held = to.0; waiting = to.1 }) (left ++ rest)) s.2)
      (more s.3)

  flag_step : (f : Flag) → has_row (flag_name f) found ≡ false
      → (turn_fault top [] (at rows pending p) (codes "--" ++ flag_name f) ≡ [])
      × (walked cityed_rules [] (at rows pending p) (codes "--" ++ flag_name f)
      ≡ at (found ++ row_of (flag_name f) (codes "true") ∷ []) None p)
  unfolding clap_on_literals
  flag_step Decimals lacks =
      let once = used _ (codes "true") found lacks in (rw (rests.0, rests.1, once.0) refl, rw (rests.1, once.1) refl)
  flag_step f lacks =
      let once = used _ (codes "true") found lacks in (rw (rests.0, rests.1, once.0) refl, rw (rests.1, once.1) refl)

-- ---- a line

-- the place of the next name
pub data Place : Type 0 where
  model_next : Place
  scripts_next : Place
  none_next : Place

abbrev position : Place → ℕ
position model_next = 1
position scripts_next = 2
position none_next = 3

-- there are more names than places
abbrev pub over : List Text → Place → Bool
over [] place = false
over (n ∷ names) model_next = over names scripts_next
over (n ∷ names) scripts_next = over names none_next
over (n ∷ names) none_next = true

abbrev pub excess : List Text → Place → Kinds
excess names place = cond (over names place) (UnknownArgument ∷ []) []

-- the rows of the line's arguments, in their order
abbrev pub rows_in : {line : Line} {args : List Text} → Place → IsLineOf line args → List Row
rows_in place ends = []
rows_in place (gives_value o v line rest lacks plain more) = row_of (value_name o) v ∷ rows_in place more
rows_in place (gives_output v line rest lacks plain more) = row_of (codes "output") v ∷ rows_in place more
rows_in place (gives_flag f line rest lacks more) = row_of (flag_name f) (codes "true") ∷ rows_in place more
rows_in model_next (gives_name n line rest plain more) = row_of (codes "MODEL") n ∷ rows_in scripts_next more
rows_in scripts_next (gives_name n line rest plain more) = row_of (codes "SCRIPTS") n ∷ rows_in none_next more
rows_in none_next (gives_name n line rest plain more) = rows_in none_next more

module _ (all : List Row) (distinct : AreDistinct all) where
  fresh : (found : List Row) (r : Row) (more : List Row) → all ≡ found ++ r ∷ more → has_row r.id found ≡ false
  fresh found r more are = new_id found r more (subst AreDistinct are distinct)

  next : (found : List Row) (r : Row) (more : List Row) → all ≡ found ++ r ∷ more → all ≡ (found ++ r ∷ []) ++ more
  next found r more are = are ∙ sym (append_assoc found (r ∷ []) more)

  pub line_goes : {line : Line} {args : List Text} (place : Place) (is : IsLineOf line args) (found : List Row)
      → all ≡ found ++ rows_in place is → (rows : List Row) (pending : Option (Text × List Text))
      → Rests rows pending found → Goes (at rows pending (position place)) (excess line.names place) args all
  unfolding clap_on_literals
  line_goes place ends found are rows pending rests =
      let last : Rests rows pending all = (rests.0, rests.1 ∙ sym (are ∙ append-nil found)) in
      let end : End all = record { rows = rows; pending = pending; place = position place; rests = last } in
      record { end = end; passes = λ rest. refl }
  line_goes place (gives_value o v line rest lacks name more) found are rows pending rests =
      value_then rows pending rests (position place) o v name (fresh found _ _ are)
      (line_goes place more _ (next found _ _ are) found _)
  line_goes place (gives_output v line rest lacks name more) found are rows pending rests =
      onward (λ others. refl) (value_then rows pending rests (position place) Output v name (fresh found _ _ are)
      (line_goes place more _ (next found _ _ are) found _))
  line_goes place (gives_flag f line rest lacks more) found are rows pending rests =
      let s = flag_step rows pending rests (position place) f (fresh found _ _ are) in
      onward (λ others. step (at rows pending (position place)) (codes "--" ++ flag_name f) (rest ++ others) s.0 s.1)
      (line_goes place more _ (next found _ _ are) _ None (refl, refl))
  line_goes model_next (gives_name n line rest name more) found are rows pending rests =
      onward {next = at found (Some (codes "MODEL", n ∷ [])) 2} {left = rest} (λ others.
      name_step idle rows pending 1 n (rest ++ others) refl name ∙ rw (and-false, rests.0, rests.1) refl)
      (line_goes scripts_next more _ (next found _ _ are) found _ (used _ n found (fresh found _ _ are)))
  line_goes scripts_next (gives_name n line rest name more) found are rows pending rests =
      onward {next = at found (Some (codes "SCRIPTS", n ∷ [])) 3} {left = rest} (λ others.
      name_step idle rows pending 2 n (rest ++ others) refl name ∙ rw (and-false, rests.0, rests.1) refl)
      (line_goes none_next more _ (next found _ _ are) found _ (used _ n found (fresh found _ _ are)))
  line_goes none_next (gives_name n line rest name more) found are rows pending rests =
      let later = line_goes none_next more found are rows pending rests in
      record {
        end = later.end;
        passes = λ others. name_step idle rows pending 3 n (rest ++ others) refl name
            ∙ ap (behind (UnknownArgument ∷ [])) (later.passes others);
      }
