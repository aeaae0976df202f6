-- The answer to a line, by clap's findings and faults.
use Rattle.city_options.proofs.LineFindings.{ending, fault, flag_found, goes, line_fault, model, rows, scripts}
use Rattle.city_options.proofs.LineFindings.{text_found, value}
use Rattle.city_options.proofs.LineWalk.{End, at_end, cityed_rules, excess, model_next, over, top}
use Rattle.city_options.specs.CommandLines.{AnswersCheck, AnswersCheckedNames, AnswersNames, AnswersOptions, AnswersRun}
use Rattle.city_options.specs.CommandLines.{AsksForText, Atomic, Check, Decimals, Explain, Flag, IsLineOf, IsName}
use Rattle.city_options.specs.CommandLines.{IsUnknownOption, IsWantOfMemory, Line, MeetsUnknownOption, Output}
use Rattle.city_options.specs.CommandLines.{ReportOnly, Valued, Wait, Watch, Workers, empty_line, ends, flag_name, gives_name, value_name}
use Rattle.city_options.specs.RunOptions.{plain_destination, plain_options}
use Rattle.city_options.specs.declared.command_line.Asked.{Asked}
use Rattle.city_options.specs.declared.command_line.LineFault.{LineFault}
use Rattle.city_options.specs.declared.given.Given.{Given}
use Rattle.city_options.specs.declared.options.Destination.{Destination}
use Rattle.city_options.specs.declared.options.Options.{Options}
use Rattle.city_options.specs.internal.GivenLine.{IsFound, line_of, names_of}
use Rattle.clap.proofs.OnLiterals.{clap_on_literals}
use Rattle.clap.proofs.WalkLemmas.{first_value-rows, one_text-rows}
use Rattle.clap.specs.Faults.{walk_fault}
use Rattle.clap.specs.Kinds.{IsAmong, Kinds, or_else}
use Rattle.clap.specs.Walk.{Row, Text, arg_by_long, first_of, one_of}
use Rattle.clap.specs.Words.{rows_of}
use Rattle.clap.specs.declared.error.kind.ErrorKind.{ErrorKind}
use Rattle.clap.specs.declared.error.kind.ErrorKind.TheVariants.{DisplayHelp, DisplayVersion, OutOfMemory}
use Rattle.clap.specs.declared.error.kind.ErrorKind.TheVariants.{UnknownArgument}
use Rattle.clap.specs.declared.parser.matches.Found.{Found}
use Rattle.std.proofs.Common.{Bool, Err, List, None, Ok, Option, Result, [], ap, ap₂, arith, codes, cond, false}
use Rattle.std.proofs.Common.{inl, inr, refl, subst, suc, sym, true, ◌∙◌, ◌∷◌, ◌≡◌, ◌⊎◌}
use Rattle.std.proofs.Math.Path.{fun_ext}
use Rattle.std.proofs.lemmas.Slice.Eq.{bytes_eq-Decides}
use Rattle.std.specs.Prelude.{All, IsErr, MatchBool, slice_get, ◌≢◌}
use Rattle.std.specs.Result.{IsErrAnd}
use Rattle.std.specs.Str.{bytes_eq}

abbrev pub Answer : Type 0
Answer = Result Asked LineFault

-- a third name is a fault
few : (names : List Text) → excess names model_next ≡ [] → names_of (slice_get names 0) (slice_get names 1) ≡ names
few [] fits = refl
few (m ∷ []) fits = refl
few (m ∷ s ∷ []) fits = refl
few (m ∷ s ∷ n ∷ names) fits = absurd (cc)

-- the line is the one that the code reads
pub read_line : {line : Line} {args : List Text} (found : Found) (given : Given) → IsLineOf line args
    → rows_of found ≡ rows args → fault args ≡ [] → IsFound found given → line_of given ≡ line
read_line {line} {args} found given is are free read =
    let text = λ (id : Text). first_value-rows found id ∙ ap (first_of id) are in
    let values = fun_ext (λ o. read.values o ∙ text (value_name o) ∙ text_found is (value o) refl) in
    let flags = fun_ext (λ f. read.flags f (line.has f)
    (one_text-rows found (flag_name f) ∙ ap (one_of (flag_name f)) are ∙ flag_found is f)) in
    let names = ap₂ names_of (read.model ∙ text (codes "MODEL") ∙ text_found is model refl)
    (read.scripts ∙ text (codes "SCRIPTS") ∙ text_found is scripts refl)
    ∙ few line.names (sym (line_fault is) ∙ free) in
    ap₂ (λ (v : Valued → Option Text) (h : Flag → Bool). record (line_of given) { value = v; has = h }) values flags
    ∙ ap (λ (n : List Text). record line { names = n }) names

-- an error answers names if memory ran out or there are more than two
names_refused : (names : List Text) (options : Options) (to : Destination) (r : Answer) → IsErr r
    → (excess names model_next ≡ [] → IsWantOfMemory r)
    → AnswersNames options to names r × AnswersCheckedNames options names r
names_refused [] options to r wrong short = (inr (short refl), wrong)
names_refused (m ∷ []) options to r wrong short = (wrong, inr (short refl))
names_refused (m ∷ s ∷ []) options to r wrong short = (inr (short refl), inr (short refl))
names_refused (m ∷ s ∷ n ∷ names) options to r wrong short = (wrong, wrong)

pub line_refused : {line : Line} {args : List Text} (r : Answer) → IsLineOf line args → IsErr r
    → (fault args ≡ [] → IsWantOfMemory r) → AnswersOptions line r
line_refused {line} r is wrong short =
    let names = λ (options : Options) (to : Destination).
    names_refused line.names options to r wrong (λ fits. short (line_fault is ∙ fits)) in
    elim (line.has Check) as (λ check. MatchBool check (AnswersCheck line r) (AnswersRun line r)) [
      | true ↦ (λ options of none. (names options plain_destination).1, λ run. wrong)
      | false ↦ (λ options to of there. (names options to).0, λ none. wrong, λ none. wrong)
    ]

pub wanting : (r : Answer) → IsErrAnd r (λ f. f ≡ LineFault.OutOfMemory) → IsWantOfMemory r
wanting (Ok a) h = absurd h
wanting (Err f) h = ap (λ (e : LineFault). Err e) h

-- a line without options
names_line : (names : List Text) → All IsName names → IsLineOf (record empty_line { names = names }) names
names_line [] named = ends
names_line (n ∷ names) named =
    gives_name n (record empty_line { names = names }) names (named 0 n (omega arith))
    (names_line names (λ k d before. named (suc k) d (omega (arith, before))))

pub names_answered : (names : List Text) (r : Answer) → ((line : Line) → IsLineOf line names → AnswersOptions line r)
    → All IsName names → AnswersNames plain_options plain_destination names r
names_answered names r answered named =
    (answered _ (names_line names named)).0 plain_options plain_destination (refl, refl, refl, refl)
    ((refl, refl, refl, refl), λ none. refl, λ both. let wrong = both.0 in cc)

-- an option that is unknown
module _ (option : Text) (unknown : IsUnknownOption option) where
  is_no : (known : Text) → unknown.name ≢ known → bytes_eq known unknown.name ≡ false
  is_no known differs = grind (arith, bytes_eq-Decides)

  no_rule : arg_by_long cityed_rules unknown.name ≡ None
  no_rule =
      let o = λ (o : Valued). is_no (value_name o) (unknown.no_value o) in
      let f = λ (f : Flag). is_no (flag_name f) (unknown.no_flag f) in
      rw (is_no _ unknown.no_help, is_no _ unknown.no_version, f Decimals, f Atomic, f ReportOnly, f Explain, f Check)
      (rw (o Workers, o Watch, o Output, o Wait) refl)

  no_dashes : bytes_eq option (45 ∷ 45 ∷ []) ≡ false
  no_dashes = grind (arith, bytes_eq-Decides, unknown.long)

  refused_next : {all : List Row} (end : End all) (rest : List Text)
      → walk_fault top [] (at_end end) (option ∷ rest) ≡ UnknownArgument ∷ []
  unfolding walk_fault
  refused_next end rest = rw (no_dashes, unknown.long, no_rule) refl

excess_and_more : (b : Bool) → or_else (cond b (UnknownArgument ∷ []) []) (UnknownArgument ∷ []) ≡ UnknownArgument ∷ []
excess_and_more b = grind arith

pub unknown_fault : (args : List Text) → MeetsUnknownOption args → fault args ≡ UnknownArgument ∷ []
unknown_fault args met =
    let walk = goes (names_line met.names met.named) in
    ap fault met.are ∙ ap ending (walk.passes (met.word ∷ met.rest))
    ∙ rw (refused_next met.word met.unknown walk.end met.rest, excess_and_more (over met.names model_next)) refl

abbrev pub IsText : ErrorKind → Type 0
IsText kind = (kind ≡ DisplayHelp) ⊎ (kind ≡ DisplayVersion)

-- the words have this fault
pub text_fault : (word : Text) (rest : List Text) → AsksForText word
    → (kind : ErrorKind) × (fault (word ∷ rest) ≡ kind ∷ []) × IsText kind
unfolding clap_on_literals
text_fault word rest (inl is) = (DisplayHelp, ap (λ (w : Text). fault (w ∷ rest)) is, inl refl)
text_fault word rest (inr (inl is)) = (DisplayHelp, ap (λ (w : Text). fault (w ∷ rest)) is, inl refl)
text_fault word rest (inr (inr (inl is))) = (DisplayVersion, ap (λ (w : Text). fault (w ∷ rest)) is, inr refl)
text_fault word rest (inr (inr (inr is))) = (DisplayVersion, ap (λ (w : Text). fault (w ∷ rest)) is, inr refl)

pub not_free : {k : ErrorKind} {kinds : Kinds} → kinds ≡ k ∷ [] → kinds ≡ [] → ⊥
not_free {k} one none = let bad : k ∷ [] ≡ [] = sym one ∙ none in absurd (cc)

-- memory ran out, or the error has a kind with P
abbrev HasOr : (ErrorKind → Type 0) → ErrorKind → Type 0
HasOr P kind = (kind ≡ OutOfMemory) ⊎ P kind

-- the one kind, or one of none
pub only : {kind k : ErrorKind} {kinds : Kinds} (P : ErrorKind → Type 0) → kinds ≡ k ∷ [] → P k
    → HasOr (λ x. IsAmong x kinds) kind → HasOr P kind
only P one p (inl short) = inl short
only {kind} P one p (inr among) =
    elim (subst (IsAmong kind) one among) [ inl is ↦ inr (subst P (sym is) p) | inr bad ↦ absurd bad ]

none_left : {kind : ErrorKind} {kinds : Kinds} → kinds ≡ [] → HasOr (λ x. IsAmong x kinds) kind → kind ≡ OutOfMemory
none_left none (inl short) = short
none_left {kind} none (inr among) = absurd (subst (IsAmong kind) none among)

pub fault_answered : {line : Line} {args : List Text} (kind : ErrorKind) (r : Answer) → IsLineOf line args
    → (kind ≡ OutOfMemory → IsWantOfMemory r) → (HasOr (λ k. k ≡ UnknownArgument) kind → IsErr r)
    → HasOr (λ k. IsAmong k (fault args)) kind → AnswersOptions line r
fault_answered {line} {args} kind r is memory refused has =
    line_refused r is (refused (by_over (over line.names model_next) (line_fault is)))
    (λ free. memory (none_left free has))
  where
    by_over : (b : Bool) → fault args ≡ cond b (UnknownArgument ∷ []) [] → HasOr (λ k. k ≡ UnknownArgument) kind
    by_over true one = only (λ k. k ≡ UnknownArgument) one refl has
    by_over false none = inl (none_left none has)
