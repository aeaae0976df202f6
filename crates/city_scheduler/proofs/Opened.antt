-- A desk at its opening is serial, and has its room; at its end it has an end for each script.
use Rattle.city_scheduler.proofs.Prelude.{◌≡◌, ◌<◌, ◌≤◌, ℕ, zero, suc, true, List, [], ◌∷◌, length, Option, Some, refl}
use Rattle.city_scheduler.proofs.Prelude.{ap, sym, ◌∙◌, arith, slice_get, slice_index_or, IfSome, false≢true}
use Rattle.city_scheduler.proofs.Prelude.{count_by-le-length, object_at, CityValue, IsLawful, Scripted, Change, has_end}
use Rattle.city_scheduler.proofs.Prelude.{End, CoreState, AreScripts, Progress, NotBegun, DeskState, progress_to}
use Rattle.city_scheduler.proofs.Prelude.{ended_progress, phase_in, is_ended, stamp_of, commands_of, unbegun_each}
use Rattle.city_scheduler.proofs.Prelude.{names_of, is_not_begun, ended_in, HasRoom, StandsAs, IsSerial}
use Rattle.std.proofs.Common.{map}
use Rattle.std.proofs.lemmas.List.{length-map}
use Rattle.std.proofs.lemmas.List.Sums.{sum_by-cons}
use Rattle.city_scheduler.specs.internal.ScriptParts.{name_in}
use Rattle.city_scheduler.specs.Opening.{unbegun, opened}
use Rattle.city_scheduler.proofs.Shelved.{none_of_none}
use Rattle.city_scheduler.proofs.ScriptTurns.{one_if, place_left}

-- ---- at its opening

unbegun_at : (P : Progress → Type 0) → ((s : Scripted) → P (unbegun s)) → P ended_progress → (scripts : List Scripted)
    (n : ℕ) → P (slice_index_or (unbegun_each scripts) n ended_progress)
unbegun_at P here past [] n = past
unbegun_at P here past (s ∷ ss) zero = here s
unbegun_at P here past (s ∷ ss) (suc n) = unbegun_at P here past ss n

map_within : {A : Type 0} (f : Scripted → A) (g : Option Scripted → A) (d : A) → ((s : Scripted) → f s ≡ g (Some s))
    → (scripts : List Scripted) (n : ℕ) → n < length scripts
    → slice_index_or (map f scripts) n d ≡ g (slice_get scripts n)
map_within f g d same [] n lt = absurd (omega arith)
map_within f g d same (s ∷ ss) zero lt = same s
map_within f g d same (s ∷ ss) (suc n) lt = map_within f g d same ss n (omega arith)

unbegun_within : (scripts : List Scripted) (n : ℕ) → n < length scripts
    → slice_index_or (unbegun_each scripts) n ended_progress
    ≡ progress_to NotBegun [] (length (commands_of (slice_get scripts n)))
unbegun_within =
    map_within unbegun (λ o. progress_to NotBegun [] (length (commands_of o))) ended_progress (λ s. refl)

none_ended : (scripts : List Scripted) → ended_in (unbegun_each scripts) ≡ 0
none_ended [] = refl
none_ended (s ∷ ss) = none_ended ss

opened_serial : (city : CityValue) (scripts : List Scripted) (base : Option CityValue) → IsLawful (object_at city.1)
    → AreScripts scripts → IfSome base (λ b. b ≡ city) → IsSerial (opened city scripts) [] base
opened_serial city scripts base lawful scripted based = record {
  lawful = lawful;
  scripted = scripted;
  fits = tt;
  frame = refl;
  city = refl;
  standing = record {
    each = λ n. unbegun_at (λ p. StandsAs (opened city scripts) n p.phase p.replies.list) (λ s. refl) refl scripts n;
    owner = λ stamp h. absurd (false≢true h);
    apart = λ n k stamp h _.
        absurd (unbegun_at (λ p. stamp_of p.phase ≡ Some stamp → ⊥) (λ s e. cc) (λ e. cc) scripts n h);
  };
  ended = λ n lt. sym (ap (λ (p : Progress). is_ended p.phase) (unbegun_within scripts n lt));
  of_each = length-map scripts unbegun;
  shelf = record { one_each = refl; shows = λ n. rw (none_of_none n) };
  based = based;
}

opened_room : (city : CityValue) (scripts : List Scripted) (capacity : ℕ) → length scripts ≤ capacity
    → HasRoom (opened city scripts) (names_of scripts) capacity
opened_room city scripts capacity room =
    let most = count_by-le-length (λ (p : Progress). is_not_begun p.phase) (unbegun_each scripts) in
    let long = length-map scripts unbegun in
    record {
      named = λ n lt h. map_within (λ (s : Scripted). s.0) name_in [] (λ s. refl) scripts n lt;
      replies = λ n lt h. ap (λ (p : Progress). p.replies.room) (unbegun_within scripts n lt);
      names_long = length-map scripts (λ (s : Scripted). s.0);
      each_once = sym (none_ended scripts);
      stamps = omega arith;
      places = room;
    }

-- a desk with these fields is the opened one
pub opened_stands : {start city : CityValue} {scripts : List Scripted} {ends : List End} {progress : List Progress}
    {core : CoreState} {names : List (List ℕ)} {list : List Change} {base : Option CityValue} {capacity : ℕ}
    → start ≡ city → ends ≡ [] → progress ≡ unbegun_each scripts → core ≡ (opened city scripts).core
    → names ≡ names_of scripts → list ≡ [] → length scripts ≤ capacity → IsLawful (object_at city.1)
    → AreScripts scripts → IfSome base (λ b. b ≡ city)
    → let d : DeskState = record {
      start = start;
      scripts = scripts;
      ends = ends;
      taken = 0;
      begun = 0;
      progress = progress;
      core = core;
    } in
    IsSerial d list base × HasRoom d names capacity
opened_stands {start} {city} {scripts} {base = base} {capacity = capacity} a b p k names list room lawful scripted
    based =
    rw (a, b, p, k, names, list)
    (opened_serial city scripts base lawful scripted based, opened_room city scripts capacity room)

-- ---- at its end

all_counted : (ps : List Progress) → ((n : ℕ) → n < length ps → is_ended (phase_in ps n) ≡ true)
    → ended_in ps ≡ length ps
all_counted [] all = refl
all_counted (p ∷ ps) all =
    let rest : ended_in ps ≡ length ps = all_counted ps (λ n lt. all (suc n) (omega arith)) in
    let first : one_if (is_ended p.phase) ≡ 1 = ap one_if (all 0 (omega arith)) in
    sum_by-cons (λ (q : Progress). one_if (is_ended q.phase)) p ps ∙ omega arith

module _ {d : DeskState} {changes : List Change} {base : Option CityValue} {names : List (List ℕ)} {capacity : ℕ}
    (s : IsSerial d changes base) (r : HasRoom d names capacity) where
  pub ends_of_all : ((n : ℕ) → n < length d.scripts → has_end n d.ends ≡ true) → length d.ends ≡ length d.scripts
  ends_of_all all =
      r.each_once
      ∙ (all_counted d.progress (λ n lt. let within : n < length d.scripts = omega (arith, s.of_each) in
      sym (s.ended n within) ∙ all n within)
      ∙ s.of_each)

  pub all_have_ends : length d.ends ≡ length d.scripts → (n : ℕ) → n < length d.scripts → has_end n d.ends ≡ true
  all_have_ends same n lt = grind (arith, place_left s r lt, s.ended n lt)
