-- One script as the desk's fields show it, and lists of scripts checked one by one.
use Rattle.city_scheduler.proofs.Prelude.{◌≡◌, ◌<◌, ◌≤◌, ◌+◌, ℕ, true, List, [], ◌∷◌, length, Some, refl, arith}
use Rattle.city_scheduler.proofs.Prelude.{option_and_then, slice_get, slice_index_or, false≢true, slice_get_read}
use Rattle.city_scheduler.proofs.Prelude.{slice_get_within, Command, Scripted, ends_once, AreScripts, commands_of}
use Rattle.city_scheduler.proofs.Prelude.{commands_at}
use Rattle.std.specs.Prelude.{Option}
use Rattle.city_scheduler.specs.DeskState.{command_at}

pub script_there : (scripts : List Scripted) (n : ℕ) (x : Scripted) → n < length scripts
    → x ≡ slice_index_or scripts n x → slice_get scripts n ≡ Some x
script_there scripts n x lt is = slice_get_read scripts (length scripts) n x refl lt is

command_found : (script : Option Scripted) (k : ℕ)
    → option_and_then (λ s. slice_get s.1 k) script ≡ slice_get (commands_of script) k
command_found script k = grind arith

pub command_as : (scripts : List Scripted) (n k : ℕ) → command_at scripts n k ≡ slice_get (commands_at scripts n) k
command_as scripts n k = command_found (slice_get scripts n) k

-- commands that end once aren't empty
pub has_commands : (cs : List Command) → ends_once cs ≡ true → 0 < length cs
has_commands [] e = absurd (false≢true e)
has_commands (c ∷ cs) e = omega arith

-- ---- one by one

pub one_more_scripted : (scripts : List Scripted) (n : ℕ) (x : Scripted) → n < length scripts
    → x ≡ slice_index_or scripts n x → ends_once x.1 ≡ true
    → ((i : ℕ) (s : Scripted) → i < n → slice_get scripts i ≡ Some s → ends_once s.1 ≡ true)
    → (i : ℕ) (s : Scripted) → i < n + 1 → slice_get scripts i ≡ Some s → ends_once s.1 ≡ true
one_more_scripted scripts n x within is once before i s lt there = grind (arith, script_there)

pub all_scripted : (scripts : List Scripted) (n : ℕ) → length scripts ≤ n
    → ((i : ℕ) (s : Scripted) → i < n → slice_get scripts i ≡ Some s → ends_once s.1 ≡ true) → AreScripts scripts
all_scripted scripts n long all i s there = all i s (omega (arith, slice_get_within scripts i s there)) there
