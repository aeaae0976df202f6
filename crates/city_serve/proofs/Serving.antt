-- Output delivered from a run is served from its texts; and a property of two texts holds of the two parts of an input,
-- if they are the parts of its bytes read.
use Rattle.city_serve.proofs.Prelude.{◌≡◌, ◌++◌, ℕ, List, Bool, true, false, Option, Some, None, IfSome, sym, subst}
use Rattle.city_serve.proofs.Prelude.{take, drop}
use Rattle.city_serve.proofs.Prelude.{Vec, Appends, End, ServeFault, AreServedBy, document_part, written_by}
use Rattle.std.proofs.lemmas.List.{take-append-drop}
use Rattle.city_scheduler.specs.InTurn.{AreInTurn}
use Rattle.city_options.specs.declared.options.Options.{Options}
use Rattle.city_options.specs.RunOptions.{file_of, plain_destination}
use Rattle.city_options.specs.declared.options.Destination.{Destination}
use Rattle.city_serve.specs.Destinations.{Folder, IsBrokenOff, IsCutAt, IsCutShort, IsRunInParts, IsDelivered}
use Rattle.city_serve.specs.Destinations.{IsDeliveryFault, bytes_to_writer, goes_nowhere, is_withheld}
use Rattle.city_serve.specs.Steps.{Step}
use Rattle.city_desk.specs.declared.fault.RunFault.{RunFault}
use Rattle.city_serve.specs.ServedTexts.{Written, Faults, WhereAlone, AreCutShortBy, IsTextsFaultBy}
use Rattle.city_serve.specs.Served.{read_of, scripts_part, IsServeFaultBy}

-- a property of the bytes read holds of the input, if that is known
pub of_known : (P : List ℕ → Type 0) (input : Option (List ℕ)) (read : List ℕ)
    → IfSome input (λ all. read ≡ read_of all) → P read → IfSome input (λ all. P (read_of all))
of_known P None read is h = tt
of_known P (Some all) read is h = subst P is h

-- a property of two texts holds of the known texts of an input and of files
module _ (input : Option (List ℕ)) (document scripts : List ℕ)
    (first : IfSome input (λ all. document ≡ document_part (read_of all)))
    (rest : IfSome input (λ all. scripts ≡ scripts_part (read_of all))) where
  pub of_input : (P : List ℕ → List ℕ → Type 0) → P document scripts
      → IfSome input (λ all. P (document_part (read_of all)) (scripts_part (read_of all)))
  of_input P h = both input first rest
    where
      both : (known : Option (List ℕ)) → IfSome known (λ all. document ≡ document_part (read_of all))
          → IfSome known (λ all. scripts ≡ scripts_part (read_of all))
          → IfSome known (λ all. P (document_part (read_of all)) (scripts_part (read_of all)))
      both None d s = tt
      both (Some all) d s = subst (λ t. P (document_part (read_of all)) t) s (subst (λ t. P t scripts) d h)

  pub fault_of_input : (ran : Written) (faults : Faults) (workers viewers : ℕ) (old new : Option (List ℕ))
      (reader_failed failed : Bool)
      (f : ServeFault) → IsTextsFaultBy ran faults document scripts workers viewers old new failed f
      → IsServeFaultBy ran faults input workers viewers reader_failed old new failed f
  fault_of_input ran faults workers viewers old new reader_failed failed ServeFault.Read h = absurd h
  fault_of_input ran faults workers viewers old new reader_failed failed (ServeFault.Run f) h =
      (h.0, of_input (λ d s. faults d s workers viewers f) h.1)
  fault_of_input ran faults workers viewers old new reader_failed failed ServeFault.Write h =
      (of_input (λ d s. AreCutShortBy ran d s workers viewers old new) h.0, h.1)
  fault_of_input ran faults workers viewers old new reader_failed failed ServeFault.InUse h = absurd h
  fault_of_input ran faults workers viewers old new reader_failed failed ServeFault.Changed h = absurd h

-- ---- destinations

-- a run on two texts, cut behind its report
module _ (options : Options) (document scripts : List ℕ) (ends : List End) (bytes : List ℕ) (n : ℕ)
    (ran : written_by options.decimals document scripts ends bytes)
    (in_turn : WhereAlone options.workers options.viewers (AreInTurn 0 ends))
    (cut : IsCutAt options.decimals ends bytes n) where
  pub in_parts : IsRunInParts options document scripts ends (take n bytes) (drop n bytes)
  in_parts = record {
    ran = subst (written_by options.decimals document scripts ends) (sym (take-append-drop n bytes)) ran;
    in_turn = in_turn;
    report_is = cut.1;
  }

-- output with the model behind the report, whatever the ends, is served
module _ (options : Options) (document scripts : List ℕ) (before after : Folder) (old new : Option (List ℕ)) where
  pub served_whole : (seen : List (Vec ℕ)) (withheld : Bool)
      → IsDelivered plain_destination options document scripts seen withheld before after old new
      → AreServedBy (written_by options.decimals) document scripts options.workers options.viewers seen old new
  served_whole seen withheld d = record {
    ends = d.ends;
    bytes = d.report ++ d.model;
    ran = d.run.ran;
    in_turn = d.run.in_turn;
    looked = d.looked;
    written = subst (λ b. Appends old new (bytes_to_writer None b d.report d.model)) d.withheld_is d.written;
  }

-- a delivery that breaks off is no fault of the run
module _ (report model : List ℕ) (before after : Folder) (files_failed : Bool) (old new : Option (List ℕ))
    (failed : Bool) (steps : List Step) where
  never_run : (file : Option (List ℕ)) (nowhere : Bool) (f : RunFault)
      → IsBrokenOff file nowhere report model before after files_failed old new failed steps (ServeFault.Run f) → ⊥
  never_run (Some path) false f broken = broken
  never_run (Some path) true f broken = let wrong = broken.0 in cc
  never_run None nowhere f broken = let wrong = broken.0 in cc

module _ (destination : Destination) (options : Options) (document scripts : List ℕ) (before after : Folder)
    (files_failed : Bool) (old new : Option (List ℕ)) (failed : Bool) (steps : List Step) where
  pub cut_fault : (f : ServeFault)
      → IsCutShort destination options document scripts before after files_failed old new failed steps f
      → IsDeliveryFault destination options document scripts before after files_failed old new failed steps f
  cut_fault (ServeFault.Run f) is = absurd (never_run is.report is.model before after files_failed old new failed steps
      (file_of destination) (goes_nowhere destination (is_withheld destination is.ends)) f is.broken)
  cut_fault ServeFault.Read is = is
  cut_fault ServeFault.Write is = is
  cut_fault ServeFault.InUse is = is
  cut_fault ServeFault.Changed is = is
