-- What the writer has got where answers couldn't be written.
use Rattle.std.proofs.Common.{◌≡◌, ◌∙◌, ◌++◌, ℕ, Bool, List, [], Option, Some, None, sym, append-nil}
use Rattle.std.specs.Io.KnownBytes.{Appends, Keeps}
use Rattle.std.specs.Prelude.{IfErr, OnErr, Result, Ok, Err}
use Rattle.city_serve.specs.ServedTexts.{AppendsSome}
use Rattle.city_server.specs.Order.{IsWriteFault}
use Rattle.city_server.specs.declared.fault.LiveFault.{LiveFault}
use Rattle.city_server.specs.declared.fault.LiveFault.TheVariants as live

kept_none : (old new : Option (List ℕ)) → Keeps old new → Appends old new []
kept_none None new h = tt
kept_none (Some xs) None h = absurd h
kept_none (Some xs) (Some ys) h = h ∙ sym (append-nil xs)

fault_some : (synced refused : Type 0) (answers : List ℕ) (old new : Option (List ℕ)) (failed : Bool) (f : LiveFault)
    → IsWriteFault synced refused answers old new failed f → AppendsSome old new answers
fault_some synced refused answers old new failed (live.JournalFile f) h = (0, kept_none old new h.2)
fault_some synced refused answers old new failed (live.Serve f) h = h.2
fault_some synced refused answers old new failed (live.Journal f) h = absurd h

pub some_written : (r : Result (Unit {0}) LiveFault) (synced refused : Type 0) (answers : List ℕ)
    (old new : Option (List ℕ)) (failed : Bool) → IfErr r (IsWriteFault synced refused answers old new failed)
    → OnErr r (AppendsSome old new answers)
some_written (Ok x) synced refused answers old new failed h = tt
some_written (Err f) synced refused answers old new failed h = fault_some synced refused answers old new failed f h
