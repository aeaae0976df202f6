-- Answers are written once what they tell is on the disk.
use Rattle.std.specs.Prelude.{◌≡◌, ℕ, Bool, true, List, Option}
use Rattle.std.specs.Io.KnownBytes.{Keeps}
use Rattle.city_serve.specs.ServedTexts.{AppendsSome}
use Rattle.city_serve.specs.declared.fault.ServeFault.{ServeFault}
use Rattle.city_server.specs.declared.fault.LiveFault.{LiveFault}
use Rattle.city_server.specs.declared.fault.LiveFault.TheVariants as live

-- Answers aren't written: the journal can't be synced, and the writer gains nothing; or it is synced, and the writer
-- has failed and has got the first bytes.
abbrev pub IsWriteFault : Type 0 → Type 0 → List ℕ → Option (List ℕ) → Option (List ℕ) → Bool → LiveFault → Type 0
IsWriteFault synced refused answers old new failed (live.JournalFile f) =
    (f ≡ ServeFault.Write) × refused × Keeps old new
IsWriteFault synced refused answers old new failed (live.Serve f) =
    (f ≡ ServeFault.Write) × synced × AppendsSome old new answers × (failed ≡ true)
IsWriteFault synced refused answers old new failed (live.Journal f) = ⊥
