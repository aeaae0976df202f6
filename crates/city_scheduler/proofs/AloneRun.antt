-- Runs a script to its end while nothing else is open, and one script after the other.
use Rattle.city_scheduler.proofs.Prelude.{◌≡◌, ◌≢◌, ◌<◌, ◌+◌, ℕ, false, List, [], ◌∷◌, ◌++◌, length, ap, sym, ◌∙◌}
use Rattle.city_scheduler.proofs.Prelude.{arith, length-append, slice_index_or, cases_eq, get_or-set_same}
use Rattle.city_scheduler.proofs.Prelude.{slice_get_within, Reply, End, Scripted, Progress, Phase, NotBegun, Idle, Open}
use Rattle.city_scheduler.proofs.Prelude.{Ended, DeskState, progress_to, ended_progress, phase_of, replies_of, room_of}
use Rattle.city_scheduler.proofs.Prelude.{is_ended, is_open_phase, commands_at, AreInTurn, HaveRun}
use Rattle.std.proofs.Common.{◌-◌}
use Rattle.city_scheduler.specs.Turning.{Keeps, HasReplied}
use Rattle.city_scheduler.specs.internal.RunInTurn.{HasRun}
use Rattle.city_scheduler.proofs.ScriptReads.{command_as}
use Rattle.city_scheduler.proofs.ScriptTurns.{has_its_end, has_other_ends}
use Rattle.city_scheduler.proofs.Youngest.{open_within}

-- the phase of the script while it runs: not begun, or begun after so many ends
abbrev pub IsGoing : ℕ → Phase → Type 0
IsGoing since NotBegun = Unit {0}
IsGoing since (Idle stamp) = ⊥
IsGoing since (Open stamp began) = began ≡ since
IsGoing since Ended = ⊥

pub record IsRunning (n : ℕ) (start d : DeskState) : Type 0 where
  pub keeps : Keeps start d
  pub ends : d.ends ≡ start.ends
  pub going : IsGoing (length start.ends) (phase_of d n)
  pub beside : (k : ℕ) → k ≢ n → phase_of d k ≡ phase_of start k
  pub alone : (k : ℕ) → k ≢ n → is_open_phase (phase_of d k) ≡ false

-- the most turns it can still take
abbrev pub turns_left : List Scripted → ℕ → Phase → List Reply → ℕ
turns_left scripts n NotBegun replies = length (commands_at scripts n) + 1
turns_left scripts n (Idle stamp) replies = 0
turns_left scripts n (Open stamp since) replies = length (commands_at scripts n) - length replies
turns_left scripts n Ended replies = 0

pub replied_fewer : (n : ℕ) (d e : DeskState) → Keeps d e → HasReplied d e n
    → turns_left e.scripts n (phase_of e n) (replies_of e n) < turns_left d.scripts n (phase_of d n) (replies_of d n)
replied_fewer n d e keeps h =
    let moved = ap (λ ps. slice_index_or ps n ended_progress) h.moves
    ∙ get_or-set_same d.progress n
    (progress_to (Open h.stamp h.since) (replies_of d n ++ h.reply ∷ []) (room_of d n)) ended_progress
    (open_within d.progress n (ap is_ended h.is.next.phase)) in
    let long = length-append (replies_of d n) (h.reply ∷ []) in
    let lt = slice_get_within (commands_at d.scripts n) (length (replies_of d n)) h.is.command
    (sym (command_as d.scripts n (length (replies_of d n))) ∙ h.is.next.next) in
    let now = ap (λ (p : Progress). turns_left d.scripts n p.phase p.replies.list) moved in
    let before = ap (λ p. turns_left d.scripts n p (replies_of d n)) h.is.next.phase in
    rw keeps.scripts (omega arith)

-- ---- one script after the other

in_turn_more : (k : ℕ) (es : List End) (e : End) → AreInTurn k es → e.script ≡ k + length es → e.since ≡ k + length es
    → AreInTurn k (es ++ e ∷ [])
in_turn_more k [] e turns script since = omega arith
in_turn_more k (f ∷ fs) e turns script since =
    (turns.0, turns.1, in_turn_more (k + 1) fs e turns.2 (omega arith) (omega arith))

pub one_more_run : (start d e : DeskState) (n : ℕ) → n < length start.scripts → HaveRun start n d → HasRun n d e
    → HaveRun start (n + 1) e
one_more_run start d e n there h r =
    let long : length e.ends ≡ length d.ends + 1 = ap length r.ends ∙ length-append d.ends (r.last ∷ []) in
    record {
      keeps = record {
        start = r.keeps.start ∙ h.keeps.start;
        scripts = r.keeps.scripts ∙ h.keeps.scripts;
        taken = r.keeps.taken ∙ h.keeps.taken;
      };
      in_turn = rw r.ends (in_turn_more 0 d.ends r.last h.in_turn (omega (arith, r.script, h.so_many))
          (omega (arith, r.since)));
      so_many = omega (arith, h.so_many);
      ended = λ k lt. grind (arith, has_its_end d.ends r.last, has_other_ends k d.ends r.last, h.ended k);
      left = λ k le lt. r.beside k (λ same. absurd (omega (arith, same)))
          ∙ h.left k (omega arith) (rw (← r.keeps.scripts) lt);
      none_open = λ k. grind (arith, r.beside k, r.over, h.none_open k, cases_eq k n);
    }
