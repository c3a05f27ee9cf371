-- Each frame of a run of a sound program has come along a path through its function.
use Rattle.std.proofs.Common.{◌≡◌, ℕ, List, [], ◌∷◌, map, length, Some, None, refl, sym, ap, subst}
use Rattle.hip_tree.specs.declared.program.Param.{Param}
use Rattle.hip_tree.specs.declared.program.Program.{Program}
use Rattle.hip_names.specs.Names.{IsAmong}
use Rattle.hip_sound.specs.Paths.{names_of}
use Rattle.hip_sound.specs.Registers.{parameter_registers}
use Rattle.hip_sound.specs.Sound.{IsSound}
use Rattle.hip_runs.specs.declared.input.Input.{Input}
use Rattle.hip_runs.specs.Places.{code_at}
use Rattle.hip_runs.specs.State.{Frame}
use Rattle.hip_runs.specs.Step.{numbered_main, main_number, run}
use Rattle.hip_runs.specs.Laws.StepLaws.{IsTop}
use Rattle.hip_invariants.specs.FrameFacts.{frames_hold}
use Rattle.hip_invariants.specs.Laws.Frames.{IsInvariant, invariant_holds}
use Rattle.hip_invariants.specs.Reached.{assigned_names, IsReached, top_is_reached, caller_is_reached}
use Rattle.hip_invariants.specs.Laws.Reached.{entry_reached, deed_keeps}

module _ (P : Program) (s : IsSound P) (I : Input) where
  main_reached : IsReached P None (main_number P) 0 0 []
  main_reached =
      let is : main_number P ≡ s.main.number = ap numbered_main s.main.named in
      subst (λ g. IsReached P None g 0 0 []) (sym is)
      (entry_reached P s s.main.number s.main.function [] s.main.here none (λ q h. absurd h))
    where
      none : (q : List ℕ) → IsAmong (names_of (parameter_registers s.main.function)) q
          → IsAmong (assigned_names []) q
      none q h = subst (λ (ps : List Param). IsAmong
          (names_of (map (λ p. record { name = p.name; ty = Some p.ty }) ps)) q) s.main.params h

  reached_kept : IsInvariant (top_is_reached P) (caller_is_reached P) P I
  reached_kept = record {
    first = main_reached;
    each = λ n f fs t st. record {
      is = (deed_keeps P s I (run P I n).world f st.0 (length fs)
          (code_at P f) refl).kept;
    };
  }

  pub all_reached : (n : ℕ) → frames_hold (top_is_reached P) (caller_is_reached P) (main_number P)
      (run P I n).frames
  all_reached n = invariant_holds (top_is_reached P) (caller_is_reached P) P I reached_kept n

  pub top_reached : (n : ℕ) (f : Frame) (fs : List Frame) → IsTop (run P I n) f fs → top_is_reached P f
  top_reached n f fs t = (let all : frames_hold (top_is_reached P) (caller_is_reached P) (main_number P) (f ∷ fs) =
      subst (frames_hold (top_is_reached P) (caller_is_reached P) (main_number P)) t.frames (all_reached n) in all).0
