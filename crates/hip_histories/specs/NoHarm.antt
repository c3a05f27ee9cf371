-- One program does no harm in the place of another. This is what `IsHarmless` says about a repair, but about two
-- programs alone, without plans and clones, so that it holds across several repairs. (This project's own.)
use Rattle.std.specs.Prelude.{◌≡◌, ◌⊎◌, ℕ, suc, ◌<◌, ◌≤◌, List, Some, length, map}
use Rattle.hip_tree.specs.declared.program.Program.{Program}
use Rattle.hip_runs.specs.Crash.{IsCrashImage}
use Rattle.hip_runs.specs.Found.Reports.{Range, next_check}
use Rattle.hip_runs.specs.State.{Frame, Registers, State}
use Rattle.hip_runs.specs.Step.{run}
use Rattle.hip_runs.specs.Validity.{IsValid}
use Rattle.hip_runs.specs.declared.input.Input.{Input}
use Rattle.hip_repairs.specs.Harmless.{Extent, contents, extents}
use Rattle.hip_survival.specs.Survival.{IsLooseAt}
use Rattle.hip_survival.specs.Kept.{IsAsDurable, IsNoWorse}

-- What a frame has besides its place in its block: the function, the block, the registers, the stack mark at its call
-- and its blocks on the stack.
pub record Activation : Type 0 where
  pub function : ℕ
  pub block : ℕ
  pub registers : Registers
  pub mark : ℕ
  pub slots : List Extent

-- The activation of a frame, with the original of its function in place of the function.
abbrev pub activation : (ℕ → ℕ) → Frame → Activation
activation original f =
    record {
      function = original f.function;
      block = f.block;
      registers = f.registers;
      mark = f.mark;
      slots = extents f.slots;
    }

-- A state s' matches a state s: output, ending, turns, writes, the numbers that are left and the stack's mark are the
-- same, each cache line has the same parts, the frames at the same place have the same activations if each function is
-- replaced by its original, and each crash image of s' is a crash image of s.
pub record Mirrors (original : ℕ → ℕ) (I : Input) (s s' : State) : Type 0 where
  pub world : s'.world ≡ s.world
  pub lines : map contents s'.lines ≡ map contents s.lines
  pub frames : map (activation original) s'.frames ≡ map (activation (λ f. f)) s.frames
  pub images : (content : List ℕ) → IsCrashImage I s' content → IsCrashImage I s content

-- The run of Q goes along the run of P. Each number of Q's steps corresponds to a number of P's steps, which begins
-- with 0 and stays or grows by 1 with each step of Q. The states after these steps match, at least as much is flushed
-- and durable in Q's state, no byte is loose only in Q's state, and no check of Q is worse. Each number of P's steps
-- corresponds to a number of Q's steps.
pub record GoesAlong (original : ℕ → ℕ) (P Q : Program) (I : Input) : Type 0 where
  pub steps_of : ℕ → ℕ
  pub first : steps_of 0 ≡ 0
  pub onward : (n : ℕ) → (steps_of (suc n) ≡ steps_of n) ⊎ (steps_of (suc n) ≡ suc (steps_of n))
  pub matches : (n : ℕ) → Mirrors original I (run P I (steps_of n)) (run Q I n)
  pub durable : (n : ℕ) → IsAsDurable (run P I (steps_of n)) (run Q I n)
  pub loose : (n b : ℕ) → IsLooseAt (run Q I n) b → IsLooseAt (run P I (steps_of n)) b
  pub checks : (n : ℕ) (range : Range) → next_check Q I (run Q I n) ≡ Some range →
      IsNoWorse P Q I steps_of n range
  pub progress : (k : ℕ) → (n : ℕ) × (steps_of n ≡ k)

-- Q does no harm in the place of P. It has the same globals, so the same addresses and the same valid inputs. It has
-- the functions of P under their numbers, and each further function has a function of P as its original. On each
-- valid input its run goes along P's run.
pub record DoesNoHarm (P Q : Program) : Type 0 where
  pub globals : Q.globals ≡ P.globals
  pub functions : length P.functions ≤ length Q.functions
  pub original : ℕ → ℕ
  pub same : (f : ℕ) → f < length P.functions → original f ≡ f
  pub further : (f : ℕ) → f < length Q.functions → original f < length P.functions
  pub runs : (I : Input) → IsValid P I → GoesAlong original P Q I
