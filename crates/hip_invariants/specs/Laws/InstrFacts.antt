-- What an instruction gives to registers, case by case: a fact has to be shown only where a register gets a value.
use Rattle.std.proofs.Common.{◌≡◌, ℕ, ◌+◌, ◌≤◌, cond, nat_eq, List, length, Option, Some, None, slice_get}
use Rattle.std.specs.Prelude.{Ok, ℤ}
use Rattle.std.specs.Int.{next_multiple_of}
use Rattle.hip_types.specs.Layout.{shape}
use Rattle.hip_types.specs.Numbers.{bits, wrapped}
use Rattle.hip_types.specs.declared.number.Bits.{Bits}
use Rattle.hip_types.specs.declared.number.Width.TheVariants.{W64}
use Rattle.hip_tree.specs.declared.block.Block.{Block}
use Rattle.hip_tree.specs.declared.block.End.TheVariants as ends
use Rattle.hip_tree.specs.declared.block.Phi.{Phi}
use Rattle.hip_tree.specs.declared.instr.Arg.{Arg}
use Rattle.hip_tree.specs.declared.instr.Instr.{Instr}
use Rattle.hip_tree.specs.declared.instr.Instr.TheVariants.{Binary, Compare, Select, Cast, Alloca, Load, Store, Gep, Call}
use Rattle.hip_tree.specs.declared.instr.Operand.{Operand}
use Rattle.hip_tree.specs.declared.program.Function.{Function}
use Rattle.hip_tree.specs.declared.program.Program.{Program}
use Rattle.hip_mem.specs.Memory.{bytes_at}
use Rattle.hip_types.specs.Areas.{stack_end}
use Rattle.hip_num.specs.Arithmetic.{binary_of}
use Rattle.hip_num.specs.Comparisons.{holds}
use Rattle.hip_externs.specs.Externs.{call_of}
use Rattle.hip_sound.specs.NumberedNames.{function_number}
use Rattle.hip_sound.specs.Sound.{IsBlockAt}
use Rattle.hip_globals.specs.Values.{element_address}
use Rattle.hip_externs.specs.declared.call.ExternCall.TheVariants as calls
use Rattle.hip_runs.specs.declared.input.Input.{Input}
use Rattle.hip_runs.specs.Actions.{Action, Traps, Assigns, Allocates, Stores, Flushes, Persists, Fences, Asserts, Prints, Reads, Calls, Jumps, Returns, memory_of, truth, cast_value, index_values, read_value, instr_action, edge_value, returned}
use Rattle.hip_runs.specs.Operands.{value_of, values_of, bound, scalar_size}
use Rattle.hip_types.specs.Scalars.{width_of}
use Rattle.hip_runs.specs.State.{Registers, Frame, World}
use Rattle.hip_runs.specs.Step.{run}
use Rattle.hip_runs.specs.Laws.StepLaws.{IsTop}
use Rattle.hip_invariants.specs.Laws.InstrActions.{leaves_registers, instr_cases, of_instr_action}
use Rattle.hip_invariants.specs.Laws.Registers.Facts.{ValuesHold, assigned_fact, WaitsFor, GivesFacts, values_in_frames, actions_keep_facts}

module _ (Fact : ℕ → List ℕ → ℕ → Type 0) (Returned : ℕ → ℕ → Type 0) (P : Program)
    (I : Input) where
  -- The value of an operand by these registers.
  abbrev value : Registers → Operand → ℕ
  value rs o = value_of P.globals I.base rs o

  -- What has to be shown of a call: the next input number goes into a register, or the parameters of a function take
  -- values and the caller waits for its result.
  pub record CallFact (g : ℕ) (rs : Registers) (dest : Option (List ℕ)) (callee : List ℕ)
      (args : List Arg) : Type 0 where
    pub read : call_of callee ≡ Some calls.ReadI64 → (z : ℤ)
        → assigned_fact Fact Returned g dest (wrapped W64 z)
    pub enter : (h : ℕ) (fn : Function) → call_of callee ≡ None → function_number P callee ≡ Some h →
        slice_get P.functions h ≡ Some fn →
        ValuesHold Fact Returned h (bound fn.params (values_of P.globals I.base rs args)) ×
        WaitsFor Fact Returned g dest h

  -- What has to be shown of an instruction of a function, in a world, with the registers of its frame.
  abbrev pub instr_fact : ℕ → World → Registers → Instr → Type 0
  instr_fact g w rs (Binary dest op flags width a b) =
      (r : Bits) → binary_of op (bits width (value rs a)) (bits width (value rs b)) ≡ Ok r → Fact g dest r.value
  instr_fact g w rs (Compare dest pred ty a b) =
      let width = width_of ty in
      Fact g dest (truth (holds pred width (bits width (value rs a)).value (bits width (value rs b)).value))
  instr_fact g w rs (Select dest test ty a b) =
      Fact g dest (cond (nat_eq (value rs test) 1) (value rs a) (value rs b))
  instr_fact g w rs (Cast dest op from a to) = Fact g dest (cast_value op from to (value rs a))
  instr_fact g w rs (Alloca dest ty align) =
      (a : ℕ) → a ≡ next_multiple_of w.mark (shape ty).align → a + (shape ty).size ≤ stack_end
      → Fact g dest a
  instr_fact g w rs (Load dest ty addr align) =
      Fact g dest (read_value ty (bytes_at (memory_of P I w) (value rs addr) (scalar_size ty)))
  instr_fact g w rs (Store ty v addr align) = Unit {0}
  instr_fact g w rs (Gep dest inbounds ty base indices) =
      Fact g dest (element_address (value rs base) ty (index_values P.globals I.base rs indices))
  instr_fact g w rs (Call dest ret callee args) = CallFact g rs dest callee args

  -- What has to be shown of the instruction holds.
  pub record InstrFact (g : ℕ) (w : World) (rs : Registers) (i : Instr) : Type 0 where
    pub is : instr_fact g w rs i

  module _ (g : ℕ) where
    -- The fact holds of what an action of the function gives to registers, or returns.
    abbrev GivesOn : Action → Type 0
    GivesOn x = GivesFacts Fact Returned g x

    still_gives : (x : Action) → leaves_registers x → GivesOn x
    still_gives (Stores a bytes) h = record { is = tt }
    still_gives (Flushes a n) h = record { is = tt }
    still_gives (Persists a n) h = record { is = tt }
    still_gives Fences h = record { is = tt }
    still_gives (Asserts a n) h = record { is = tt }
    still_gives (Prints z) h = record { is = tt }
    still_gives (Traps kind) h = absurd h
    still_gives (Assigns dest v) h = absurd h
    still_gives (Allocates dest a n) h = absurd h
    still_gives (Reads dest z rest) h = absurd h
    still_gives (Calls k registers dest) h = absurd h
    still_gives (Jumps b registers) h = absurd h
    still_gives (Returns v) h = absurd h

    gives_by_case : (w : World) (below : ℕ) (rs : Registers) (i : Instr) → instr_fact g w rs i
        → instr_cases P I w below rs GivesOn i
    gives_by_case w below rs (Binary dest op flags width x y) p = λ r e. record { is = p r e }
    gives_by_case w below rs (Compare dest pred ty x y) p = record { is = p }
    gives_by_case w below rs (Select dest test ty x y) p = record { is = p }
    gives_by_case w below rs (Cast dest op from x to) p = record { is = p }
    gives_by_case w below rs (Alloca dest ty align) p = λ a e within. record { is = p a e within }
    gives_by_case w below rs (Load dest ty addr align) p = record { is = p }
    gives_by_case w below rs (Store ty value addr align) p = record { is = tt }
    gives_by_case w below rs (Gep dest inbounds ty base indices) p = record { is = p }
    gives_by_case w below rs (Call dest ret callee args) p = record {
      read = λ e z rest left. record { is = p.read e z };
      extern = λ x e n y still. still_gives y still;
      enter = λ h fn e q r lt. record { is = p.enter h fn e q r };
      missing = λ e none. record { is = tt };
    }

    pub instr_gives : (w : World) (below : ℕ) (rs : Registers) (i : Instr) → InstrFact g w rs i
        → GivesOn (instr_action P I w below rs i)
    instr_gives w below rs i p =
        of_instr_action P I w below rs GivesOn (λ kind n. record { is = tt }) i (gives_by_case w below rs i p.is)

  -- Each case in which a register gets a value, by an instruction or a phi, and each value returned, keeps the fact.
  pub record KeepsFact : Type 0 where
    pub instr : (n : ℕ) (f : Frame) (fs : List Frame) (fn : Function) (block : Block) (i : Instr) →
        IsTop (run P I n) f fs → ValuesHold Fact Returned f.function f.registers →
        IsBlockAt P f.function f.block fn block → slice_get block.body f.place ≡ Some i →
        InstrFact f.function (run P I n).world f.registers i
    pub phi : (f : Frame) (c k : ℕ) (fn : Function) (block : Block) (p : Phi) (from : List ℕ) →
        ValuesHold Fact Returned f.function f.registers →
        IsBlockAt P f.function c fn block → slice_get block.phis k ≡ Some p →
        Fact f.function p.dest (edge_value P.globals I.base f.registers p.edges from)
    pub result : (f : Frame) (fn : Function) (block : Block) (arg : Option Arg) →
        ValuesHold Fact Returned f.function f.registers →
        IsBlockAt P f.function f.block fn block → block.end ≡ ends.Ret arg →
        Returned f.function (returned P.globals I.base f.registers arg)

  -- A fact that each case keeps holds of each register of each frame at each step.
  pub fact_holds : KeepsFact → (n : ℕ) → values_in_frames Fact Returned (run P I n).frames
  fact_holds each n =
      actions_keep_facts Fact Returned P I
      (record {
        instr = λ m f fs fn block i t h at e. instr_gives f.function (run P I m).world (length fs) f.registers i
            (each.instr m f fs fn block i t h at e);
        phi = each.phi;
        result = each.result;
      }) n
