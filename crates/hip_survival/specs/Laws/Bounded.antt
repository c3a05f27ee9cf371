-- What an action touches: a store writes valid bytes, a new block ends within the stack, and the range of a check is in
-- the region.
use Rattle.std.proofs.Common.{◌≡◌, ℕ, ◌+◌, ◌%◌, ◌≤◌, Bool, true, false, cond, ◌||◌, nat_eq, nat_le, nat_lt, ℤ, List, [], ◌∷◌, length, Option, Some, None, slice_get, Result, Ok, Err, refl, sym, subst, leb-true}
use Rattle.std.specs.Int.{next_multiple_of}
use Rattle.hip_types.specs.Layout.{shape}
use Rattle.hip_types.specs.Numbers.{bits}
use Rattle.hip_types.specs.declared.number.Bits.{Bits}
use Rattle.hip_tree.specs.declared.block.End.{End}
use Rattle.hip_tree.specs.declared.block.End.TheVariants as ends
use Rattle.hip_tree.specs.declared.instr.Instr.{Instr}
use Rattle.hip_tree.specs.declared.instr.Instr.TheVariants.{Binary, Compare, Select, Cast, Alloca, Load, Store, Gep, Call}
use Rattle.hip_tree.specs.declared.program.Function.{Function}
use Rattle.hip_tree.specs.declared.program.Program.{Program}
use Rattle.hip_externs.specs.Externs.{call_of, row_of}
use Rattle.hip_externs.specs.declared.call.ExternCall.{ExternCall}
use Rattle.hip_externs.specs.declared.call.ExternCall.TheVariants as calls
use Rattle.hip_externs.specs.declared.call.LineEffect.{LineEffect}
use Rattle.hip_externs.specs.declared.call.LineEffect.TheVariants as effects
use Rattle.hip_globals.specs.Addresses.{volatile_end}
use Rattle.hip_types.specs.Bytes.{bytes_of}
use Rattle.hip_mem.specs.Laws.BytesLaws.{length-bytes_of}
use Rattle.hip_types.specs.Areas.{volatile_start, stack_start, stack_end}
use Rattle.hip_num.specs.Arithmetic.{binary_of}
use Rattle.hip_num.specs.declared.arithmetic.NumTrap.{NumTrap}
use Rattle.hip_sound.specs.NumberedNames.{function_number}
use Rattle.hip_runs.specs.Actions.{Action, Traps, Allocates, Stores, Flushes, Persists, Asserts, is_within, are_valid, arg_value, in_region, accessed, calculated, allocated, bound_call, numbered_call, entered, flushing, read_next, call_action, instr_action, jump_to, jump, end_action, deed_of, line_action, flushed_size}
use Rattle.hip_runs.specs.Operands.{scalar_size, value_of, values_of}
use Rattle.hip_runs.specs.Places.{code_at, end_at}
use Rattle.hip_runs.specs.State.{Registers, Frame, World}
use Rattle.hip_runs.specs.Step.{deed_at}
use Rattle.hip_runs.specs.declared.event.TrapKind.TheVariants as traps
use Rattle.hip_runs.specs.declared.input.Input.{Input}

module _ (P : Program) (I : Input) where
  -- What an action may touch, under a stack mark; no condition on other actions.
  abbrev pub touches : ℕ → Action → Type 0
  touches mark (Stores a bytes) =
      (is_within volatile_start (volatile_end P) a (length bytes)
      || (is_within stack_start mark a (length bytes) || in_region I a (length bytes)) ≡ true)
  touches mark (Allocates dest a n) = a + n ≤ stack_end
  touches mark (Asserts a n) = (in_region I a n ≡ true)
  touches mark _ = Unit {0}

  -- The action touches only what it may touch.
  pub record Bounded (mark : ℕ) (x : Action) : Type 0 where
    pub is : touches mark x

  bounded_cond : (mark : ℕ) (b : Bool) (x y : Action) → Bounded mark x → Bounded mark y
      → Bounded mark (cond b x y)
  bounded_cond mark true x y p q = p
  bounded_cond mark false x y p q = q

  module _ (w : World) (below : ℕ) (rs : Registers) where
    bounded_accessed : (a n align : ℕ) (x : Action) → (are_valid P I w a n ≡ true → Bounded w.mark x)
        → Bounded w.mark (accessed P I w a n align x)
    unfolding accessed
    bounded_accessed a n align x h =
        bounded_cond w.mark (nat_eq (a % align) 0) (cond (are_valid P I w a n) x (Traps traps.Address))
        (Traps traps.Misaligned) (go (are_valid P I w a n) refl) (record { is = tt {0} })
      where
        go : (b : Bool) → are_valid P I w a n ≡ b → Bounded w.mark (cond b x (Traps traps.Address))
        go true e = h e
        go false e = record { is = tt {0} }

    bounded_flushing : (a n : ℕ) (x : Action) → Bounded w.mark x → Bounded w.mark (flushing P I w a n x)
    unfolding flushing
    bounded_flushing a n x h =
        bounded_cond w.mark (nat_eq n 0) x (cond (are_valid P I w a n) x (Traps traps.Address)) h
        (bounded_cond w.mark (are_valid P I w a n) x (Traps traps.Address) h (record { is = tt {0} }))

    bounded_lines : (effect : LineEffect) (a n : ℕ) → Bounded w.mark (line_action P I w effect a n)
    bounded_lines effects.Nothing a n = record { is = tt {0} }
    bounded_lines effects.Flush a n = bounded_flushing a n (Flushes a n) (record { is = tt {0} })
    bounded_lines effects.Fence a n = record { is = tt {0} }
    bounded_lines effects.FlushAndFence a n = bounded_flushing a n (Persists a n) (record { is = tt {0} })

    bounded_allocated : (dest : List ℕ) (size align : ℕ) → Bounded w.mark (allocated w dest size align)
    unfolding allocated
    bounded_allocated dest size align = go (nat_le (next_multiple_of w.mark align + size) stack_end) refl
      where
        go : (b : Bool) → nat_le (next_multiple_of w.mark align + size) stack_end ≡ b
            → Bounded w.mark (cond b (Allocates dest (next_multiple_of w.mark align) size) (Traps traps.Stack))
        go true e = record { is = leb-true (next_multiple_of w.mark align + size) stack_end e }
        go false e = record { is = tt {0} }

    bounded_bound : (f : Option Function) (g : ℕ) (values : List ℕ) (dest : Option (List ℕ))
        → Bounded w.mark (bound_call f g values dest)
    bounded_bound None g values dest = record { is = tt {0} }
    bounded_bound (Some f) g values dest = record { is = tt {0} }

    bounded_numbered : (n : Option ℕ) (values : List ℕ) (dest : Option (List ℕ))
        → Bounded w.mark (numbered_call P n values dest)
    bounded_numbered None values dest = record { is = tt {0} }
    bounded_numbered (Some g) values dest = bounded_bound (slice_get P.functions g) g values dest

    bounded_entered : (callee values : List ℕ) (dest : Option (List ℕ))
        → Bounded w.mark (entered P below callee values dest)
    unfolding entered
    bounded_entered callee values dest =
        bounded_cond w.mark (nat_lt below 16383) (numbered_call P (function_number P callee) values dest)
        (Traps traps.Depth) (bounded_numbered (function_number P callee) values dest) (record { is = tt {0} })

    bounded_calculated : (dest : List ℕ) (r : Result Bits NumTrap) → Bounded w.mark (calculated dest r)
    bounded_calculated dest (Ok b) = record { is = tt {0} }
    bounded_calculated dest (Err t) = record { is = tt {0} }

    bounded_instr : (i : Instr) → Bounded w.mark (instr_action P I w below rs i)
    unfolding instr_action
    bounded_instr (Binary dest op flags width a b) =
        bounded_calculated dest (binary_of op (bits width (value_of P.globals I.base rs a))
        (bits width (value_of P.globals I.base rs b)))
    bounded_instr (Compare dest pred ty a b) = record { is = tt {0} }
    bounded_instr (Select dest test ty a b) = record { is = tt {0} }
    bounded_instr (Cast dest op from a to) = record { is = tt {0} }
    bounded_instr (Alloca dest ty align) = bounded_allocated dest (shape ty).size (shape ty).align
    bounded_instr (Load dest ty addr align) = bounded_accessed _ _ _ _ (λ e. record { is = tt {0} })
    bounded_instr (Store ty value addr align) =
        bounded_accessed (value_of P.globals I.base rs addr) (scalar_size ty) _
        (Stores (value_of P.globals I.base rs addr) (bytes_of (scalar_size ty) (value_of P.globals I.base rs value)))
        (λ e. record {
          is = subst (λ n. are_valid P I w (value_of P.globals I.base rs addr) n ≡ true)
              (sym (length-bytes_of (scalar_size ty) (value_of P.globals I.base rs value))) e;
        })
    bounded_instr (Gep dest inbounds ty base indices) = record { is = tt {0} }
    bounded_instr (Call dest ret callee args) = go (call_of callee)
      where
        read : (left : List ℤ) → Bounded w.mark (read_next dest left)
        read [] = record { is = tt {0} }
        read (z ∷ rest) = record { is = tt {0} }

        checked : (a n : ℕ) (b : Bool) → in_region I a n ≡ b
            → Bounded w.mark (cond b (Asserts a n) (Traps traps.Address))
        checked a n true e = record { is = e }
        checked a n false e = record { is = tt {0} }

        go : (c : Option ExternCall)
            → Bounded w.mark (call_action P I w below c callee (values_of P.globals I.base rs args) dest)
        go None = bounded_entered callee (values_of P.globals I.base rs args) dest
        go (Some calls.ReadI64) = read w.left
        go (Some calls.PrintI64) = record { is = tt {0} }
        go (Some calls.PmAssert) =
            let vs = values_of P.globals I.base rs args in
            checked (arg_value vs 0) (arg_value vs 1) (in_region I (arg_value vs 0) (arg_value vs 1)) refl
        go (Some call) =
            let vs = values_of P.globals I.base rs args in
            bounded_lines (row_of call).effect (arg_value vs 0) (flushed_size (row_of call).params vs)

  bounded_jump : (mark : ℕ) (f : Frame) (b : Option ℕ) → Bounded mark (jump_to P I f b)
  bounded_jump mark f None = record { is = tt {0} }
  bounded_jump mark f (Some b) = record { is = tt {0} }

  bounded_end : (mark : ℕ) (f : Frame) (e : Option End) → Bounded mark (end_action P I f e)
  unfolding end_action jump
  bounded_end mark f None = record { is = tt {0} }
  bounded_end mark f (Some (ends.Br label)) = bounded_jump mark f _
  bounded_end mark f (Some (ends.CondBr test first second)) = bounded_jump mark f _
  bounded_end mark f (Some (ends.Switch width value other cases)) = bounded_jump mark f _
  bounded_end mark f (Some (ends.Ret arg)) = record { is = tt {0} }
  bounded_end mark f (Some ends.Unreachable) = record { is = tt {0} }

  -- The next action of the top frame touches only what it may touch.
  pub deed_bounded : (w : World) (f : Frame) (fs : List Frame) → Bounded w.mark (deed_at P I w f fs).action
  deed_bounded w f fs = by_code (code_at P f)
    where
      by_code : (code : List Instr) → Bounded w.mark (deed_of P I w (length fs) f (end_at P f) code).action
      by_code [] = bounded_end w.mark f (end_at P f)
      by_code (i ∷ rest) = bounded_instr w (length fs) f.registers i
