-- What the instruction at a frame's place does: its action.
use Rattle.std.specs.Prelude.{ℕ, ◌+◌, ◌-◌, ◌%◌, Bool, true, false, cond, not, ◌&&◌, ◌||◌, nat_le, nat_lt, nat_eq, List, [], ◌∷◌, map, length, Option, Some, None, unwrap_or, slice_get, Result, Ok, Err, ℤ}
use Rattle.std.specs.Int.{next_multiple_of}
use Rattle.std.specs.Str.{bytes_eq}
use Rattle.hip_types.specs.Layout.{shape}
use Rattle.hip_types.specs.Numbers.{bits, modulus, signed, wrapped}
use Rattle.hip_types.specs.declared.number.Bits.{Bits}
use Rattle.hip_types.specs.declared.number.CastOp.{CastOp}
use Rattle.hip_types.specs.declared.number.Scalar.{Scalar}
use Rattle.hip_types.specs.declared.number.Width.TheVariants.{W64}
use Rattle.hip_tree.specs.declared.block.Case.{Case}
use Rattle.hip_tree.specs.declared.block.Edge.{Edge}
use Rattle.hip_tree.specs.declared.block.End.{End}
use Rattle.hip_tree.specs.declared.block.Phi.{Phi}
use Rattle.hip_tree.specs.declared.instr.Arg.{Arg}
use Rattle.hip_tree.specs.declared.instr.Instr.{Instr}
use Rattle.hip_tree.specs.declared.instr.Instr.TheVariants.{Binary, Compare, Select, Cast, Alloca, Load, Store, Gep, Call}
use Rattle.hip_tree.specs.declared.program.Function.{Function}
use Rattle.hip_tree.specs.declared.program.GlobalVar.{GlobalVar}
use Rattle.hip_tree.specs.declared.program.Program.{Program}
use Rattle.hip_types.specs.Bytes.{little_endian, bytes_of}
use Rattle.hip_mem.specs.Memory.{Memory, bytes_at}
use Rattle.hip_types.specs.Areas.{volatile_start, stack_start, stack_end}
use Rattle.hip_num.specs.Arithmetic.{binary_of}
use Rattle.hip_num.specs.Casts.{widened}
use Rattle.hip_num.specs.Comparisons.{holds}
use Rattle.hip_num.specs.declared.arithmetic.NumTrap.{NumTrap}
use Rattle.hip_globals.specs.Addresses.{volatile_end}
use Rattle.hip_externs.specs.Externs.{call_of, is_flush, is_fence, row_of}
use Rattle.hip_globals.specs.Initial.{volatile_bytes}
use Rattle.hip_externs.specs.declared.call.ExternCall.{ExternCall}
use Rattle.hip_externs.specs.declared.call.LineEffect.{LineEffect}
use Rattle.hip_externs.specs.declared.call.LineEffect.TheVariants as effects
use Rattle.hip_sound.specs.NumberedNames.{function_number}
use Rattle.hip_globals.specs.Values.{element_address}
use Rattle.hip_runs.specs.declared.event.TrapKind.{TrapKind}
use Rattle.hip_runs.specs.declared.input.Input.{Input}
use Rattle.hip_runs.specs.State.{Registers, Frame, World}
use Rattle.hip_runs.specs.Operands.{value_of, values_of, bound, scalar_size, access_align}
use Rattle.hip_types.specs.Scalars.{width_of}
use Rattle.hip_runs.specs.Places.{blocks_of, block_at, phis_of, label_of, block_number}
use Rattle.hip_types.specs.declared.number.CastOp.TheVariants as casts
use Rattle.hip_tree.specs.declared.block.End.TheVariants as ends
use Rattle.hip_num.specs.declared.arithmetic.NumTrap.TheVariants as num_traps
use Rattle.hip_externs.specs.declared.call.ExternCall.TheVariants as calls
use Rattle.hip_runs.specs.declared.event.TrapKind.TheVariants as traps
use Rattle.hip_runs.specs.declared.limits.TheConstants.{MOST_FRAMES}

-- What an instruction or the end of a block does, with the values of its operands in place of the operands.
pub data Action : Type 0 where
  Traps : TrapKind → Action
  -- A register takes a value.
  Assigns : Option (List ℕ) → ℕ → Action
  -- A register takes the address of a new block on the stack, which has a size.
  Allocates : List ℕ → (addr size : ℕ) → Action
  -- Bytes are stored from an address on.
  Stores : (addr : ℕ) → List ℕ → Action
  -- The cache lines of a range are flushed (`Flushes`), or flushed and then fenced (`Persists`); or there is only a
  -- fence (`Fences`).
  Flushes : (addr size : ℕ) → Action
  Persists : (addr size : ℕ) → Action
  Fences : Action
  -- A range of the region is checked.
  Asserts : (addr size : ℕ) → Action
  Prints : ℤ → Action
  -- A register takes the next input number, and these are left.
  Reads : Option (List ℕ) → ℤ → List ℤ → Action
  -- A frame is made for the function of that number, with these registers; its result goes into a register.
  Calls : ℕ → Registers → Option (List ℕ) → Action
  -- Control goes to the block of that number, with these registers.
  Jumps : ℕ → Registers → Action
  -- The frame's function returns a value.
  Returns : ℕ → Action

-- ---- addresses that are valid

-- Whether the n bytes from address a on are in the range from `from` up to `to`. For n = 0, a may also be `to`.
abbrev pub is_within : ℕ → ℕ → ℕ → ℕ → Bool
is_within from to a n = nat_le from a && nat_le (a + n) to

-- Whether n bytes from address a on lie in the region.
abbrev pub in_region : Input → ℕ → ℕ → Bool
in_region I a n = is_within I.base (I.base + length I.image) a n

-- Whether the n bytes from address a on are all valid. The bytes of the volatile globals, those of the stack below the
-- mark, and those of the region are valid, and none of these areas touches another. (This project's own.)
abbrev pub are_valid : Program → Input → World → ℕ → ℕ → Bool
are_valid P I w a n =
    is_within volatile_start (volatile_end P) a n || (is_within stack_start w.mark a n || in_region I a n)

-- The memory in a run.
abbrev pub memory_of : Program → Input → World → Memory
memory_of P I w = record { base = I.base; volatile = volatile_bytes P I.base; region = I.image; writes = w.writes }

-- An access of n bytes traps if its address is not a multiple of its alignment, and then if one of its bytes is not
-- valid.
unfoldable pub accessed : Program → Input → World → ℕ → ℕ → ℕ → Action → Action
accessed P I w a n align go =
    cond (nat_eq (a % align) 0) (cond (are_valid P I w a n) go (Traps traps.Address)) (Traps traps.Misaligned)

-- ---- values

-- The trap of a run for each trap of an integer operation.
abbrev pub trap_of : NumTrap → TrapKind
trap_of num_traps.DivZero = traps.DivZero
trap_of num_traps.DivOverflow = traps.DivOverflow
trap_of num_traps.ShiftRange = traps.ShiftRange

-- A register takes the result of an integer operation, or the run traps as the operation does.
abbrev pub calculated : List ℕ → Result Bits NumTrap → Action
calculated dest (Ok b) = Assigns (Some dest) b.value
calculated dest (Err trap) = Traps (trap_of trap)

-- A test as a number: 1 if it holds, else 0.
abbrev pub truth : Bool → ℕ
truth true = 1
truth false = 0

-- `zext` and `inttoptr` put zeros in front, `trunc` and `ptrtoint` take the number modulo 2^N, `sext` puts the sign in
-- front.
abbrev pub cast_value : CastOp → Scalar → Scalar → ℕ → ℕ
cast_value casts.Sext from to v = (widened (bits (width_of from) v) (width_of to) true).value
cast_value casts.Zext from to v = v % modulus (width_of to)
cast_value casts.Trunc from to v = v % modulus (width_of to)
cast_value casts.Ptrtoint from to v = v % modulus (width_of to)
cast_value casts.Inttoptr from to v = v % modulus (width_of to)

-- An index of an integer type, sign-extended to 64 bits.
abbrev pub index_value : Scalar → ℕ → ℕ
index_value s v = wrapped W64 (signed (width_of s) (bits (width_of s) v).value)

-- The values of the indices of a `getelementptr` in order, each sign-extended to 64 bits. (LLVM, "getelementptr".)
abbrev pub index_values : List GlobalVar → ℕ → Registers → List Arg → List ℕ
index_values globals base registers args = map (λ a. index_value a.ty (value_of globals base registers a.value)) args

-- The value that bytes in memory give under a scalar type: an i1 is the lowest bit.
abbrev pub read_value : Scalar → List ℕ → ℕ
read_value s bytes = little_endian bytes % modulus (width_of s)

-- ---- the stack

-- An `alloca` places its block at the next multiple of its alignment from the mark on. It traps if the block does not
-- end within the stack.
unfoldable pub allocated : World → List ℕ → ℕ → ℕ → Action
allocated w dest size align =
    cond (nat_le (next_multiple_of w.mark align + size) stack_end) (Allocates dest (next_multiple_of w.mark align) size)
    (Traps traps.Stack)

-- ---- calls

-- The call of function g: its parameters take the values in order; a trap if there is no such function.
abbrev pub bound_call : Option Function → ℕ → List ℕ → Option (List ℕ) → Action
bound_call None g values dest = Traps traps.Unreachable
bound_call (Some f) g values dest = Calls g (bound f.params values) dest

-- The call of the function of that number; a trap if there is no number, since no function has the callee's name.
abbrev pub numbered_call : Program → Option ℕ → List ℕ → Option (List ℕ) → Action
numbered_call P None values dest = Traps traps.Unreachable
numbered_call P (Some g) values dest = bound_call (slice_get P.functions g) g values dest

-- A call of a defined function makes a frame, if there are fewer than 16,384 frames. It traps if no function has the
-- name, which does not occur in a sound program.
unfoldable pub entered : Program → ℕ → List ℕ → List ℕ → Option (List ℕ) → Action
entered P below callee values dest =
    cond (nat_lt below (MOST_FRAMES - 1)) (numbered_call P (function_number P callee) values dest) (Traps traps.Depth)

-- The value of argument k of a call, counted from 0; 0 if there are fewer.
abbrev pub arg_value : List ℕ → ℕ → ℕ
arg_value values k = unwrap_or (slice_get values k) 0

-- The flush of a range; it traps if a byte of the range is not valid.
unfoldable pub flushing : Program → Input → World → ℕ → ℕ → Action → Action
flushing P I w a n go = cond (nat_eq n 0) go (cond (are_valid P I w a n) go (Traps traps.Address))

-- What `read_i64` does with these input numbers left: it gives the first of them, and traps if none is left.
abbrev pub read_next : Option (List ℕ) → List ℤ → Action
read_next dest [] = Traps traps.InputEnd
read_next dest (z ∷ rest) = Reads dest z rest

-- How many bytes from its address on a function with these parameters flushes. A cache line instruction takes an
-- address and acts on the line that has it (Intel's manual); a `pmem_` function takes a size too, and acts on the lines
-- that have a byte of the range (libpmem).
abbrev pub flushed_size : List Scalar → List ℕ → ℕ
flushed_size (addr ∷ size ∷ more) values = arg_value values 1
flushed_size _ values = 1

-- What a function with this effect does to the cache lines of a range. (The case of no effect does not occur.)
abbrev pub line_action : Program → Input → World → LineEffect → (addr size : ℕ) → Action
line_action P I w effects.Nothing a n = Traps traps.Unreachable
line_action P I w effects.Flush a n = flushing P I w a n (Flushes a n)
line_action P I w effects.Fence a n = Fences
line_action P I w effects.FlushAndFence a n = flushing P I w a n (Persists a n)

-- What an external function does. A function that flushes or fences does what its effect and its parameters in the
-- table say. The other functions are this project's own.
abbrev pub extern_action : Program → Input → World → ExternCall → List ℕ → Option (List ℕ) → Action
extern_action P I w calls.ReadI64 values dest = read_next dest w.left
extern_action P I w calls.PrintI64 values dest = Prints (signed W64 (arg_value values 0))
extern_action P I w calls.PmAssert values dest =
    cond (in_region I (arg_value values 0) (arg_value values 1)) (Asserts (arg_value values 0) (arg_value values 1))
    (Traps traps.Address)
extern_action P I w call values dest =
    line_action P I w (row_of call).effect (arg_value values 0) (flushed_size (row_of call).params values)

-- A call of an external function, or else of a defined one.
abbrev pub call_action : Program → Input → World → ℕ → Option ExternCall → List ℕ → List ℕ
    → Option (List ℕ) → Action
call_action P I w below (Some call) callee values dest = extern_action P I w call values dest
call_action P I w below None callee values dest = entered P below callee values dest

-- ---- instructions

-- What an instruction does in a world, with the registers of its frame and the number of frames below it.
-- (LLVM's language reference, with traps in place of undefined behaviour.)
unfoldable pub instr_action : Program → Input → World → ℕ → Registers → Instr → Action
instr_action P I w below rs (Binary dest op flags width a b) =
    calculated dest (binary_of op (bits width (value_of P.globals I.base rs a))
    (bits width (value_of P.globals I.base rs b)))
instr_action P I w below rs (Compare dest pred ty a b) =
    Assigns (Some dest)
    (truth (holds pred (width_of ty) (bits (width_of ty) (value_of P.globals I.base rs a)).value
    (bits (width_of ty) (value_of P.globals I.base rs b)).value))
instr_action P I w below rs (Select dest test ty a b) =
    Assigns (Some dest) (cond (nat_eq (value_of P.globals I.base rs test) 1) (value_of P.globals I.base rs a)
    (value_of P.globals I.base rs b))
instr_action P I w below rs (Cast dest op from a to) =
    Assigns (Some dest) (cast_value op from to (value_of P.globals I.base rs a))
instr_action P I w below rs (Alloca dest ty align) = allocated w dest (shape ty).size (shape ty).align
instr_action P I w below rs (Load dest ty addr align) =
    accessed P I w (value_of P.globals I.base rs addr) (scalar_size ty) (access_align ty align)
    (Assigns (Some dest) (read_value ty
    (bytes_at (memory_of P I w) (value_of P.globals I.base rs addr) (scalar_size ty))))
instr_action P I w below rs (Store ty value addr align) =
    accessed P I w (value_of P.globals I.base rs addr) (scalar_size ty) (access_align ty align)
    (Stores (value_of P.globals I.base rs addr) (bytes_of (scalar_size ty) (value_of P.globals I.base rs value)))
instr_action P I w below rs (Gep dest inbounds ty base indices) =
    Assigns (Some dest) (element_address (value_of P.globals I.base rs base) ty
    (index_values P.globals I.base rs indices))
instr_action P I w below rs (Call dest ret callee args) =
    call_action P I w below (call_of callee) callee (values_of P.globals I.base rs args) dest

-- ---- ends of blocks

-- The value of the operand that a phi has for control from the block with a label, by its first edge of that label; 0
-- if no edge has it.
abbrev pub edge_value : List GlobalVar → ℕ → Registers → List Edge → List ℕ → ℕ
edge_value globals base rs [] from = 0
edge_value globals base rs (e ∷ es) from =
    cond (bytes_eq e.label from) (value_of globals base rs e.value) (edge_value globals base rs es from)

-- Phis take their values at the same time, each from the registers at the edge.
abbrev pub after_phis : List GlobalVar → ℕ → Registers → List ℕ → List Phi → Registers
after_phis globals base rs from [] = rs
after_phis globals base rs from (p ∷ ps) =
    (p.dest, edge_value globals base rs p.edges from) ∷ after_phis globals base rs from ps

-- Control goes from the frame's block to the block of that number, whose phis take their values. Without a number this
-- is a trap.
abbrev pub jump_to : Program → Input → Frame → Option ℕ → Action
jump_to P I f None = Traps traps.Unreachable
jump_to P I f (Some b) =
    Jumps b (after_phis P.globals I.base f.registers (label_of (block_at P f.function f.block))
    (phis_of (block_at P f.function b)))

-- Control goes to the block with the label. It traps if no block has the label, which does not occur in a sound
-- program.
unfoldable pub jump : Program → Input → Frame → List ℕ → Action
jump P I f label = jump_to P I f (block_number (blocks_of P f.function) label)

-- The label of the first case with the value, or the other label if no case has it.
abbrev pub case_label : ℕ → List Case → List ℕ → List ℕ
case_label v [] other = other
case_label v (c ∷ cs) other = cond (nat_eq c.value.value v) c.label (case_label v cs other)

-- The value that a `ret` returns: its operand's, and 0 for `ret void`. (LLVM, "ret".)
abbrev pub returned : List GlobalVar → ℕ → Registers → Option Arg → ℕ
returned globals base rs None = 0
returned globals base rs (Some arg) = value_of globals base rs arg.value

-- What the end of a block does. It traps if the block does not exist, which does not occur in a sound program.
unfoldable pub end_action : Program → Input → Frame → Option End → Action
end_action P I f None = Traps traps.Unreachable
end_action P I f (Some (ends.Br label)) = jump P I f label
end_action P I f (Some (ends.CondBr test first second)) =
    jump P I f (cond (nat_eq (value_of P.globals I.base f.registers test) 1) first second)
end_action P I f (Some (ends.Switch width value other cases)) =
    jump P I f (case_label (value_of P.globals I.base f.registers value) cases other)
end_action P I f (Some (ends.Ret arg)) = Returns (returned P.globals I.base f.registers arg)
end_action P I f (Some ends.Unreachable) = Traps traps.Unreachable

-- ---- what comes next

-- Whether an external call is a flush or a fence.
abbrev pub is_flush_or_fence : Option ExternCall → Bool
is_flush_or_fence None = false
is_flush_or_fence (Some c) = is_flush c || is_fence c

-- Each step is a turn, except flushes and fences.
abbrev pub is_turn : Instr → Bool
is_turn (Call dest ret callee args) = not (is_flush_or_fence (call_of callee))
is_turn _ = true

-- An action, and whether it is a turn.
pub record Deed : Type 0 where
  pub turn : Bool
  pub action : Action

-- What the instruction at the frame's place does, or what the end of the block does if there is no instruction.
abbrev pub deed_of : Program → Input → World → ℕ → Frame → Option End → List Instr → Deed
deed_of P I w below f end [] = record { turn = true; action = end_action P I f end }
deed_of P I w below f end (i ∷ rest) = record { turn = is_turn i; action = instr_action P I w below f.registers i }
