-- The external functions that a program may declare. The flush and fence calls are LLVM's x86 intrinsics. The three
-- `pmem_` calls are libpmem's. The others are this project's own.
use Rattle.std.specs.Prelude.{ℕ, ◌≡◌, ◌||◌, not, Bool, true, false, List, [], ◌∷◌, Option, Some, None, option_map, is_some, codes}
use Rattle.std.specs.List.{find}
use Rattle.std.specs.Str.{bytes_eq}
use Rattle.hip_types.specs.declared.number.Scalar.{Scalar}
use Rattle.hip_types.specs.declared.number.Scalar.TheVariants.{Int, Ptr}
use Rattle.hip_types.specs.declared.number.Width.TheVariants.{W64}
use Rattle.hip_externs.specs.declared.call.TheConstants.{CALLS}
use Rattle.hip_externs.specs.declared.call.ExternCall.{ExternCall}
use Rattle.hip_externs.specs.declared.call.ExternCall.TheVariants as calls
use Rattle.hip_externs.specs.declared.call.LineEffect.{LineEffect}
use Rattle.hip_externs.specs.declared.call.LineEffect.TheVariants as effects

-- What is known of an external function before it runs.
pub record ExternFunction : Type 0 where
  pub name : List ℕ
  pub ret : Option Scalar
  pub params : List Scalar
  pub effect : LineEffect

-- A row of the table: a name, the result if there is one, the parameters, and what it does to cache lines.
abbrev external : List ℕ → Option Scalar → List Scalar → LineEffect → ExternFunction
external name ret params effect = record { name = name; ret = ret; params = params; effect = effect }

-- A row of the table for a function without a result.
abbrev procedure : List ℕ → List Scalar → LineEffect → ExternFunction
procedure name params effect = external name None params effect

-- The table. A flush instruction and a fence are as Intel's manual has them; `pmem_persist` is `pmem_flush` and
-- `pmem_drain`.
abbrev pub row_of : ExternCall → ExternFunction
row_of calls.ReadI64 = external (codes "read_i64") (Some (Int W64)) [] effects.Nothing
row_of calls.PrintI64 = procedure (codes "print_i64") (Int W64 ∷ []) effects.Nothing
row_of calls.PmAssert = procedure (codes "pm_assert") (Ptr ∷ Int W64 ∷ []) effects.Nothing
row_of calls.Clwb = procedure (codes "llvm.x86.clwb") (Ptr ∷ []) effects.Flush
row_of calls.Clflushopt = procedure (codes "llvm.x86.clflushopt") (Ptr ∷ []) effects.Flush
row_of calls.Clflush = procedure (codes "llvm.x86.sse2.clflush") (Ptr ∷ []) effects.Flush
row_of calls.Sfence = procedure (codes "llvm.x86.sse.sfence") [] effects.Fence
row_of calls.Mfence = procedure (codes "llvm.x86.sse2.mfence") [] effects.Fence
row_of calls.PmemFlush = procedure (codes "pmem_flush") (Ptr ∷ Int W64 ∷ []) effects.Flush
row_of calls.PmemPersist = procedure (codes "pmem_persist") (Ptr ∷ Int W64 ∷ []) effects.FlushAndFence
row_of calls.PmemDrain = procedure (codes "pmem_drain") [] effects.Fence

-- The external function of that name.
abbrev pub call_of : List ℕ → Option ExternCall
call_of name = find (λ c. bytes_eq (row_of c).name name) CALLS

-- Whether some external function has the name.
abbrev pub is_extern_name : List ℕ → Bool
is_extern_name name = is_some (call_of name)

-- ---- signatures

-- The type of a function's result, if it has one, and those of its parameters in order.
pub record Signature : Type 0 where
  pub ret : Option Scalar
  pub params : List Scalar

-- The signature of an external function, by the table.
abbrev pub signature : ExternCall → Signature
signature c = record { ret = (row_of c).ret; params = (row_of c).params }

-- The signature that the table has for a name; none if no external function has that name.
abbrev pub known_signature : List ℕ → Option Signature
known_signature name = option_map signature (call_of name)

-- ---- flushes, fences and turns

-- Whether the effect flushes cache lines, with a fence after it or without.
abbrev has_flush : LineEffect → Bool
has_flush effects.Nothing = false
has_flush effects.Flush = true
has_flush effects.Fence = false
has_flush effects.FlushAndFence = true

-- Whether the effect takes a fence, after a flush or alone.
abbrev has_fence : LineEffect → Bool
has_fence effects.Nothing = false
has_fence effects.Flush = false
has_fence effects.Fence = true
has_fence effects.FlushAndFence = true

-- Whether the function flushes cache lines.
abbrev pub is_flush : ExternCall → Bool
is_flush c = has_flush (row_of c).effect

-- Whether the function takes a fence.
abbrev pub is_fence : ExternCall → Bool
is_fence c = has_fence (row_of c).effect

-- Whether a step that calls the function is a turn: it neither flushes nor takes a fence.
abbrev pub is_turn : ExternCall → Bool
is_turn c = not (is_flush c || is_fence c)
