-- The instructions at the sites that the cache lines and the frames of a state name.
use Rattle.std.specs.Prelude.{◌≡◌, ℕ, ◌≤◌, Bool, true, false, ◌&&◌, ◌||◌, not, is_some, Option, Some, None, slice_get}
use Rattle.hip_tree.specs.Sites.{instr_of}
use Rattle.hip_tree.specs.declared.instr.Instr.{Instr}
use Rattle.hip_tree.specs.declared.instr.Instr.TheVariants.{Store, Call}
use Rattle.hip_tree.specs.declared.program.Program.{Program}
use Rattle.hip_lines.specs.Line.{Line}
use Rattle.hip_externs.specs.Externs.{call_of, is_flush, is_fence}
use Rattle.hip_sound.specs.NumberedNames.{function_number}
use Rattle.hip_externs.specs.declared.call.ExternCall.{ExternCall}
use Rattle.hip_runs.specs.StoredParts.Parts.{In, PartOf}
use Rattle.hip_runs.specs.State.{Level, Flush, StorePart, State, levels_of}

-- ---- what an instruction is

-- Whether there is an instruction and it is a `store`.
abbrev pub is_store : Option Instr → Bool
is_store (Some (Store ty value addr align)) = true
is_store _ = false

-- Whether a call is of an external function that flushes, and takes no fence.
abbrev pub only_flushes : Option ExternCall → Bool
only_flushes None = false
only_flushes (Some c) = is_flush c && not (is_fence c)

-- Whether a call is of the external function that flushes and then fences.
abbrev pub persists : Option ExternCall → Bool
persists None = false
persists (Some c) = is_flush c && is_fence c

-- Whether an instruction calls an external function that flushes and takes no fence. (Intel's manual: CLWB,
-- CLFLUSHOPT, CLFLUSH; libpmem: `pmem_flush`.)
abbrev pub is_flush_call : Option Instr → Bool
is_flush_call (Some (Call dest ret callee args)) = only_flushes (call_of callee)
is_flush_call _ = false

-- Whether an instruction calls an external function that flushes and then fences. (libpmem: `pmem_persist`.)
abbrev pub is_persist_call : Option Instr → Bool
is_persist_call (Some (Call dest ret callee args)) = persists (call_of callee)
is_persist_call _ = false

-- The number of the function of the program that an instruction calls, if it does.
abbrev pub called_number : Program → Option Instr → Option ℕ
called_number P (Some (Call dest ret callee args)) = function_number P callee
called_number P _ = None

-- Whether an instruction is a call of a function of the program.
abbrev pub is_defined_call : Program → Option Instr → Bool
is_defined_call P i = is_some (called_number P i)

-- ---- what a state names

-- The site of a part is the site of a store. Its first flush is a call that flushes, and takes no fence if the part is
-- not durable. The calls that have not returned, and the calls of each part, are calls of functions of the program.
pub record HasSites (P : Program) (s : State) : Type 0 where
  pub store : (x : StorePart) → PartOf s.lines x → is_store (instr_of P x.site) ≡ true
  pub flush : (x : StorePart) (f : Flush) → PartOf s.lines x → x.first_flush ≡ Some f →
      is_flush_call (instr_of P f.site) || is_persist_call (instr_of P f.site) ≡ true
  pub unfenced : (m : ℕ) (l : Line StorePart) (k : ℕ) (x : StorePart) (f : Flush) →
      slice_get s.lines m ≡ Some l → slice_get l.parts k ≡ Some x → l.durable ≤ k
      → x.first_flush ≡ Some f →
      is_flush_call (instr_of P f.site) ≡ true
  pub standing : (v : Level) → In v (levels_of s.frames) → is_defined_call P (instr_of P v.call) ≡ true
  pub call : (x : StorePart) (v : Level) → PartOf s.lines x → In v x.levels →
      is_defined_call P (instr_of P v.call) ≡ true
