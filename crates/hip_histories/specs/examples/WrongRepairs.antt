-- Programs that a wrong repair would write, which the laws refuse.
use Rattle.std.specs.Prelude.{List, [], ◌∷◌, codes}
use Rattle.hip_tree.specs.declared.instr.Instr.{Instr}
use Rattle.hip_tree.specs.declared.program.Function.{Function}
use Rattle.hip_tree.specs.declared.program.Program.{Program}
use Rattle.hip_repairs.specs.examples.CopyHoisted.{copy_function, copying_main}
use Rattle.hip_repairs.specs.examples.Words.{at, clwb, call_void, declare_clwb, declare_sfence, define_void, load_i64, main_of, number, persistent_i64, ptr_arg, ptr_param, reg, ret_void, sfence, store_i64}

-- @x = global i64 0, section ".pm"
-- declare void @llvm.x86.clwb(ptr)
-- declare void @llvm.x86.sse.sfence()
-- define i32 @main() {
-- entry:
--   BODY
--   ret i32 0
-- }
abbrev pub on_x : List Instr → Program
on_x body =
    record {
      globals = persistent_i64 (codes "x") ∷ [];
      externs = declare_clwb ∷ declare_sfence ∷ [];
      functions = main_of body ∷ [];
    }

-- The flush is before the store:
--   call void @llvm.x86.clwb(ptr @x)
--   store i64 5, ptr @x
--   call void @llvm.x86.sse.sfence()
abbrev pub flush_before_store : Program
flush_before_store = on_x (clwb (at (codes "x")) ∷ store_i64 (number 5) (at (codes "x")) ∷ sfence ∷ [])

-- The fence is after the store, and the flush is after the fence:
--   store i64 5, ptr @x
--   call void @llvm.x86.sse.sfence()
--   call void @llvm.x86.clwb(ptr @x)
abbrev pub fence_before_flush : Program
fence_before_flush = on_x (store_i64 (number 5) (at (codes "x")) ∷ sfence ∷ clwb (at (codes "x")) ∷ [])

-- define void @copy.pm(ptr %dst, ptr %src) {
-- entry:
--   %v = load i64, ptr %src
--   call void @llvm.x86.clwb(ptr %dst)
--   call void @llvm.x86.sse.sfence()
--   store i64 %v, ptr %dst
--   ret void
-- }
abbrev pub early_clone : Function
early_clone =
    define_void (codes "copy.pm") (ptr_param (codes "dst") ∷ ptr_param (codes "src") ∷ [])
    (ret_void (codes "entry")
    (load_i64 (codes "v") (reg (codes "src"))
    ∷ clwb (reg (codes "dst")) ∷ sfence ∷ store_i64 (reg (codes "v")) (reg (codes "dst")) ∷ []) ∷ [])

-- define void @copy.pm(ptr %dst, ptr %src) {
-- entry:
--   %v = load i64, ptr %src
--   ret void
-- }
abbrev pub short_clone : Function
short_clone =
    define_void (codes "copy.pm") (ptr_param (codes "dst") ∷ ptr_param (codes "src") ∷ [])
    (ret_void (codes "entry") (load_i64 (codes "v") (reg (codes "src")) ∷ []) ∷ [])

-- `copy_hoisted` with its last call hoisted, which goes to this clone:
--   call void @copy.pm(ptr @p, ptr %b)
--   call void @llvm.x86.sse.sfence()
abbrev pub hoisted_to : Function → Program
hoisted_to clone =
    record {
      globals = persistent_i64 (codes "p") ∷ [];
      externs = declare_clwb ∷ declare_sfence ∷ [];
      functions =
          copy_function
          ∷ copying_main
          (call_void (codes "copy.pm") (ptr_arg (at (codes "p")) ∷ ptr_arg (reg (codes "b")) ∷ []) ∷ sfence
          ∷ [])
          ∷ clone
          ∷ [];
    }

-- The program with a clone that flushes and fences before its last store.
abbrev pub clone_fences_early : Program
clone_fences_early = hoisted_to early_clone

-- The program with a clone that leaves out the store.
abbrev pub clone_without_store : Program
clone_without_store = hoisted_to short_clone
