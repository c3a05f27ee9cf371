-- A function that copies a number, once to the stack and once to a persistent global.
use Rattle.std.specs.Prelude.{List, [], ◌∷◌, None, codes}
use Rattle.hip_tree.specs.declared.instr.Instr.{Instr}
use Rattle.hip_tree.specs.declared.program.Function.{Function}
use Rattle.hip_tree.specs.declared.program.Program.{Program}
use Rattle.hip_runs.specs.declared.report.Kind.TheVariants.{MissingBoth}
use Rattle.hip_runs.specs.declared.report.Report.{Report}
use Rattle.hip_repairs.specs.examples.Words.{at, reg, number, ptr_arg, ptr_param, persistent_i64, alloca_i64, load_i64, store_i64, call_void, clwb, declare_clwb, sfence, declare_sfence, ret_void, define_void, main_of, site}

-- define void @copy(ptr %dst, ptr %src) {
-- entry:
--   %v = load i64, ptr %src
--   store i64 %v, ptr %dst
--   ret void
-- }
abbrev pub copy_function : Function
copy_function =
    define_void (codes "copy") (ptr_param (codes "dst") ∷ ptr_param (codes "src") ∷ [])
    (ret_void (codes "entry")
    (load_i64 (codes "v") (reg (codes "src")) ∷ store_i64 (reg (codes "v")) (reg (codes "dst")) ∷ []) ∷ [])

-- define void @copy.pm(ptr %dst, ptr %src) {
-- entry:
--   %v = load i64, ptr %src
--   store i64 %v, ptr %dst
--   call void @llvm.x86.clwb(ptr %dst)
--   ret void
-- }
abbrev pub copy_clone : Function
copy_clone =
    define_void (codes "copy.pm") (ptr_param (codes "dst") ∷ ptr_param (codes "src") ∷ [])
    (ret_void (codes "entry")
    (load_i64 (codes "v") (reg (codes "src"))
    ∷ store_i64 (reg (codes "v")) (reg (codes "dst")) ∷ clwb (reg (codes "dst")) ∷ []) ∷ [])

-- define i32 @main() {
-- entry:
--   %a = alloca i64
--   %b = alloca i64
--   store i64 9, ptr %a
--   call void @copy(ptr %b, ptr %a)
--   LAST
--   ret i32 0
-- }
abbrev pub copying_main : List Instr → Function
copying_main last =
    main_of
    (alloca_i64 (codes "a")
    ∷ alloca_i64 (codes "b")
    ∷ store_i64 (number 9) (reg (codes "a"))
    ∷ call_void (codes "copy") (ptr_arg (reg (codes "b")) ∷ ptr_arg (reg (codes "a")) ∷ [])
    ∷ last)

-- @p = global i64 0, section ".pm"
-- @copy as above, and @main with `call void @copy(ptr @p, ptr %b)` at last
abbrev pub copy_hoisted : Program
copy_hoisted =
    record {
      globals = persistent_i64 (codes "p") ∷ [];
      externs = [];
      functions =
          copy_function
          ∷ copying_main (call_void (codes "copy") (ptr_arg (at (codes "p")) ∷ ptr_arg (reg (codes "b")) ∷ [])
          ∷ [])
          ∷ [];
    }

-- report both entry 3 check 4 closed 1 path @copy:entry:1 @main:entry:4
abbrev pub copy_hoisted_report : Report
copy_hoisted_report =
    record {
      entry = 3;
      check_entry = 4;
      kind = MissingBoth;
      flush_site = None;
      path = site 0 1 ∷ site 1 4 ∷ [];
      closed = 1;
    }

-- @p = global i64 0, section ".pm"
-- declare void @llvm.x86.clwb(ptr)
-- declare void @llvm.x86.sse.sfence()
-- @copy as above, @main with these two at last, and @copy.pm as above
--   call void @copy.pm(ptr @p, ptr %b)
--   call void @llvm.x86.sse.sfence()
abbrev pub copy_hoisted_repaired : Program
copy_hoisted_repaired =
    record {
      globals = persistent_i64 (codes "p") ∷ [];
      externs = declare_clwb ∷ declare_sfence ∷ [];
      functions =
          copy_function
          ∷ copying_main
          (call_void (codes "copy.pm") (ptr_arg (at (codes "p")) ∷ ptr_arg (reg (codes "b")) ∷ []) ∷ sfence
          ∷ [])
          ∷ copy_clone
          ∷ [];
    }
