-- A store with a fence and no flush after it.
use Rattle.std.specs.Prelude.{[], ◌∷◌, None, codes}
use Rattle.hip_tree.specs.declared.program.Program.{Program}
use Rattle.hip_runs.specs.declared.report.Kind.TheVariants.{MissingFlush}
use Rattle.hip_runs.specs.declared.report.Report.{Report}
use Rattle.hip_repairs.specs.examples.Words.{at, number, persistent_i64, store_i64, clwb, declare_clwb, sfence, declare_sfence, main_of, site}

-- @x = global i64 0, section ".pm"
-- declare void @llvm.x86.sse.sfence()
-- define i32 @main() {
-- entry:
--   store i64 5, ptr @x
--   call void @llvm.x86.sse.sfence()
--   ret i32 0
-- }
abbrev pub fence_without_flush : Program
fence_without_flush =
    record {
      globals = persistent_i64 (codes "x") ∷ [];
      externs = declare_sfence ∷ [];
      functions = main_of (store_i64 (number 5) (at (codes "x")) ∷ sfence ∷ []) ∷ [];
    }

-- report flush entry 3 check 5 closed 0 path @main:entry:0
abbrev pub fence_without_flush_report : Report
fence_without_flush_report =
    record { entry = 3; check_entry = 5; kind = MissingFlush; flush_site = None; path = site 0 0 ∷ []; closed = 0 }

-- @x = global i64 0, section ".pm"
-- declare void @llvm.x86.sse.sfence()
-- declare void @llvm.x86.clwb(ptr)
-- define i32 @main() {
-- entry:
--   store i64 5, ptr @x
--   call void @llvm.x86.clwb(ptr @x)
--   call void @llvm.x86.sse.sfence()
--   ret i32 0
-- }
abbrev pub fence_without_flush_repaired : Program
fence_without_flush_repaired =
    record {
      globals = persistent_i64 (codes "x") ∷ [];
      externs = declare_sfence ∷ declare_clwb ∷ [];
      functions = main_of (store_i64 (number 5) (at (codes "x")) ∷ clwb (at (codes "x")) ∷ sfence ∷ []) ∷ [];
    }
