-- A store with a flush and no fence after it.
use Rattle.std.specs.Prelude.{[], ◌∷◌, Some, codes}
use Rattle.hip_tree.specs.declared.program.Program.{Program}
use Rattle.hip_runs.specs.declared.report.Kind.TheVariants.{MissingFence}
use Rattle.hip_runs.specs.declared.report.Report.{Report}
use Rattle.hip_repairs.specs.examples.Words.{at, number, persistent_i64, store_i64, clwb, declare_clwb, sfence, declare_sfence, main_of, site}

-- @x = global i64 0, section ".pm"
-- declare void @llvm.x86.clwb(ptr)
-- define i32 @main() {
-- entry:
--   store i64 5, ptr @x
--   call void @llvm.x86.clwb(ptr @x)
--   ret i32 0
-- }
abbrev pub flush_without_fence : Program
flush_without_fence =
    record {
      globals = persistent_i64 (codes "x") ∷ [];
      externs = declare_clwb ∷ [];
      functions = main_of (store_i64 (number 5) (at (codes "x")) ∷ clwb (at (codes "x")) ∷ []) ∷ [];
    }

-- report fence entry 3 check 5 closed 0 flush @main:entry:1 path @main:entry:0
abbrev pub flush_without_fence_report : Report
flush_without_fence_report =
    record {
      entry = 3;
      check_entry = 5;
      kind = MissingFence;
      flush_site = Some (site 0 1);
      path = site 0 0 ∷ [];
      closed = 0;
    }

-- @x = global i64 0, section ".pm"
-- declare void @llvm.x86.clwb(ptr)
-- declare void @llvm.x86.sse.sfence()
-- define i32 @main() {
-- entry:
--   store i64 5, ptr @x
--   call void @llvm.x86.clwb(ptr @x)
--   call void @llvm.x86.sse.sfence()
--   ret i32 0
-- }
abbrev pub flush_without_fence_repaired : Program
flush_without_fence_repaired =
    record {
      globals = persistent_i64 (codes "x") ∷ [];
      externs = declare_clwb ∷ declare_sfence ∷ [];
      functions = main_of (store_i64 (number 5) (at (codes "x")) ∷ clwb (at (codes "x")) ∷ sfence ∷ []) ∷ [];
    }
