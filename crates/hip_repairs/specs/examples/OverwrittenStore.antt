-- A store that a second store to the same place overwrites.
use Rattle.std.specs.Prelude.{[], ◌∷◌, None, codes}
use Rattle.hip_tree.specs.declared.program.Program.{Program}
use Rattle.hip_runs.specs.declared.report.Kind.TheVariants.{MissingBoth}
use Rattle.hip_runs.specs.declared.report.Report.{Report}
use Rattle.hip_repairs.specs.examples.Words.{at, number, persistent_i64, store_i64, clwb, declare_clwb, sfence, declare_sfence, main_of, site}

-- @x = global i64 0, section ".pm"
-- define i32 @main() {
-- entry:
--   store i64 5, ptr @x
--   store i64 6, ptr @x
--   ret i32 0
-- }
abbrev pub overwritten_store : Program
overwritten_store =
    record {
      globals = persistent_i64 (codes "x") ∷ [];
      externs = [];
      functions = main_of (store_i64 (number 5) (at (codes "x")) ∷ store_i64 (number 6) (at (codes "x")) ∷ [])
          ∷ [];
    }

-- report both entry 4 check 5 closed 0 path @main:entry:1
abbrev pub overwritten_store_report : Report
overwritten_store_report =
    record { entry = 4; check_entry = 5; kind = MissingBoth; flush_site = None; path = site 0 1 ∷ []; closed = 0 }

-- @x = global i64 0, section ".pm"
-- declare void @llvm.x86.clwb(ptr)
-- declare void @llvm.x86.sse.sfence()
-- define i32 @main() {
-- entry:
--   store i64 5, ptr @x
--   store i64 6, ptr @x
--   call void @llvm.x86.clwb(ptr @x)
--   call void @llvm.x86.sse.sfence()
--   ret i32 0
-- }
abbrev pub overwritten_store_repaired : Program
overwritten_store_repaired =
    record {
      globals = persistent_i64 (codes "x") ∷ [];
      externs = declare_clwb ∷ declare_sfence ∷ [];
      functions =
          main_of
          (store_i64 (number 5) (at (codes "x"))
          ∷ store_i64 (number 6) (at (codes "x")) ∷ clwb (at (codes "x")) ∷ sfence ∷ [])
          ∷ [];
    }
