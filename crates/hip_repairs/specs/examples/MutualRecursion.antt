-- Two functions that call one another, once for the stack and once for a persistent global.
use Rattle.std.specs.Prelude.{ℕ, false, List, [], ◌∷◌, ◌++◌, None, codes}
use Rattle.hip_types.specs.declared.number.BinaryOp.TheVariants.{Sub}
use Rattle.hip_types.specs.declared.number.Pred.TheVariants.{Eq}
use Rattle.hip_types.specs.declared.number.Scalar.TheVariants.{Int}
use Rattle.hip_types.specs.declared.number.Width.TheVariants.{W64}
use Rattle.hip_tree.specs.declared.block.End.TheVariants as ends
use Rattle.hip_tree.specs.declared.instr.Instr.{Instr}
use Rattle.hip_tree.specs.declared.instr.Instr.TheVariants as instrs
use Rattle.hip_tree.specs.declared.program.Function.{Function}
use Rattle.hip_tree.specs.declared.program.Program.{Program}
use Rattle.hip_sound.specs.Rules.{site}
use Rattle.hip_runs.specs.declared.report.Kind.TheVariants.{MissingBoth}
use Rattle.hip_runs.specs.declared.report.Report.{Report}
use Rattle.hip_repairs.specs.examples.Words.{at, reg, number, ptr_arg, i64_arg, ptr_param, i64_param, persistent_i64, alloca_i64, store_i64, call_void, clwb, declare_clwb, sfence, declare_sfence, ret_void, define_void, main_of}

-- %m = sub i64 %n, 1
abbrev pub subtract : Instr
subtract =
    instrs.Binary (codes "m") Sub (record { nuw = false; nsw = false; exact = false }) W64 (reg (codes "n")) (number 1)

-- define void @NAME(ptr %d, i64 %n) {
-- entry:
--   %z = icmp eq i64 %n, 0
--   br i1 %z, label %done, label %more
-- more:
--   store i64 %n, ptr %d
--   FLUSH
--   %m = sub i64 %n, 1
--   call void @OTHER(ptr %d, i64 %m)
--   br label %done
-- done:
--   ret void
-- }
abbrev pub counting_down : List ℕ → List ℕ → List Instr → Function
counting_down name other flush =
    define_void name (ptr_param (codes "d") ∷ i64_param (codes "n") ∷ [])
    (record {
      label = codes "entry";
      phis = [];
      body = instrs.Compare (codes "z") Eq (Int W64) (reg (codes "n")) (number 0) ∷ [];
      end = ends.CondBr (reg (codes "z")) (codes "done") (codes "more");
    }
    ∷ record {
      label = codes "more";
      phis = [];
      body =
          store_i64 (reg (codes "n")) (reg (codes "d"))
          ∷ (flush ++ (subtract ∷ call_void other (ptr_arg (reg (codes "d")) ∷ i64_arg (reg (codes "m")) ∷ [])
          ∷ []));
      end = ends.Br (codes "done");
    }
    ∷ ret_void (codes "done") []
    ∷ [])

-- define i32 @main() {
-- entry:
--   %t = alloca i64
--   call void @even(ptr %t, i64 2)
--   LAST
--   ret i32 0
-- }
abbrev pub counting_main : List Instr → Function
counting_main last =
    main_of
    (alloca_i64 (codes "t") ∷ call_void (codes "even") (ptr_arg (reg (codes "t")) ∷ i64_arg (number 2) ∷ [])
    ∷ last)

-- call void @NAME(ptr @p, i64 2)
abbrev pub count_in_region : List ℕ → Instr
count_in_region name = call_void name (ptr_arg (at (codes "p")) ∷ i64_arg (number 2) ∷ [])

-- @p = global i64 0, section ".pm"
-- @even, which calls @odd, @odd, which calls @even, and @main with `call void @even(ptr @p, i64 2)` at last
abbrev pub mutual_recursion : Program
mutual_recursion =
    record {
      globals = persistent_i64 (codes "p") ∷ [];
      externs = [];
      functions =
          counting_down (codes "even") (codes "odd") [] ∷ counting_down (codes "odd") (codes "even") []
          ∷ counting_main (count_in_region (codes "even") ∷ []) ∷ [];
    }

-- report both entry 4 check 5 closed 2 path @odd:more:0 @even:more:2 @main:entry:2
abbrev pub mutual_recursion_report : Report
mutual_recursion_report =
    record {
      entry = 4;
      check_entry = 5;
      kind = MissingBoth;
      flush_site = None;
      path = site 1 1 0 ∷ site 0 1 2 ∷ site 2 0 2 ∷ [];
      closed = 2;
    }

-- @p = global i64 0, section ".pm"
-- declare void @llvm.x86.clwb(ptr)
-- declare void @llvm.x86.sse.sfence()
-- @even and @odd as before, @main with these two at last, and @even.pm and @odd.pm, which call one another and have a
-- clwb of %d after the store
--   call void @even.pm(ptr @p, i64 2)
--   call void @llvm.x86.sse.sfence()
abbrev pub mutual_recursion_repaired : Program
mutual_recursion_repaired =
    record {
      globals = persistent_i64 (codes "p") ∷ [];
      externs = declare_clwb ∷ declare_sfence ∷ [];
      functions =
          counting_down (codes "even") (codes "odd") []
          ∷ counting_down (codes "odd") (codes "even") []
          ∷ counting_main (count_in_region (codes "even.pm") ∷ sfence ∷ [])
          ∷ counting_down (codes "even.pm") (codes "odd.pm") (clwb (reg (codes "d")) ∷ [])
          ∷ counting_down (codes "odd.pm") (codes "even.pm") (clwb (reg (codes "d")) ∷ [])
          ∷ [];
    }
