-- What holds of each report of a run.
use Rattle.std.specs.Prelude.{◌≡◌, ℕ, suc, ◌<◌, Bool, true, false, is_some, length, Some, slice_get}
use Rattle.hip_tree.specs.Sites.{instr_of}
use Rattle.hip_tree.specs.declared.program.Program.{Program}
use Rattle.hip_tree.specs.declared.site.Site.{Site}
use Rattle.hip_runs.specs.declared.report.Kind.{Kind}
use Rattle.hip_runs.specs.declared.report.Kind.TheVariants.{MissingFlush, MissingFence, MissingBoth}
use Rattle.hip_runs.specs.declared.report.Report.{Report}
use Rattle.hip_runs.specs.Sites.{is_store, is_flush_call, is_defined_call}

-- Whether only a fence is missing.
abbrev pub lacks_fence_alone : Kind → Bool
lacks_fence_alone MissingFence = true
lacks_fence_alone MissingFlush = false
lacks_fence_alone MissingBoth = false

-- A report names a flush exactly if only a fence is missing, and the number of returned calls is less than the length
-- of its path. The path begins at a store and continues with calls of functions of the program. The flush is a call
-- that flushes and takes no fence.
pub record IsWellFormed (P : Program) (r : Report) : Type 0 where
  pub flush_site : is_some r.flush_site ≡ lacks_fence_alone r.kind
  pub closed : r.closed < length r.path
  pub store : (s : Site) → slice_get r.path 0 ≡ Some s → is_store (instr_of P s) ≡ true
  pub call : (k : ℕ) (s : Site) → slice_get r.path (suc k) ≡ Some s → is_defined_call P (instr_of P s) ≡ true
  pub flush : (s : Site) → r.flush_site ≡ Some s → is_flush_call (instr_of P s) ≡ true
