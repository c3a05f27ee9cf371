-- Where a repaired program differs from the program. (This project's own.)
use Rattle.std.specs.Prelude.{◌≡◌, ◌⊎◌, ℕ, suc, ◌<◌, Bool, true, false, drop, map, Some, slice_get}
use Rattle.hip_grammar.specs.Show.{function_text}
use Rattle.hip_tree.specs.Sites.{has_site, instr_of}
use Rattle.hip_tree.specs.declared.program.Function.{Function}
use Rattle.hip_tree.specs.declared.program.Program.{Program}
use Rattle.hip_tree.specs.declared.site.Site.{Site}
use Rattle.hip_runs.specs.Sites.{is_store}
use Rattle.hip_runs.specs.StoredParts.Parts.{In}
use Rattle.hip_runs.specs.declared.report.Findings.{Findings}
use Rattle.hip_runs.specs.declared.report.Report.{Report}
use Rattle.hip_repairs.specs.Covered.{repaired_place}
use Rattle.hip_repairs.specs.Harmless.{is_inserted, marked_body}
use Rattle.hip_repairs.specs.Repaired.{clones_of, repaired, wanted_by}
use Rattle.hip_repairs.specs.declared.plan.Plan.{Plan}

-- ---- functions that stay

-- The plan names no site of function f.
pub record IsUntouched (plan : Plan) (f : ℕ) : Type 0 where
  pub flush_after : (s : Site) → s.function ≡ f → has_site plan.flush_after s ≡ false
  pub fence_after : (s : Site) → s.function ≡ f → has_site plan.fence_after s ≡ false
  pub hoist : (s : Site) → s.function ≡ f → has_site plan.hoist s ≡ false

-- Each function of which the plan names no site is the same function in the repaired program, under the same number,
-- and its canonical text is the same, byte by byte.
pub record KeepsUntouched (P : Program) (plan : Plan) (skip : Site → Bool) : Type 0 where
  pub function : (f : ℕ) (x : Function) → slice_get P.functions f ≡ Some x → IsUntouched plan f
      → slice_get (repaired P plan skip).functions f ≡ Some x
  pub text : (f : ℕ) (x : Function) → slice_get P.functions f ≡ Some x → IsUntouched plan f
      → slice_get (map function_text (repaired P plan skip).functions) f ≡ Some (function_text x)

-- ---- where instructions are inserted

-- The plan names the site, in one of its lists.
abbrev pub IsPlanned : Plan → Site → Type 0
IsPlanned plan s =
    (has_site plan.flush_after s ≡ true) ⊎ ((has_site plan.fence_after s ≡ true) ⊎ (has_site plan.hoist s ≡ true))

-- A report of the run names the site: as its store, as a call on its path, or as the flush that lacks a fence.
pub record IsReportedSite (found : Findings) (s : Site) : Type 0 where
  pub report : Report
  pub there : In report found.reports
  pub named : ((k : ℕ) × (slice_get report.path k ≡ Some s)) ⊎ (report.flush_site ≡ Some s)

-- The instruction at this place of block b of function f, or of its clone, stands after the instruction at a site of
-- that block, and before the next one of the block. The plan names the site; or, in a clone, a store is there.
pub record StandsAfterSite (P : Program) (plan : Plan) (skip : Site → Bool) (clone : Bool) (f b place : ℕ) :
    Type 0 where
  pub site : Site
  pub function : site.function ≡ f
  pub block : site.block ≡ b
  pub after : repaired_place P plan skip clone site < place
  pub before : place < repaired_place P plan skip clone (record site { index = suc site.index })
  pub planned : IsPlanned plan site ⊎ ((clone ≡ true) × (is_store (instr_of P site) ≡ true))

-- Each instruction that is inserted in a block of a function of P stands after a site that the plan names. Each one
-- that is inserted in a block of a clone stands after such a site of the clone's function, or after a store there.
abbrev pub InsertsAtSites : Program → Plan → (Site → Bool) → Type 0
InsertsAtSites P plan skip =
    (clone : Bool) (f b place : ℕ)
    → is_inserted (drop place (marked_body P (clones_of P plan) (wanted_by plan skip) clone f b)) ≡ true
    → StandsAfterSite P plan skip clone f b place

-- A repair changes the program only at the sites of its plan.
pub record IsLocal (P : Program) (plan : Plan) (skip : Site → Bool) : Type 0 where
  pub untouched : KeepsUntouched P plan skip
  pub inserted : InsertsAtSites P plan skip
