-- The trace of a repaired program is that of the program, with entries of flushes and fences put in. (This project's
-- own.)
use Rattle.std.specs.Prelude.{Bool, List, [], ◌∷◌}
use Rattle.hip_tree.specs.declared.program.Program.{Program}
use Rattle.hip_tree.specs.declared.site.Site.{Site}
use Rattle.hip_trace.specs.declared.entry.Entry.{Entry}
use Rattle.hip_trace.specs.declared.entry.Entry.TheVariants as entries
use Rattle.hip_run_traces.specs.Traces.{IsTrace}
use Rattle.hip_runs.specs.Validity.{IsValid}
use Rattle.hip_runs.specs.declared.input.Input.{Input}
use Rattle.hip_repairs.specs.Repaired.{repaired}
use Rattle.hip_repairs.specs.declared.plan.Plan.{Plan}

-- The entry is of a flush or of a fence.
abbrev pub IsFlushOrFenceEntry : Entry → Type 0
IsFlushOrFenceEntry (entries.Flush line size) = Unit {0}
IsFlushOrFenceEntry entries.Fence = Unit {0}
IsFlushOrFenceEntry _ = ⊥

-- The second list is the first one with entries of flushes and fences put in anywhere. So all other entries, such as
-- stores and asserts, and the flushes and fences of the first list, are the same, in the same order.
pub data IsWithFlushes : List Entry → List Entry → Type 0 where
  none : IsWithFlushes [] []
  same : {es es' : List Entry} (e : Entry) → IsWithFlushes es es' → IsWithFlushes (e ∷ es) (e ∷ es')
  more : {es es' : List Entry} (e : Entry) → IsFlushOrFenceEntry e → IsWithFlushes es es' → IsWithFlushes es (e ∷ es')

-- On every valid input the trace of the repaired program's run is that of the program's run, with entries of flushes
-- and fences put in.
abbrev pub KeepsTraces : Program → Plan → (Site → Bool) → Type 0
KeepsTraces P plan skip =
    (I : Input) → IsValid P I → (es es' : List Entry) → IsTrace P I es → IsTrace (repaired P plan skip) I es'
    → IsWithFlushes es es'
