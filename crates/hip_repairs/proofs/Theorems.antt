-- The theorems about repairs of sound programs.
use Rattle.std.proofs.Common.{Bool}
use Rattle.hip_tree.specs.declared.program.Program.{Program}
use Rattle.hip_tree.specs.declared.site.Site.{Site}
use Rattle.hip_sound.specs.Laws.SoundExact.{sound-passes, passes-sound}
use Rattle.hip_sound.specs.Sound.{IsSound}
use Rattle.hip_runs.specs.Found.Marks.{IsFound}
use Rattle.hip_runs.specs.Validity.{IsValid}
use Rattle.hip_runs.specs.declared.input.Input.{Input}
use Rattle.hip_runs.specs.declared.report.Findings.{Findings}
use Rattle.hip_repairs.specs.Choice.{Contains, plan_for}
use Rattle.hip_repairs.specs.Clean.{IsClean}
use Rattle.hip_repairs.specs.Covered.{AreHoistsFenced, IsCovered}
use Rattle.hip_repairs.specs.Direct.{direct}
use Rattle.hip_repairs.specs.Harmless.{IsHarmless}
use Rattle.hip_repairs.specs.Mending.{MendsAll}
use Rattle.hip_repairs.specs.StayOutside.{StayOutside}
use Rattle.hip_repairs.specs.Repaired.{repaired}
use Rattle.hip_repairs.specs.declared.plan.Plan.{Plan}
use Rattle.hip_repairs.proofs.clean.Cured.{clean, mended_clean}
use Rattle.hip_repairs.proofs.covered.FencedCalls.{covered}
use Rattle.hip_repairs.proofs.covered.HoistsFenced.{hoists_fenced}
use Rattle.hip_repairs.proofs.quiet.QuietStores.{quiet_stores}
use Rattle.hip_repairs.proofs.simulation.Harm.{harmless}
use Rattle.hip_repairs.proofs.soundness.SoundAgain.{passes_again}

pub repaired_is_sound : (P : Program) (plan : Plan) (skip : Site → Bool) → IsSound P → IsSound (repaired P plan skip)
repaired_is_sound P plan skip sound =
    passes-sound (repaired P plan skip) (passes_again P plan skip (sound-passes P sound))

pub repairs_do_no_harm : (P : Program) (plan : Plan) (skip : Site → Bool) → IsSound P → IsHarmless P plan skip
repairs_do_no_harm P plan skip sound = harmless P plan skip (sound-passes P sound)

pub repairs_are_clean : (P : Program) (plan : Plan) (skip : Site → Bool) (I : Input) (found : Findings) → IsSound P →
    IsValid P I → StayOutside P skip → IsFound P I found → Contains plan (plan_for P found) →
    IsClean (repaired P plan skip) I
repairs_are_clean P plan skip I found sound = clean P plan skip I found (sound-passes P sound)

pub mending_plans_are_clean : (P : Program) (plan : Plan) (skip : Site → Bool) (I : Input) (found : Findings) → IsSound P →
    IsValid P I → StayOutside P skip → IsFound P I found → MendsAll plan found → IsClean (repaired P plan skip) I
mending_plans_are_clean P plan skip I found sound = mended_clean P plan skip I found (sound-passes P sound)

pub hoisted_calls_are_covered : (P : Program) (plan : Plan) (skip : Site → Bool) → IsSound P → StayOutside P skip →
    IsCovered P (repaired P plan skip)
hoisted_calls_are_covered P plan skip sound = covered P plan skip (sound-passes P sound)

pub hoisted_calls_are_fenced : (P : Program) (plan : Plan) (skip : Site → Bool) → IsSound P →
    AreHoistsFenced P plan skip
hoisted_calls_are_fenced P plan skip sound = hoists_fenced P plan skip (sound-passes P sound)

pub direct_stores_stay_outside : (P : Program) → IsSound P → StayOutside P (direct P)
direct_stores_stay_outside P sound = quiet_stores P (sound-passes P sound)
