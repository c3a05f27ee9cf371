-- What the repair for a run does.
use Rattle.std.specs.Prelude.{Bool}
use Rattle.hip_tree.specs.declared.program.Program.{Program}
use Rattle.hip_tree.specs.declared.site.Site.{Site}
use Rattle.hip_histories.proofs.Repairs.{crash_safe}
use Rattle.hip_repair_answers.specs.Cured.{IsCured, IsCuredBy}
use Rattle.hip_repairs.proofs.Theorems as theorem
use Rattle.hip_repairs.specs.Choice.{Contains, plan_for}
use Rattle.hip_repairs.specs.Direct.{direct}
use Rattle.hip_repairs.specs.StayOutside.{StayOutside}
use Rattle.hip_repairs.specs.declared.plan.Plan.{Plan}
use Rattle.hip_runs.specs.Found.Marks.{IsFound}
use Rattle.hip_runs.specs.Validity.{IsValid}
use Rattle.hip_runs.specs.declared.input.Input.{Input}
use Rattle.hip_runs.specs.declared.report.Findings.{Findings}
use Rattle.hip_sound.specs.Sound.{IsSound}

itself : (plan : Plan) → Contains plan plan
itself plan = record { flush_after = λ s h. h; fence_after = λ s h. h; hoist = λ s h. h }

pub cures_by : (P : Program) (I : Input) (plan : Plan) (skip : Site → Bool) (found : Findings) → IsSound P
    → IsValid P I → StayOutside P skip → IsFound P I found → Contains plan (plan_for P found)
    → IsCuredBy P I plan skip
cures_by P I plan skip found sound valid quiet is contains =
    let again = theorem.repaired_is_sound P plan skip sound in
    record {
      harmless = theorem.repairs_do_no_harm P plan skip sound;
      clean = theorem.repairs_are_clean P plan skip I found sound valid quiet is contains;
      covered = theorem.hoisted_calls_are_covered P plan skip sound quiet;
      fenced = theorem.hoisted_calls_are_fenced P plan skip sound;
      sound = again;
      reads = again.spelled;
      crashes = crash_safe P I plan skip found sound valid quiet is contains;
    }

pub cures : (P : Program) (I : Input) (found : Findings) → IsSound P → IsValid P I → IsFound P I found
    → IsCured P I found
cures P I found sound valid is =
    let plan = plan_for P found in
    cures_by P I plan (direct P) found sound valid (theorem.direct_stores_stay_outside P sound) is (itself plan)
