-- Repairs one after another.
use Rattle.std.proofs.Common.{Bool, List, [], ◌∷◌, ◌++◌, map}
use Rattle.std.specs.List.{All}
use Rattle.std.proofs.lemmas.List.Elements.{All-cons, All-nil}
use Rattle.hip_tree.specs.declared.program.Program.{Program}
use Rattle.hip_tree.specs.declared.site.Site.{Site}
use Rattle.hip_sound.specs.Sound.{IsSound}
use Rattle.hip_runs.specs.Found.Marks.{IsFound}
use Rattle.hip_runs.specs.Validity.{IsValid}
use Rattle.hip_runs.specs.declared.input.Input.{Input}
use Rattle.hip_runs.specs.declared.report.Findings.{Findings}
use Rattle.hip_repairs.specs.Choice.{Contains, plan_for}
use Rattle.hip_repairs.specs.Clean.{IsClean}
use Rattle.hip_repairs.specs.StayOutside.{StayOutside}
use Rattle.hip_repairs.specs.Repaired.{repaired}
use Rattle.hip_repairs.specs.declared.plan.Plan.{Plan}
use Rattle.hip_repairs.proofs.Theorems.{hoisted_calls_are_covered, repaired_is_sound, repairs_are_clean}
use Rattle.hip_repairs.specs.Laws.Unchanged.{valid_again}
use Rattle.hip_survival.specs.Laws.ChecksKept.{stays_clean, worsens_no_check}
use Rattle.hip_survival.specs.Kept.{ChecksSurvive}
use Rattle.hip_survival.specs.Laws.ChecksSurvive.{clean_survives, repaired_survives}
use Rattle.hip_survival.specs.Laws.CoveredSurvive.{covered_survives}
use Rattle.hip_survival.specs.Laws.LoosensNothing.{loosens_nothing}
use Rattle.hip_histories.specs.Chains.{AllStayCovered, AreMadeInTurn, IsMendedFor, KeepsProgram, LastsOn, Repair, StaysCovered, TraceRepair, mended, repaired_on}
use Rattle.hip_histories.specs.CrashSafe.{IsCrashSafe}
use Rattle.hip_histories.specs.NoHarm.{DoesNoHarm}
use Rattle.hip_histories.proofs.Corresponding.{no_harm_alone, no_harm_both, repair_does_no_harm}
use Rattle.hip_histories.proofs.Covering.{stays_covered}
use Rattle.hip_histories.proofs.Rounds.{end_alike, lossless_too, no_history_more}

pub twice : (P : Program) (first second : Plan) (skip also : Site → Bool) → IsSound P
    → DoesNoHarm P (repaired (repaired P first skip) second also)
twice P first second skip also s =
    no_harm_both P (repaired P first skip) (repaired (repaired P first skip) second also)
    (repair_does_no_harm P first skip s)
    (repair_does_no_harm (repaired P first skip) second also (repaired_is_sound P first skip s))

pub all_sound : (P : Program) (rs : List Repair) → IsSound P → IsSound (repaired_on P rs)
all_sound P [] s = s
all_sound P (r ∷ rs) s =
    all_sound (repaired P r.plan r.skip) rs (repaired_is_sound P r.plan r.skip s)

pub all_harmless : (P : Program) (rs : List Repair) → IsSound P → DoesNoHarm P (repaired_on P rs)
all_harmless P [] s = no_harm_alone P
all_harmless P (r ∷ rs) s =
    no_harm_both P (repaired P r.plan r.skip) (repaired_on (repaired P r.plan r.skip) rs)
    (repair_does_no_harm P r.plan r.skip s)
    (all_harmless (repaired P r.plan r.skip) rs (repaired_is_sound P r.plan r.skip s))

pub all_clean : (P : Program) (rs : List Repair) → IsSound P → (I : Input) → IsValid P I → IsClean P I
    → IsClean (repaired_on P rs) I
all_clean P [] s I v clean = clean
all_clean P (r ∷ rs) s I v clean =
    all_clean (repaired P r.plan r.skip) rs (repaired_is_sound P r.plan r.skip s) I (valid_again P r.plan r.skip I v)
    (stays_clean P r.plan r.skip s I v clean)

all_valid : (P : Program) (rs : List Repair) (I : Input) → IsValid P I → IsValid (repaired_on P rs) I
all_valid P [] I v = v
all_valid P (r ∷ rs) I v = all_valid (repaired P r.plan r.skip) rs I (valid_again P r.plan r.skip I v)

-- What a clean run checks survives in it, and after any repairs.
pub all_survive : (P : Program) → IsSound P → (rs : List Repair) (I : Input) → IsValid P I → IsClean P I
    → ChecksSurvive (repaired_on P rs) I
all_survive P s rs I v clean =
    clean_survives (repaired_on P rs) (all_sound P rs s) I (all_valid P rs I v) (all_clean P rs s I v clean)

-- The repair that follows some repairs mends what was found after them, and it stays mended.
pub all_mended : (P : Program) (before : List Repair) (r : Repair) (after : List Repair) → IsSound P → (I : Input)
    → (found : Findings) → IsValid P I → StayOutside (repaired_on P before) r.skip
    → IsFound (repaired_on P before) I found → Contains r.plan (plan_for (repaired_on P before) found)
    → IsClean (repaired_on P (before ++ r ∷ after)) I
all_mended P [] r after s I found v quiet is has =
    all_clean (repaired P r.plan r.skip) after (repaired_is_sound P r.plan r.skip s) I
    (valid_again P r.plan r.skip I v) (repairs_are_clean P r.plan r.skip I found s v quiet is has)
all_mended P (b ∷ before) r after s I found v quiet is has =
    all_mended (repaired P b.plan b.skip) before r after (repaired_is_sound P b.plan b.skip s) I found
    (valid_again P b.plan b.skip I v) quiet is has

-- The calls that a repair hoisted stay covered after any further repairs.
pub all_covered : (P : Program) (r : Repair) (later : List Repair) → IsSound P → StayOutside P r.skip
    → StaysCovered P (repaired P r.plan r.skip) (repaired_on (repaired P r.plan r.skip) later)
all_covered P r later s quiet =
    stays_covered P (repaired P r.plan r.skip) (repaired_on (repaired P r.plan r.skip) later)
    (repair_does_no_harm P r.plan r.skip s) (hoisted_calls_are_covered P r.plan r.skip s quiet)

-- What every chain of repairs keeps.
pub all_kept : (P : Program) (rs : List Repair) → IsSound P → KeepsProgram P (repaired_on P rs)
all_kept P rs s =
    let harmless = all_harmless P rs s in
    record {
      sound = all_sound P rs s;
      harmless = harmless;
      clean = λ I v clean. all_clean P rs s I v clean;
      histories = no_history_more P (repaired_on P rs) harmless;
      lossless = lossless_too P (repaired_on P rs) harmless (all_sound P rs s);
      endings = end_alike P (repaired_on P rs) harmless;
    }

-- ---- repairs that are made for traces

made_sound : (P : Program) (r : TraceRepair) → IsSound P → IsSound (repaired P r.repair.plan r.repair.skip)
made_sound P r s = repaired_is_sound P r.repair.plan r.repair.skip s

all_mended_for : (P : Program) (rs : List TraceRepair) → IsSound P → AreMadeInTurn P rs
    → All (λ r. IsClean (mended P rs) r.input) rs
all_mended_for P [] s made = All-nil (λ (r : TraceRepair). IsClean P r.input)
all_mended_for P (r ∷ rs) s made =
    let Q : Program = repaired P r.repair.plan r.repair.skip in
    All-cons (λ (x : TraceRepair). IsClean (mended Q rs) x.input) r rs
    (all_clean Q (map (λ (x : TraceRepair). x.repair) rs) (made_sound P r s) r.input
    (valid_again P r.repair.plan r.repair.skip r.input made.0.valid)
    (repairs_are_clean P r.repair.plan r.repair.skip r.input r.findings s made.0.valid made.0.quiet made.0.found made.0.planned))
    (all_mended_for Q rs (made_sound P r s) made.1)

all_stay_covered : (P : Program) (rs : List TraceRepair) → IsSound P → AreMadeInTurn P rs
    → AllStayCovered P rs (mended P rs)
all_stay_covered P [] s made = tt
all_stay_covered P (r ∷ rs) s made = (
  all_covered P r.repair (map (λ (x : TraceRepair). x.repair) rs) s made.0.quiet,
  all_stay_covered (repaired P r.repair.plan r.repair.skip) rs (made_sound P r s) made.1,
)

pub mended_for : (P : Program) (rs : List TraceRepair) → IsSound P → AreMadeInTurn P rs → IsMendedFor P rs
mended_for P rs s made = record { clean = all_mended_for P rs s made; covered = all_stay_covered P rs s made }

pub lasts_on : (P : Program) (I : Input) (plan : Plan) (skip : Site → Bool) (found : Findings) → IsSound P → IsValid P I
    → StayOutside P skip → IsFound P I found → Contains plan (plan_for P found) → LastsOn P (repaired P plan skip) I
lasts_on P I plan skip found s v quiet is has =
    let again = repaired_is_sound P plan skip s in
    let harmless = repair_does_no_harm P plan skip s in
    record {
      sound = λ later. all_sound (repaired P plan skip) later again;
      harmless = λ later.
          no_harm_both P (repaired P plan skip) (repaired_on (repaired P plan skip) later) harmless
          (all_harmless (repaired P plan skip) later again);
      covered = λ later. all_covered P (record { plan = plan; skip = skip }) later s quiet;
      clean = λ later.
          all_clean (repaired P plan skip) later again I (valid_again P plan skip I v)
          (repairs_are_clean P plan skip I found s v quiet is has);
    }

pub crash_safe : (P : Program) (I : Input) (plan : Plan) (skip : Site → Bool) (found : Findings) → IsSound P
    → IsValid P I → StayOutside P skip → IsFound P I found → Contains plan (plan_for P found) → IsCrashSafe P I plan skip
crash_safe P I plan skip found s v quiet is has =
    let harmless = repair_does_no_harm P plan skip s in
    record {
      checks = repaired_survives P plan skip I found s v quiet is has;
      calls = covered_survives P plan skip s quiet;
      no_looser = loosens_nothing P plan skip s;
      no_worse = worsens_no_check P plan skip s;
      histories = no_history_more P (repaired P plan skip) harmless;
      endings = end_alike P (repaired P plan skip) harmless;
      lasts = lasts_on P I plan skip found s v quiet is has;
    }
