use Rattle.std.proofs.Common.{◌<◌, ◌^◌, subst, refl, arith}
use Rattle.hip_runs.specs.Ends.{longest}
use Rattle.hip_crash.proofs.Logged.{logged-start}
use Rattle.hip_crash.proofs.log.CrashLog.new.Goals as goal

pub invariant_of-result : goal.invariant_of-result
invariant_of-result c =
    let short : longest c.args.checked.now < 2 ^ 64 = subst (λ p. longest p < 2 ^ 64) c.program.ensures.is (omega (arith, c.longest-longest.ensures, c.longest-longest.type_inv)) in
    logged-start _ c.program.ensures.sound c.requires short refl c.count_header-entries.ensures refl c.in_ok-region.ensures.seen c.in_ok-region.ensures.idle
