use Rattle.std.proofs.Common.{◌≡◌, ◌-◌, ◌∙◌, ap, arith, length, refl, slice_get, sym, subst, Option, Some, None}
use Rattle.std.specs.Prelude.{IfSome, option_map, ◌∷◌}
use Rattle.hip_runs.specs.State.{Level}
use Rattle.hip_runner.specs.StandingCalls.{call_of_level}
use Rattle.hip_runner.specs.declared.standing_call.StandingCall.{StandingCall}
use Rattle.hip_report.specs.StandingCalls.{AreOutermost, standing}
use Rattle.hip_report.proofs.Outermost.{one_more_inside}
use Rattle.hip_report.proofs.calls.next_inside.Goals as goal

pub returns-clause-some : goal.returns-clause-some
returns-clause-some c =
    let all = standing c.args.machine.now in
    let calls = c.args.calls.now in
    let counted = c.count-known.ensures in
    let count = c.requires.count in
    let less = c.if-known-count.false in
    let level : c.args.count - c.count-known.result - 1 ≡ length all - length calls - 1 = omega (arith, counted, count) in
    subst (λ (o : Option StandingCall). IfSome o (λ call. AreOutermost (record { call = call.site; birth = call.birth } ∷ calls) all))
    (sym (c.standing_call.ensures ∙ ap (λ k. option_map call_of_level (slice_get all k)) level))
    (by (slice_get all (length all - length calls - 1)) (λ l here. one_more_inside calls all l (omega (arith, counted, count, less)) here c.requires.outer))
  where
    by : {Q : Level → Type 0} (o : Option Level) → ((l : Level) → o ≡ Some l → Q l) → IfSome (option_map call_of_level o) (λ call. Q (record { call = call.site; birth = call.birth }))
    by None f = tt
    by (Some l) f = f l refl
