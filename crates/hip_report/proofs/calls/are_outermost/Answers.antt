use Rattle.std.proofs.Common.{◌≡◌, ◌-◌, ◌∙◌, ap, arith, length, sym}
use Rattle.hip_report.specs.StandingCalls.{standing}
use Rattle.hip_report.proofs.Outermost.{first_birth, outermost_now, some_left}
use Rattle.hip_report.proofs.calls.are_outermost.Goals as goal

pub returns-clause-are : goal.returns-clause-are
returns-clause-are c true =
    let m = c.args.machine.now in
    let calls = c.args.calls.now in
    let all = standing m in
    let counted = c.count-known.ensures in
    let count = c.requires.count in
    let not = c.if-known-count.false in
    let level : c.args.count - c.count-known.result ≡ length all - length calls = omega (arith, counted, count) in
    outermost_now m.program m.input m.taken calls c.requires.stood (omega (arith, counted, count, not))
    (sym c.last_birth.ensures ∙ c.is_same_birth.ensures.0 true ∙ c.birth_at.ensures ∙ ap (first_birth all) level)

pub returns-clause-some : goal.returns-clause-some
returns-clause-some c false =
    let m = c.args.machine.now in
    let calls = c.args.calls.now in
    let all = standing m in
    let counted = c.count-known.ensures in
    let count = c.requires.count in
    let level : c.args.count - c.count-known.result ≡ length all - length calls = omega (arith, counted, count) in
    some_left calls all (λ same.
    let is = c.is_same_birth.ensures.1 (c.last_birth.ensures ∙ same ∙ sym (c.birth_at.ensures ∙ ap (first_birth all) level)) in
    let z : ⊥ = cc in z)
