use Rattle.std.proofs.Common.{◌<◌, ◌∙◌, subst, sym}
use Rattle.hip_runs.specs.Seen.{Seen}
use Rattle.hip_run_commands.proofs.Advances.{counts_of, fewer, steps_ahead}
use Rattle.hip_run_commands.proofs.steps_to_entry.advance_to.Goals as goal

pub steps-smaller : goal.steps-smaller
steps-smaller c =
    let few =
    subst (λ n. n < c.args.entry)
    (c.entries.ensures ∙ counts_of c.args.log.now c.steps.log c.args.entry c.steps.invariant.before) c.steps-test.true in
    subst (λ (m : Seen). steps_ahead c.args.log.now.program c.args.log.now.input m.taken
    < steps_ahead c.args.log.now.program c.args.log.now.input c.steps.log.taken) (sym c.in_ok-advance.ensures.ok)
    (fewer c.requires.has c.steps.invariant.before few)
