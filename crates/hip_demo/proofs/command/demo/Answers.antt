use Rattle.std.proofs.Common.{refl}
use Rattle.hip_command_io.specs.StageLaws.{no_memory}
use Rattle.hip_demo.proofs.Demonstrating.{shown_whole, was_cut}
use Rattle.hip_demo.proofs.command.demo.Goals as goal

pub returns-in_err-shown-clause-gives : goal.returns-in_err-shown-clause-gives
returns-in_err-shown-clause-gives g c = λ files.
    no_memory c.from_residual.result (record { files = refl; misses = refl; faults = refl }) c.from_residual.ensures.1

pub returns-in-Done-clause-gives : goal.returns-in-Done-clause-gives
returns-in-Done-clause-gives g c = λ files.
    shown_whole c.args.seed c.args.size (c.generated_programs_are_sound.ensures c.args.seed c.args.size c.requires.small)
    files c.in_ok-shown.shown c.in_ok-shown.ensures c.in-Done.ensures.how

pub returns-clause-gives : goal.returns-clause-gives
returns-clause-gives g c = λ files.
    was_cut c.args.seed c.args.size (c.generated_programs_are_sound.ensures c.args.seed c.args.size c.requires.small)
    files c.in_ok-shown.shown c.in_ok-shown.ensures c.in-Failed.ensures.how
