use Rattle.hip_run_commands.proofs.Advances.{stands}
use Rattle.hip_run_commands.proofs.Crashes.{of_run, out_of_memory}
use Rattle.hip_run_commands.proofs.picked_image.image_later.Goals as goal

pub returns-in_err-advance_to : goal.returns-in_err-advance_to
returns-in_err-advance_to c = out_of_memory _ _ _ _ c.from_residual.result c.from_residual.ensures.1

pub image_now-requires : goal.image_now-requires
image_now-requires c =
    stands c.args.log.now c.advance_to.new.log c.args.entry c.requires.has c.in_ok-advance_to.ensures

pub returns : goal.returns
returns c =
    of_run c.args.log.now c.advance_to.new.log c.args.entry c.args.picks.now c.image_now.result c.in_ok-advance_to.ensures
    c.image_now.ensures
