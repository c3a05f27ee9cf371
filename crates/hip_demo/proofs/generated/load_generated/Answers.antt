use Rattle.std.proofs.Common.{◌∙◌}
use Rattle.hip_demo.proofs.Generating.{loaded, not_refused}
use Rattle.hip_demo.proofs.generated.load_generated.Goals as goal

pub returns-in-Ok : goal.returns-in-Ok
returns-in-Ok c =
    loaded c.args.seed c.args.size (c.generated_programs_are_sound.ensures c.args.seed c.args.size c.requires.small)
    c.as_slice.result.now (c.as_slice.ensures ∙ c.in_ok-text.ensures) c.in-Ok.checked c.in-Ok.ensures

pub unreachable-requires : goal.unreachable-requires
unreachable-requires c =
    not_refused c.args.seed c.args.size (c.generated_programs_are_sound.ensures c.args.seed c.args.size c.requires.small)
    c.as_slice.result.now (c.as_slice.ensures ∙ c.in_ok-text.ensures) c.in-Err-Refused.field-0-0
    (rw c.in-Err-Refused.field-0-is at c.in-Err-Refused.ensures)
