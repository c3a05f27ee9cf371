use Rattle.std.proofs.Common.{◌∙◌}
use Rattle.std.specs.Str.{bytes_eq}
use Rattle.hip_names.specs.Laws.MetLaws.{met-next}
use Rattle.hip_sound.specs.Paths.{names_of}
use Rattle.hip_sound.specs.Registers.{assigned_by}
use Rattle.hip_resolve.proofs.name_sets.add_body.Goals as goal

pub each-preserved : goal.each-preserved
each-preserved c =
    rw (c.in_ok-add_assigned.ensures)
    (met-next bytes_eq (λ x. names_of (assigned_by x)) c.each.names c.args.body.now c.each.instr-index c.instr-item.result c.each-test.true c.instr-item.is ∙ c.each.invariant)
