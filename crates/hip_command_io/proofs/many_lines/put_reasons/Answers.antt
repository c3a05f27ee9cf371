use Rattle.std.proofs.Common.{sym}
use Rattle.std.proofs.lemmas.List.{get_or_default}
use Rattle.hip_io.specs.Laws.SinkLaws.{and_then, same_text}
use Rattle.hip_command_io.specs.Notes.{reason_line}
use Rattle.hip_command_io.proofs.Longer.{longer}
use Rattle.hip_command_io.proofs.many_lines.put_reasons.Goals as goal

pub each-preserved : goal.each-preserved
each-preserved g c =
    same_text (sym (longer (reason_line c.args.program.now) _ _ _ c.each-test.true (get_or_default _ _ _ _ c.each-test.true)))
    (and_then c.each.invariant c.put_reason-put.ensures)
