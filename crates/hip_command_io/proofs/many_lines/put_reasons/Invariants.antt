use Rattle.std.proofs.Common.{take}
use Rattle.hip_io.specs.Sinks.{Writes}
use Rattle.hip_command_io.specs.Notes.{reason_lines}
use Rattle.hip_command_io.proofs.many_lines.put_reasons.Given as goal

abbrev pub invariant-each : goal.invariant-each
invariant-each g l =
    Writes l.initial.put l.put (g.N.Sink.state l.initial.notes) (g.N.Sink.state l.notes)
    (reason_lines l.program (take l.reason-index l.reasons))
