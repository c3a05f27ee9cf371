use Rattle.std.proofs.Common.{map, take}
use Rattle.hip_io.specs.Sinks.{AppendsAll}
use Rattle.hip_trace.specs.Texts.{lines_of}
use Rattle.hip_trace.specs.declared.entry.Entry.TheVariants as entries
use Rattle.hip_lockstep.proofs.header.put_numbers.Given as goal

abbrev pub invariant-numbers : goal.invariant-numbers
invariant-numbers g l = AppendsAll (g.S.Sink.state l.initial.out) (g.S.Sink.state l.out) (lines_of (map (λ z. entries.Input z) (take l.place l.numbers)))
