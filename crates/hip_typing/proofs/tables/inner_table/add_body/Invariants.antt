use Rattle.std.proofs.Common.{take}
use Rattle.hip_names.specs.Tables.{Gains}
use Rattle.hip_sound.specs.Declarations.{body_declared}
use Rattle.hip_typing.specs.Seen.Inner.{entries}
use Rattle.hip_typing.proofs.tables.inner_table.add_body.Given as goal

abbrev pub invariant-instrs : goal.invariant-instrs
invariant-instrs l = Gains l.initial.table.names l.initial.table.values l.table.names l.table.values (body_declared (entries.instr l.block) (take l.index l.body))
