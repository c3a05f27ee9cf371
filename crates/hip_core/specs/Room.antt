-- Room in the counts of a machine for its next step.
use Rattle.std.specs.Prelude.{◌+◌, ◌<◌, ◌^◌}
use Rattle.hip_core.specs.declared.core_parts.Core.{Core}

-- The counts have room for one more step, and the place for one more op.
abbrev pub HasRoom : Core → Type 0
HasRoom c = (c.taken + 1 < 2 ^ 128) × (c.top.place + 1 < 2 ^ 64)

-- The counts have room for one more step that is a turn.
abbrev pub HasTurn : Core → Type 0
HasTurn c = (c.taken + 1 < 2 ^ 128) × (c.top.place + 1 < 2 ^ 64) × (c.turns + 1 < 2 ^ 64)
