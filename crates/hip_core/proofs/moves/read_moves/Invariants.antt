use Rattle.std.proofs.Common.{◌≡◌, map, take}
use Rattle.hip_code.specs.Numbers.{numbers, operand_value}
use Rattle.hip_core.proofs.moves.read_moves.Given as goal

abbrev pub invariant-loop-step : goal.invariant-loop-step
invariant-loop-step l = l.values.items ≡ map (λ m. operand_value (numbers l.code l.slots l.base) m.value) (take l.step-index l.moves)
