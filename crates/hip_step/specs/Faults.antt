-- Why an input is not valid for a program.
use Rattle.std.specs.Prelude.{cond, nat_eq, nat_le, length, Option, Some, None}
use Rattle.hip_tree.specs.declared.program.Program.{Program}
use Rattle.hip_globals.specs.Addresses.{is_base, region_size}
use Rattle.hip_runs.specs.declared.input.Input.{Input}
use Rattle.hip_runs.specs.declared.input.InputFault.{InputFault}
use Rattle.hip_runs.specs.declared.input.InputFault.TheVariants.{BadBase, BadImage, TooManyNumbers, BadLimit}
use Rattle.hip_runs.specs.declared.limits.TheConstants.{MOST_NUMBERS, MOST_TURNS}

-- The first of the rules that the input breaks, in their order.
abbrev pub first_fault : Program → Input → Option InputFault
first_fault P I =
    cond (is_base I.base)
    (cond (nat_eq (length I.image) (region_size P))
    (cond (nat_le (length I.numbers) MOST_NUMBERS)
    (cond (nat_le I.limit MOST_TURNS) None (Some BadLimit))
    (Some TooManyNumbers))
    (Some BadImage))
    (Some BadBase)
