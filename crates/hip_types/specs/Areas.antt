-- The addresses of the areas of memory. They are this project's own.
use Rattle.std.specs.Prelude.{ℕ}
use Rattle.hip_types.specs.declared.areas.TheConstants.{STACK_END, STACK_START, VOLATILE_START}

-- The first address of the volatile globals.
abbrev pub volatile_start : ℕ
volatile_start = VOLATILE_START

-- The first address of the stack.
abbrev pub stack_start : ℕ
stack_start = STACK_START

-- The address after the stack's last byte.
abbrev pub stack_end : ℕ
stack_end = STACK_END
