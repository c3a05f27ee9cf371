-- The names of globals, of labels and of functions, and the numbers of functions by their names.
use Rattle.std.specs.Prelude.{ℕ, List, [], map, Option, Some, None}
use Rattle.hip_tree.specs.declared.program.Function.{Function}
use Rattle.hip_tree.specs.declared.program.Program.{Program}
use Rattle.hip_names.specs.Names.{number_of}

-- The names of a program's globals, in order.
abbrev pub global_names : Program → List (List ℕ)
global_names P = map (λ g. g.name) P.globals

-- The labels of a function's blocks, each at the number of its block.
abbrev pub label_names : Function → List (List ℕ)
label_names fn = map (λ b. b.label) fn.blocks

-- The names of functions, in their order.
abbrev pub function_names : List Function → List (List ℕ)
function_names functions = map (λ f. f.name) functions

-- The name of a function; the empty name if the function does not exist.
abbrev pub name_in : Option Function → List ℕ
name_in None = []
name_in (Some f) = f.name

-- The number of the function of that name, if there is one.
abbrev pub function_number : Program → List ℕ → Option ℕ
function_number P name = number_of (function_names P.functions) name
