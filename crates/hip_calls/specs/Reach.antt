-- The defined functions that calls can reach, in breadth-first order.
use Rattle.std.specs.Prelude.{ℕ, zero, suc, nat_eq, List, [], Option, Some, None, slice_get, option_to_list, length}
use Rattle.std.specs.List.{flat_map}
use Rattle.hip_types.specs.Distinct.{met}
use Rattle.hip_tree.specs.Sites.{instr_of}
use Rattle.hip_tree.specs.declared.instr.Instr.{Instr}
use Rattle.hip_tree.specs.declared.instr.Instr.TheVariants.{Call}
use Rattle.hip_tree.specs.declared.program.Function.{Function}
use Rattle.hip_tree.specs.declared.program.Program.{Program}
use Rattle.hip_tree.specs.declared.site.Site.{Site}
use Rattle.hip_sound.specs.NumberedNames.{function_number}

-- The number of the defined function that an instruction calls, if it does.
abbrev pub called_by : Program → Instr → List ℕ
called_by P (Call dest ret callee args) = option_to_list (function_number P callee)
called_by P _ = []

-- The numbers of the functions that a function calls, one for each call, in the order of its text; none if there is no
-- function.
abbrev pub called_in : Program → Option Function → List ℕ
called_in P None = []
called_in P (Some f) = flat_map (λ b. flat_map (called_by P) b.body) f.blocks

-- The numbers of the functions that the function of a number calls, in the order of its text. Calls that no run reaches
-- count too.
abbrev pub called_from : Program → ℕ → List ℕ
called_from P f = called_in P (slice_get P.functions f)

-- The list, extended by the functions that one of its functions calls, if they are not in it yet.
abbrev pub extended : Program → List ℕ → Option ℕ → List ℕ
extended P seen None = seen
extended P seen (Some f) = met nat_eq seen (called_from P f)

-- The list after `steps` steps from a place on. Each step adds the callees of the function at the next place.
abbrev pub reached : Program → ℕ → ℕ → List ℕ → List ℕ
reached P zero place seen = seen
reached P (suc steps) place seen = reached P steps (suc place) (extended P seen (slice_get seen place))

-- The number of the defined function that an instruction calls, as a list; empty if it calls none.
abbrev pub called_at : Program → Option Instr → List ℕ
called_at P None = []
called_at P (Some i) = called_by P i

-- The callees of these calls, each once.
abbrev pub first_callees : Program → List Site → List ℕ
first_callees P sites = met nat_eq [] (flat_map (λ s. called_at P (instr_of P s)) sites)

-- The callees of these calls, and all functions that calls reach from them. One step is needed for each function, so as
-- many steps as the program has functions suffice.
abbrev pub callees : Program → List Site → List ℕ
callees P sites = reached P (length P.functions) 0 (first_callees P sites)
