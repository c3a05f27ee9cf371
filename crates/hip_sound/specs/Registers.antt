-- The registers of a function, and what an instruction, a phi or an end uses of them.
use Rattle.std.specs.Prelude.{ℕ, List, [], ◌∷◌, ◌++◌, map, Option, Some, None, if◌then◌else◌}
use Rattle.std.specs.List.{flat_map}
use Rattle.std.specs.Str.{bytes_eq}
use Rattle.hip_types.specs.declared.number.Scalar.{Scalar}
use Rattle.hip_types.specs.declared.number.Scalar.TheVariants.{Int, Ptr}
use Rattle.hip_types.specs.declared.number.Width.TheVariants.{W1}
use Rattle.hip_types.specs.declared.ty.Ty.{Ty}
use Rattle.hip_tree.specs.declared.instr.Arg.{Arg}
use Rattle.hip_tree.specs.declared.instr.Instr.{Instr}
use Rattle.hip_tree.specs.declared.instr.Instr.TheVariants.{Binary, Compare, Select, Cast, Alloca, Load, Store, Gep, Call}
use Rattle.hip_tree.specs.declared.instr.Operand.{Operand}
use Rattle.hip_tree.specs.declared.instr.Operand.TheVariants.{Reg, Fixed}
use Rattle.hip_tree.specs.declared.block.Block.{Block}
use Rattle.hip_tree.specs.declared.block.Edge.{Edge}
use Rattle.hip_tree.specs.declared.block.End.{End}
use Rattle.hip_tree.specs.declared.block.End.TheVariants.{Br, CondBr, Switch, Ret, Unreachable}
use Rattle.hip_tree.specs.declared.block.Phi.{Phi}
use Rattle.hip_tree.specs.declared.program.Function.{Function}
use Rattle.hip_sound.specs.Constants.{names_in}
use Rattle.hip_globals.specs.Constants.{types_in}

-- A register with its type; the register of a void call has none.
pub record Register : Type 0 where
  pub name : List ℕ
  pub ty : Option Scalar

-- A list of one register, which has that type.
abbrev register : List ℕ → Scalar → List Register
register name ty = record { name = name; ty = Some ty } ∷ []

-- The register that a call names for its result, without a type if the call is void; empty if it names none.
abbrev called_register : Option (List ℕ) → Option Scalar → List Register
called_register None ret = []
called_register (Some name) ret = record { name = name; ty = ret } ∷ []

-- The register that an instruction assigns.
abbrev pub assigned_by : Instr → List Register
assigned_by (Binary dest op flags width a b) = register dest (Int width)
assigned_by (Compare dest pred ty a b) = register dest (Int W1)
assigned_by (Select dest cond ty a b) = register dest ty
assigned_by (Cast dest op from a to) = register dest to
assigned_by (Alloca dest ty align) = register dest Ptr
assigned_by (Load dest ty addr align) = register dest ty
assigned_by (Store ty value addr align) = []
assigned_by (Gep dest inbounds ty base indices) = register dest Ptr
assigned_by (Call dest ret callee args) = called_register dest ret

-- The registers that phis assign, in order, each with its phi's type.
abbrev pub phi_registers : List Phi → List Register
phi_registers phis = map (λ p. record { name = p.dest; ty = Some p.ty }) phis

-- The registers that the instructions of a body assign, in order; stores and calls without a register add none.
abbrev pub body_registers : List Instr → List Register
body_registers body = flat_map assigned_by body

-- The registers that a block assigns: those of its phis, then those of its body.
abbrev pub block_registers : Block → List Register
block_registers b = phi_registers b.phis ++ body_registers b.body

-- The parameters of a function as registers, in order.
abbrev pub parameter_registers : Function → List Register
parameter_registers f = map (λ p. record { name = p.name; ty = Some p.ty }) f.params

-- All registers of a function: its parameters, then what its blocks assign, in the order of the text.
abbrev pub registers_of : Function → List Register
registers_of f = parameter_registers f ++ flat_map block_registers f.blocks

-- The type of the first register of that name: `None` if no register has it, `Some None` for that of a void call.
abbrev pub find_register : List Register → List ℕ → Option (Option Scalar)
find_register [] name = None
find_register (r ∷ rs) name = if bytes_eq r.name name then Some r.ty else find_register rs name

-- An operand and the type that its place states.
pub record Use : Type 0 where
  pub operand : Operand
  pub ty : Scalar

-- The use of an operand at a place that states that type.
abbrev pub use_of : Operand → Scalar → Use
use_of operand ty = record { operand = operand; ty = ty }

-- The operands of arguments, or of indices, each with the type that is written beside it.
abbrev pub arg_uses : List Arg → List Use
arg_uses args = map (λ a. use_of a.value a.ty) args

-- The operands of an instruction in the order of its text, each with the type that its place states: a pointer for an
-- address and for the base of a `getelementptr`, an i1 for the condition of a `select`, else the one that is written.
-- A callee is no operand.
abbrev pub instr_uses : Instr → List Use
instr_uses (Binary dest op flags width a b) = use_of a (Int width) ∷ use_of b (Int width) ∷ []
instr_uses (Compare dest pred ty a b) = use_of a ty ∷ use_of b ty ∷ []
instr_uses (Select dest cond ty a b) = use_of cond (Int W1) ∷ use_of a ty ∷ use_of b ty ∷ []
instr_uses (Cast dest op from a to) = use_of a from ∷ []
instr_uses (Alloca dest ty align) = []
instr_uses (Load dest ty addr align) = use_of addr Ptr ∷ []
instr_uses (Store ty value addr align) = use_of value ty ∷ use_of addr Ptr ∷ []
instr_uses (Gep dest inbounds ty base indices) = use_of base Ptr ∷ arg_uses indices
instr_uses (Call dest ret callee args) = arg_uses args

-- The operand that is returned, with the type written beside it; none at `ret void`.
abbrev returned_uses : Option Arg → List Use
returned_uses None = []
returned_uses (Some arg) = use_of arg.value arg.ty ∷ []

-- The operand of a block's end, if it has one: a branch's condition (i1), a switch's value, or what is returned.
abbrev pub end_uses : End → List Use
end_uses (Br label) = []
end_uses (CondBr cond first second) = use_of cond (Int W1) ∷ []
end_uses (Switch width value other cases) = use_of value (Int width) ∷ []
end_uses (Ret arg) = returned_uses arg
end_uses Unreachable = []

-- The operands of edges, in order, all at the type of their phi.
abbrev pub edge_uses : Scalar → List Edge → List Use
edge_uses ty edges = map (λ e. use_of e.value ty) edges

-- The operands of a phi, one for each edge, at the phi's type.
abbrev pub phi_uses : Phi → List Use
phi_uses p = edge_uses p.ty p.edges

-- The blocks that an end names, by their labels.
abbrev pub end_labels : End → List (List ℕ)
end_labels (Br label) = label ∷ []
end_labels (CondBr cond first second) = first ∷ second ∷ []
end_labels (Switch width value other cases) = other ∷ map (λ c. c.label) cases
end_labels (Ret arg) = []
end_labels Unreachable = []

-- The name of the register that an operand is; none for a constant.
abbrev pub operand_registers : Operand → List (List ℕ)
operand_registers (Reg name) = name ∷ []
operand_registers (Fixed value) = []

-- The names of globals in an operand that is a constant; none for a register.
abbrev operand_globals : Operand → List (List ℕ)
operand_globals (Reg name) = []
operand_globals (Fixed value) = names_in value

-- The types that are written inside an operand that is a constant; none for a register.
abbrev operand_types : Operand → List Ty
operand_types (Reg name) = []
operand_types (Fixed value) = types_in value

-- The names of the registers that are used, in the order of the uses, each as often as it is used.
abbrev pub used_registers : List Use → List (List ℕ)
used_registers us = flat_map (λ u. operand_registers u.operand) us

-- The names of globals in the constants that are used, in the order of the uses, each as often as it is used.
abbrev pub used_globals : List Use → List (List ℕ)
used_globals us = flat_map (λ u. operand_globals u.operand) us

-- The types that are written inside the constants that are used, not the scalar types that the uses state.
abbrev pub used_constant_types : List Use → List Ty
used_constant_types us = flat_map (λ u. operand_types u.operand) us
