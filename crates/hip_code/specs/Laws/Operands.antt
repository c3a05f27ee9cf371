-- Laws of resolved operands, and the law of an op that gives a value.
use Rattle.std.specs.Prelude.{ℕ, ◌≡◌, true, List, Option, Some, None, Result}
use Rattle.std.proofs.Common.{refl, ap, ap₂, arith}
use Rattle.std.proofs.lemmas.Option.{slice_get_within, get_or_from_slice_get}
use Rattle.hip_tree.specs.declared.instr.Operand as named
use Rattle.hip_tree.specs.declared.instr.Operand.TheVariants.{Reg, Fixed}
use Rattle.hip_tree.specs.declared.program.GlobalVar.{GlobalVar}
use Rattle.hip_tree.specs.declared.program.Program.{Program}
use Rattle.hip_names.specs.Names.{number_of}
use Rattle.hip_num.specs.declared.arithmetic.NumTrap.{NumTrap}
use Rattle.hip_runs.specs.declared.input.Input.{Input}
use Rattle.hip_runs.specs.Operands.{value_of}
use Rattle.hip_runs.specs.State.{Registers, World}
use Rattle.hip_code.specs.Frames.{IsKnown, HoldsFrame, names_at}
use Rattle.hip_code.specs.Numbers.{OpNumbers, operand_value, is_within}
use Rattle.hip_code.specs.Ops.{gave, result_name, HasResult}
use Rattle.hip_code.specs.Resolved.{IsOperand, is_result, result_placed, Acting}
use Rattle.hip_code.specs.Values.{value_result, ReadsWithin}
use Rattle.hip_code.specs.Laws.Slots.{slot_within, name_there, name_placed}
use Rattle.hip_code.specs.declared.op.Op.TheVariants as ops
use Rattle.hip_code.specs.declared.op.OpOperand.{OpOperand}
use Rattle.hip_code.specs.declared.op.OpOperand.TheVariants.{Register, Constant}
use Rattle.hip_code.specs.declared.op.Value.{Value}

-- What a resolved operand names is there.
pub operand_within : (globals : List GlobalVar) (region : ℕ) (names : List (List ℕ)) (n : OpNumbers) (rs : Registers)
    (o : OpOperand) (x : named.Operand) →
    IsOperand globals region names n.tables.constants o x → HoldsFrame names n.slots n.base rs → is_within n o
operand_within globals region names n rs (Register slot) (Reg name) r h =
    omega (arith, h.room, slot_within names name slot r.is)
operand_within globals region names n rs (Constant place) (Fixed value) r h =
    slice_get_within n.tables.constants place _ r.is
operand_within globals region names n rs (Register slot) (Fixed value) r h = absurd r.is
operand_within globals region names n rs (Constant place) (Reg name) r h = absurd r.is

-- What the operand names is there, and this is its value.
pub record SameValue (n : OpNumbers) (o : OpOperand) (v : ℕ) : Type 0 where
  pub within : is_within n o
  pub same : operand_value n o ≡ v

-- An op's operand has the value of the operand that it resolves.
pub operand_same : (globals : List GlobalVar) (region : ℕ) (names : List (List ℕ)) (n : OpNumbers) (rs : Registers)
    (o : OpOperand) (x : named.Operand) →
    IsOperand globals region names n.tables.constants o x → HoldsFrame names n.slots n.base rs → IsKnown rs x
    → SameValue n o (value_of globals region rs x)
operand_same globals region names n rs (Register slot) (Reg name) r h k =
    record { within = omega (arith, h.room, slot_within names name slot r.is); same = h.holds name slot r.is k }
operand_same globals region names n rs (Constant place) (Fixed value) r h k =
    record {
      within = slice_get_within n.tables.constants place _ r.is;
      same = get_or_from_slice_get n.tables.constants place _ 0 r.is;
    }
operand_same globals region names n rs (Register slot) (Fixed value) r h k = absurd r.is
operand_same globals region names n rs (Constant place) (Reg name) r h k = absurd r.is

-- An op gives a result to a register.
pub gives : (P : Program) (I : Input) (w : World) (below f : ℕ) (n : OpNumbers) (rs : Registers) (name : List ℕ)
    (dest : ℕ) (value : Value) (r : Result ℕ NumTrap) →
    number_of (names_at P f) name ≡ Some dest → HoldsFrame (names_at P f) n.slots n.base rs → ReadsWithin n value
    → value_result n value ≡ r →
    Acting P I w below f n rs (ops.Value dest value) true (gave name r)
gives P I w below f n rs name dest value r d h reads e = record {
  within = (reads, omega (arith, h.room, slot_within (names_at P f) name dest d));
  placed = name_placed (names_at P f) name dest d;
  turn = refl;
  acts = ap₂ gave (name_there (names_at P f) name dest d) e;
}

-- The slot of a result is there and is that of the register of this name, or there is neither slot nor name.
pub record ResultIs (names : List (List ℕ)) (n : OpNumbers) (slot : Option ℕ)
    (name : Option (List ℕ)) : Type 0 where
  pub name_is : result_name names slot ≡ name
  pub placed : result_placed names slot
  pub there : HasResult n slot

-- A result goes to the slot of a register, or nowhere.
pub result_is : (names : List (List ℕ)) (n : OpNumbers) (rs : Registers) (slot : Option ℕ) (name : Option (List ℕ))
    → HoldsFrame names n.slots n.base rs → is_result names slot name → ResultIs names n slot name
result_is names n rs None None h r = record { name_is = refl; placed = tt; there = tt }
result_is names n rs (Some slot) (Some name) h r =
    record {
      name_is = ap Some (name_there names name slot r);
      placed = name_placed names name slot r;
      there = omega (arith, h.room, slot_within names name slot r);
    }
result_is names n rs None (Some name) h r = absurd r
result_is names n rs (Some slot) None h r = absurd r
