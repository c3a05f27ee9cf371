-- What the ops of values do.
use Rattle.std.proofs.Common.{◌≡◌, ℕ, ◌<◌, List, Option, Some, refl}
use Rattle.hip_types.specs.declared.number.BinaryOp.{BinaryOp}
use Rattle.hip_types.specs.declared.number.BinaryOp.TheVariants as binaries
use Rattle.hip_types.specs.declared.number.CastOp.{CastOp}
use Rattle.hip_types.specs.declared.number.Pred.{Pred}
use Rattle.hip_types.specs.declared.number.Scalar.{Scalar}
use Rattle.hip_types.specs.declared.number.Width.{Width}
use Rattle.hip_types.specs.declared.ty.Ty.{Ty}
use Rattle.hip_types.specs.Layout.{shape}
use Rattle.hip_types.specs.Laws.LayoutLaws.{align_of-alignment, alignment-low, alignment-high}
use Rattle.hip_tree.specs.declared.instr.Flags.{Flags}
use Rattle.hip_tree.specs.declared.instr.Instr.TheVariants as instrs
use Rattle.hip_tree.specs.declared.instr.Operand as named
use Rattle.hip_tree.specs.declared.program.Program.{Program}
use Rattle.hip_names.specs.Names.{number_of}
use Rattle.hip_runs.specs.Operands.{access_align, scalar_size}
use Rattle.hip_types.specs.Scalars.{width_of}
use Rattle.hip_code.specs.Frames.{names_at}
use Rattle.hip_code.specs.Numbers.{Tables}
use Rattle.hip_code.specs.Resolved.{IsOperandIn}
use Rattle.hip_code.specs.Translated.{binary_value, compare_op, cast_op}
use Rattle.hip_code.specs.Laws.ValueLaws.{resolves_binary, resolves_division, resolves_compare, resolves_select, resolves_cast}
use Rattle.hip_code.specs.Laws.MemoryLaws.{resolves_load, resolves_store, resolves_alloca}
use Rattle.hip_code.specs.declared.op.Effect.TheVariants as effects
use Rattle.hip_code.specs.declared.op.Memory.TheVariants as memories
use Rattle.hip_code.specs.declared.op.Op.TheVariants as ops
use Rattle.hip_code.specs.declared.op.OpOperand.{OpOperand}
use Rattle.hip_code.specs.declared.op.Other.TheVariants as others
use Rattle.hip_code.specs.declared.op.Rest.TheVariants as rests
use Rattle.hip_code.specs.declared.op.Value.TheVariants as values
use Rattle.hip_scope.specs.Scopes.{DoesInstr}
use Rattle.hip_scope.proofs.Constants.{on_base}

module _ (P : Program) (base f : ℕ) (t : Tables) where
  abbrev has_slot : List ℕ → ℕ → Type 0
  has_slot name slot = number_of (names_at P f) name ≡ Some slot

  pub does_binary : (op : BinaryOp) (name : List ℕ) (dest : ℕ) (flags : Flags) (w : Width) (a b : OpOperand) (x y : named.Operand) →
      has_slot name dest → IsOperandIn P base f t a x → IsOperandIn P base f t b y → DoesInstr P base f t (ops.Value dest (binary_value op w a b)) (instrs.Binary name op flags w x y)
  does_binary binaries.Add name dest flags w a b x y d p q = record { on = λ I e. resolves_binary P I f t name dest _ binaries.Add flags w a b x y refl d (on_base e p) (on_base e q) }
  does_binary binaries.Sub name dest flags w a b x y d p q = record { on = λ I e. resolves_binary P I f t name dest _ binaries.Sub flags w a b x y refl d (on_base e p) (on_base e q) }
  does_binary binaries.Mul name dest flags w a b x y d p q = record { on = λ I e. resolves_binary P I f t name dest _ binaries.Mul flags w a b x y refl d (on_base e p) (on_base e q) }
  does_binary binaries.And name dest flags w a b x y d p q = record { on = λ I e. resolves_binary P I f t name dest _ binaries.And flags w a b x y refl d (on_base e p) (on_base e q) }
  does_binary binaries.Or name dest flags w a b x y d p q = record { on = λ I e. resolves_binary P I f t name dest _ binaries.Or flags w a b x y refl d (on_base e p) (on_base e q) }
  does_binary binaries.Xor name dest flags w a b x y d p q = record { on = λ I e. resolves_binary P I f t name dest _ binaries.Xor flags w a b x y refl d (on_base e p) (on_base e q) }
  does_binary binaries.Shl name dest flags w a b x y d p q = record { on = λ I e. resolves_binary P I f t name dest _ binaries.Shl flags w a b x y refl d (on_base e p) (on_base e q) }
  does_binary binaries.Lshr name dest flags w a b x y d p q = record { on = λ I e. resolves_binary P I f t name dest _ binaries.Lshr flags w a b x y refl d (on_base e p) (on_base e q) }
  does_binary binaries.Ashr name dest flags w a b x y d p q = record { on = λ I e. resolves_binary P I f t name dest _ binaries.Ashr flags w a b x y refl d (on_base e p) (on_base e q) }
  does_binary binaries.Udiv name dest flags w a b x y d p q = record { on = λ I e. resolves_division P I f t name dest _ binaries.Udiv flags w a b x y refl d (on_base e p) (on_base e q) }
  does_binary binaries.Sdiv name dest flags w a b x y d p q = record { on = λ I e. resolves_division P I f t name dest _ binaries.Sdiv flags w a b x y refl d (on_base e p) (on_base e q) }
  does_binary binaries.Urem name dest flags w a b x y d p q = record { on = λ I e. resolves_division P I f t name dest _ binaries.Urem flags w a b x y refl d (on_base e p) (on_base e q) }
  does_binary binaries.Srem name dest flags w a b x y d p q = record { on = λ I e. resolves_division P I f t name dest _ binaries.Srem flags w a b x y refl d (on_base e p) (on_base e q) }

  pub does_compare : (name : List ℕ) (dest : ℕ) (pred : Pred) (ty : Scalar) (a b : OpOperand) (x y : named.Operand) →
      has_slot name dest → IsOperandIn P base f t a x → IsOperandIn P base f t b y → DoesInstr P base f t (ops.Value dest (values.Rest (compare_op pred (width_of ty) a b))) (instrs.Compare name pred ty x y)
  does_compare name dest pred ty a b x y d p q = record { on = λ I e. resolves_compare P I f t name dest pred ty a b x y d (on_base e p) (on_base e q) }

  pub does_select : (name : List ℕ) (dest : ℕ) (ty : Scalar) (o a b : OpOperand) (z x y : named.Operand) →
      has_slot name dest → IsOperandIn P base f t o z → IsOperandIn P base f t a x → IsOperandIn P base f t b y → DoesInstr P base f t (ops.Value dest (values.Rest (rests.Other (others.Select o a b)))) (instrs.Select name z ty x y)
  does_select name dest ty o a b z x y d s p q = record { on = λ I e. resolves_select P I f t name dest ty o a b z x y d (on_base e s) (on_base e p) (on_base e q) }

  pub does_cast : (name : List ℕ) (dest : ℕ) (op : CastOp) (from to : Scalar) (a : OpOperand) (x : named.Operand) →
      has_slot name dest → IsOperandIn P base f t a x → DoesInstr P base f t (ops.Value dest (values.Rest (cast_op op (width_of from) (width_of to) a))) (instrs.Cast name op from x to)
  does_cast name dest op from to a x d p = record { on = λ I e. resolves_cast P I f t name dest op from to a x d (on_base e p) }

  pub does_load : (name : List ℕ) (dest : ℕ) (ty : Scalar) (align : Option ℕ) (a : OpOperand) (x : named.Operand) →
      0 < access_align ty align → has_slot name dest → IsOperandIn P base f t a x → DoesInstr P base f t (ops.Memory (memories.Load dest (width_of ty) (access_align ty align) a)) (instrs.Load name ty x align)
  does_load name dest ty align a x some d p = record { on = λ I e. resolves_load P I f t name dest ty align a x some d (on_base e p) }

  pub does_store : (ty : Scalar) (align : Option ℕ) (v a : OpOperand) (x y : named.Operand) →
      0 < access_align ty align → IsOperandIn P base f t v x → IsOperandIn P base f t a y → DoesInstr P base f t (ops.Memory (memories.Store (scalar_size ty) (access_align ty align) v a)) (instrs.Store ty x y align)
  does_store ty align v a x y some p q = record { on = λ I e. resolves_store P I f t ty align v a x y some (on_base e p) (on_base e q) }

  pub does_alloca : (name : List ℕ) (dest : ℕ) (ty : Ty) (written : Option ℕ) → has_slot name dest →
      DoesInstr P base f t (ops.Memory (memories.Effect (effects.Alloca dest (shape ty).size (shape ty).align))) (instrs.Alloca name ty written)
  does_alloca name dest ty written d = record {
    on = λ I e. resolves_alloca P I f t name dest ty written _ _ refl refl (alignment-low _ (align_of-alignment ty)) (alignment-high _ (align_of-alignment ty)) d;
  }
