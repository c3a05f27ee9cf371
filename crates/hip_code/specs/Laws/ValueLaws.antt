-- The laws of arithmetic, divisions, comparisons, selects and changes of type.
use Rattle.std.specs.Prelude.{ℕ, ◌%◌, ◌≡◌, true, cond, not, nat_eq, nat_lt, nat_le, int_lt, int_le, List, Some, Result, Ok, Err, ℤ, pos, negsuc}
use Rattle.std.proofs.Common.{refl, sym, ap, ap₂, ◌∙◌, subst, arith}
use Rattle.std.proofs.lemmas.Bool.Decides.{nat_tests}
use Rattle.std.proofs.Math.Pow.{mod-mod-pow}
use Rattle.hip_types.specs.Numbers.{bits, modulus, signed, wrapped}
use Rattle.hip_types.specs.declared.number.BinaryOp.{BinaryOp}
use Rattle.hip_types.specs.declared.number.Bits.{Bits}
use Rattle.hip_types.specs.declared.number.CastOp.{CastOp}
use Rattle.hip_types.specs.declared.number.CastOp.TheVariants as casts
use Rattle.hip_types.specs.declared.number.Pred.{Pred}
use Rattle.hip_types.specs.declared.number.Pred.TheVariants as preds
use Rattle.hip_types.specs.declared.number.Scalar.{Scalar}
use Rattle.hip_types.specs.declared.number.Width.{Width}
use Rattle.hip_types.specs.declared.number.Width.TheVariants.{W1, W8, W16, W32, W64}
use Rattle.hip_tree.specs.declared.instr.Flags.{Flags}
use Rattle.hip_tree.specs.declared.instr.Instr.TheVariants as instrs
use Rattle.hip_tree.specs.declared.instr.Operand as named
use Rattle.hip_tree.specs.declared.program.Program.{Program}
use Rattle.hip_names.specs.Names.{number_of}
use Rattle.hip_num.specs.Comparisons.{holds}
use Rattle.hip_num.specs.declared.arithmetic.NumTrap.{NumTrap}
use Rattle.hip_runs.specs.declared.input.Input.{Input}
use Rattle.hip_runs.specs.Actions.{calculated, instr_action, truth, cast_value}
use Rattle.hip_runs.specs.Operands.{value_of}
use Rattle.hip_types.specs.Scalars.{width_of}
use Rattle.hip_code.specs.Frames.{names_at}
use Rattle.hip_code.specs.Numbers.{OpNumbers, Tables, operand_value, is_within}
use Rattle.hip_code.specs.Ops.{gave}
use Rattle.hip_code.specs.Resolved.{IsOperandIn, Acting, Resolves, numbers_at}
use Rattle.hip_code.specs.Translated.{compare_op, cast_op}
use Rattle.hip_code.specs.Values.{operation_of, division_of, operated, compared, number_in, rest_result, RestWithin}
use Rattle.hip_code.specs.Laws.Operands.{operand_same, gives}
use Rattle.hip_code.specs.declared.op.DivisionOp.{DivisionOp}
use Rattle.hip_code.specs.declared.op.IntegerOp.{IntegerOp}
use Rattle.hip_code.specs.declared.op.Op.TheVariants as ops
use Rattle.hip_code.specs.declared.op.OpOperand.{OpOperand}
use Rattle.hip_code.specs.declared.op.Other.TheVariants as others
use Rattle.hip_code.specs.declared.op.Rest.TheVariants as rests
use Rattle.hip_code.specs.declared.op.Value.TheVariants as values

-- An op does with the result of an operation what the instruction does with it.
gave_calculated : (dest : List ℕ) (r : Result Bits NumTrap) → gave dest (number_in r) ≡ calculated dest r
gave_calculated dest (Ok b) = refl
gave_calculated dest (Err trap) = refl

-- ---- comparisons

at_least : (a b : ℕ) → not (nat_lt a b) ≡ nat_le b a
at_least a b = grind (arith, nat_tests)

signed_at_least : (x y : ℤ) → not (int_lt x y) ≡ int_le y x
signed_at_least (pos a) (pos b) = at_least a b
signed_at_least (pos a) (negsuc b) = refl
signed_at_least (negsuc a) (pos b) = refl
signed_at_least (negsuc a) (negsuc b) = at_least b a

compare_gives : (p : Pred) (n : OpNumbers) (w : Width) (a b : OpOperand)
    → rest_result n (compare_op p w a b) ≡ Ok
    (truth (holds p w (bits w (operand_value n a)).value (bits w (operand_value n b)).value))
compare_gives preds.Eq n w a b = refl
compare_gives preds.Ne n w a b = refl
compare_gives preds.Ugt n w a b = refl
compare_gives preds.Uge n w a b =
    ap (λ t. Ok (truth t)) (at_least (bits w (operand_value n a)).value (bits w (operand_value n b)).value)
compare_gives preds.Ult n w a b = refl
compare_gives preds.Ule n w a b =
    ap (λ t. Ok (truth t)) (at_least (bits w (operand_value n b)).value (bits w (operand_value n a)).value)
compare_gives preds.Sgt n w a b = refl
compare_gives preds.Sge n w a b =
    ap (λ t. Ok (truth t)) (signed_at_least (signed w (bits w (operand_value n a)).value)
    (signed w (bits w (operand_value n b)).value))
compare_gives preds.Slt n w a b = refl
compare_gives preds.Sle n w a b =
    ap (λ t. Ok (truth t)) (signed_at_least (signed w (bits w (operand_value n b)).value)
    (signed w (bits w (operand_value n a)).value))

compare_within : (p : Pred) (n : OpNumbers) (w : Width) (a b : OpOperand) → is_within n a → is_within n b
    → RestWithin n (compare_op p w a b)
compare_within preds.Eq n w a b h k = (h, k)
compare_within preds.Ne n w a b h k = (h, k)
compare_within preds.Ugt n w a b h k = (k, h)
compare_within preds.Uge n w a b h k = (h, k)
compare_within preds.Ult n w a b h k = (h, k)
compare_within preds.Ule n w a b h k = (k, h)
compare_within preds.Sgt n w a b h k = (k, h)
compare_within preds.Sge n w a b h k = (h, k)
compare_within preds.Slt n w a b h k = (h, k)
compare_within preds.Sle n w a b h k = (k, h)

-- ---- changes of type

-- A number with a sign that is cut to 64 bits and then to a width is the number cut to that width.
wrapped_cut : (w : Width) (z : ℤ) → wrapped W64 z % modulus w ≡ wrapped w z % modulus w
wrapped_cut W1 (pos n) = mod-mod-pow n 63 1 ∙ sym (mod-mod-pow n 0 1)
wrapped_cut W8 (pos n) = mod-mod-pow n 56 8 ∙ sym (mod-mod-pow n 0 8)
wrapped_cut W16 (pos n) = mod-mod-pow n 48 16 ∙ sym (mod-mod-pow n 0 16)
wrapped_cut W32 (pos n) = mod-mod-pow n 32 32 ∙ sym (mod-mod-pow n 0 32)
wrapped_cut W64 (pos n) = refl
wrapped_cut W1 (negsuc n) = omega arith
wrapped_cut W8 (negsuc n) = omega arith
wrapped_cut W16 (negsuc n) = omega arith
wrapped_cut W32 (negsuc n) = omega arith
wrapped_cut W64 (negsuc n) = refl

cast_gives : (op : CastOp) (n : OpNumbers) (from to : Scalar) (a : OpOperand)
    → rest_result n (cast_op op (width_of from) (width_of to) a) ≡ Ok (cast_value op from to (operand_value n a))
cast_gives casts.Sext n from to a =
    ap Ok (wrapped_cut (width_of to) (signed (width_of from) (bits (width_of from) (operand_value n a)).value))
cast_gives casts.Zext n from to a = refl
cast_gives casts.Trunc n from to a = refl
cast_gives casts.Ptrtoint n from to a = refl
cast_gives casts.Inttoptr n from to a = refl

cast_within : (op : CastOp) (n : OpNumbers) (from to : Width) (a : OpOperand) → is_within n a
    → RestWithin n (cast_op op from to a)
cast_within casts.Sext n from to a h = h
cast_within casts.Zext n from to a h = h
cast_within casts.Trunc n from to a h = h
cast_within casts.Ptrtoint n from to a h = h
cast_within casts.Inttoptr n from to a h = h

-- ---- the laws

module _ (P : Program) (I : Input) (f : ℕ) (tables : Tables) where
  -- The names of the registers of function f, in the order of their slots.
  abbrev names : List (List ℕ)
  names = names_at P f

  pub resolves_binary : (name : List ℕ) (dest : ℕ) (op : IntegerOp) (named_op : BinaryOp) (flags : Flags)
      (width : Width) (a b : OpOperand) (x y : named.Operand) →
      operation_of op ≡ named_op → number_of names name ≡ Some dest → IsOperandIn P I.base f tables a x
      → IsOperandIn P I.base f tables b y →
      Resolves P I f tables (ops.Value dest (values.Integer op width a b)) (instrs.Binary name named_op flags width x y)
  unfolding instr_action
  resolves_binary name dest op named_op flags width a b x y is d p q = record {
    acts = λ w below slots base rs h k.
        let n = numbers_at tables slots base in
        let left = operand_same P.globals I.base names n rs a x p h k.all.0 in
        let right = operand_same P.globals I.base names n rs b y q h k.all.1.0 in
        subst (Acting P I w below f n rs (ops.Value dest (values.Integer op width a b)) true)
        (ap (gave name) (ap number_in (ap₂ (operated (operation_of op) width) left.same right.same
        ∙ ap (λ o. operated o width (value_of P.globals I.base rs x) (value_of P.globals I.base rs y)) is))
        ∙ gave_calculated name _)
        (gives P I w below f n rs name dest (values.Integer op width a b) _ d h (left.within, right.within) refl);
    names = λ slots base rs h k. record { is = tt; pointed = tt };
  }

  pub resolves_division : (name : List ℕ) (dest : ℕ) (op : DivisionOp) (named_op : BinaryOp) (flags : Flags)
      (width : Width) (a b : OpOperand) (x y : named.Operand) →
      division_of op ≡ named_op → number_of names name ≡ Some dest → IsOperandIn P I.base f tables a x
      → IsOperandIn P I.base f tables b y →
      Resolves P I f tables (ops.Value dest (values.Rest (rests.Other (others.Divide op width a b))))
      (instrs.Binary name named_op flags width x y)
  unfolding instr_action
  resolves_division name dest op named_op flags width a b x y is d p q = record {
    acts = λ w below slots base rs h k.
        let n = numbers_at tables slots base in
        let left = operand_same P.globals I.base names n rs a x p h k.all.0 in
        let right = operand_same P.globals I.base names n rs b y q h k.all.1.0 in
        subst (Acting P I w below f n rs (ops.Value dest (values.Rest (rests.Other (others.Divide op width a b)))) true)
        (ap (gave name) (ap number_in (ap₂ (operated (division_of op) width) left.same right.same
        ∙ ap (λ o. operated o width (value_of P.globals I.base rs x) (value_of P.globals I.base rs y)) is))
        ∙ gave_calculated name _)
        (gives P I w below f n rs name dest (values.Rest (rests.Other (others.Divide op width a b))) _ d h
        (left.within, right.within) refl);
    names = λ slots base rs h k. record { is = tt; pointed = tt };
  }

  pub resolves_compare : (name : List ℕ) (dest : ℕ) (pred : Pred) (ty : Scalar) (a b : OpOperand)
      (x y : named.Operand) →
      number_of names name ≡ Some dest → IsOperandIn P I.base f tables a x → IsOperandIn P I.base f tables b y →
      Resolves P I f tables (ops.Value dest (values.Rest (compare_op pred (width_of ty) a b)))
      (instrs.Compare name pred ty x y)
  unfolding instr_action
  resolves_compare name dest pred ty a b x y d p q = record {
    acts = λ w below slots base rs h k.
        let n = numbers_at tables slots base in
        let left = operand_same P.globals I.base names n rs a x p h k.all.0 in
        let right = operand_same P.globals I.base names n rs b y q h k.all.1.0 in
        gives P I w below f n rs name dest (values.Rest (compare_op pred (width_of ty) a b))
        (Ok (truth (compared pred (width_of ty) (value_of P.globals I.base rs x) (value_of P.globals I.base rs y))))
        d h
        (compare_within pred n (width_of ty) a b left.within right.within)
        (compare_gives pred n (width_of ty) a b ∙ ap₂
        (λ u v. Ok (truth (compared pred (width_of ty) u v))) left.same right.same);
    names = λ slots base rs h k. record { is = tt; pointed = tt };
  }

  pub resolves_select : (name : List ℕ) (dest : ℕ) (ty : Scalar) (t a b : OpOperand) (z x y : named.Operand) →
      number_of names name ≡ Some dest → IsOperandIn P I.base f tables t z → IsOperandIn P I.base f tables a x
      → IsOperandIn P I.base f tables b y →
      Resolves P I f tables (ops.Value dest (values.Rest (rests.Other (others.Select t a b))))
      (instrs.Select name z ty x y)
  unfolding instr_action
  resolves_select name dest ty t a b z x y d o p q = record {
    acts = λ w below slots base rs h k.
        let n = numbers_at tables slots base in
        let test = operand_same P.globals I.base names n rs t z o h k.all.0 in
        let left = operand_same P.globals I.base names n rs a x p h k.all.1.0 in
        let right = operand_same P.globals I.base names n rs b y q h k.all.1.1.0 in
        gives P I w below f n rs name dest (values.Rest (rests.Other (others.Select t a b)))
        (Ok (cond (nat_eq (value_of P.globals I.base rs z) 1) (value_of P.globals I.base rs x)
        (value_of P.globals I.base rs y))) d h
        (test.within, left.within, right.within)
        (ap (λ u. Ok (cond (nat_eq u 1) (operand_value n a) (operand_value n b))) test.same
        ∙ ap₂ (λ u v. Ok (cond (nat_eq (value_of P.globals I.base rs z) 1) u v)) left.same right.same);
    names = λ slots base rs h k. record { is = tt; pointed = tt };
  }

  pub resolves_cast : (name : List ℕ) (dest : ℕ) (op : CastOp) (from to : Scalar) (a : OpOperand)
      (x : named.Operand) →
      number_of names name ≡ Some dest → IsOperandIn P I.base f tables a x →
      Resolves P I f tables (ops.Value dest (values.Rest (cast_op op (width_of from) (width_of to) a)))
      (instrs.Cast name op from x to)
  unfolding instr_action
  resolves_cast name dest op from to a x d p = record {
    acts = λ w below slots base rs h k.
        let n = numbers_at tables slots base in
        let value = operand_same P.globals I.base names n rs a x p h k.all.0 in
        gives P I w below f n rs name dest (values.Rest (cast_op op (width_of from) (width_of to) a))
        (Ok (cast_value op from to (value_of P.globals I.base rs x))) d h
        (cast_within op n (width_of from) (width_of to) a value.within)
        (cast_gives op n from to a ∙ ap (λ v. Ok (cast_value op from to v)) value.same);
    names = λ slots base rs h k. record { is = tt; pointed = tt };
  }
