-- The laws of loads, stores, blocks on the stack, and external functions.
use Rattle.std.specs.Prelude.{ℕ, ◌%◌, ◌<◌, ◌≤◌, ◌≡◌, Bool, true, false, cond, not, List, [], ◌∷◌, Option, Some}
use Rattle.std.proofs.Common.{refl, sym, ap, ap₂, ◌∙◌, subst, arith, inl, inr}
use Rattle.hip_types.specs.Layout.{shape}
use Rattle.hip_types.specs.Numbers.{modulus, signed}
use Rattle.hip_types.specs.Widths as widths
use Rattle.hip_types.specs.declared.number.Scalar.{Scalar}
use Rattle.hip_types.specs.declared.number.Scalar.TheVariants as scalars
use Rattle.hip_types.specs.declared.number.Width.TheVariants.{W1, W8, W16, W32, W64}
use Rattle.hip_types.specs.declared.ty.Ty.{Ty}
use Rattle.hip_tree.specs.declared.instr.Arg.{Arg}
use Rattle.hip_tree.specs.declared.instr.Instr.TheVariants as instrs
use Rattle.hip_tree.specs.declared.instr.Operand as named
use Rattle.hip_tree.specs.declared.program.Program.{Program}
use Rattle.hip_types.specs.Bytes.{bytes_of, little_endian}
use Rattle.hip_mem.specs.Memory.{bytes_at}
use Rattle.hip_names.specs.Names.{number_of}
use Rattle.hip_externs.specs.Externs.{call_of, row_of}
use Rattle.hip_sound.specs.Registers.{arg_uses}
use Rattle.hip_externs.specs.declared.call.ExternCall.{ExternCall}
use Rattle.hip_externs.specs.declared.call.ExternCall.TheVariants as calls
use Rattle.hip_externs.specs.declared.call.LineEffect.{LineEffect}
use Rattle.hip_externs.specs.declared.call.LineEffect.TheVariants as lines
use Rattle.hip_runs.specs.declared.event.TrapKind.TheVariants as traps
use Rattle.hip_runs.specs.declared.input.Input.{Input}
use Rattle.hip_runs.specs.Actions.{Action, Traps, Assigns, Stores, Flushes, Persists, Asserts, Prints, accessed, allocated, call_action, extern_action, flushing, in_region, instr_action, is_flush_or_fence, memory_of, read_next, arg_value, flushed_size, line_action}
use Rattle.hip_runs.specs.Operands.{access_align, scalar_size, value_of, values_of}
use Rattle.hip_types.specs.Scalars.{width_of}
use Rattle.hip_runs.specs.State.{Registers, World}
use Rattle.hip_code.specs.Calls.{extern_op, are_taken, are_passed, line_op}
use Rattle.hip_code.specs.Frames.{are_known, HoldsFrame, names_at}
use Rattle.hip_code.specs.Named.{passes_or_effects}
use Rattle.hip_code.specs.Numbers.{OpNumbers, Tables}
use Rattle.hip_code.specs.Ops.{IsSize, EffectWithin, effect_action, op_turn, PersistenceWithin, persistence_action}
use Rattle.hip_code.specs.Resolved.{IsOperandIn, is_result, effect_placed, Resolves, numbers_at}
use Rattle.hip_code.specs.Laws.Operands.{operand_same, result_is}
use Rattle.hip_code.specs.Laws.Slots.{slot_within, name_there, name_placed}
use Rattle.hip_code.specs.declared.op.Effect.TheVariants as effects
use Rattle.hip_code.specs.declared.op.Memory.TheVariants as memories
use Rattle.hip_code.specs.declared.op.Op.TheVariants as ops
use Rattle.hip_code.specs.declared.op.OpOperand.{OpOperand}

size_is : (s : Scalar) → widths.bytes_of (width_of s) ≡ scalar_size s
size_is scalars.Ptr = refl
size_is (scalars.Int w) = refl

sizes : (s : Scalar) → IsSize (scalar_size s)
sizes scalars.Ptr = inr (inr (inr refl))
sizes (scalars.Int W1) = inl refl
sizes (scalars.Int W8) = inl refl
sizes (scalars.Int W16) = inr (inl refl)
sizes (scalars.Int W32) = inr (inr (inl refl))
sizes (scalars.Int W64) = inr (inr (inr refl))

module _ (P : Program) (I : Input) (f : ℕ) (tables : Tables) where
  -- The names of the registers of function f, in the order of their slots.
  abbrev names : List (List ℕ)
  names = names_at P f

  pub resolves_load : (name : List ℕ) (dest : ℕ) (ty : Scalar) (align : Option ℕ) (a : OpOperand)
      (x : named.Operand) →
      0 < access_align ty align → number_of names name ≡ Some dest → IsOperandIn P I.base f tables a x →
      Resolves P I f tables (ops.Memory (memories.Load dest (width_of ty) (access_align ty align) a))
      (instrs.Load name ty x align)
  unfolding instr_action
  resolves_load name dest ty align a x some d p = record {
    acts = λ w below slots base rs h k.
        let n = numbers_at tables slots base in
        let addr = operand_same P.globals I.base names n rs a x p h k.all.0 in
        let load : List ℕ → ℕ → ℕ → Action =
        λ to at size. accessed P I w at size (access_align ty align)
        (Assigns (Some to) (little_endian (bytes_at (memory_of P I w) at size) % modulus (width_of ty))) in
        record {
          within = (omega (arith, h.room, slot_within names name dest d), addr.within, some);
          placed = name_placed names name dest d;
          turn = refl;
          acts =
              ap₂ (λ to at. load to at (widths.bytes_of (width_of ty))) (name_there names name dest d) addr.same
              ∙ ap (load name (value_of P.globals I.base rs x)) (size_is ty);
        };
    names = λ slots base rs h k. record { is = tt; pointed = tt };
  }

  pub resolves_store : (ty : Scalar) (align : Option ℕ) (v a : OpOperand) (x y : named.Operand) →
      0 < access_align ty align → IsOperandIn P I.base f tables v x → IsOperandIn P I.base f tables a y →
      Resolves P I f tables (ops.Memory (memories.Store (scalar_size ty) (access_align ty align) v a))
      (instrs.Store ty x y align)
  unfolding instr_action
  resolves_store ty align v a x y some p q = record {
    acts = λ w below slots base rs h k.
        let n = numbers_at tables slots base in
        let value = operand_same P.globals I.base names n rs v x p h k.all.0 in
        let addr = operand_same P.globals I.base names n rs a y q h k.all.1.0 in
        record {
          within = (value.within, addr.within, sizes ty, some);
          placed = tt;
          turn = refl;
          acts =
              ap₂ (λ b c. accessed P I w b (scalar_size ty) (access_align ty align)
              (Stores b (bytes_of (scalar_size ty) c))) addr.same value.same;
        };
    names =
        λ slots base rs h k. record {
          is = (operand_same P.globals I.base names
              (numbers_at tables slots base) rs a y q h k.all.1.0).same;
          pointed = tt;
        };
  }

  pub resolves_alloca : (name : List ℕ) (dest : ℕ) (ty : Ty) (written : Option ℕ) (size align : ℕ) →
      size ≡ (shape ty).size → align ≡ (shape ty).align → 0 < align → align ≤ 8
      → number_of names name ≡ Some dest →
      Resolves P I f tables (ops.Memory (memories.Effect (effects.Alloca dest size align)))
      (instrs.Alloca name ty written)
  unfolding instr_action
  resolves_alloca name dest ty written size align s a some most d = record {
    acts = λ w below slots base rs h k. record {
      within = (omega (arith, h.room, slot_within names name dest d), some, most);
      placed = name_placed names name dest d;
      turn = refl;
      acts = ap (λ to. allocated w to size align) (name_there names name dest d) ∙ ap₂ (allocated w name) s a;
    };
    names = λ slots base rs h k. record { is = tt; pointed = tt };
  }

  -- ---- external functions

  -- There is an op for a function with this effect and these parameters.
  abbrev has_op : LineEffect → List Scalar → Bool
  has_op lines.Nothing params = false
  has_op lines.Flush [] = false
  has_op lines.Flush (x ∷ more) = true
  has_op lines.Fence params = true
  has_op lines.FlushAndFence [] = false
  has_op lines.FlushAndFence (x ∷ []) = false
  has_op lines.FlushAndFence (x ∷ y ∷ more) = true

  -- The op for a function with this effect on cache lines does what a call of the function does with these arguments,
  -- and its operands are there.
  record Lines (w : World) (n : OpNumbers) (rs : Registers) (effect : LineEffect) (params : List Scalar) (a b : OpOperand)
      (args : List Arg) : Type 0 where
    within : PersistenceWithin n (line_op effect params a b)
    acts : persistence_action P I w n (line_op effect params a b)
        ≡ line_action P I w effect (arg_value (values_of P.globals I.base rs args) 0)
        (flushed_size params (values_of P.globals I.base rs args))

  lines_of : (w : World) (slots : List ℕ) (base : ℕ) (rs : Registers) (effect : LineEffect) (params : List Scalar)
      (a b : OpOperand) (args : List Arg) → HoldsFrame names slots base rs → are_known rs (arg_uses args)
      → are_passed P.globals I.base names tables.constants params args a b → has_op effect params ≡ true →
      Lines w (numbers_at tables slots base) rs effect params a b args
  lines_of w slots base rs lines.Fence params a b args h k t some = record { within = tt; acts = refl }
  lines_of w slots base rs lines.Flush (p ∷ []) a b (x ∷ xs) h k t some =
      let v = operand_same P.globals I.base names (numbers_at tables slots base) rs a x.value t h k.0 in
      record { within = v.within; acts = ap (λ u. flushing P I w u 1 (Flushes u 1)) v.same }
  lines_of w slots base rs lines.Flush (p ∷ q ∷ more) a b (x ∷ y ∷ ys) h k t some =
      let u = operand_same P.globals I.base names (numbers_at tables slots base) rs a x.value t.0 h k.0 in
      let v = operand_same P.globals I.base names (numbers_at tables slots base) rs b y.value t.1 h k.1.0 in
      record { within = (u.within, v.within); acts = ap₂ (λ i j. flushing P I w i j (Flushes i j)) u.same v.same }
  lines_of w slots base rs lines.FlushAndFence (p ∷ q ∷ more) a b (x ∷ y ∷ ys) h k t some =
      let u = operand_same P.globals I.base names (numbers_at tables slots base) rs a x.value t.0 h k.0 in
      let v = operand_same P.globals I.base names (numbers_at tables slots base) rs b y.value t.1 h k.1.0 in
      record { within = (u.within, v.within); acts = ap₂ (λ i j. flushing P I w i j (Persists i j)) u.same v.same }
  lines_of w slots base rs lines.Flush (p ∷ []) a b [] h k t some = absurd t
  lines_of w slots base rs lines.Flush (p ∷ q ∷ more) a b [] h k t some = absurd t
  lines_of w slots base rs lines.Flush (p ∷ q ∷ more) a b (x ∷ []) h k t some = absurd t.1
  lines_of w slots base rs lines.FlushAndFence (p ∷ q ∷ more) a b [] h k t some = absurd t
  lines_of w slots base rs lines.FlushAndFence (p ∷ q ∷ more) a b (x ∷ []) h k t some = absurd t.1
  lines_of w slots base rs lines.Flush [] a b args h k t some = absurd (let z : ⊥ = cc in z)
  lines_of w slots base rs lines.FlushAndFence [] a b args h k t some = absurd (let z : ⊥ = cc in z)
  lines_of w slots base rs lines.FlushAndFence (p ∷ []) a b args h k t some = absurd (let z : ⊥ = cc in z)
  lines_of w slots base rs lines.Nothing params a b args h k t some = absurd (let z : ⊥ = cc in z)

  -- The op for an external function does what a call of the function does with these arguments: what it reads and
  -- writes is there, its result goes to a register's slot or nowhere, and it is a turn unless it is a flush or a fence.
  record Effects (w : World) (n : OpNumbers) (rs : Registers) (c : ExternCall) (slot : Option ℕ) (a b : OpOperand)
      (args : List Arg) (dest : Option (List ℕ)) : Type 0 where
    within : EffectWithin n (extern_op c slot a b)
    placed : effect_placed names (extern_op c slot a b)
    turn : op_turn (ops.Memory (memories.Effect (extern_op c slot a b))) ≡ not (is_flush_or_fence (Some c))
    acts : effect_action P I w names n (extern_op c slot a b)
        ≡ extern_action P I w c (values_of P.globals I.base rs args) dest

  effects_of : (w : World) (slots : List ℕ) (base : ℕ) (rs : Registers) (c : ExternCall) (slot : Option ℕ)
      (a b : OpOperand) (args : List Arg) (dest : Option (List ℕ)) →
      HoldsFrame names slots base rs → are_known rs (arg_uses args) → is_result names slot dest
      → are_taken P.globals I.base names tables.constants c args a b →
      Effects w (numbers_at tables slots base) rs c slot a b args dest
  effects_of w slots base rs calls.ReadI64 slot a b args dest h k r t =
      let x = result_is names (numbers_at tables slots base) rs slot dest h r in
      record { within = x.there; placed = x.placed; turn = refl; acts = ap (λ to. read_next to w.left) x.name_is }
  effects_of w slots base rs calls.PrintI64 slot a b [] dest h k r t = absurd t
  effects_of w slots base rs calls.PrintI64 slot a b (x ∷ xs) dest h k r t =
      let v = operand_same P.globals I.base names (numbers_at tables slots base) rs a x.value t h k.0 in
      record { within = v.within; placed = tt; turn = refl; acts = ap (λ u. Prints (signed W64 u)) v.same }
  effects_of w slots base rs calls.PmAssert slot a b [] dest h k r t = absurd t
  effects_of w slots base rs calls.PmAssert slot a b (x ∷ []) dest h k r t = absurd t.1
  effects_of w slots base rs calls.PmAssert slot a b (x ∷ y ∷ ys) dest h k r t =
      let u = operand_same P.globals I.base names (numbers_at tables slots base) rs a x.value t.0 h k.0 in
      let v = operand_same P.globals I.base names (numbers_at tables slots base) rs b y.value t.1 h k.1.0 in
      record {
        within = (u.within, v.within);
        placed = tt;
        turn = refl;
        acts = ap₂ (λ i j. cond (in_region I i j) (Asserts i j) (Traps traps.Address)) u.same v.same;
      }
  effects_of w slots base rs call slot a b args dest h k r t =
      let l = lines_of w slots base rs (row_of call).effect (row_of call).params a b args h k t refl in
      record { within = l.within; placed = tt; turn = refl; acts = l.acts }

  -- A call of an external function.
  pub resolves_extern : (dest : Option (List ℕ)) (slot : Option ℕ) (ret : Option Scalar) (callee : List ℕ)
      (args : List Arg) (c : ExternCall) (a b : OpOperand) →
      call_of callee ≡ Some c → is_result names slot dest
      → are_taken P.globals I.base names tables.constants c args a b
      →
      Resolves P I f tables (ops.Memory (memories.Effect (extern_op c slot a b))) (instrs.Call dest ret callee args)
  unfolding instr_action
  resolves_extern dest slot ret callee args c a b is r t = record {
    acts = λ w below slots base rs h k.
        let e = effects_of w slots base rs c slot a b args dest h k.all r t in
        record {
          within = e.within;
          placed = e.placed;
          turn = e.turn ∙ ap (λ o. not (is_flush_or_fence o)) (sym is);
          acts = e.acts ∙ ap (λ o. call_action P I w below o callee (values_of P.globals I.base rs args) dest)
              (sym is);
        };
    names =
        λ slots base rs h k. record {
          is = subst
              (λ o. passes_or_effects P (numbers_at tables slots base) o callee (values_of P.globals I.base rs args)
              (ops.Memory (memories.Effect (extern_op c slot a b)))) (sym is) tt;
          pointed = tt;
        };
  }
