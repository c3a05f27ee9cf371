-- The actions that an instruction may have: a claim about them is shown case by case.
use Rattle.std.proofs.Common.{◌≡◌, ◌≢◌, ℕ, ◌+◌, ◌%◌, ◌<◌, ◌≤◌, Bool, true, false, cond, nat_le, nat_lt, nat_eq, List, [], ◌∷◌, Option, Some, None, slice_get, refl, sym, ap, ◌∙◌, leb-true, ltb-true}
use Rattle.std.specs.Prelude.{Result, Ok, Err, ℤ}
use Rattle.std.specs.Int.{next_multiple_of}
use Rattle.hip_types.specs.Layout.{shape}
use Rattle.hip_types.specs.Numbers.{bits}
use Rattle.hip_types.specs.declared.number.Bits.{Bits}
use Rattle.hip_tree.specs.declared.instr.Arg.{Arg}
use Rattle.hip_tree.specs.declared.instr.Instr.{Instr}
use Rattle.hip_tree.specs.declared.instr.Instr.TheVariants.{Binary, Compare, Select, Cast, Alloca, Load, Store, Gep, Call}
use Rattle.hip_tree.specs.declared.instr.Operand.{Operand}
use Rattle.hip_tree.specs.declared.program.Function.{Function}
use Rattle.hip_tree.specs.declared.program.Program.{Program}
use Rattle.hip_types.specs.Bytes.{bytes_of}
use Rattle.hip_mem.specs.Memory.{bytes_at}
use Rattle.hip_types.specs.Areas.{stack_end}
use Rattle.hip_num.specs.Arithmetic.{binary_of}
use Rattle.hip_num.specs.Comparisons.{holds}
use Rattle.hip_num.specs.declared.arithmetic.NumTrap.{NumTrap}
use Rattle.hip_num.specs.declared.arithmetic.NumTrap.TheVariants as num_traps
use Rattle.hip_externs.specs.Externs.{call_of, row_of}
use Rattle.hip_sound.specs.NumberedNames.{function_number}
use Rattle.hip_globals.specs.Values.{element_address}
use Rattle.hip_externs.specs.declared.call.ExternCall.{ExternCall}
use Rattle.hip_externs.specs.declared.call.ExternCall.TheVariants as calls
use Rattle.hip_externs.specs.declared.call.LineEffect.{LineEffect}
use Rattle.hip_externs.specs.declared.call.LineEffect.TheVariants as effects
use Rattle.hip_runs.specs.declared.event.TrapKind.{TrapKind}
use Rattle.hip_runs.specs.declared.event.TrapKind.TheVariants as traps
use Rattle.hip_runs.specs.declared.input.Input.{Input}
use Rattle.hip_runs.specs.Actions.{Action, Traps, Assigns, Allocates, Stores, Flushes, Persists, Fences, Asserts, Prints, Reads, Calls, in_region, are_valid, memory_of, accessed, calculated, truth, cast_value, index_values, read_value, allocated, numbered_call, entered, flushing, read_next, extern_action, call_action, instr_action, line_action, arg_value, flushed_size}
use Rattle.hip_runs.specs.Operands.{value_of, values_of, bound, scalar_size}
use Rattle.hip_types.specs.Scalars.{width_of}
use Rattle.hip_runs.specs.State.{Registers, World}

-- An action that gives no register a value and leaves the stack as it is.
abbrev pub leaves_registers : Action → Type 0
leaves_registers (Stores a bytes) = Unit {0}
leaves_registers (Flushes a n) = Unit {0}
leaves_registers (Persists a n) = Unit {0}
leaves_registers Fences = Unit {0}
leaves_registers (Asserts a n) = Unit {0}
leaves_registers (Prints z) = Unit {0}
leaves_registers _ = ⊥

module _ (P : Program) (I : Input) (w : World) (below : ℕ) (rs : Registers) (Claim : Action → Type 0) where
  -- The value of an operand by the registers.
  abbrev value : Operand → ℕ
  value o = value_of P.globals I.base rs o

  -- What a call may do: it reads the next number, does what another external function does, or enters a function.
  pub record CallCases (dest : Option (List ℕ)) (callee : List ℕ) (args : List Arg) : Type 0 where
    pub read : call_of callee ≡ Some calls.ReadI64 → (z : ℤ) (rest : List ℤ) → w.left ≡ z ∷ rest →
        Claim (Reads dest z rest)
    pub extern : (x : ExternCall) → call_of callee ≡ Some x → x ≢ calls.ReadI64 →
        (y : Action) → leaves_registers y → Claim y
    pub enter : (h : ℕ) (fn : Function) → call_of callee ≡ None → function_number P callee ≡ Some h →
        slice_get P.functions h ≡ Some fn → below < 16383 →
        Claim (Calls h (bound fn.params (values_of P.globals I.base rs args)) dest)
    -- The callee does not exist.
    pub missing : call_of callee ≡ None →
        ((h : ℕ) (fn : Function) → function_number P callee ≡ Some h
        → ¬ (slice_get P.functions h ≡ Some fn)) →
        Claim (Traps traps.Unreachable)

  -- What an instruction may do, except for traps: the claim has to be shown of these actions.
  abbrev pub instr_cases : Instr → Type 0
  instr_cases (Binary dest op flags width a b) =
      (r : Bits) → binary_of op (bits width (value a)) (bits width (value b)) ≡ Ok r
      → Claim (Assigns (Some dest) r.value)
  instr_cases (Compare dest pred ty a b) =
      let width = width_of ty in
      Claim (Assigns (Some dest) (truth (holds pred width (bits width (value a)).value (bits width (value b)).value)))
  instr_cases (Select dest test ty a b) =
      Claim (Assigns (Some dest) (cond (nat_eq (value test) 1) (value a) (value b)))
  instr_cases (Cast dest op from a to) = Claim (Assigns (Some dest) (cast_value op from to (value a)))
  instr_cases (Alloca dest ty align) =
      (a : ℕ) → a ≡ next_multiple_of w.mark (shape ty).align → a + (shape ty).size ≤ stack_end →
      Claim (Allocates dest a (shape ty).size)
  instr_cases (Load dest ty addr align) =
      Claim (Assigns (Some dest) (read_value ty (bytes_at (memory_of P I w) (value addr) (scalar_size ty))))
  instr_cases (Store ty v addr align) = Claim (Stores (value addr) (bytes_of (scalar_size ty) (value v)))
  instr_cases (Gep dest inbounds ty base indices) =
      Claim (Assigns (Some dest) (element_address (value base) ty (index_values P.globals I.base rs indices)))
  instr_cases (Call dest ret callee args) = CallCases dest callee args

  -- The claim holds for each trap, except the one for what does not exist.
  module _ (trap : (kind : TrapKind) → kind ≢ traps.Unreachable → Claim (Traps kind)) where
    cond_case : (b : Bool) (x y : Action) → Claim x → Claim y → Claim (cond b x y)
    cond_case true x y p q = p
    cond_case false x y p q = q

    address : Claim (Traps traps.Address)
    address = trap traps.Address (λ e. cc)

    accessed_case : (a n align : ℕ) (x : Action) → Claim x → Claim (accessed P I w a n align x)
    unfolding accessed
    accessed_case a n align x p =
        cond_case (nat_eq (a % align) 0) _ (Traps traps.Misaligned)
        (cond_case (are_valid P I w a n) x (Traps traps.Address) p address) (trap traps.Misaligned (λ e. cc))

    flushing_case : (a n : ℕ) (x : Action) → Claim x → Claim (flushing P I w a n x)
    unfolding flushing
    flushing_case a n x p =
        cond_case (nat_eq n 0) x _ p (cond_case (are_valid P I w a n) x (Traps traps.Address) p address)

    allocated_case : (dest : List ℕ) (size align : ℕ)
        → ((a : ℕ) → a ≡ next_multiple_of w.mark align → a + size ≤ stack_end
        → Claim (Allocates dest a size))
        → Claim (allocated w dest size align)
    unfolding allocated
    allocated_case dest size align p = go (nat_le (next_multiple_of w.mark align + size) stack_end) refl
      where
        go : (b : Bool) → nat_le (next_multiple_of w.mark align + size) stack_end ≡ b
            → Claim (cond b (Allocates dest (next_multiple_of w.mark align) size) (Traps traps.Stack))
        go true e = p (next_multiple_of w.mark align) refl (leb-true (next_multiple_of w.mark align + size) stack_end e)
        go false e = trap traps.Stack (λ e. cc)

    calculated_case : (dest : List ℕ) (r : Result Bits NumTrap)
        → ((b : Bits) → r ≡ Ok b → Claim (Assigns (Some dest) b.value)) → Claim (calculated dest r)
    calculated_case dest (Ok b) p = p b refl
    calculated_case dest (Err num_traps.DivZero) p = trap traps.DivZero (λ e. cc)
    calculated_case dest (Err num_traps.DivOverflow) p = trap traps.DivOverflow (λ e. cc)
    calculated_case dest (Err num_traps.ShiftRange) p = trap traps.ShiftRange (λ e. cc)

    read_case : (dest : Option (List ℕ)) (left : List ℤ)
        → ((z : ℤ) (rest : List ℤ) → left ≡ z ∷ rest → Claim (Reads dest z rest))
        → Claim (read_next dest left)
    read_case dest [] p = trap traps.InputEnd (λ e. cc)
    read_case dest (z ∷ rest) p = p z rest refl

    lines_case : (effect : LineEffect) (a n : ℕ) → effect ≢ effects.Nothing
        → ((y : Action) → leaves_registers y → Claim y) → Claim (line_action P I w effect a n)
    lines_case effects.Nothing a n some still = absurd (some refl)
    lines_case effects.Flush a n some still = flushing_case a n (Flushes a n) (still _ tt)
    lines_case effects.Fence a n some still = still _ tt
    lines_case effects.FlushAndFence a n some still = flushing_case a n (Persists a n) (still _ tt)

    extern_case : (x : ExternCall) (values : List ℕ) (dest : Option (List ℕ))
        → (x ≡ calls.ReadI64 → (z : ℤ) (rest : List ℤ) → w.left ≡ z ∷ rest
        → Claim (Reads dest z rest))
        → (x ≢ calls.ReadI64 → (y : Action) → leaves_registers y → Claim y)
        → Claim (extern_action P I w x values dest)
    extern_case calls.ReadI64 values dest read still = read_case dest w.left (read refl)
    extern_case calls.PrintI64 values dest read still = still (λ e. cc) _ tt
    extern_case calls.PmAssert values dest read still =
        cond_case (in_region I _ _) (Asserts _ _) (Traps traps.Address) (still (λ e. cc) _ tt) address
    extern_case call values dest read still =
        lines_case (row_of call).effect (arg_value values 0) (flushed_size (row_of call).params values) (λ e. cc)
        (still (λ e. cc))

    numbered_case : (values : List ℕ) (dest : Option (List ℕ)) (o : Option ℕ)
        → ((h : ℕ) (fn : Function) → o ≡ Some h → slice_get P.functions h ≡ Some fn
        → Claim (Calls h (bound fn.params values) dest)) →
        (((h : ℕ) (fn : Function) → o ≡ Some h → ¬ (slice_get P.functions h ≡ Some fn))
        → Claim (Traps traps.Unreachable)) → Claim (numbered_call P o values dest)
    numbered_case values dest None p none = none (λ h fn e f. absurd (let z : ⊥ = cc in z))
    numbered_case values dest (Some h) p none = go (slice_get P.functions h) refl
      where
        go : (o : Option Function) → slice_get P.functions h ≡ o → Claim (numbered_call P (Some h) values dest)
        go None e =
            rw e (none (λ k fn q f. let same : h ≡ k = cc in let there : None ≡ Some fn = sym e
            ∙ ap (slice_get P.functions) same ∙ f in absurd (let z : ⊥ = cc in z)))
        go (Some fn) e = let q = p h fn refl e in rw e q

    entered_case : (callee values : List ℕ) (dest : Option (List ℕ))
        → ((h : ℕ) (fn : Function) → function_number P callee ≡ Some h → slice_get P.functions h ≡ Some fn
        → below < 16383 → Claim (Calls h (bound fn.params values) dest)) →
        (((h : ℕ) (fn : Function) → function_number P callee ≡ Some h
        → ¬ (slice_get P.functions h ≡ Some fn))
        → Claim (Traps traps.Unreachable)) → Claim (entered P below callee values dest)
    unfolding entered
    entered_case callee values dest p none = go (nat_lt below 16383) refl
      where
        go : (b : Bool) → nat_lt below 16383 ≡ b
            → Claim (cond b (numbered_call P (function_number P callee) values dest) (Traps traps.Depth))
        go true e =
            numbered_case values dest (function_number P callee) (λ h fn q r. p h fn q r (ltb-true below 16383 e)) none
        go false e = trap traps.Depth (λ e. cc)

    call_case : (dest : Option (List ℕ)) (callee : List ℕ) (args : List Arg) → CallCases dest callee args
        → (o : Option ExternCall) → call_of callee ≡ o
        → Claim (call_action P I w below o callee (values_of P.globals I.base rs args) dest)
    call_case dest callee args c None e =
        entered_case callee _ dest (λ h fn q r lt. c.enter h fn e q r lt) (c.missing e)
    call_case dest callee args c (Some x) e = extern_case x _ dest (λ q. c.read (e ∙ ap Some q)) (c.extern x e)

    pub of_instr_action : (i : Instr) → instr_cases i → Claim (instr_action P I w below rs i)
    unfolding instr_action
    of_instr_action (Binary dest op flags width x y) p = calculated_case dest _ p
    of_instr_action (Compare dest pred ty x y) p = p
    of_instr_action (Select dest test ty x y) p = p
    of_instr_action (Cast dest op from x to) p = p
    of_instr_action (Alloca dest ty align) p = allocated_case dest _ _ p
    of_instr_action (Load dest ty addr align) p = accessed_case _ _ _ _ p
    of_instr_action (Store ty v addr align) p = accessed_case _ _ _ _ p
    of_instr_action (Gep dest inbounds ty base indices) p = p
    of_instr_action (Call dest ret callee args) p = call_case dest callee args p (call_of callee) refl
