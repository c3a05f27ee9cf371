-- What the inserted instructions do.
use Rattle.std.proofs.Common.{◌≡◌, ℕ, ◌+◌, ◌-◌, ◌%◌, ◌^◌, ◌<◌, ◌≤◌, Bool, true, false, cond, ◌&&◌, ◌||◌, nat_le, nat_lt, nat_eq, List, length, Option, Some, None, refl, sym, ap, ◌∙◌, subst, arith}
use Rattle.std.proofs.Math.Nat.{mod-eq_of_lt}
use Rattle.std.proofs.lemmas.Bool.Decides.{nat_tests}
use Rattle.hip_types.specs.Numbers.{bits}
use Rattle.hip_types.specs.declared.number.Scalar.{Scalar}
use Rattle.hip_types.specs.declared.number.Scalar.TheVariants.{Int, Ptr}
use Rattle.hip_types.specs.declared.number.Width.TheVariants.{W1, W8, W16, W32, W64}
use Rattle.hip_tree.specs.declared.constant.Const.TheVariants as consts
use Rattle.hip_tree.specs.declared.constant.Const.TheFolds.{fold-roll-Const}
use Rattle.hip_tree.specs.declared.constant.Const.TheViews.{rolls-Int}
use Rattle.hip_tree.specs.declared.instr.Operand.{Operand}
use Rattle.hip_tree.specs.declared.program.GlobalVar.{GlobalVar}
use Rattle.hip_tree.specs.declared.program.Program.{Program}
use Rattle.hip_lines.specs.Line.{has_bytes}
use Rattle.hip_globals.specs.Addresses.{IsBase}
use Rattle.hip_globals.specs.Values.{Written, const_value}
use Rattle.hip_runs.specs.declared.input.Input.{Input}
use Rattle.hip_runs.specs.Actions.{Action, Flushes, Fences, in_region, are_valid, flushing, instr_action, is_turn}
use Rattle.hip_runs.specs.Operands.{value_of, scalar_size, access_align}
use Rattle.hip_runs.specs.StoredParts.Persistence.{flushes_lines}
use Rattle.hip_runs.specs.State.{Registers, World}
use Rattle.hip_repairs.specs.Repaired.{flush_of, line_flush, range_flush, the_fence, is_wide}

-- How many bytes the inserted flush of a store is given.
abbrev pub flush_size : Scalar → Option ℕ → ℕ
flush_size ty align = cond (is_wide ty align) (scalar_size ty) 1

size_there : (ty : Scalar) → 1 ≤ scalar_size ty
size_there (Int W1) = omega arith
size_there (Int W8) = omega arith
size_there (Int W16) = omega arith
size_there (Int W32) = omega arith
size_there (Int W64) = omega arith
size_there Ptr = omega arith

size_small : (ty : Scalar) → scalar_size ty ≤ 8
size_small (Int W1) = omega arith
size_small (Int W8) = omega arith
size_small (Int W16) = omega arith
size_small (Int W32) = omega arith
size_small (Int W64) = omega arith
size_small Ptr = omega arith

pub flush_size_there : (ty : Scalar) (align : Option ℕ) → 1 ≤ flush_size ty align
flush_size_there ty align = go (is_wide ty align)
  where
    go : (b : Bool) → 1 ≤ cond b (scalar_size ty) 1
    go true = size_there ty
    go false = omega arith

pub flush_size_small : (ty : Scalar) (align : Option ℕ) → flush_size ty align ≤ scalar_size ty
flush_size_small ty align = go (is_wide ty align)
  where
    go : (b : Bool) → cond b (scalar_size ty) 1 ≤ scalar_size ty
    go true = omega arith
    go false = size_there ty

-- ---- the constant of a wide store's flush

size_value : (globals : List GlobalVar) (base n : ℕ) → n ≤ 8 → const_value globals base (consts.Int (bits W64 n)) ≡ n
size_value globals base n h = ap (const_value globals base) (sym (rolls-Int (bits W64 n))) ∙ ap (λ (x : Written). x.value) (fold-roll-Const _ _ _ _ _ _ _) ∙ mod-eq_of_lt (let k : n < 2 ^ 64 = omega arith in k)

-- ---- actions

module _ (P : Program) (I : Input) (w : World) (below : ℕ) (regs : Registers) where
  flushing_valid : (a n : ℕ) → 1 ≤ n → are_valid P I w a n ≡ true → (x : Action) → flushing P I w a n x ≡ x
  unfolding flushing
  flushing_valid a n h v x = let e : nat_eq n 0 ≡ false = grind (arith, nat_tests) in rw (e, v) refl

  pub fence_action : instr_action P I w below regs the_fence ≡ Fences
  unfolding instr_action
  fence_action = refl

  line_action : (addr : Operand) → are_valid P I w (value_of P.globals I.base regs addr) 1 ≡ true → instr_action P I w below regs (line_flush addr) ≡ Flushes (value_of P.globals I.base regs addr) 1
  unfolding instr_action
  line_action addr v = flushing_valid (value_of P.globals I.base regs addr) 1 (omega arith) v (Flushes (value_of P.globals I.base regs addr) 1)

  range_action : (addr : Operand) (n : ℕ) → 1 ≤ n → n ≤ 8 → are_valid P I w (value_of P.globals I.base regs addr) n ≡ true → instr_action P I w below regs (range_flush addr n) ≡ Flushes (value_of P.globals I.base regs addr) n
  unfolding instr_action
  range_action addr n h k v =
      ap (λ m. flushing P I w (value_of P.globals I.base regs addr) m (Flushes (value_of P.globals I.base regs addr) m)) (size_value P.globals I.base n k)
      ∙ flushing_valid (value_of P.globals I.base regs addr) n h v (Flushes (value_of P.globals I.base regs addr) n)

-- ---- ranges

within_less : (from to a m n : ℕ) → m ≤ n → nat_le from a && nat_le (a + n) to ≡ true → nat_le from a && nat_le (a + m) to ≡ true
within_less from to a m n h e = grind (arith, nat_tests)

or_true : (a b c : Bool) (a' b' c' : Bool) → (a ≡ true → a' ≡ true) → (b ≡ true → b' ≡ true) → (c ≡ true → c' ≡ true) → a || (b || c) ≡ true → a' || (b' || c') ≡ true
or_true true b c a' b' c' f g h e = rw (f refl) refl
or_true false true c a' b' c' f g h e = rw (g refl) (go a')
  where
    go : (x : Bool) → x || true ≡ true
    go true = refl
    go false = refl
or_true false false true a' b' c' f g h e = rw (h refl) (go a' b')
  where
    go : (x y : Bool) → x || (y || true) ≡ true
    go true y = refl
    go false true = refl
    go false false = refl
or_true false false false a' b' c' f g h e = absurd (let z : ⊥ = cc in z)

pub valid_less : (P : Program) (I : Input) (w : World) (a m n : ℕ) → m ≤ n → are_valid P I w a n ≡ true → are_valid P I w a m ≡ true
valid_less P I w a m n h e = or_true _ _ _ _ _ _ (within_less _ _ a m n h) (within_less _ _ a m n h) (within_less _ _ a m n h) e

pub flushes_there : (I : Input) (a m n : ℕ) → 1 ≤ m → m ≤ n → in_region I a n ≡ true → flushes_lines I a m ≡ true
flushes_there I a m n h k e = let r : in_region I a m ≡ true = within_less I.base (I.base + length I.image) a m n k e in let p : nat_lt 0 m ≡ true = grind (arith, nat_tests) in rw (p, r) refl

pub region_base : (I : Input) (a n : ℕ) → in_region I a n ≡ true → I.base ≤ a
region_base I a n e = grind (arith, nat_tests)

-- A store that is not wide is in one cache line.
one_line_2 : (o j : ℕ) → o % 2 ≡ 0 → has_bytes j o 1 ≡ has_bytes j o 2
one_line_2 o j h = grind (arith, nat_tests)

one_line_4 : (o j : ℕ) → o % 4 ≡ 0 → has_bytes j o 1 ≡ has_bytes j o 4
one_line_4 o j h = grind (arith, nat_tests)

one_line_8 : (o j : ℕ) → o % 8 ≡ 0 → has_bytes j o 1 ≡ has_bytes j o 8
one_line_8 o j h = grind (arith, nat_tests)

module _ (a base j : ℕ) (is_base : IsBase base) (le : base ≤ a) where
  one_line : (ty : Scalar) → a % scalar_size ty ≡ 0 → has_bytes j (a - base) 1 ≡ has_bytes j (a - base) (scalar_size ty)
  one_line (Int W1) h = refl
  one_line (Int W8) h = refl
  one_line (Int W16) h = one_line_2 (a - base) j (omega (arith, is_base.page))
  one_line (Int W32) h = one_line_4 (a - base) j (omega (arith, is_base.page))
  one_line (Int W64) h = one_line_8 (a - base) j (omega (arith, is_base.page))
  one_line Ptr h = one_line_8 (a - base) j (omega (arith, is_base.page))

  align_small : (ty : Scalar) (align : Option ℕ) → access_align ty align ≤ scalar_size ty
  align_small ty None = omega arith
  align_small ty (Some n) = omega arith

  -- The inserted flush reaches the lines of its store.
  pub reaches : (ty : Scalar) (align : Option ℕ) → a % access_align ty align ≡ 0 → has_bytes j (a - base) (flush_size ty align) ≡ has_bytes j (a - base) (scalar_size ty)
  reaches ty align h = go (is_wide ty align) refl
    where
      go : (b : Bool) → is_wide ty align ≡ b → has_bytes j (a - base) (cond b (scalar_size ty) 1) ≡ has_bytes j (a - base) (scalar_size ty)
      go true e = refl
      go false e =
          let same : access_align ty align ≡ scalar_size ty = grind (arith, nat_tests, align_small ty align) in
          one_line ty (subst (λ n. a % n ≡ 0) same h)

-- ---- the flush of a store

module _ (P : Program) (I : Input) (w : World) (below : ℕ) (regs : Registers) where
  pub flush_action : (ty : Scalar) (addr : Operand) (align : Option ℕ) → are_valid P I w (value_of P.globals I.base regs addr) (scalar_size ty) ≡ true →
      instr_action P I w below regs (flush_of ty addr align) ≡ Flushes (value_of P.globals I.base regs addr) (flush_size ty align)
  flush_action ty addr align v = go (is_wide ty align)
    where
      go : (b : Bool) → instr_action P I w below regs (cond b (range_flush addr (scalar_size ty)) (line_flush addr)) ≡ Flushes (value_of P.globals I.base regs addr) (cond b (scalar_size ty) 1)
      go true = range_action P I w below regs addr (scalar_size ty) (size_there ty) (size_small ty) v
      go false = line_action P I w below regs addr (valid_less P I w (value_of P.globals I.base regs addr) 1 (scalar_size ty) (size_there ty) v)

  pub flush_no_turn : (ty : Scalar) (addr : Operand) (align : Option ℕ) → is_turn (flush_of ty addr align) ≡ false
  flush_no_turn ty addr align = go (is_wide ty align)
    where
      go : (b : Bool) → is_turn (cond b (range_flush addr (scalar_size ty)) (line_flush addr)) ≡ false
      go true = refl
      go false = refl
