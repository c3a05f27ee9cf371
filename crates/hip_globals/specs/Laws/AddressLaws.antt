-- Persistent globals lie in the same order and at the same distances from each base.
use Rattle.std.specs.Prelude.{ℕ, zero, suc, ◌+◌, ◌-◌, ◌*◌, ◌/◌, ◌%◌, ◌≡◌, Bool, true, false, List, [], ◌∷◌, All, get_or, if◌then◌else◌}
use Rattle.std.specs.Int.{next_multiple_of}
use Rattle.std.proofs.Common.{refl, ap, ◌∙◌, arith}
use Rattle.std.proofs.Math.Nat.{add-mul-mod_self_right, mod-add-div'}
use Rattle.hip_types.specs.Layout.{size_of}
use Rattle.hip_types.specs.Laws.LayoutLaws.{times_multiple}
use Rattle.hip_types.specs.declared.limits.TheConstants.{BASE_ALIGNMENT, LARGEST_ALIGNMENT}
use Rattle.hip_tree.specs.declared.program.GlobalVar.{GlobalVar}
use Rattle.hip_globals.specs.Addresses.{AllDivide, OwnTypesFit, TypesFitIn, same_truth, global_align, global_start, start_of, end_of}

-- ---- from a base

rest_of_sum : (base x a : ℕ) → base % a ≡ 0 → (base + x) % a ≡ x % a
rest_of_sum base x a e =
    let whole : base ≡ base / a * a = omega (arith, mod-add-div' base a, e) in
    let swapped : base + x ≡ x + base / a * a = omega (arith, whole) in
    ap (λ n. n % a) swapped ∙ add-mul-mod_self_right x (base / a) a

page_of_base : (base a : ℕ) → base % BASE_ALIGNMENT ≡ 0 → LARGEST_ALIGNMENT % a ≡ 0 → base % a ≡ 0
page_of_base base a page divides =
    let whole : base ≡ base / BASE_ALIGNMENT * BASE_ALIGNMENT =
    omega (arith, mod-add-div' base BASE_ALIGNMENT, page) in
    ap (λ n. n % a) whole ∙ times_multiple (base / BASE_ALIGNMENT) BASE_ALIGNMENT a divides

next_from : (base x a : ℕ) → base % a ≡ 0 → next_multiple_of (base + x) a ≡ base + next_multiple_of x a
next_from base x a e =
    let rest = rest_of_sum base x a e in
    ap (λ r. base + x + (a - r) % a) rest ∙ (let assoc : base + x + (a - x % a) % a ≡ base
    + (x + (a - x % a) % a) = omega arith in assoc)

start_from : (base at : ℕ) (g : GlobalVar) → base % BASE_ALIGNMENT ≡ 0
    → LARGEST_ALIGNMENT % global_align g ≡ 0
    → global_start (base + at) g ≡ base + global_start at g
start_from base at g page divides = next_from base at (global_align g) (page_of_base base (global_align g) page divides)

after : (b : Bool) (base at : ℕ) (g : GlobalVar) → base % BASE_ALIGNMENT ≡ 0
    → LARGEST_ALIGNMENT % global_align g ≡ 0 →
    (if b then global_start (base + at) g + size_of g.ty else base + at) ≡ base
    + (if b then global_start at g + size_of g.ty else at)
after true base at g page divides =
    ap (λ n. n + size_of g.ty) (start_from base at g page divides)
    ∙ (let assoc : base + global_start at g + size_of g.ty ≡ base + (global_start at g + size_of g.ty) = omega arith
    in assoc)
after false base at g page divides = refl

-- The place of a global that is laid from a base on is the base plus its place if it is laid from 0 on.
pub start_of-from : (persistent : Bool) (base at : ℕ) (gs : List GlobalVar) (number : ℕ)
    → base % BASE_ALIGNMENT ≡ 0
    → AllDivide gs → start_of persistent (base + at) gs number ≡ base + start_of persistent at gs number
start_of-from persistent base at [] number page all = refl
start_of-from persistent base at (g ∷ gs) zero page all = start_from base at g page all.0
start_of-from persistent base at (g ∷ gs) (suc number) page all =
    ap (λ n. start_of persistent n gs number) (after (same_truth g.persistent persistent) base at g page all.0)
    ∙ start_of-from persistent base (if same_truth g.persistent persistent then global_start at g
    + size_of g.ty else at) gs number page all.1

pub end_of-from : (persistent : Bool) (base at : ℕ) (gs : List GlobalVar) → base % BASE_ALIGNMENT ≡ 0
    → AllDivide gs
    → end_of persistent (base + at) gs ≡ base + end_of persistent at gs
end_of-from persistent base at [] page all = refl
end_of-from persistent base at (g ∷ gs) page all =
    ap (λ n. end_of persistent n gs) (after (same_truth g.persistent persistent) base at g page all.0)
    ∙ end_of-from persistent base (if same_truth g.persistent persistent then global_start at g
    + size_of g.ty else at) gs page all.1

-- ---- types

-- If the types of globals and those in their initialisers fit, the types of the globals fit.
pub globals-fit : (globals : List GlobalVar) → All TypesFitIn globals → OwnTypesFit globals
globals-fit globals h = λ k d within. h k d within 0 (get_or globals k d).ty (omega arith)
