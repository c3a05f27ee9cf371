-- Where globals end.
use Rattle.std.proofs.Common.{ℕ, zero, suc, ◌+◌, ◌-◌, ◌<◌, ◌≤◌, ◌≡◌, Bool, true, false, List, [], ◌∷◌, drop, length, get_or, refl, sym, ap, ◌∙◌, arith}
use mathlib.Core.Bool.{beq}
use Rattle.std.proofs.lemmas.List.{at_drop_more}
use Rattle.std.specs.Prelude.{if◌then◌else◌}
use Rattle.hip_types.specs.Layout.{size_of}
use Rattle.hip_tree.specs.declared.program.GlobalVar.{GlobalVar}
use Rattle.hip_globals.specs.Addresses.{end_of, start_of, is_persistent, global_start, same_truth}

later : (b : Bool) (at : ℕ) (g : GlobalVar) → at ≤ (if b then global_start at g + size_of g.ty else at)
later true at g = omega arith
later false at g = omega arith

-- Globals do not end before the place from which they are laid.
pub end_of-ge : (persistent : Bool) (at : ℕ) (gs : List GlobalVar) → at ≤ end_of persistent at gs
end_of-ge persistent at [] = omega arith
end_of-ge persistent at (g ∷ gs) =
    let next = if same_truth g.persistent persistent then global_start at g + size_of g.ty else at in
    omega (arith, later (same_truth g.persistent persistent) at g, end_of-ge persistent next gs)

pub end_of-next : (persistent : Bool) (at : ℕ) (gs : List GlobalVar) (i : ℕ) (g : GlobalVar) → i < length gs → g ≡ get_or gs i g →
    end_of persistent at (drop i gs) ≡ end_of persistent (if same_truth g.persistent persistent then global_start at g + size_of g.ty else at) (drop (i + 1) gs)
end_of-next persistent at gs i g within is =
    at_drop_more (λ ys. end_of persistent at ys) gs i g within
    ∙ ap (λ (x : GlobalVar). end_of persistent (if same_truth x.persistent persistent then global_start at x + size_of x.ty else at) (drop (i + 1) gs)) (sym is)

pub same-beq : (b c : Bool) → beq b c ≡ true → same_truth b c ≡ true
same-beq true true e = refl
same-beq true false e = cc
same-beq false true e = cc
same-beq false false e = refl

-- Globals do not end before the first of them ends.
pub end_of-past : (persistent : Bool) (at : ℕ) (gs : List GlobalVar) (i : ℕ) (g : GlobalVar) → i < length gs → g ≡ get_or gs i g → beq g.persistent persistent ≡ true →
    global_start at g + size_of g.ty ≤ end_of persistent at (drop i gs)
end_of-past persistent at gs i g within is counted =
    let next = end_of-next persistent at gs i g within is in
    let here = rw (same-beq _ _ counted) at next in
    omega (arith, here, end_of-ge persistent (global_start at g + size_of g.ty) (drop (i + 1) gs))

-- ---- where one global begins

pub is_persistent-at : (gs : List GlobalVar) (i : ℕ) (g : GlobalVar) → i < length gs → g ≡ get_or gs i g → is_persistent gs i ≡ g.persistent
is_persistent-at [] i g within is = absurd (omega arith)
is_persistent-at (x ∷ xs) zero g within is = sym (ap (λ y. y.persistent) is)
is_persistent-at (x ∷ xs) (suc i) g within is = is_persistent-at xs i g (omega (arith, within)) is

same-refl : (b : Bool) → same_truth b b ≡ true
same-refl true = refl
same-refl false = refl

-- A global does not begin after the end of the globals of its kind.
pub start_of-le : (persistent : Bool) (at : ℕ) (gs : List GlobalVar) (n : ℕ) → n < length gs → is_persistent gs n ≡ persistent → start_of persistent at gs n ≤ end_of persistent at gs
start_of-le persistent at [] n within is = absurd (omega arith)
start_of-le persistent at (g ∷ gs) zero within is =
    let counted : same_truth g.persistent persistent ≡ true = ap (λ b. same_truth b persistent) is ∙ same-refl persistent in
    let rest : end_of persistent at (g ∷ gs) ≡ end_of persistent (global_start at g + size_of g.ty) gs = ap (λ b. end_of persistent (if b then global_start at g + size_of g.ty else at) gs) counted in
    omega (arith, rest, end_of-ge persistent (global_start at g + size_of g.ty) gs)
start_of-le persistent at (g ∷ gs) (suc n) within is = start_of-le persistent (if same_truth g.persistent persistent then global_start at g + size_of g.ty else at) gs n (omega (arith, within)) is

pub start_of-next : (persistent : Bool) (at : ℕ) (gs : List GlobalVar) (i n : ℕ) (g : GlobalVar) → i < n → i < length gs → g ≡ get_or gs i g →
    start_of persistent at (drop i gs) (n - i) ≡ start_of persistent (if same_truth g.persistent persistent then global_start at g + size_of g.ty else at) (drop (i + 1) gs) (n - (i + 1))
start_of-next persistent at gs i n g before within is =
    let left : n - i ≡ suc (n - (i + 1)) = omega (arith, before) in
    ap (λ k. start_of persistent at (drop i gs) k) left
    ∙ at_drop_more (λ ys. start_of persistent at ys (suc (n - (i + 1)))) gs i g within
    ∙ ap (λ (x : GlobalVar). start_of persistent (if same_truth x.persistent persistent then global_start at x + size_of x.ty else at) (drop (i + 1) gs) (n - (i + 1))) (sym is)

pub start_of-here : (persistent : Bool) (at : ℕ) (gs : List GlobalVar) (n : ℕ) (g : GlobalVar) → n < length gs → g ≡ get_or gs n g → start_of persistent at (drop n gs) (n - n) ≡ global_start at g
start_of-here persistent at gs n g within is =
    let none : n - n ≡ 0 = omega arith in
    ap (λ k. start_of persistent at (drop n gs) k) none
    ∙ at_drop_more (λ ys. start_of persistent at ys 0) gs n g within
    ∙ ap (λ (x : GlobalVar). global_start at x) (sym is)

abbrev pub next_at : Bool → ℕ → GlobalVar → ℕ
next_at persistent at g = if same_truth g.persistent persistent then global_start at g + size_of g.ty else at

pub counted-next : (persistent : Bool) (at : ℕ) (g : GlobalVar) → beq g.persistent persistent ≡ true → next_at persistent at g ≡ global_start at g + size_of g.ty
counted-next persistent at g e = ap (λ b. if b then global_start at g + size_of g.ty else at) (same-beq g.persistent persistent e)

not-same : (b c : Bool) → beq b c ≡ false → same_truth b c ≡ false
not-same true true e = cc
not-same true false e = refl
not-same false true e = refl
not-same false false e = cc

pub skipped-next : (persistent : Bool) (at : ℕ) (g : GlobalVar) → beq g.persistent persistent ≡ false → next_at persistent at g ≡ at
skipped-next persistent at g e = ap (λ b. if b then global_start at g + size_of g.ty else at) (not-same g.persistent persistent e)

pub beq-same : (b c : Bool) → b ≡ c → beq b c ≡ true
beq-same true true e = refl
beq-same true false e = cc
beq-same false true e = cc
beq-same false false e = refl
