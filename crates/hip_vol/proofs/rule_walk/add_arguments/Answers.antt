use Rattle.std.proofs.Common.{◌≡◌, ◌≤◌, ◌∙◌, ℕ, zero, suc, List, [], ◌∷◌, ◌++◌, drop, length, refl, sym, ap, arith}
use Rattle.std.specs.Prelude.{min}
use Rattle.hip_tree.specs.declared.instr.Arg.{Arg}
use Rattle.hip_tree.specs.declared.program.Param.{Param}
use Rattle.hip_tree.specs.declared.program.Program.{Program}
use Rattle.hip_vol.specs.Bounds.{LevelRule}
use Rattle.hip_vol.specs.Rules.{argument_rules}
use Rattle.hip_vol.proofs.rule_walk.add_arguments.Goals as goal

no_arguments : (P : Program) (g h : ℕ) (ps : List Param) → argument_rules P g h ps [] ≡ []
no_arguments P g h [] = refl
no_arguments P g h (p ∷ ps) = refl

none_left : {A : Type 0} (xs : List A) (k : ℕ) → xs ≡ [] → drop k xs ≡ []
none_left xs zero e = e
none_left [] (suc k) e = refl
none_left (x ∷ xs) (suc k) e = cc

all_taken : (P : Program) (g h : ℕ) (ps : List Param) (args : List Arg) (k : ℕ) → min (length ps) (length args) ≤ k → argument_rules P g h (drop k ps) (drop k args) ≡ []
all_taken P g h [] args k le = ap (λ qs. argument_rules P g h qs (drop k args)) (none_left [] k refl)
all_taken P g h (p ∷ ps) [] k le = ap (argument_rules P g h (drop k (p ∷ ps))) (none_left [] k refl) ∙ no_arguments P g h (drop k (p ∷ ps))
all_taken P g h (p ∷ ps) (a ∷ args) zero le = absurd (omega arith)
all_taken P g h (p ∷ ps) (a ∷ args) (suc k) le = all_taken P g h ps args k (omega arith)

nothing_past : (xs : List LevelRule) → xs ++ [] ≡ xs
nothing_past [] = refl
nothing_past (x ∷ xs) = ap (λ ys. x ∷ ys) (nothing_past xs)

pub returns : goal.returns
returns c =
    let P = c.args.scope.now.program.now in
    let taken : argument_rules P c.args.function c.args.callee (drop c.each.place c.args.params.now) (drop c.each.place c.args.args.now) ≡ [] =
    all_taken P c.args.function c.args.callee c.args.params.now c.args.args.now c.each.place (omega (arith, c.min-count.ensures)) in
    sym (ap (λ rs. c.each.rules ++ rs) taken ∙ nothing_past c.each.rules) ∙ c.each.invariant
