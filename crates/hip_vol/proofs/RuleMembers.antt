-- The rules of a program are those of its instructions, phis and ends of blocks.
use Rattle.std.proofs.Common.{◌≡◌, ⊎_elim, ℕ, zero, suc, ◌+◌, List, [], ◌∷◌, ◌++◌, Some, slice_get, refl, sym, subst, arith}
use Rattle.std.specs.List.{flat_map}
use Rattle.hip_tree.specs.declared.block.Block.{Block}
use Rattle.hip_tree.specs.declared.block.Phi.{Phi}
use Rattle.hip_tree.specs.declared.instr.Instr.{Instr}
use Rattle.hip_tree.specs.declared.program.Function.{Function}
use Rattle.hip_tree.specs.declared.program.Program.{Program}
use Rattle.hip_sound.specs.Sound.{IsBlockAt}
use Rattle.hip_runs.specs.StoredParts.Parts.{In}
use Rattle.hip_runs.specs.Laws.Members.{of_flat, to_flat}
use Rattle.hip_runs.specs.Laws.PartLaws.{in-append, append-left, append-right}
use Rattle.hip_vol.specs.Bounds.{LevelRule}
use Rattle.hip_vol.specs.Rules.{instr_rules, phi_rules, end_rules, block_rules, function_rules, rules_from, level_rules}

module _ (P : Program) where
  from_function : (start : ℕ) (fns : List Function) (k g : ℕ) (fn : Function) (r : LevelRule) → slice_get fns k ≡ Some fn → start + k ≡ g → In r (function_rules P g fn) → In r (rules_from P start fns)
  from_function start [] k g fn r e at i = cc
  from_function start (x ∷ fns) zero g fn r e at i =
      let same : fn ≡ x = cc in
      let here : g ≡ start = omega arith in
      append-left (function_rules P start x) (rules_from P (suc start) fns) r (subst (λ n. In r (function_rules P n x)) here (subst (λ y. In r (function_rules P g y)) same i))
  from_function start (x ∷ fns) (suc k) g fn r e at i =
      append-right (function_rules P start x) (rules_from P (suc start) fns) r (from_function (suc start) fns k g fn r e (omega (arith, at)) i)

  module _ (g b : ℕ) (fn : Function) (block : Block) (at : IsBlockAt P g b fn block) where
    from_block : (r : LevelRule) → In r (block_rules P g block) → In r (level_rules P)
    from_block r i = from_function 0 P.functions g g fn r at.function (omega arith) (to_flat (block_rules P g) fn.blocks r b block at.block_is i)

    pub of_instr : (k : ℕ) (i : Instr) → slice_get block.body k ≡ Some i → (r : LevelRule) → In r (instr_rules P g i) → In r (level_rules P)
    of_instr k i e r h =
        from_block r (append-right (flat_map (phi_rules P g) block.phis) (flat_map (instr_rules P g) block.body ++ end_rules P g block.end) r (append-left (flat_map (instr_rules P g) block.body) (end_rules P g block.end) r (to_flat (instr_rules P g) block.body r k i e h)))

    pub of_phi : (k : ℕ) (p : Phi) → slice_get block.phis k ≡ Some p → (r : LevelRule) → In r (phi_rules P g p) → In r (level_rules P)
    of_phi k p e r h = from_block r (append-left (flat_map (phi_rules P g) block.phis) (flat_map (instr_rules P g) block.body ++ end_rules P g block.end) r (to_flat (phi_rules P g) block.phis r k p e h))

    pub of_end : (r : LevelRule) → In r (end_rules P g block.end) → In r (level_rules P)
    of_end r h =
        from_block r (append-right (flat_map (phi_rules P g) block.phis) (flat_map (instr_rules P g) block.body ++ end_rules P g block.end) r (append-right (flat_map (instr_rules P g) block.body) (end_rules P g block.end) r h))

  -- What a proof shows of each rule, by where the rule comes from.
  pub record RuleCases (Q : LevelRule → Type 0) : Type 0 where
    pub instr : (g b k : ℕ) (fn : Function) (block : Block) (i : Instr) → IsBlockAt P g b fn block → slice_get block.body k ≡ Some i → (r : LevelRule) → In r (instr_rules P g i) → Q r
    pub phi : (g b k : ℕ) (fn : Function) (block : Block) (p : Phi) → IsBlockAt P g b fn block → slice_get block.phis k ≡ Some p → (r : LevelRule) → In r (phi_rules P g p) → Q r
    pub end : (g b : ℕ) (fn : Function) (block : Block) → IsBlockAt P g b fn block → (r : LevelRule) → In r (end_rules P g block.end) → Q r

  module _ (Q : LevelRule → Type 0) (c : RuleCases Q) where
    block_case : (g b : ℕ) (fn : Function) (block : Block) → IsBlockAt P g b fn block → (r : LevelRule) → In r (block_rules P g block) → Q r
    block_case g b fn block at r h =
        ⊎_elim (λ i. let f = of_flat (phi_rules P g) block.phis r i in c.phi g b f.0 fn block f.1 at f.2 r f.3)
        (λ rest. ⊎_elim (λ i. let f = of_flat (instr_rules P g) block.body r i in c.instr g b f.0 fn block f.1 at f.2 r f.3) (λ i. c.end g b fn block at r i)
        (in-append (flat_map (instr_rules P g) block.body) (end_rules P g block.end) r rest))
        (in-append (flat_map (phi_rules P g) block.phis) (flat_map (instr_rules P g) block.body ++ end_rules P g block.end) r h)

    function_case : (g : ℕ) (fn : Function) → slice_get P.functions g ≡ Some fn → (r : LevelRule) → In r (function_rules P g fn) → Q r
    function_case g fn e r h = let f = of_flat (block_rules P g) fn.blocks r h in block_case g f.0 fn f.1 (record { function = e; block_is = f.2 }) r f.3

    functions_case : (start : ℕ) (fns : List Function) → ((k : ℕ) (fn : Function) → slice_get fns k ≡ Some fn → slice_get P.functions (start + k) ≡ Some fn) → (r : LevelRule) → In r (rules_from P start fns) → Q r
    functions_case start [] there r h = absurd h
    functions_case start (fn ∷ fns) there r h =
        ⊎_elim (λ i. let at : start + 0 ≡ start = omega arith in function_case start fn (subst (λ n. slice_get P.functions n ≡ Some fn) at (there 0 fn refl)) r i)
        (λ i. functions_case (suc start) fns (λ k f e. let at : start + suc k ≡ suc start + k = omega arith in subst (λ n. slice_get P.functions n ≡ Some f) at (there (suc k) f e)) r i)
        (in-append (function_rules P start fn) (rules_from P (suc start) fns) r h)

    pub rule_case : (r : LevelRule) → In r (level_rules P) → Q r
    rule_case r h = functions_case 0 P.functions (λ k fn e. let at : 0 + k ≡ k = omega arith in subst (λ n. slice_get P.functions n ≡ Some fn) (sym at) e) r h
