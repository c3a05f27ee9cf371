-- The steps of the walk that makes a repaired program.
use Rattle.std.proofs.Common.{ℕ, suc, ◌+◌, ◌<◌, ◌≡◌, ◌||◌, ◌&&◌, not, Bool, false, List, [], ◌∷◌, ◌++◌, length, drop, get_or, append_assoc, sym, ap, ◌∙◌, arith}
use Rattle.std.proofs.lemmas.List.{drop_more}
use Rattle.std.specs.Prelude.{slice_get}
use Rattle.hip_tree.specs.declared.block.Block.{Block}
use Rattle.hip_tree.specs.declared.instr.Instr.{Instr}
use Rattle.hip_tree.specs.declared.program.Function.{Function}
use Rattle.hip_tree.specs.declared.program.Program.{Program}
use Rattle.hip_tree.specs.declared.site.Site.{Site}
use Rattle.hip_repairs.specs.Repaired.{Marked, Clone, Wanted, renamed, added_flush, added_fence, repaired_body, repaired_block, repaired_blocks, repaired_function, repaired_functions, clone_in, clone_functions}
use Rattle.hip_fix.specs.Walk.{grown, noted, repaired_at, marked_blocks, marked_functions, marked_clone, marked_clones, with_functions}
use Rattle.hip_fix.specs.declared.body.RepairedBody.{RepairedBody}
use Rattle.hip_fix.specs.declared.body.NeededExterns.{NeededExterns}
use Rattle.hip_fix.specs.declared.repair.RepairedFunctions.{RepairedFunctions}
use Rattle.hip_fix.proofs.Grows.{grown-append, noted-append}

-- The rest of a list from a place on begins with the item at the place.
pub ahead : {A : Type 0} (xs : List A) (k : ℕ) (x d : A) → k < length xs → x ≡ get_or xs k d → x ∷ drop (k + 1) xs ≡ drop k xs
ahead xs k x d h e = ap (λ z. z ∷ drop (k + 1) xs) e ∙ sym (drop_more xs k d h)

next : (k : ℕ) → k + 1 ≡ suc k
next k = omega arith

module _ (clones : List Clone) (w : Wanted) where
  -- An instruction with what is inserted after it.
  pub added_at : (clone : Bool) (s : Site) (i j : Instr) (body first second : RepairedBody) (to flush fence : Bool) →
      to ≡ (clone || w.hoist s) → j ≡ renamed clones i to → first ≡ grown body ((j, false) ∷ []) →
      flush ≡ (w.flush_after s || (clone && not (w.skip s))) → second ≡ grown first (added_flush i flush) → fence ≡ (w.fence_after s || w.hoist s) →
      grown second (added_fence fence) ≡ grown body (repaired_at clones w clone s i)
  added_at clone s i j body first second to flush fence e_to e_j e_first e_flush e_second e_fence =
      let kept : List Marked = (renamed clones i (clone || w.hoist s), false) ∷ [] in
      let flushes = added_flush i (w.flush_after s || (clone && not (w.skip s))) in
      let fences = added_fence (w.fence_after s || w.hoist s) in
      ap (λ t. grown second (added_fence t)) e_fence
      ∙ ap (λ b. grown b fences) (e_second ∙ ap (λ t. grown first (added_flush i t)) e_flush
      ∙ ap (λ b. grown b flushes) (e_first ∙ ap (λ k. grown body ((k, false) ∷ [])) (e_j ∙ ap (renamed clones i) e_to))
      ∙ grown-append body kept flushes)
      ∙ grown-append body (kept ++ flushes) fences

  module _ (clone : Bool) (f : ℕ) where
    pub body_next : (b : ℕ) (out : RepairedBody) (k : ℕ) (xs : List Instr) (x : Instr) → k < length xs → x ≡ get_or xs k x →
        grown (grown out (repaired_at clones w clone (record { function = f; block = b; index = k }) x)) (repaired_body clones w clone f b (k + 1) (drop (k + 1) xs))
        ≡ grown out (repaired_body clones w clone f b k (drop k xs))
    body_next b out k xs x h e =
        grown-append out (repaired_at clones w clone (record { function = f; block = b; index = k }) x) (repaired_body clones w clone f b (k + 1) (drop (k + 1) xs))
        ∙ ap (λ j. grown out (repaired_at clones w clone (record { function = f; block = b; index = k }) x ++ repaired_body clones w clone f b j (drop (k + 1) xs))) (next k)
        ∙ ap (λ ys. grown out (repaired_body clones w clone f b k ys)) (ahead xs k x x h e)

    pub blocks_next : (out : List Block) (k : ℕ) (xs : List Block) (x : Block) → k < length xs → x ≡ get_or xs k x →
        (out ++ repaired_block clones w clone f k x ∷ []) ++ repaired_blocks clones w clone f (k + 1) (drop (k + 1) xs) ≡ out ++ repaired_blocks clones w clone f k (drop k xs)
    blocks_next out k xs x h e =
        append_assoc out (repaired_block clones w clone f k x ∷ []) (repaired_blocks clones w clone f (k + 1) (drop (k + 1) xs))
        ∙ ap (λ j. out ++ repaired_block clones w clone f k x ∷ repaired_blocks clones w clone f j (drop (k + 1) xs)) (next k)
        ∙ ap (λ ys. out ++ repaired_blocks clones w clone f k ys) (ahead xs k x x h e)

    pub noted_blocks_next : (n : NeededExterns) (k : ℕ) (xs : List Block) (x : Block) → k < length xs → x ≡ get_or xs k x →
        noted (noted n (repaired_body clones w clone f k 0 x.body)) (marked_blocks clones w clone f (k + 1) (drop (k + 1) xs)) ≡ noted n (marked_blocks clones w clone f k (drop k xs))
    noted_blocks_next n k xs x h e =
        noted-append n (repaired_body clones w clone f k 0 x.body) (marked_blocks clones w clone f (k + 1) (drop (k + 1) xs))
        ∙ ap (λ j. noted n (repaired_body clones w clone f k 0 x.body ++ marked_blocks clones w clone f j (drop (k + 1) xs))) (next k)
        ∙ ap (λ ys. noted n (marked_blocks clones w clone f k ys)) (ahead xs k x x h e)

  functions_next : (out : List Function) (k : ℕ) (xs : List Function) (x : Function) → k < length xs → x ≡ get_or xs k x →
      (out ++ repaired_function clones w false k x.name x ∷ []) ++ repaired_functions clones w (k + 1) (drop (k + 1) xs) ≡ out ++ repaired_functions clones w k (drop k xs)
  functions_next out k xs x h e =
      append_assoc out (repaired_function clones w false k x.name x ∷ []) (repaired_functions clones w (k + 1) (drop (k + 1) xs))
      ∙ ap (λ j. out ++ repaired_function clones w false k x.name x ∷ repaired_functions clones w j (drop (k + 1) xs)) (next k)
      ∙ ap (λ ys. out ++ repaired_functions clones w k ys) (ahead xs k x x h e)

  noted_functions_next : (n : NeededExterns) (k : ℕ) (xs : List Function) (x : Function) → k < length xs → x ≡ get_or xs k x →
      noted (noted n (marked_blocks clones w false k 0 x.blocks)) (marked_functions clones w (k + 1) (drop (k + 1) xs)) ≡ noted n (marked_functions clones w k (drop k xs))
  noted_functions_next n k xs x h e =
      noted-append n (marked_blocks clones w false k 0 x.blocks) (marked_functions clones w (k + 1) (drop (k + 1) xs))
      ∙ ap (λ j. noted n (marked_blocks clones w false k 0 x.blocks ++ marked_functions clones w j (drop (k + 1) xs))) (next k)
      ∙ ap (λ ys. noted n (marked_functions clones w k ys)) (ahead xs k x x h e)

  pub made_functions_next : (made : RepairedFunctions) (k : ℕ) (xs : List Function) (x : Function) → k < length xs → x ≡ get_or xs k x →
      with_functions (with_functions made (repaired_function clones w false k x.name x ∷ []) (marked_blocks clones w false k 0 x.blocks))
      (repaired_functions clones w (k + 1) (drop (k + 1) xs)) (marked_functions clones w (k + 1) (drop (k + 1) xs))
      ≡ with_functions made (repaired_functions clones w k (drop k xs)) (marked_functions clones w k (drop k xs))
  made_functions_next made k xs x h e = λ i. record { functions = functions_next made.functions k xs x h e i; needed = noted_functions_next made.needed k xs x h e i }

  clones_next : (P : Program) (out : List Function) (k : ℕ) (fs : List ℕ) (names : List (List ℕ)) (f d : ℕ) (name e : List ℕ) →
      k < length fs → k < length names → f ≡ get_or fs k d → name ≡ get_or names k e →
      (out ++ clone_in clones w f name (slice_get P.functions f)) ++ clone_functions P clones w (drop (k + 1) fs) (drop (k + 1) names)
      ≡ out ++ clone_functions P clones w (drop k fs) (drop k names)
  clones_next P out k fs names f d name e h g at named =
      append_assoc out (clone_in clones w f name (slice_get P.functions f)) (clone_functions P clones w (drop (k + 1) fs) (drop (k + 1) names))
      ∙ ap (λ xs. out ++ clone_functions P clones w xs (name ∷ drop (k + 1) names)) (ahead fs k f d h at)
      ∙ ap (λ xs. out ++ clone_functions P clones w (drop k fs) xs) (ahead names k name e g named)

  noted_clones_next : (P : Program) (n : NeededExterns) (k : ℕ) (fs : List ℕ) (f d : ℕ) → k < length fs → f ≡ get_or fs k d →
      noted (noted n (marked_clone clones w f (slice_get P.functions f))) (marked_clones P clones w (drop (k + 1) fs)) ≡ noted n (marked_clones P clones w (drop k fs))
  noted_clones_next P n k fs f d h at =
      noted-append n (marked_clone clones w f (slice_get P.functions f)) (marked_clones P clones w (drop (k + 1) fs))
      ∙ ap (λ xs. noted n (marked_clones P clones w xs)) (ahead fs k f d h at)

  pub made_clones_next : (P : Program) (made : RepairedFunctions) (k : ℕ) (fs : List ℕ) (names : List (List ℕ)) (f d : ℕ) (name e : List ℕ) →
      k < length fs → k < length names → f ≡ get_or fs k d → name ≡ get_or names k e →
      with_functions (with_functions made (clone_in clones w f name (slice_get P.functions f)) (marked_clone clones w f (slice_get P.functions f)))
      (clone_functions P clones w (drop (k + 1) fs) (drop (k + 1) names)) (marked_clones P clones w (drop (k + 1) fs))
      ≡ with_functions made (clone_functions P clones w (drop k fs) (drop k names)) (marked_clones P clones w (drop k fs))
  made_clones_next P made k fs names f d name e h g at named =
      λ i. record {
        functions = clones_next P made.functions k fs names f d name e h g at named i;
        needed = noted_clones_next P made.needed k fs f d h at i;
      }
