-- The walk finds the sites whose instructions pass, in the program's order.
use Rattle.std.proofs.Common.{ℕ, zero, suc, ◌+◌, ◌<◌, ◌≡◌, length, get_or, drop, append_assoc, Bool, true, false, cond, List, [], ◌∷◌, ◌++◌, Option, Some, None, refl, sym, ap, ◌∙◌, arith}
use Rattle.std.specs.Prelude.{option_and_then, slice_get}
use Rattle.std.specs.List.{filter}
use Rattle.std.specs.Cmp.{both_ways}
use Rattle.hip_tree.specs.Sites.{has_site, instr_of, body_sites, block_sites, function_sites, sites_of}
use Rattle.hip_tree.specs.declared.block.Block.{Block}
use Rattle.hip_tree.specs.declared.instr.Instr.{Instr}
use Rattle.hip_tree.specs.declared.program.Function.{Function}
use Rattle.hip_tree.specs.declared.program.Program.{Program}
use Rattle.hip_tree.specs.declared.site.Site.{Site}
use Rattle.hip_repairs.specs.Laws.SiteOrder.{filter-append, front_chosen, filtered_has, filtered_in, has_in, site_in}
use Rattle.hip_sites.specs.SiteWalk.{passing_in_body, passing_in_blocks, passing_in_functions}

-- ---- the whole walk

module _ (P : Program) (passes : ℕ → Option Instr → Bool) where
  -- The instruction at a site passes the test of its function.
  abbrev pub passes_at : Site → Bool
  passes_at s = passes s.function (instr_of P s)

  abbrev test : ℕ → Instr → Bool
  test f i = passes f (Some i)

  there : (f b k : ℕ) (fn : Function) (block : Block) (i : Instr) → slice_get P.functions f ≡ Some fn
      → slice_get fn.blocks b ≡ Some block → slice_get block.body k ≡ Some i
      → passes_at (record { function = f; block = b; index = k }) ≡ test f i
  there f b k fn block i e_f e_b e_i =
      ap (passes f)
      (ap (λ o. option_and_then (λ (x : Block). slice_get x.body k)
      (option_and_then (λ (x : Function). slice_get x.blocks b) o)) e_f
      ∙ ap (λ o. option_and_then (λ (x : Block). slice_get x.body k) o) e_b ∙ e_i)

  body_filtered : (f b k : ℕ) (fn : Function) (block : Block) (is : List Instr)
      → slice_get P.functions f ≡ Some fn
      → slice_get fn.blocks b ≡ Some block → ((j : ℕ) → slice_get is j ≡ slice_get block.body (k + j))
      → filter passes_at (body_sites f b k is) ≡ passing_in_body (test f) f b k is
  body_filtered f b k fn block [] e_f e_b at = refl
  body_filtered f b k fn block (i ∷ is) e_f e_b at =
      let s : Site = record { function = f; block = b; index = k } in
      let here : k ≡ k + 0 = omega arith in
      let later : List Site = filter passes_at (body_sites f b (suc k) is) in
      let rest = body_filtered f b (suc k) fn block is e_f e_b
      (λ j. at (suc j) ∙ ap (slice_get block.body) (let q : k + suc j ≡ suc k + j = omega arith in q)) in
      ap (λ t. cond t (s ∷ later) later)
      (there f b k fn block i e_f e_b (ap (slice_get block.body) here ∙ sym (at 0)))
      ∙ front_chosen (test f i) s later ∙ ap (λ zs. cond (test f i) (s ∷ []) [] ++ zs) rest

  blocks_filtered : (f b : ℕ) (fn : Function) (xs : List Block) → slice_get P.functions f ≡ Some fn
      → ((j : ℕ) → slice_get xs j ≡ slice_get fn.blocks (b + j))
      → filter passes_at (block_sites f b xs) ≡ passing_in_blocks (test f) f b xs
  blocks_filtered f b fn [] e_f at = refl
  blocks_filtered f b fn (x ∷ xs) e_f at =
      let here : b ≡ b + 0 = omega arith in
      let first = body_filtered f b 0 fn x x.body e_f (ap (slice_get fn.blocks) here ∙ sym (at 0))
      (λ j. ap (slice_get x.body) (let q : j ≡ 0 + j = omega arith in q)) in
      let rest = blocks_filtered f (suc b) fn xs e_f
      (λ j. at (suc j) ∙ ap (slice_get fn.blocks) (let q : b + suc j ≡ suc b + j = omega arith in q)) in
      filter-append passes_at (body_sites f b 0 x.body) (block_sites f (suc b) xs)
      ∙ ap (λ ys. ys ++ filter passes_at (block_sites f (suc b) xs)) first
      ∙ ap (λ ys. passing_in_body (test f) f b 0 x.body ++ ys) rest

  functions_filtered : (f : ℕ) (xs : List Function)
      → ((j : ℕ) → slice_get xs j ≡ slice_get P.functions (f + j))
      → filter passes_at (function_sites f xs) ≡ passing_in_functions test f xs
  functions_filtered f [] at = refl
  functions_filtered f (x ∷ xs) at =
      let here : f ≡ f + 0 = omega arith in
      let first = blocks_filtered f 0 x x.blocks (ap (slice_get P.functions) here ∙ sym (at 0))
      (λ j. ap (slice_get x.blocks) (let q : j ≡ 0 + j = omega arith in q)) in
      let rest = functions_filtered (suc f) xs
      (λ j. at (suc j) ∙ ap (slice_get P.functions) (let q : f + suc j ≡ suc f + j = omega arith in q)) in
      filter-append passes_at (block_sites f 0 x.blocks) (function_sites (suc f) xs)
      ∙ ap (λ ys. ys ++ filter passes_at (function_sites (suc f) xs)) first
      ∙ ap (λ ys. passing_in_blocks (test f) f 0 x.blocks ++ ys) rest

  pub walk_filtered : passing_in_functions (λ f i. passes f (Some i)) 0 P.functions
      ≡ filter (λ s. passes s.function (instr_of P s)) (sites_of P)
  walk_filtered =
      sym (functions_filtered 0 P.functions
      (λ j. ap (slice_get P.functions) (let q : j ≡ 0 + j = omega arith in q)))

-- ---- membership

-- The filtered list of sites has exactly those that pass the test, if no site without an instruction passes it.
pub listed : (P : Program) (test : Site → Bool) → ((s : Site) → instr_of P s ≡ None → test s ≡ false)
    → (s : Site) → has_site (filter test (sites_of P)) s ≡ test s
listed P test none s =
    both_ways _ _ (λ e. (filtered_in test (sites_of P) s (has_in (filter test (sites_of P)) s e)).1)
    (λ e. there (instr_of P s) refl e)
  where
    there : (o : Option Instr) → instr_of P s ≡ o → test s ≡ true
        → has_site (filter test (sites_of P)) s ≡ true
    there None e h = absurd (never (sym (none s e) ∙ h))
      where
        never : false ≡ true → ⊥
        never e = cc
    there (Some i) e h = filtered_has test (sites_of P) s (site_in P s i e) h

-- ---- one item more

drop_next : {X : Type 0} (xs : List X) (k : ℕ) (x : X) → k < length xs → x ≡ get_or xs k x
    → drop k xs ≡ x ∷ drop (suc k) xs
drop_next [] k x lt e = absurd (omega arith)
drop_next (y ∷ xs) zero x lt e = ap (λ z. z ∷ xs) (sym e)
drop_next (y ∷ xs) (suc k) x lt e = drop_next xs k x (omega arith) e

pub blocks_next : (test : Instr → Bool) (f : ℕ) (blocks : List Block) (k : ℕ) (x : Block) → k < length blocks
    → x ≡ get_or blocks k x
    → passing_in_body test f k 0 x.body ++ passing_in_blocks test f (k + 1) (drop (k + 1) blocks)
    ≡ passing_in_blocks test f k (drop k blocks)
blocks_next test f blocks k x lt e =
    let one : k + 1 ≡ suc k = omega arith in
    ap (λ n. passing_in_body test f k 0 x.body ++ passing_in_blocks test f n (drop n blocks)) one
    ∙ sym (ap (passing_in_blocks test f k) (drop_next blocks k x lt e))

pub functions_next : (tests : ℕ → Instr → Bool) (functions : List Function) (k : ℕ) (x : Function)
    → k < length functions → x ≡ get_or functions k x
    → passing_in_blocks (tests k) k 0 x.blocks ++ passing_in_functions tests (k + 1) (drop (k + 1) functions)
    ≡ passing_in_functions tests k (drop k functions)
functions_next tests functions k x lt e =
    let one : k + 1 ≡ suc k = omega arith in
    ap (λ n. passing_in_blocks (tests k) k 0 x.blocks ++ passing_in_functions tests n (drop n functions)) one
    ∙ sym (ap (passing_in_functions tests k) (drop_next functions k x lt e))

-- What was found so far, with what one more item adds.
pub found_next : (sites new here rest all whole : List Site) → new ≡ sites ++ here → here ++ rest ≡ all
    → sites ++ all ≡ whole → new ++ rest ≡ whole
found_next sites new here rest all whole e f g =
    ap (λ xs. xs ++ rest) e ∙ append_assoc sites here rest ∙ ap (λ xs. sites ++ xs) f ∙ g
