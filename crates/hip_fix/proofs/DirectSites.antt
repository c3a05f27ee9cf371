-- The walk that collects direct stores finds exactly those.
use Rattle.std.proofs.Common.{ℕ, suc, ◌+◌, ◌≡◌, ◌||◌, ◌&&◌, not, Bool, true, false, cond, List, [], ◌∷◌, ◌++◌, Some, refl, sym, ap, ◌∙◌, arith}
use Rattle.std.specs.Prelude.{slice_get}
use Rattle.std.specs.List.{filter, list_any}
use Rattle.std.specs.Str.{bytes_eq}
use Rattle.std.proofs.Math.Path.{fun_ext}
use Rattle.std.proofs.lemmas.List.Folds.{list_any-append}
use Rattle.hip_types.specs.Distinct.{met}
use Rattle.hip_tree.specs.Sites.{has_site, sites_of}
use Rattle.hip_tree.specs.declared.block.Block.{Block}
use Rattle.hip_tree.specs.declared.constant.Const.{Const, out-Const}
use Rattle.hip_tree.specs.declared.constant.Const.TheOpen.{Const-F}
use Rattle.hip_tree.specs.declared.constant.ConstGep.{ConstGep}
use Rattle.hip_tree.specs.declared.constant.TypedConst.{TypedConst}
use Rattle.hip_tree.specs.declared.instr.Instr.{Instr}
use Rattle.hip_tree.specs.declared.instr.Instr.TheVariants.{Alloca, Store}
use Rattle.hip_tree.specs.declared.instr.Operand.TheVariants.{Reg, Fixed}
use Rattle.hip_tree.specs.declared.program.Function.{Function}
use Rattle.hip_tree.specs.declared.program.GlobalVar.{GlobalVar}
use Rattle.hip_tree.specs.declared.program.Program.{Program}
use Rattle.hip_tree.specs.declared.site.Site.{Site}
use Rattle.hip_names.specs.Laws.NameLaws.{bytes_eq-sym}
use Rattle.hip_names.specs.Names.{is_among}
use Rattle.hip_names.specs.Laws.MetLaws.{met-alike}
use Rattle.hip_runs.specs.Places.{blocks_in, blocks_of}
use Rattle.hip_repairs.specs.Direct.{allocates, allocates_in, is_volatile_global, names_volatile, stores_outside, direct}
use Rattle.hip_sites.specs.Laws.SiteWalkLaws.{listed, walk_filtered}
use Rattle.hip_sites.specs.SiteWalk.{passing_in_blocks, passing_in_functions}
use Rattle.hip_fix.specs.DirectWalk.{volatile_names, allocated, body_allocas, alloca_names, names_one_of, stores_by, direct_in_functions}

-- ---- the names

among_volatile : (gs : List GlobalVar) (name : List ℕ) → is_among (volatile_names gs) name ≡ is_volatile_global gs name
among_volatile [] name = refl
among_volatile (g ∷ gs) name = by_section g.persistent ∙ ap (λ t. (bytes_eq g.name name && not g.persistent) || t) (among_volatile gs name)
  where
    by_section : (b : Bool) → is_among (cond b (volatile_names gs) (g.name ∷ volatile_names gs)) name ≡ ((bytes_eq g.name name && not b) || is_among (volatile_names gs) name)
    by_section true = never (bytes_eq g.name name)
      where
        never : (t : Bool) → is_among (volatile_names gs) name ≡ ((t && false) || is_among (volatile_names gs) name)
        never true = refl
        never false = refl
    by_section false = ap (λ t. t || is_among (volatile_names gs) name) (bytes_eq-sym name g.name ∙ always (bytes_eq g.name name))
      where
        always : (t : Bool) → t ≡ (t && true)
        always true = refl
        always false = refl

among_allocated : (i : Instr) (name : List ℕ) → is_among (allocated i) name ≡ allocates name i
among_allocated (Alloca dest ty align) name = or_false (bytes_eq name dest) ∙ bytes_eq-sym name dest
  where
    or_false : (b : Bool) → (b || false) ≡ b
    or_false true = refl
    or_false false = refl
among_allocated _ name = refl

among_body : (is : List Instr) (name : List ℕ) → is_among (body_allocas is) name ≡ list_any (allocates name) is
among_body [] name = refl
among_body (i ∷ is) name =
    list_any-append (bytes_eq name) (allocated i) (body_allocas is)
    ∙ ap (λ t. t || is_among (body_allocas is) name) (among_allocated i name) ∙ ap (λ t. allocates name i || t) (among_body is name)

among_blocks : (blocks : List Block) (name : List ℕ) → is_among (alloca_names blocks) name ≡ allocates_in blocks name
among_blocks [] name = refl
among_blocks (b ∷ bs) name =
    list_any-append (bytes_eq name) (body_allocas b.body) (alloca_names bs)
    ∙ ap (λ t. t || is_among (alloca_names bs) name) (among_body b.body name) ∙ ap (λ t. list_any (allocates name) b.body || t) (among_blocks bs name)

names_same : (gs : List GlobalVar) (o : Const-F Const ConstGep TypedConst) → names_one_of (met bytes_eq [] (volatile_names gs)) o ≡ names_volatile gs o
names_same gs (Const-F.Address name) = met-alike (volatile_names gs) name ∙ among_volatile gs name
names_same gs _ = refl

stores_same : (P : Program) (blocks : List Block) (i : Instr) → stores_by (met bytes_eq [] (volatile_names P.globals)) (met bytes_eq [] (alloca_names blocks)) i ≡ stores_outside P blocks (Some i)
stores_same P blocks (Store ty value (Reg name) align) = met-alike (alloca_names blocks) name ∙ among_blocks blocks name
stores_same P blocks (Store ty value (Fixed c) align) = names_same P.globals (out-Const c)
stores_same P blocks _ = refl

-- ---- the sites

module _ (P : Program) where
  abbrev volatile : List (List ℕ)
  volatile = met bytes_eq [] (volatile_names P.globals)

  -- Each function is searched by the test of the function of its number.
  functions_tested : (f : ℕ) (xs : List Function) → ((j : ℕ) → slice_get xs j ≡ slice_get P.functions (f + j)) →
      direct_in_functions volatile f xs ≡ passing_in_functions (λ g i. stores_outside P (blocks_of P g) (Some i)) f xs
  functions_tested f [] at = refl
  functions_tested f (x ∷ xs) at =
      let here : f ≡ f + 0 = omega arith in
      let blocks : blocks_of P f ≡ x.blocks = ap blocks_in (ap (slice_get P.functions) here ∙ sym (at 0)) in
      let test : stores_by volatile (met bytes_eq [] (alloca_names x.blocks)) ≡ (λ (i : Instr). stores_outside P (blocks_of P f) (Some i)) =
      fun_ext (λ i. stores_same P x.blocks i ∙ ap (λ bs. stores_outside P bs (Some i)) (sym blocks)) in
      let rest = functions_tested (suc f) xs (λ j. at (suc j) ∙ ap (slice_get P.functions) (let q : f + suc j ≡ suc f + j = omega arith in q)) in
      ap (λ t. passing_in_blocks t f 0 x.blocks ++ direct_in_functions volatile (suc f) xs) test
      ∙ ap (λ ys. passing_in_blocks (λ i. stores_outside P (blocks_of P f) (Some i)) f 0 x.blocks ++ ys) rest

  pub direct_filtered : direct_in_functions volatile 0 P.functions ≡ filter (direct P) (sites_of P)
  direct_filtered =
      functions_tested 0 P.functions (λ j. ap (slice_get P.functions) (let q : j ≡ 0 + j = omega arith in q))
      ∙ walk_filtered P (λ f o. stores_outside P (blocks_of P f) o)

-- A site is found exactly if it has a direct store.
pub found_direct : (P : Program) (s : Site) → has_site (filter (direct P) (sites_of P)) s ≡ direct P s
found_direct P = listed P (direct P) (λ s e. ap (stores_outside P (blocks_of P s.function)) e)
