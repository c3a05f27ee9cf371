-- The sites of a program are those at which it has an instruction.
use Rattle.std.proofs.Common.{◌≡◌, ◌⊎◌, inl, inr, ℕ, suc, ◌+◌, true, List, [], ◌∷◌, Option, Some, None, is_some, refl, sym, ap, ◌∙◌, arith}
use Rattle.std.specs.Cmp.{both_ways}
use Rattle.std.specs.Prelude.{option_and_then, slice_get}
use Rattle.hip_tree.specs.Sites.{block_sites, body_sites, function_sites, has_site, instr_of, sites_of}
use Rattle.hip_tree.specs.declared.block.Block.{Block}
use Rattle.hip_tree.specs.declared.instr.Instr.{Instr}
use Rattle.hip_tree.specs.declared.program.Function.{Function}
use Rattle.hip_tree.specs.declared.program.Program.{Program}
use Rattle.hip_tree.specs.declared.site.Site.{Site}
use Rattle.hip_runs.specs.Laws.PartLaws.{in-append}
use Rattle.hip_runs.specs.StoredParts.Parts.{In}
use Rattle.hip_repairs.specs.Laws.SiteOrder.{has_in, in_has, site_in}
use Rattle.hip_plan.specs.Asked.{is_there}

record InBody (k : ℕ) (body : List Instr) (s : Site) : Type 0 where
  place : ℕ
  index : s.index ≡ k + place
  instr : Instr
  here : slice_get body place ≡ Some instr

in_body : (f b k : ℕ) (body : List Instr) (s : Site) → In s (body_sites f b k body) → InBody k body s
in_body f b k [] s i = absurd i
in_body f b k (x ∷ body) s (inl e) = record { place = 0; index = let same : s.index ≡ k = ap (λ (y : Site). y.index) e in omega arith; instr = x; here = refl }
in_body f b k (x ∷ body) s (inr i) =
    let rest = in_body f b (suc k) body s i in
    record { place = suc rest.place; index = omega (arith, rest.index); instr = rest.instr; here = rest.here }

at_body : (f b k : ℕ) (body : List Instr) (s : Site) → In s (body_sites f b k body) → (s.function ≡ f) × (s.block ≡ b)
at_body f b k [] s i = absurd i
at_body f b k (x ∷ body) s (inl e) = (ap (λ (y : Site). y.function) e, ap (λ (y : Site). y.block) e)
at_body f b k (x ∷ body) s (inr i) = at_body f b (suc k) body s i

record InBlocks (f b : ℕ) (blocks : List Block) (s : Site) : Type 0 where
  function : s.function ≡ f
  place : ℕ
  number : s.block ≡ b + place
  block : Block
  at : slice_get blocks place ≡ Some block
  instr : Instr
  here : slice_get block.body s.index ≡ Some instr

in_blocks : (f b : ℕ) (blocks : List Block) (s : Site) → In s (block_sites f b blocks) → InBlocks f b blocks s
in_blocks f b [] s i = absurd i
in_blocks f b (x ∷ blocks) s i = by (in-append (body_sites f b 0 x.body) (block_sites f (suc b) blocks) s i) (λ j. in_blocks f (suc b) blocks s j)
  where
    by : In s (body_sites f b 0 x.body) ⊎ In s (block_sites f (suc b) blocks) → (In s (block_sites f (suc b) blocks) → InBlocks f (suc b) blocks s) → InBlocks f b (x ∷ blocks) s
    by (inl j) later =
        let there = in_body f b 0 x.body s j in
        let at = at_body f b 0 x.body s j in
        let same : there.place ≡ s.index = omega (arith, there.index) in
        record { function = at.0; place = 0; number = omega (arith, at.1); block = x; at = refl; instr = there.instr; here = ap (slice_get x.body) (sym same) ∙ there.here }
    by (inr j) later =
        let rest = later j in
        record { function = rest.function; place = suc rest.place; number = omega (arith, rest.number); block = rest.block; at = rest.at; instr = rest.instr; here = rest.here }

record InFunctions (f : ℕ) (functions : List Function) (s : Site) : Type 0 where
  place : ℕ
  number : s.function ≡ f + place
  function : Function
  of : slice_get functions place ≡ Some function
  block : Block
  at : slice_get function.blocks s.block ≡ Some block
  instr : Instr
  here : slice_get block.body s.index ≡ Some instr

in_functions : (f : ℕ) (functions : List Function) (s : Site) → In s (function_sites f functions) → InFunctions f functions s
in_functions f [] s i = absurd i
in_functions f (x ∷ functions) s i = by (in-append (block_sites f 0 x.blocks) (function_sites (suc f) functions) s i) (λ j. in_functions (suc f) functions s j)
  where
    by : In s (block_sites f 0 x.blocks) ⊎ In s (function_sites (suc f) functions) → (In s (function_sites (suc f) functions) → InFunctions (suc f) functions s) → InFunctions f (x ∷ functions) s
    by (inl j) later =
        let there = in_blocks f 0 x.blocks s j in
        let same : there.place ≡ s.block = omega (arith, there.number) in
        record { place = 0; number = omega (arith, there.function); function = x; of = refl; block = there.block; at = ap (slice_get x.blocks) (sym same) ∙ there.at; instr = there.instr; here = there.here }
    by (inr j) later =
        let rest = later j in
        record { place = suc rest.place; number = omega (arith, rest.number); function = rest.function; of = rest.of; block = rest.block; at = rest.at; instr = rest.instr; here = rest.here }

site_there : (P : Program) (s : Site) → In s (sites_of P) → is_there P s ≡ true
site_there P s i =
    let there = in_functions 0 P.functions s i in
    let same : there.place ≡ s.function = omega (arith, there.number) in
    ap (λ o. is_some (option_and_then (λ (b : Block). slice_get b.body s.index) (option_and_then (λ (f : Function). slice_get f.blocks s.block) o))) (ap (slice_get P.functions) (sym same) ∙ there.of)
    ∙ ap (λ o. is_some (option_and_then (λ (b : Block). slice_get b.body s.index) o)) there.at
    ∙ ap is_some there.here

there_site : (P : Program) (s : Site) → is_there P s ≡ true → has_site (sites_of P) s ≡ true
there_site P s e = by (instr_of P s) refl e
  where
    by : (o : Option Instr) → instr_of P s ≡ o → is_some o ≡ true → has_site (sites_of P) s ≡ true
    by None h g = absurd (let z : ⊥ = cc in z)
    by (Some i) h g = in_has (sites_of P) s (site_in P s i h)

pub sites_there : (P : Program) (s : Site) → has_site (sites_of P) s ≡ is_there P s
sites_there P s = both_ways (has_site (sites_of P) s) (is_there P s) (λ e. site_there P s (has_in (sites_of P) s e)) (there_site P s)
