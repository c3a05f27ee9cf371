-- If there is nothing to repair, a repair changes nothing.
use Rattle.std.proofs.Common.{◌≡◌, ℕ, zero, suc, Bool, true, false, cond, not, ◌&&◌, ◌||◌, List, [], ◌∷◌, ◌++◌, map, length, slice_get, refl, ap, ap₂, ◌∙◌}
use Rattle.std.specs.List.{list_any, filter}
use Rattle.hip_tree.specs.Sites.{sites_of}
use Rattle.hip_tree.specs.declared.block.Block.{Block}
use Rattle.hip_tree.specs.declared.instr.Instr.{Instr}
use Rattle.hip_tree.specs.declared.instr.Instr.TheVariants.{Binary, Compare, Select, Cast, Alloca, Load, Store, Gep, Call}
use Rattle.hip_tree.specs.declared.program.Extern.{Extern}
use Rattle.hip_tree.specs.declared.program.Function.{Function}
use Rattle.hip_tree.specs.declared.program.Program.{Program}
use Rattle.hip_tree.specs.declared.site.Site.{Site}
use Rattle.hip_calls.specs.Reach.{reached}
use Rattle.hip_calls.specs.Fresh.{fresh_names}
use Rattle.hip_runs.specs.declared.input.Input.{Input}
use Rattle.hip_runs.specs.declared.report.Findings.{Findings}
use Rattle.hip_runs.specs.Validity.{IsValid}
use Rattle.hip_repairs.specs.declared.plan.Plan.{Plan}
use Rattle.hip_repairs.specs.Choice.{wants_flush, wants_fence, wants_hoist, plan_for}
use Rattle.hip_repairs.specs.Repaired.{Marked, Clone, Wanted, wanted_by, renamed, inserted_after, repaired_body, instrs_of, repaired_blocks, repaired_functions, clone_functions, cloned, clones_of, inserts, inserts_in, inserts_from, inserts_cloned, needs, added_externs, repaired}
use Rattle.std.proofs.lemmas.List.{append-nil}
use Rattle.hip_repairs.specs.Suits.{no_repairs}

-- ---- no reports

none_pass : (test : Site → Bool) → ((s : Site) → test s ≡ false) → (xs : List Site) → filter test xs ≡ []
none_pass test h [] = refl
none_pass test h (x ∷ xs) = ap (λ b. cond b (x ∷ filter test xs) (filter test xs)) (h x) ∙ none_pass test h xs

plan_of : List Site → List Site → List Site → Plan
plan_of a b c = record { flush_after = a; fence_after = b; hoist = c }

pub nothing_planned : (P : Program) (found : Findings) → found.reports ≡ [] → plan_for P found ≡ no_repairs
unfolding plan_of
nothing_planned P found e =
    ap (λ xs. plan_of xs (filter (wants_fence P found) (sites_of P)) (filter (wants_hoist P found) (sites_of P)))
    (none_pass (wants_flush P found) (λ s. ap (list_any _) e) (sites_of P))
    ∙ ap (λ xs. plan_of [] xs (filter (wants_hoist P found) (sites_of P)))
    (none_pass (wants_fence P found) (λ s. ap (list_any _) e) (sites_of P))
    ∙ ap (λ xs. plan_of [] [] xs) (none_pass (wants_hoist P found) (λ s. ap (list_any _) e) (sites_of P))

-- ---- no repairs

none_reached : (P : Program) (n k : ℕ) → reached P n k [] ≡ []
none_reached P zero k = refl
none_reached P (suc n) zero = none_reached P n 1
none_reached P (suc n) (suc k) = none_reached P n (suc (suc k))

none_cloned : (P : Program) → cloned P no_repairs ≡ []
none_cloned P = none_reached P (length P.functions) 0

-- The body of a block into which nothing is inserted.
abbrev plain : List Instr → List Marked
plain is = map (λ i. (i, false)) is

instrs_plain : (is : List Instr) → instrs_of (plain is) ≡ is
instrs_plain [] = refl
instrs_plain (i ∷ is) = ap (λ js. i ∷ js) (instrs_plain is)

plain_inserts : (name : List ℕ) (is : List Instr) → inserts name (plain is) ≡ false
plain_inserts name [] = refl
plain_inserts name (i ∷ is) = plain_inserts name is

-- The block with this body in place of its own.
abbrev block_with : Block → List Instr → Block
block_with x is = record { label = x.label; phis = x.phis; body = is; end = x.end }

-- The function with these blocks in place of its own.
abbrev function_with : Function → List Block → Function
function_with x xs = record { ret = x.ret; name = x.name; params = x.params; blocks = xs }

-- The program with these declarations and functions in place of its own; the globals stay.
abbrev program_with : Program → List Extern → List Function → Program
program_with P es fs = record { globals = P.globals; externs = es; functions = fs }

module _ (skip : Site → Bool) where
  -- Where the plan without repairs inserts, with these stores to skip.
  abbrev w : Wanted
  w = wanted_by no_repairs skip

  nothing_past : (s : Site) (i : Instr) → inserted_after w false s i ≡ []
  nothing_past s (Binary dest op flags width a b) = refl
  nothing_past s (Compare dest pred ty a b) = refl
  nothing_past s (Select dest test ty a b) = refl
  nothing_past s (Cast dest op from a to) = refl
  nothing_past s (Alloca dest ty align) = refl
  nothing_past s (Load dest ty addr align) = refl
  nothing_past s (Store ty value addr align) = refl
  nothing_past s (Gep dest inbounds ty base indices) = refl
  nothing_past s (Call dest ret callee args) = refl

  same_name : (clones : List Clone) (i : Instr) → renamed clones i false ≡ i
  same_name clones (Binary dest op flags width a b) = refl
  same_name clones (Compare dest pred ty a b) = refl
  same_name clones (Select dest test ty a b) = refl
  same_name clones (Cast dest op from a to) = refl
  same_name clones (Alloca dest ty align) = refl
  same_name clones (Load dest ty addr align) = refl
  same_name clones (Store ty value addr align) = refl
  same_name clones (Gep dest inbounds ty base indices) = refl
  same_name clones (Call dest ret callee args) = refl

  module _ (clones : List Clone) where
    same_body : (f b k : ℕ) (is : List Instr) → repaired_body clones w false f b k is ≡ plain is
    same_body f b k [] = refl
    same_body f b k (i ∷ is) =
        ap (λ ms. (renamed clones i false, false) ∷ (ms ++ repaired_body clones w false f b (suc k) is))
        (nothing_past (record { function = f; block = b; index = k }) i)
        ∙ ap (λ j. (j, false) ∷ repaired_body clones w false f b (suc k) is) (same_name clones i)
        ∙ ap (λ ms. (i, false) ∷ ms) (same_body f b (suc k) is)

    same_blocks : (f b : ℕ) (xs : List Block) → repaired_blocks clones w false f b xs ≡ xs
    same_blocks f b [] = refl
    same_blocks f b (x ∷ xs) =
        ap (λ is. block_with x is ∷ repaired_blocks clones w false f (suc b) xs)
        (ap instrs_of (same_body f b 0 x.body) ∙ instrs_plain x.body)
        ∙ ap (λ ys. x ∷ ys) (same_blocks f (suc b) xs)

    same_functions : (f : ℕ) (xs : List Function) → repaired_functions clones w f xs ≡ xs
    same_functions f [] = refl
    same_functions f (x ∷ xs) =
        ap (λ bs. function_with x bs ∷ repaired_functions clones w (suc f) xs) (same_blocks f 0 x.blocks)
        ∙ ap (λ ys. x ∷ ys) (same_functions (suc f) xs)

    none_in : (name : List ℕ) (f b : ℕ) (xs : List Block) → inserts_in name clones w false f b xs ≡ false
    none_in name f b [] = refl
    none_in name f b (x ∷ xs) =
        ap (λ t. t || inserts_in name clones w false f (suc b) xs)
        (ap (inserts name) (same_body f b 0 x.body) ∙ plain_inserts name x.body)
        ∙ none_in name f (suc b) xs

    none_from : (name : List ℕ) (f : ℕ) (xs : List Function) → inserts_from name clones w f xs ≡ false
    none_from name f [] = refl
    none_from name f (x ∷ xs) =
        ap (λ t. t || inserts_from name clones w (suc f) xs) (none_in name f 0 x.blocks) ∙ none_from name (suc f) xs

  module _ (P : Program) where
    none_needed : (name : List ℕ) → needs P no_repairs w name ≡ false
    none_needed name =
        ap (λ t. t || list_any (λ f. inserts_cloned name (clones_of P no_repairs) w f (slice_get P.functions f))
        (cloned P no_repairs)) (none_from (clones_of P no_repairs) name 0 P.functions)
        ∙ ap (list_any (λ f. inserts_cloned name (clones_of P no_repairs) w f (slice_get P.functions f)))
        (none_cloned P)

    not_missing : (t c : Bool) (x : Extern) → t ≡ false → cond (t && not c) (x ∷ []) [] ≡ []
    not_missing false c x e = refl
    not_missing true c x e = absurd (let z : ⊥ = cc in z)

    none_added : added_externs P no_repairs w ≡ []
    none_added =
        ap₂ (λ xs ys. xs ++ ys) (not_missing _ _ _ (none_needed _))
        (ap₂ (λ xs ys. xs ++ ys) (not_missing _ _ _ (none_needed _)) (not_missing _ _ _ (none_needed _)))

    no_clones : clone_functions P (clones_of P no_repairs) w (cloned P no_repairs)
        (fresh_names P (cloned P no_repairs)) ≡ []
    no_clones = ap (λ ks. clone_functions P (clones_of P no_repairs) w ks (fresh_names P ks)) (none_cloned P)

    pub nothing_repaired : repaired P no_repairs skip ≡ P
    nothing_repaired =
        ap (λ es. program_with P es (repaired P no_repairs skip).functions)
        (ap (λ es. P.externs ++ es) none_added ∙ append-nil P.externs)
        ∙ ap (λ fs. program_with P P.externs fs)
        (ap₂ (λ xs ys. xs ++ ys) (same_functions (clones_of P no_repairs) 0 P.functions) no_clones
        ∙ append-nil P.functions)

-- ---- inputs

pub valid_again : (P : Program) (plan : Plan) (skip : Site → Bool) (I : Input) → IsValid P I
    → IsValid (repaired P plan skip) I
valid_again P plan skip I v = record { base = v.base; image = v.image; numbers = v.numbers; limit = v.limit }
