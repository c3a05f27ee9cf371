-- The repaired program as one walk makes it: its instructions in order, and which functions the inserted calls name.
use Rattle.std.specs.Prelude.{ℕ, suc, Bool, true, false, ◌||◌, List, [], ◌∷◌, ◌++◌, Option, Some, None, slice_get}
use Rattle.std.specs.List.{flat_map}
use Rattle.hip_types.specs.declared.number.Scalar.TheVariants.{Int, Ptr}
use Rattle.hip_types.specs.declared.number.Width.TheVariants.{W64}
use Rattle.hip_tree.specs.Sites.{has_site}
use Rattle.hip_tree.specs.declared.block.Block.{Block}
use Rattle.hip_tree.specs.declared.instr.Instr.{Instr}
use Rattle.hip_tree.specs.declared.program.Extern.{Extern}
use Rattle.hip_tree.specs.declared.program.Function.{Function}
use Rattle.hip_tree.specs.declared.program.Program.{Program}
use Rattle.hip_tree.specs.declared.site.Site.{Site}
use Rattle.hip_repairs.specs.Repaired.{Marked, Clone, Wanted, clwb_name, sfence_name, pmem_flush_name, declared_if, renamed, inserted_after, repaired_body, instrs_of, inserts}
use Rattle.hip_fix.specs.declared.body.RepairedBody.{RepairedBody}
use Rattle.hip_fix.specs.declared.body.NeededExterns.{NeededExterns}
use Rattle.hip_fix.specs.declared.repair.RepairedFunctions.{RepairedFunctions}
use Rattle.hip_fix.specs.declared.repair.RepairSites.{RepairSites}

-- Where a repair inserts, as sets of sites.
abbrev pub wanted_in : RepairSites → Wanted
wanted_in r =
    record {
      flush_after = has_site r.flush_after;
      fence_after = has_site r.fence_after;
      hoist = has_site r.hoist;
      skip = has_site r.skip;
    }

-- No function is named by an inserted call yet.
abbrev pub none_needed : NeededExterns
none_needed = record { clwb = false; sfence = false; pmem_flush = false }

-- The functions that inserted calls name, after these instructions were added.
abbrev pub noted : NeededExterns → List Marked → NeededExterns
noted n ms =
    record {
      clwb = n.clwb || inserts clwb_name ms;
      sfence = n.sfence || inserts sfence_name ms;
      pmem_flush = n.pmem_flush || inserts pmem_flush_name ms;
    }

-- A body after these instructions were added.
abbrev pub grown : RepairedBody → List Marked → RepairedBody
grown body ms = record { instrs = body.instrs ++ instrs_of ms; needed = noted body.needed ms }

-- No function is made yet.
abbrev pub none_made : RepairedFunctions
none_made = record { functions = []; needed = none_needed }

-- What is made after these functions, which have these instructions, were added.
abbrev pub with_functions : RepairedFunctions → List Function → List Marked → RepairedFunctions
with_functions made functions ms = record { functions = made.functions ++ functions; needed = noted made.needed ms }

-- The repaired instruction of a site, and what is inserted after it.
abbrev pub repaired_at : List Clone → Wanted → Bool → Site → Instr → List Marked
repaired_at clones w clone s i = (renamed clones i (clone || w.hoist s), false) ∷ inserted_after w clone s i

-- The repaired bodies of blocks in order, the first of which has number b.
abbrev pub marked_blocks : List Clone → Wanted → Bool → ℕ → ℕ → List Block → List Marked
marked_blocks clones w clone f b [] = []
marked_blocks clones w clone f b (x ∷ xs) =
    repaired_body clones w clone f b 0 x.body ++ marked_blocks clones w clone f (suc b) xs

-- The same for functions, the first of which has number f.
abbrev pub marked_functions : List Clone → Wanted → ℕ → List Function → List Marked
marked_functions clones w f [] = []
marked_functions clones w f (x ∷ xs) =
    marked_blocks clones w false f 0 x.blocks ++ marked_functions clones w (suc f) xs

-- The repaired bodies of the clone of function f, block by block; none where there is no such function.
abbrev pub marked_clone : List Clone → Wanted → ℕ → Option Function → List Marked
marked_clone clones w f None = []
marked_clone clones w f (Some x) = marked_blocks clones w true f 0 x.blocks

-- The same for the clones of these functions.
abbrev pub marked_clones : Program → List Clone → Wanted → List ℕ → List Marked
marked_clones P clones w fs = flat_map (λ f. marked_clone clones w f (slice_get P.functions f)) fs

-- ---- declarations

-- The declarations that inserted calls need and that are absent.
abbrev pub added : List Extern → NeededExterns → List Extern
added externs n =
    declared_if n.clwb externs clwb_name (Ptr ∷ [])
    ++ (declared_if n.sfence externs sfence_name []
    ++ declared_if n.pmem_flush externs pmem_flush_name (Ptr ∷ Int W64 ∷ []))
