-- The repaired program. It has the three sorts of repair of the Hippocrates paper: a flush after a store, a fence after
-- a flush, and a persistent clone of a called function with a fence after the call.
use Rattle.std.specs.Prelude.{ℕ, suc, Bool, true, false, cond, not, ◌&&◌, ◌||◌, nat_lt, List, [], ◌∷◌, ◌++◌, map, Option, Some, None, slice_get, codes}
use Rattle.std.specs.List.{list_any}
use Rattle.std.specs.Str.{bytes_eq}
use Rattle.hip_types.specs.Numbers.{bits}
use Rattle.hip_types.specs.declared.number.Scalar.{Scalar}
use Rattle.hip_types.specs.declared.number.Scalar.TheVariants.{Int, Ptr}
use Rattle.hip_types.specs.declared.number.Width.TheVariants.{W64}
use Rattle.hip_tree.specs.Sites.{has_site}
use Rattle.hip_tree.specs.declared.block.Block.{Block}
use Rattle.hip_tree.specs.declared.constant.Const.TheVariants as consts
use Rattle.hip_tree.specs.declared.instr.Instr.{Instr}
use Rattle.hip_tree.specs.declared.instr.Instr.TheVariants.{Store, Call}
use Rattle.hip_tree.specs.declared.instr.Operand.{Operand}
use Rattle.hip_tree.specs.declared.instr.Operand.TheVariants.{Fixed}
use Rattle.hip_tree.specs.declared.program.Extern.{Extern}
use Rattle.hip_tree.specs.declared.program.Function.{Function}
use Rattle.hip_tree.specs.declared.program.Program.{Program}
use Rattle.hip_tree.specs.declared.site.Site.{Site}
use Rattle.hip_calls.specs.Fresh.{fresh_names, name_of}
use Rattle.hip_calls.specs.Reach.{callees}
use Rattle.hip_runs.specs.Operands.{scalar_size, access_align}
use Rattle.hip_names.specs.Names.{is_among}
use Rattle.hip_repairs.specs.declared.plan.Plan.{Plan}

-- ---- inserted instructions

-- LLVM's intrinsic for CLWB, the flush of the cache line that contains an address (Intel's manual, CLWB).
abbrev pub clwb_name : List ℕ
clwb_name = codes "llvm.x86.clwb"

-- LLVM's intrinsic for SFENCE, the fence that a CLWB needs after it (Intel's manual, SFENCE).
abbrev pub sfence_name : List ℕ
sfence_name = codes "llvm.x86.sse.sfence"

-- libpmem's flush of a range of bytes, with no fence of its own (libpmem's manual page, `pmem_flush`).
abbrev pub pmem_flush_name : List ℕ
pmem_flush_name = codes "pmem_flush"

-- A store is wide if its access alignment is below its size, so that it may span two cache lines.
abbrev pub is_wide : Scalar → Option ℕ → Bool
is_wide ty align = nat_lt (access_align ty align) (scalar_size ty)

-- `call void @llvm.x86.clwb(ptr A)`.
abbrev pub line_flush : Operand → Instr
line_flush addr = Call None None clwb_name (record { ty = Ptr; value = addr } ∷ [])

-- `call void @pmem_flush(ptr A, i64 S)`.
abbrev pub range_flush : Operand → ℕ → Instr
range_flush addr size =
    Call None None pmem_flush_name
    (record { ty = Ptr; value = addr } ∷ record { ty = Int W64; value = Fixed (consts.Int (bits W64 size)) } ∷ [])

-- The flush of a store: of the range of its bytes if it is wide, and else of its cache line.
abbrev pub flush_of : Scalar → Operand → Option ℕ → Instr
flush_of ty addr align = cond (is_wide ty align) (range_flush addr (scalar_size ty)) (line_flush addr)

-- `call void @llvm.x86.sse.sfence()`.
abbrev pub the_fence : Instr
the_fence = Call None None sfence_name []

-- ---- blocks

-- An instruction of a repaired block, and whether it is inserted.
abbrev pub Marked : Type 0
Marked = Instr × Bool

-- A function that has a clone, and the clone's name.
pub record Clone : Type 0 where
  pub name : List ℕ
  pub original : List ℕ

-- The name of the clone of a function; the function's own name if it has no clone.
abbrev pub clone_name : List Clone → List ℕ → List ℕ
clone_name [] name = name
clone_name (c ∷ cs) name = cond (bytes_eq c.original name) c.name (clone_name cs name)

-- The instruction; with `to_clone`, a call names the clone of its callee, if the callee has one.
abbrev pub renamed : List Clone → Instr → Bool → Instr
renamed clones (Call dest ret callee args) to_clone =
    Call dest ret (cond to_clone (clone_name clones callee) callee) args
renamed clones i to_clone = i

-- The flush after a store, if one is inserted; nothing after any other instruction.
abbrev pub added_flush : Instr → Bool → List Marked
added_flush (Store ty value addr align) wanted = cond wanted ((flush_of ty addr align, true) ∷ []) []
added_flush i wanted = []

-- The fence after an instruction, if one is inserted.
abbrev pub added_fence : Bool → List Marked
added_fence wanted = cond wanted ((the_fence, true) ∷ []) []

-- Where a repair inserts: sets of sites of the program, each by its test. `skip` has the stores that get no flush by
-- cloning.
pub record Wanted : Type 0 where
  pub flush_after : Site → Bool
  pub fence_after : Site → Bool
  pub hoist : Site → Bool
  pub skip : Site → Bool

-- Where a plan inserts, by its three lists and the stores to skip.
abbrev pub wanted_by : Plan → (Site → Bool) → Wanted
wanted_by plan skip =
    record {
      flush_after = has_site plan.flush_after;
      fence_after = has_site plan.fence_after;
      hoist = has_site plan.hoist;
      skip = skip;
    }

-- What is inserted after an instruction: a flush after a store that the plan names, and in a clone after each store
-- except those to skip; a fence after a planned flush and after a hoisted call.
abbrev pub inserted_after : Wanted → Bool → Site → Instr → List Marked
inserted_after w clone s i =
    added_flush i (w.flush_after s || (clone && not (w.skip s))) ++ added_fence (w.fence_after s || w.hoist s)

-- The repaired body from place k on, of a function or of its clone; a hoisted call names a clone, and so does each call
-- in a clone.
abbrev pub repaired_body : List Clone → Wanted → Bool → ℕ → ℕ → ℕ → List Instr → List Marked
repaired_body clones w clone f b k [] = []
repaired_body clones w clone f b k (i ∷ is) =
    (renamed clones i (clone || w.hoist (record { function = f; block = b; index = k })), false)
    ∷ (inserted_after w clone (record { function = f; block = b; index = k }) i
    ++ repaired_body clones w clone f b (suc k) is)

-- The instructions of a repaired body, without their marks.
abbrev pub instrs_of : List Marked → List Instr
instrs_of ms = map (λ m. m.0) ms

-- Block b of function f, or of its clone, with its repaired body; its label, its phis and its end stay.
abbrev pub repaired_block : List Clone → Wanted → Bool → ℕ → ℕ → Block → Block
repaired_block clones w clone f b block =
    record {
      label = block.label;
      phis = block.phis;
      body = instrs_of (repaired_body clones w clone f b 0 block.body);
      end = block.end;
    }

-- The blocks of function f, or of its clone, the first of which has number b, each repaired.
abbrev pub repaired_blocks : List Clone → Wanted → Bool → ℕ → ℕ → List Block → List Block
repaired_blocks clones w clone f b [] = []
repaired_blocks clones w clone f b (x ∷ xs) =
    repaired_block clones w clone f b x ∷ repaired_blocks clones w clone f (suc b) xs

-- ---- functions

-- Function f, or its clone, under a name.
abbrev pub repaired_function : List Clone → Wanted → Bool → ℕ → List ℕ → Function → Function
repaired_function clones w clone f name function =
    record {
      ret = function.ret;
      name = name;
      params = function.params;
      blocks = repaired_blocks clones w clone f 0 function.blocks;
    }

-- The repaired functions, each with its own name; the first function of the list has number f. The list has no clones.
abbrev pub repaired_functions : List Clone → Wanted → ℕ → List Function → List Function
repaired_functions clones w f [] = []
repaired_functions clones w f (x ∷ xs) =
    repaired_function clones w false f x.name x ∷ repaired_functions clones w (suc f) xs

-- The clone of function f under a name; nothing where there is no such function.
abbrev pub clone_in : List Clone → Wanted → ℕ → List ℕ → Option Function → List Function
clone_in clones w f name None = []
clone_in clones w f name (Some x) = repaired_function clones w true f name x ∷ []

-- The clones of the functions of these numbers, under these names.
abbrev pub clone_functions : Program → List Clone → Wanted → List ℕ → List (List ℕ) → List Function
clone_functions P clones w (f ∷ fs) (name ∷ names) =
    clone_in clones w f name (slice_get P.functions f) ++ clone_functions P clones w fs names
clone_functions P clones w _ _ = []

-- The numbers of the functions that are cloned: those that calls reach from the callees of hoisted calls.
abbrev pub cloned : Program → Plan → List ℕ
cloned P plan = callees P plan.hoist

-- These functions by their names, each with the name of its clone, as far as both lists go.
abbrev pub clones_from : Program → List ℕ → List (List ℕ) → List Clone
clones_from P (f ∷ fs) (name ∷ names) = record { name = name; original = name_of P f } ∷ clones_from P fs names
clones_from P _ _ = []

-- The functions that a plan clones, each with a fresh name for its clone.
abbrev pub clones_of : Program → Plan → List Clone
clones_of P plan = clones_from P (cloned P plan) (fresh_names P (cloned P plan))

-- ---- declarations

-- The instruction is a call of the function of that name.
abbrev pub is_call_of : List ℕ → Instr → Bool
is_call_of name (Call dest ret callee args) = bytes_eq callee name
is_call_of name _ = false

-- Whether an instruction of a body is inserted, and calls that function.
abbrev pub inserts : List ℕ → List Marked → Bool
inserts name ms = list_any (λ m. m.1 && is_call_of name m.0) ms

-- Whether a call of that function is inserted in these blocks of function f, or of its clone; the first block has
-- number b.
abbrev pub inserts_in : List ℕ → List Clone → Wanted → Bool → ℕ → ℕ → List Block → Bool
inserts_in name clones w clone f b [] = false
inserts_in name clones w clone f b (x ∷ xs) =
    inserts name (repaired_body clones w clone f b 0 x.body) || inserts_in name clones w clone f (suc b) xs

-- Whether a call of that function is inserted in these functions, the first of which has number f; their clones do not
-- count.
abbrev pub inserts_from : List ℕ → List Clone → Wanted → ℕ → List Function → Bool
inserts_from name clones w f [] = false
inserts_from name clones w f (x ∷ xs) =
    inserts_in name clones w false f 0 x.blocks || inserts_from name clones w (suc f) xs

-- Whether a call of that function is inserted in the clone of function f; false if there is no such function.
abbrev pub inserts_cloned : List ℕ → List Clone → Wanted → ℕ → Option Function → Bool
inserts_cloned name clones w f None = false
inserts_cloned name clones w f (Some x) = inserts_in name clones w true f 0 x.blocks

-- Whether some inserted call names that function.
abbrev pub needs : Program → Plan → Wanted → List ℕ → Bool
needs P plan w name =
    inserts_from name (clones_of P plan) w 0 P.functions
    || list_any (λ f. inserts_cloned name (clones_of P plan) w f (slice_get P.functions f)) (cloned P plan)

-- The declaration of a function without a result, if it is needed and none of these declarations has its name; else
-- nothing.
abbrev pub declared_if : Bool → List Extern → List ℕ → List Scalar → List Extern
declared_if wanted externs name params =
    cond (wanted && not (is_among (map (λ e. e.name) externs) name))
    (record { ret = None; name = name; params = params } ∷ []) []

-- The declarations that inserted calls need and that are absent.
abbrev pub added_externs : Program → Plan → Wanted → List Extern
added_externs P plan w =
    declared_if (needs P plan w clwb_name) P.externs clwb_name (Ptr ∷ [])
    ++ (declared_if (needs P plan w sfence_name) P.externs sfence_name []
    ++ declared_if (needs P plan w pmem_flush_name) P.externs pmem_flush_name (Ptr ∷ Int W64 ∷ []))

-- ---- the program

-- The program repaired at these sites, with the clones of the plan. Clones follow all functions, and new declarations
-- follow the program's.
abbrev pub repaired_by : Program → Plan → Wanted → Program
repaired_by P plan w =
    record {
      globals = P.globals;
      externs = P.externs ++ added_externs P plan w;
      functions =
          repaired_functions (clones_of P plan) w 0 P.functions
          ++ clone_functions P (clones_of P plan) w (cloned P plan) (fresh_names P (cloned P plan));
    }

-- The program repaired by a plan; its clones get no flush by cloning at the stores to skip.
abbrev pub repaired : Program → Plan → (Site → Bool) → Program
repaired P plan skip = repaired_by P plan (wanted_by plan skip)
