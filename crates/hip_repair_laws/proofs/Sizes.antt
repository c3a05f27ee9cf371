-- The text of a repaired program takes at most ten times as many bytes as the program's, and 104 more.
use Rattle.std.proofs.Common.{◌≡◌, ℕ, suc, ◌+◌, ◌*◌, ◌^◌, ◌<◌, ◌≤◌, Bool, true, false, cond, not, ◌&&◌, ◌||◌, List, [], ◌∷◌, ◌++◌, map, length, Option, Some, None, slice_get, codes, ap, ◌∙◌, arith, length-append}
use Rattle.std.specs.List.{flat_map}
use Rattle.std.proofs.lemmas.Grind.{flat_map-append}
use Rattle.std.proofs.lemmas.List.{length-map, map-append}
use Rattle.hip_names.specs.Names.{is_among}
use Rattle.hip_types.specs.declared.number.Scalar.{Scalar}
use Rattle.hip_types.specs.declared.number.Scalar.TheVariants as scalars
use Rattle.hip_types.specs.declared.number.Width.TheVariants.{W64}
use Rattle.hip_tree.specs.declared.block.Block.{Block}
use Rattle.hip_tree.specs.declared.instr.Instr.{Instr}
use Rattle.hip_tree.specs.declared.program.Extern.{Extern}
use Rattle.hip_tree.specs.declared.program.Function.{Function}
use Rattle.hip_tree.specs.declared.program.GlobalVar.{GlobalVar}
use Rattle.hip_tree.specs.declared.program.Program.{Program}
use Rattle.hip_tree.specs.declared.site.Site.{Site}
use Rattle.hip_grammar.specs.Show.{align_text, block_text, const_text, end_text, extern_text, fixed_text, function_text, global_text, instr_line, line_of, param_text, parenthesized, phi_line, section_text, show, type_text}
use Rattle.hip_grammar.specs.Words.{ret_text}
use Rattle.hip_sound.specs.NumberedNames.{name_in}
use Rattle.hip_sound.specs.Sound.{top_names}
use Rattle.hip_calls.specs.Fresh.{fresh_for, fresh_name, fresh_names, name_of}
use Rattle.hip_calls.specs.Laws.ReachLaws.{callees-distinct, callees-length}
use Rattle.hip_repairs.specs.Repaired.{Clone, Marked, Wanted, added_externs, clone_functions, clone_in, cloned, clones_of, clwb_name, declared_if, inserted_after, instrs_of, needs, pmem_flush_name, renamed, repaired, repaired_blocks, repaired_body, repaired_function, repaired_functions, sfence_name, wanted_by}
use Rattle.hip_repairs.specs.declared.plan.Plan.{Plan}
use Rattle.hip_repair_laws.proofs.LongLines.{both, grown, lines_size}
use Rattle.hip_repair_laws.proofs.Names.{AreShort, clones_short, fresh_size}
use Rattle.hip_repair_laws.proofs.Weights.{half_as_many, size_of, weight_of, weights_at, weights_within, whole_of}
use Rattle.hip_repair_laws.specs.Sizes.{StaysSmall}

-- The texts of the items of two lists in a row.
texts_size : {A : Type 0} (text : A → List ℕ) (xs ys : List A)
    → length (flat_map text (xs ++ ys)) ≡ length (flat_map text xs) + length (flat_map text ys)
texts_size text xs ys = ap length (flat_map-append text xs ys) ∙ both (flat_map text xs) (flat_map text ys)

marked_size : (xs ys : List Marked)
    → lines_size (instrs_of (xs ++ ys)) ≡ lines_size (instrs_of xs) + lines_size (instrs_of ys)
marked_size xs ys =
    ap lines_size (map-append (λ (m : Marked). m.0) xs ys) ∙ texts_size instr_line (instrs_of xs) (instrs_of ys)

block_shape : (l p b e : List ℕ) → length (l ++ (codes ":\n" ++ (p ++ (b ++ e))))
    ≡ 2 + (length l + (length p + (length b + length e)))
block_shape l p b e = omega (arith, both l (codes ":\n" ++ (p ++ (b ++ e))), both p (b ++ e), both b e)

function_shape : (r n p b : List ℕ)
    → length (codes "define " ++ (r ++ (codes " @" ++ (n ++ (p ++ (codes " {\n" ++ (b ++ codes "}\n")))))))
    ≡ 14 + (length r + (length n + (length p + length b)))
function_shape r n p b =
    omega (
      arith,
      both r (codes " @" ++ (n ++ (p ++ (codes " {\n" ++ (b ++ codes "}\n"))))),
      both n (p ++ (codes " {\n" ++ (b ++ codes "}\n"))),
      both p (codes " {\n" ++ (b ++ codes "}\n")),
      both b (codes "}\n"),
    )

module _ (clones : List Clone) (short : AreShort clones) (w : Wanted) where
  -- ---- functions

  body_size : (clone : Bool) (f b k : ℕ) (is : List Instr)
      → lines_size (instrs_of (repaired_body clones w clone f b k is)) ≤ 5 * lines_size is
  body_size clone f b k [] = omega arith
  body_size clone f b k (i ∷ is) =
      let s : Site = record { function = f; block = b; index = k } in
      let to_clone : Bool = clone || w.hoist s in
      let flush : Bool = w.flush_after s || (clone && not (w.skip s)) in
      let fence : Bool = w.fence_after s || w.hoist s in
      let more : List Marked = repaired_body clones w clone f b (suc k) is in
      omega (
        arith,
        grown clones short i to_clone flush fence,
        body_size clone f b (suc k) is,
        marked_size (inserted_after w clone s i) more,
        both (instr_line (renamed clones i to_clone)) (flat_map instr_line (instrs_of (inserted_after w clone s i ++ more))),
        both (instr_line i) (flat_map instr_line is),
      )

  blocks_size : (clone : Bool) (f b : ℕ) (xs : List Block)
      → length (flat_map block_text (repaired_blocks clones w clone f b xs)) ≤ 5 * length (flat_map block_text xs)
  blocks_size clone f b [] = omega arith
  blocks_size clone f b (x ∷ xs) =
      let body : List Instr = instrs_of (repaired_body clones w clone f b 0 x.body) in
      let new : Block = record { label = x.label; phis = x.phis; body = body; end = x.end } in
      omega (
        arith,
        body_size clone f b 0 x.body,
        blocks_size clone f (suc b) xs,
        block_shape x.label (flat_map phi_line x.phis) (flat_map instr_line x.body) (line_of (end_text x.end)),
        block_shape x.label (flat_map phi_line x.phis) (flat_map instr_line body) (line_of (end_text x.end)),
        both (block_text x) (flat_map block_text xs),
        both (block_text new) (flat_map block_text (repaired_blocks clones w clone f (suc b) xs)),
      )

  function_size : (clone : Bool) (f : ℕ) (name : List ℕ) (x : Function) → length name ≤ length x.name + 11
      → length (function_text (repaired_function clones w clone f name x)) ≤ 5 * length (function_text x)
  function_size clone f name x h =
      omega (
        arith,
        h,
        blocks_size clone f 0 x.blocks,
        function_shape (ret_text x.ret) x.name (parenthesized (map param_text x.params)) (flat_map block_text x.blocks),
        function_shape (ret_text x.ret) name (parenthesized (map param_text x.params))
            (flat_map block_text (repaired_blocks clones w clone f 0 x.blocks)),
      )

  functions_size : (f : ℕ) (xs : List Function)
      → length (flat_map function_text (repaired_functions clones w f xs)) ≤ 5 * length (flat_map function_text xs)
  functions_size f [] = omega arith
  functions_size f (x ∷ xs) =
      omega (
        arith,
        function_size false f x.name x (omega arith),
        functions_size (suc f) xs,
        both (function_text x) (flat_map function_text xs),
        both (function_text (repaired_function clones w false f x.name x))
            (flat_map function_text (repaired_functions clones w (suc f) xs)),
      )

  -- ---- clones

  clone_size : (f : ℕ) (name : List ℕ) (o : Option Function) → length name ≤ length (name_in o) + 11
      → length (flat_map function_text (clone_in clones w f name o)) ≤ 5 * size_of function_text o
  clone_size f name None h = omega arith
  clone_size f name (Some x) h =
      omega (arith, function_size true f name x h, both (function_text (repaired_function clones w true f name x)) [])

  clones_size : (P : Program) (taken : List (List ℕ)) (fs : List ℕ) → length taken + length fs ≤ 10 ^ 8
      → length (flat_map function_text (clone_functions P clones w fs (fresh_for taken (map (name_of P) fs))))
      ≤ 5 * weights_at (map (λ x. length (function_text x)) P.functions) fs
  clones_size P taken [] h = omega arith
  clones_size P taken (f ∷ fs) h =
      let name : List ℕ = fresh_name taken (name_of P f) in
      let few : length taken < 10 ^ 8 = omega (arith, h) in
      let rest = clones_size P (name ∷ taken) fs (omega (arith, h)) in
      omega (
        arith,
        rest,
        clone_size f name (slice_get P.functions f) (fresh_size taken (name_of P f) few),
        weight_of function_text P.functions f,
        texts_size function_text (clone_in clones w f name (slice_get P.functions f))
            (clone_functions P clones w fs (fresh_for (name ∷ taken) (map (name_of P) fs))),
      )

-- ---- declarations

declaration_size : (b : Bool) (e : Extern) (n : ℕ) → length (extern_text e) ≤ n
    → length (flat_map extern_text (cond b (e ∷ []) [])) ≤ n
declaration_size true e n h = omega (arith, h, both (extern_text e) [])
declaration_size false e n h = omega arith

declared_size : (wanted : Bool) (externs : List Extern) (name : List ℕ) (params : List Scalar) (n : ℕ)
    → length (extern_text (record { ret = None; name = name; params = params })) ≤ n
    → length (flat_map extern_text (declared_if wanted externs name params)) ≤ n
declared_size wanted externs name params n h =
    declaration_size (wanted && not (is_among (map (λ (e : Extern). e.name) externs) name))
    (record { ret = None; name = name; params = params }) n h

-- ---- the program

show_shape : (g e f : List ℕ) → length (g ++ (e ++ f)) ≡ length g + (length e + length f)
show_shape g e f = omega (arith, both g (e ++ f), both e f)

global_long : (g : GlobalVar) → 2 ≤ length (global_text g)
global_long g =
    omega (
      arith,
      both g.name (codes " = " ++ (fixed_text g.fixed ++ (type_text g.ty ++ (codes " " ++ (const_text g.init
          ++ (section_text g.persistent ++ (align_text g.align ++ codes "\n"))))))),
    )

extern_long : (e : Extern) → 2 ≤ length (extern_text e)
extern_long e = omega arith

function_long : (f : Function) → 2 ≤ length (function_text f)
function_long f = omega arith

module _ (P : Program) (plan : Plan) (skip : Site → Bool) (small : length (show P) < 10 ^ 8) where
  abbrev globals_size : ℕ
  globals_size = length (flat_map global_text P.globals)

  abbrev externs_size : ℕ
  externs_size = length (flat_map extern_text P.externs)

  abbrev bodies_size : ℕ
  bodies_size = length (flat_map function_text P.functions)

  whole_size : length (show P) ≡ globals_size + (externs_size + bodies_size)
  whole_size = show_shape (flat_map global_text P.globals) (flat_map extern_text P.externs) (flat_map function_text P.functions)

  names_size : length (top_names P) ≡ length P.globals + (length P.externs + length P.functions)
  names_size =
      omega (
        arith,
        length-append (map (λ (g : GlobalVar). g.name) P.globals)
            (map (λ (e : Extern). e.name) P.externs ++ map (λ (f : Function). f.name) P.functions),
        length-append (map (λ (e : Extern). e.name) P.externs) (map (λ (f : Function). f.name) P.functions),
        length-map P.globals (λ (g : GlobalVar). g.name),
        length-map P.externs (λ (e : Extern). e.name),
        length-map P.functions (λ (f : Function). f.name),
      )

  -- Fewer than 100,000,000 names are taken, those of clones included.
  few : length (top_names P) + length (cloned P plan) ≤ 10 ^ 8
  few =
      omega (
        arith,
        names_size,
        whole_size,
        small,
        half_as_many global_text global_long P.globals,
        half_as_many extern_text extern_long P.externs,
        half_as_many function_text function_long P.functions,
        callees-length P plan.hoist,
      )

  short : AreShort (clones_of P plan)
  short = clones_short P (top_names P) (cloned P plan) few

  all_clones : length (flat_map function_text
      (clone_functions P (clones_of P plan) (wanted_by plan skip) (cloned P plan) (fresh_names P (cloned P plan))))
      ≤ 5 * bodies_size
  all_clones =
      omega (
        arith,
        clones_size (clones_of P plan) short (wanted_by plan skip) P (top_names P) (cloned P plan) few,
        weights_within (cloned P plan) (map (λ (x : Function). length (function_text x)) P.functions)
            (callees-distinct P plan.hoist),
        whole_of function_text P.functions,
      )

  all_functions : length (flat_map function_text (repaired P plan skip).functions) ≤ 10 * bodies_size
  all_functions =
      omega (
        arith,
        all_clones,
        functions_size (clones_of P plan) short (wanted_by plan skip) 0 P.functions,
        texts_size function_text (repaired_functions (clones_of P plan) (wanted_by plan skip) 0 P.functions)
            (clone_functions P (clones_of P plan) (wanted_by plan skip) (cloned P plan) (fresh_names P (cloned P plan))),
      )

  added_size : length (flat_map extern_text (added_externs P plan (wanted_by plan skip))) ≤ 104
  added_size =
      let w : Wanted = wanted_by plan skip in
      let line : List Extern = declared_if (needs P plan w clwb_name) P.externs clwb_name (scalars.Ptr ∷ []) in
      let fence : List Extern = declared_if (needs P plan w sfence_name) P.externs sfence_name [] in
      let range : List Extern =
      declared_if (needs P plan w pmem_flush_name) P.externs pmem_flush_name (scalars.Ptr ∷ scalars.Int W64 ∷ []) in
      omega (
        arith,
        texts_size extern_text line (fence ++ range),
        texts_size extern_text fence range,
        declared_size (needs P plan w clwb_name) P.externs clwb_name (scalars.Ptr ∷ []) 33 (omega arith),
        declared_size (needs P plan w sfence_name) P.externs sfence_name [] 36 (omega arith),
        declared_size (needs P plan w pmem_flush_name) P.externs pmem_flush_name (scalars.Ptr ∷ scalars.Int W64 ∷ []) 35
            (omega arith),
      )

  all_externs : length (flat_map extern_text (repaired P plan skip).externs) ≤ externs_size + 104
  all_externs = omega (arith, added_size, texts_size extern_text P.externs (added_externs P plan (wanted_by plan skip)))

  within : length (show (repaired P plan skip)) ≤ 10 * length (show P) + 104
  within =
      omega (
        arith,
        whole_size,
        all_functions,
        all_externs,
        show_shape (flat_map global_text P.globals) (flat_map extern_text (repaired P plan skip).externs)
            (flat_map function_text (repaired P plan skip).functions),
      )

pub stays_small : (P : Program) (plan : Plan) (skip : Site → Bool) → StaysSmall P plan skip
stays_small P plan skip small = within P plan skip small
