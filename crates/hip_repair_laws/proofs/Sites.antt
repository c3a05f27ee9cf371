-- The text of a site tells the site.
use Rattle.std.proofs.Common.{◌≡◌, ℕ, ◌<◌, ◌^◌, ◌&&◌, ◌||◌, Bool, true, false, List, [], ◌∷◌, ◌++◌, map, Option, Some, None, slice_get, is_some, refl, sym, ap, ◌∙◌, subst, append_assoc}
use Rattle.std.specs.Prelude.{◌==◌, codes, option_and_then}
use Rattle.std.specs.Str.{byte}
use Rattle.std.specs.Fmt.{decimal}
use Rattle.std.specs.List.{list_all}
use Rattle.std.proofs.lemmas.Bool.{and_parts}
use Rattle.hip_grammar.specs.Laws.SpellingExact.{spelled_exact}
use Rattle.hip_grammar.specs.Spelling.{not_empty, spelled_block, spelled_end, spelled_extern, spelled_function, spelled_global, spelled_instr, spelled_param, spelled_phi, spelled_program}
use Rattle.hip_invariants.specs.Laws.Entry.{own_number}
use Rattle.hip_names.specs.Names.{AllDiffer}
use Rattle.hip_names.specs.Laws.DifferLaws.{differ_second}
use Rattle.hip_report_lines.specs.Reports.{site_text}
use Rattle.hip_repair_laws.proofs.Cuts.{all_at, cut, digits_pass, is_decimal, passes_at, same_item, same_number, same_place, same_tail}
use Rattle.hip_repair_laws.specs.ReadBack.{IsShortSite}
use Rattle.hip_runs.specs.Places.{label_of}
use Rattle.hip_sound.specs.NumberedNames.{global_names, name_in}
use Rattle.hip_sound.specs.Sound.{IsSound, callee_names, label_number, names_in_function}
use Rattle.hip_tokens.specs.Bytes.{begins_name, goes_on_name, is_digit}
use Rattle.hip_tokens.specs.Longest.{is_name}
use Rattle.hip_tree.specs.Sites.{block_of, instr_of}
use Rattle.hip_tree.specs.declared.block.Block.{Block}
use Rattle.hip_tree.specs.declared.instr.Instr.{Instr}
use Rattle.hip_tree.specs.declared.program.Function.{Function}
use Rattle.hip_tree.specs.declared.program.Program.{Program}
use Rattle.hip_tree.specs.declared.site.Site.{Site}

goes_on : (b : ℕ) → begins_name b ≡ true → goes_on_name b ≡ true
goes_on b e = ap (λ x. x || is_digit b || (b == byte "-")) e

name_goes_on : (name : List ℕ) → is_name name ≡ true → list_all goes_on_name name ≡ true
name_goes_on [] e = refl
name_goes_on (b ∷ bs) e =
    let parts = and_parts (begins_name b) (list_all goes_on_name bs) e in
    ap (λ x. x && list_all goes_on_name bs) (goes_on b parts.0) ∙ parts.1

regrouped : (a n b l c d e : List ℕ)
    → (((((a ++ n) ++ b) ++ l) ++ c) ++ d) ++ e ≡ a ++ (n ++ (b ++ (l ++ (c ++ (d ++ e)))))
regrouped a n b l c d e = simp append_assoc

module _ (P : Program) (sound : IsSound P) where
  -- The function and the block of a site.
  record Found (s : Site) : Type 0 where
    fn : Function
    block : Block
    function_at : slice_get P.functions s.function ≡ Some fn
    block_at : slice_get fn.blocks s.block ≡ Some block

  found : (s : Site) → is_some (instr_of P s) ≡ true → Found s
  found s e = go (slice_get P.functions s.function) refl e
    where
      inner : (fn : Function) → slice_get P.functions s.function ≡ Some fn → (o : Option Block)
          → slice_get fn.blocks s.block ≡ o
          → is_some (option_and_then (λ (b : Block). slice_get b.body s.index) o) ≡ true → Found s
      inner fn at None there e = absurd (let z : ⊥ = cc in z)
      inner fn at (Some block) there e = record { fn = fn; block = block; function_at = at; block_at = there }

      go : (o : Option Function) → slice_get P.functions s.function ≡ o
          → is_some (option_and_then (λ (b : Block). slice_get b.body s.index)
          (option_and_then (λ (f : Function). slice_get f.blocks s.block) o)) ≡ true → Found s
      go None at e = absurd (let z : ⊥ = cc in z)
      go (Some fn) at e = inner fn at (slice_get fn.blocks s.block) refl e

  functions_spelled : list_all spelled_function P.functions ≡ true
  functions_spelled =
      let whole : spelled_program P ≡ true = (spelled_exact P).1 sound.spelled in
      let later = (and_parts (list_all spelled_global P.globals)
      (list_all spelled_extern P.externs && list_all spelled_function P.functions) whole).1 in
      (and_parts (list_all spelled_extern P.externs) (list_all spelled_function P.functions) later).1

  function_spelled : (s : Site) (f : Found s) → spelled_function f.fn ≡ true
  function_spelled s f = passes_at spelled_function P.functions s.function f.fn functions_spelled f.function_at

  name_passes : (s : Site) (f : Found s) → list_all goes_on_name f.fn.name ≡ true
  name_passes s f = name_goes_on f.fn.name (and_parts (is_name f.fn.name)
      (list_all spelled_param f.fn.params && (not_empty f.fn.blocks && list_all spelled_block f.fn.blocks))
      (function_spelled s f)).0

  label_passes : (s : Site) (f : Found s) → list_all goes_on_name f.block.label ≡ true
  label_passes s f =
      let later = (and_parts (is_name f.fn.name)
      (list_all spelled_param f.fn.params && (not_empty f.fn.blocks && list_all spelled_block f.fn.blocks))
      (function_spelled s f)).1 in
      let blocks = (and_parts (list_all spelled_param f.fn.params)
      (not_empty f.fn.blocks && list_all spelled_block f.fn.blocks) later).1 in
      let all = (and_parts (not_empty f.fn.blocks) (list_all spelled_block f.fn.blocks) blocks).1 in
      name_goes_on f.block.label (and_parts (is_name f.block.label)
      (list_all spelled_phi f.block.phis && (list_all spelled_instr f.block.body && spelled_end f.block.end))
      (passes_at spelled_block f.fn.blocks s.block f.block all f.block_at)).0

  -- The text of a site and what follows, cut at its marks.
  laid_out : (s : Site) (f : Found s) (rest : List ℕ) → site_text P s ++ rest
      ≡ 64 ∷ (f.fn.name ++ 58 ∷ (f.block.label ++ 58 ∷ (decimal s.index ++ rest)))
  laid_out s f rest =
      regrouped (codes "@") (name_in (slice_get P.functions s.function)) (codes ":")
      (label_of (block_of P s.function s.block)) (codes ":") (decimal s.index) rest
      ∙ ap (λ n. 64 ∷ (n ++ 58 ∷ (label_of (block_of P s.function s.block) ++ 58 ∷ (decimal s.index ++ rest))))
      (ap name_in f.function_at)
      ∙ ap (λ l. 64 ∷ (f.fn.name ++ 58 ∷ (l ++ 58 ∷ (decimal s.index ++ rest)))) (ap label_of block_is)
    where
      block_is : block_of P s.function s.block ≡ Some f.block
      block_is = ap (option_and_then (λ (x : Function). slice_get x.blocks s.block)) f.function_at ∙ f.block_at

  functions_differ : AllDiffer (map (λ (f : Function). f.name) P.functions)
  functions_differ =
      differ_second (map (λ e. e.name) P.externs) (map (λ (f : Function). f.name) P.functions)
      (differ_second (global_names P) (callee_names P) sound.names_differ)

  same_site_is : (s z : Site) (f : Found s) (g : Found z) → f.fn.name ≡ g.fn.name → f.block.label ≡ g.block.label
      → s.index ≡ z.index → s ≡ z
  same_site_is s z f g names labels index = λ i. record { function = function i; block = block i; index = index i }
    where
      function : s.function ≡ z.function
      function = same_place (λ (x : Function). x.name) P.functions s.function z.function f.fn g.fn functions_differ
          f.function_at g.function_at names

      same_fn : f.fn ≡ g.fn
      same_fn = same_item f.fn g.fn (sym f.function_at
          ∙ ap (slice_get P.functions) function ∙ g.function_at)

      block : s.block ≡ z.block
      block = same_item s.block z.block
          (sym (own_number f.fn s.block f.block inner f.block_at)
          ∙ ap (label_number f.fn) labels
          ∙ own_number f.fn z.block g.block inner
          (subst (λ (x : Function). slice_get x.blocks z.block ≡ Some g.block) (sym same_fn) g.block_at))
        where
          inner : AllDiffer (names_in_function f.fn)
          inner = all_at (λ x. AllDiffer (names_in_function x)) P.functions s.function f.fn sound.inner_names_differ
              f.function_at

  -- Two sites with the same text before bytes that are no digits are one site.
  pub site_cut : (s z : Site) (c d : ℕ) (xs ys : List ℕ) → is_some (instr_of P s) ≡ true
      → is_some (instr_of P z) ≡ true → IsShortSite s → IsShortSite z → is_decimal c ≡ false → is_decimal d ≡ false
      → site_text P s ++ c ∷ xs ≡ site_text P z ++ d ∷ ys → (s ≡ z) × (c ∷ xs ≡ d ∷ ys)
  site_cut s z c d xs ys there here short small nc nd e =
      let f = found s there in
      let g = found z here in
      let whole = sym (laid_out s f (c ∷ xs)) ∙ e ∙ laid_out z g (d ∷ ys) in
      let names = cut goes_on_name f.fn.name g.fn.name 58 58
      (f.block.label ++ 58 ∷ (decimal s.index ++ c ∷ xs)) (g.block.label ++ 58 ∷ (decimal z.index ++ d ∷ ys))
      (name_passes s f) (name_passes z g) refl refl (same_tail 64 64 _ _ whole) in
      let labels = cut goes_on_name f.block.label g.block.label 58 58 (decimal s.index ++ c ∷ xs)
      (decimal z.index ++ d ∷ ys) (label_passes s f) (label_passes z g) refl refl (same_tail 58 58 _ _ names.1) in
      let index = cut is_decimal (decimal s.index) (decimal z.index) c d xs ys (digits_pass s.index short)
      (digits_pass z.index small) nc nd (same_tail 58 58 _ _ labels.1) in
      (same_site_is s z f g names.0 labels.0 (same_number s.index z.index short small index.0), index.1)
