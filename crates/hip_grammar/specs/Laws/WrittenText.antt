-- The canonical text of a program that meets the rules of spelling reads as the program.
use Rattle.std.proofs.Common.{◌≡◌, ℕ, Bool, true, false, List, [], ◌∷◌, ◌++◌, map, Option, Some, None, ◌&&◌, refl, subst, append_assoc, append-nil, codes}
use Rattle.std.specs.List.{list_all, flat_map}
use Rattle.std.proofs.lemmas.Bool.{and_parts}
use Rattle.hip_types.specs.declared.number.Scalar.{Scalar}
use Rattle.hip_tokens.specs.Longest.{is_name}
use Rattle.hip_tokens.specs.Tokens.{Str, At, cut, piece_at, string_piece, tokens}
use Rattle.hip_tokens.specs.Written.{ends_word}
use Rattle.hip_grammar.specs.Rule.{Rule, one, both, many}
use Rattle.hip_grammar.specs.Reader.{folded}
use Rattle.hip_grammar.specs.Production.{skipped}
use Rattle.hip_grammar.specs.Laws.Texts.{DerivesText, Leaves, anything, then_text, last_text, nothing_text, token_text, word_then, local_text, global_text, mark_text, mark_then, blank_text, blank_past, left_text, right_text, none_text, some_text, no_more_text, mapped_texts, many_texts, joined_texts}
use Rattle.hip_tree.specs.declared.block.Block.{Block}
use Rattle.hip_grammar.specs.declared.fault.TextFault.{TextFault}
use Rattle.hip_tree.specs.declared.program.Extern.{Extern}
use Rattle.hip_tree.specs.declared.program.Function.{Function}
use Rattle.hip_tree.specs.declared.program.GlobalVar.{GlobalVar}
use Rattle.hip_tree.specs.declared.program.Param.{Param}
use Rattle.hip_tree.specs.declared.program.Program.{Program}
use Rattle.hip_grammar.specs.Words.{a_section, a_word_of, fixed_word, scalar_text}
use Rattle.hip_grammar.specs.Grammar.{scalar}
use Rattle.hip_grammar.specs.Bodies.{block}
use Rattle.hip_grammar.specs.Text.{TextItem, GlobalItem, ExternItem, FunctionItem, links, linkages, section, only_align, placement, place, global, extern_item, param, blocks, function, item, with_item, text}
use Rattle.hip_grammar.specs.Show.{align_text, block_text, section_text, fixed_text, global_text as global_item_text, extern_text, param_text, function_text, show}
use Rattle.hip_grammar.specs.Spelling.{not_empty, spelled_align, spelled_type, spelled_const, spelled_block, spelled_global, spelled_extern, spelled_param, spelled_function, spelled_program}
use Rattle.hip_grammar.specs.ReadTexts.{IsSpelled}
use Rattle.hip_grammar.specs.Laws.WrittenNumbers.{alignment_text}
use Rattle.hip_grammar.specs.Laws.WrittenLists.{listed_are}
use Rattle.hip_grammar.specs.Laws.WrittenTypes.{scalar_is, ret_is, type_is}
use Rattle.hip_grammar.specs.Laws.WrittenConsts.{const_is, all_pass}
use Rattle.hip_grammar.specs.Laws.WrittenInstrs.{align_is}
use Rattle.hip_grammar.specs.Laws.WrittenBlocks.{block_is}

-- ---- globals

fixed_is : (fixed : Bool) (t : List ℕ) {B : Type 0} (f : Bool → Rule TextFault B) (y : B)
    → DerivesText anything (f fixed) t y
    → DerivesText anything (both (one (a_word_of fixed_word)) f) (fixed_text fixed ++ t) y
fixed_is true t f y q = word_then _ f (codes "constant") refl refl q
fixed_is false t f y q = word_then _ f (codes "global") refl refl q

-- `".pm"`.
section_name : DerivesText anything (one a_section) (codes "\".pm\"") tt
unfolding cut piece_at string_piece
section_name = token_text _ (Str (codes ".pm")) (λ line rest e. refl) refl

place_is : (persistent : Bool) (n : Option ℕ) → spelled_align n ≡ true
    → DerivesText ends_word place.rule (section_text persistent ++ align_text n) (persistent, n)
unfolding place placement section only_align
place_is true n e =
    last_text _ (some_text (mark_then _ _ 44 refl refl
    (blank_text 32 refl (left_text _ (word_then _ _ (codes "section") refl refl
    (then_text _ section_name (last_text _ (align_is n e) (nothing_text anything)) (λ rest h. refl)))))))
    (nothing_text anything)
place_is false None e = last_text _ (none_text _ ends_word) (nothing_text anything)
place_is false (Some n) e =
    last_text _ (some_text (mark_then _ _ 44 refl refl
    (blank_text 32 refl (right_text _ (word_then _ _ (codes "align") refl refl
    (last_text _ (alignment_text n e) (nothing_text anything))))))) (nothing_text anything)

place_line : (persistent : Bool) (n : Option ℕ) → spelled_align n ≡ true
    → DerivesText anything place.rule (section_text persistent ++ (align_text n ++ codes "\n")) (persistent, n)
place_line persistent n e =
    subst (λ s. DerivesText anything place.rule s (persistent, n))
    (append_assoc (section_text persistent) (align_text n) (codes "\n"))
    (blank_past 10 refl (λ rest h. refl) (place_is persistent n e))

place_leaves : (persistent : Bool) (n : Option ℕ)
    → Leaves ends_word (section_text persistent ++ (align_text n ++ codes "\n")) anything
place_leaves true n rest e = refl
place_leaves false None rest e = refl
place_leaves false (Some n) rest e = refl

no_linkages : DerivesText anything linkages.rule [] tt
unfolding skipped
no_linkages = last_text _ (no_more_text _ anything) (nothing_text anything)

no_links : DerivesText anything links.rule [] tt
unfolding skipped
no_links = last_text _ (no_more_text _ anything) (nothing_text anything)

global_is : (g : GlobalVar) → spelled_global g ≡ true
    → DerivesText anything global.rule (global_item_text g) (GlobalItem g)
unfolding global
global_is g h =
    let p = and_parts (is_name g.name) (spelled_type g.ty && (spelled_const g.ty g.init && spelled_align g.align)) h in
    let q = and_parts (spelled_type g.ty) (spelled_const g.ty g.init && spelled_align g.align) p.1 in
    let r = and_parts (spelled_const g.ty g.init) (spelled_align g.align) q.1 in
    then_text _ (global_text _ g.name p.0 refl)
    (blank_text 32 refl (mark_then _ _ 61 refl refl
    (blank_text 32 refl (then_text _ {s = []} no_linkages (fixed_is g.fixed _ _ _
    (then_text _ (type_is 32 g.ty q.0) (blank_text 32 refl
    (then_text _ (const_is 32 g.ty g.init r.0)
    (last_text _ (place_line g.persistent g.align r.1) (nothing_text anything))
    (place_leaves g.persistent g.align)))
    (λ rest h. refl))) (λ rest h. refl))))) (λ rest h. refl)

-- ---- externs and functions

scalar_listed : (s : Scalar) → true ≡ true → DerivesText ends_word scalar.rule (scalar_text s) s
scalar_listed s e = scalar_is s

extern_is : (e : Extern) → spelled_extern e ≡ true
    → DerivesText anything extern_item.rule (extern_text e) (ExternItem e)
unfolding extern_item
extern_is e h =
    word_then _ _ (codes "declare") refl refl
    (then_text _ (ret_is e.ret) (blank_text 32 refl
    (then_text _ (global_text _ e.name h refl) (mark_then _ _ 40 refl refl
    (then_text _ (listed_are scalar scalar_text (λ s. true) scalar_listed 41 (codes ")") (mark_text _ 41 refl refl)
    (λ rest h. refl) e.params (all_pass e.params))
    (blank_text 10 refl (last_text _ (none_text _ anything) (nothing_text anything))) (λ rest h. refl)))
    (λ rest h. refl))) (λ rest h. refl))

param_is : (p : Param) → spelled_param p ≡ true → DerivesText ends_word param.rule (param_text p) p
unfolding param
param_is p e =
    then_text _ (scalar_is p.ty) (blank_text 32 refl (last_text _ (local_text _ p.name e refl) (nothing_text anything)))
    (λ rest h. refl)

blocks_are : (bs : List Block) → not_empty bs ≡ true → list_all spelled_block bs ≡ true
    → DerivesText anything blocks.rule (flat_map block_text bs) bs
unfolding blocks
blocks_are [] some h = absurd cc
blocks_are (b ∷ bs) some h =
    let p = and_parts (spelled_block b) (list_all spelled_block bs) h in
    then_text _ (block_is b p.0) (last_text _
    (many_texts block.rule block_text anything spelled_block block_is (λ b rest. refl) bs p.1)
    (nothing_text anything)) (λ rest h. refl)

function_is : (f : Function) → spelled_function f ≡ true
    → DerivesText anything function.rule (function_text f) (FunctionItem f)
unfolding function
function_is f h =
    let p =
    and_parts (is_name f.name) (list_all spelled_param f.params
    && (not_empty f.blocks && list_all spelled_block f.blocks)) h in
    let q = and_parts (list_all spelled_param f.params) (not_empty f.blocks && list_all spelled_block f.blocks) p.1 in
    let r = and_parts (not_empty f.blocks) (list_all spelled_block f.blocks) q.1 in
    word_then _ _ (codes "define") refl refl (then_text _ {s = []} no_links
    (then_text _ (ret_is f.ret) (blank_text 32 refl
    (then_text _ (global_text _ f.name p.0 refl) (mark_then _ _ 40 refl refl
    (then_text _ (listed_are param param_text spelled_param param_is 41 (codes ")") (mark_text _ 41 refl refl)
    (λ rest h. refl) f.params q.0)
    (then_text _ {s = []} (none_text _ anything)
    (blank_text 32 refl (mark_then _ _ 123 refl refl (blank_text 10 refl (then_text _ (blocks_are f.blocks r.0 r.1)
    (last_text _ (blank_past 10 refl (λ rest h. refl) (mark_text _ 125 refl refl)) (nothing_text anything))
    (λ rest h. refl))))) (λ rest h. refl)) (λ rest h. refl))) (λ rest h. refl))) (λ rest h. refl))
    (λ rest h. refl))

-- ---- texts

global_listed : (g : GlobalVar) → spelled_global g ≡ true
    → DerivesText anything item.rule (global_item_text g) (GlobalItem g)
unfolding item
global_listed g h = left_text _ (global_is g h)

extern_listed : (e : Extern) → spelled_extern e ≡ true
    → DerivesText anything item.rule (extern_text e) (ExternItem e)
unfolding item
extern_listed e h = right_text _ (left_text _ (extern_is e h))

function_listed : (f : Function) → spelled_function f ≡ true
    → DerivesText anything item.rule (function_text f) (FunctionItem f)
unfolding item
function_listed f h = right_text _ (right_text _ (left_text _ (function_is f h)))

-- The items of the canonical text, in its order.
abbrev items_of : Program → List TextItem
items_of p = map GlobalItem p.globals ++ (map ExternItem p.externs ++ map FunctionItem p.functions)

items_are : (p : Program) → spelled_program p ≡ true → DerivesText anything (many item.rule) (show p) (items_of p)
items_are p h =
    let q =
    and_parts (list_all spelled_global p.globals)
    (list_all spelled_extern p.externs && list_all spelled_function p.functions) h in
    let r = and_parts (list_all spelled_extern p.externs) (list_all spelled_function p.functions) q.1 in
    joined_texts item.rule (mapped_texts item.rule global_item_text GlobalItem anything spelled_global global_listed
    (λ g rest. refl) p.globals q.0)
    (joined_texts item.rule (mapped_texts item.rule extern_text ExternItem anything spelled_extern extern_listed
    (λ e rest. refl) p.externs r.0)
    (mapped_texts item.rule function_text FunctionItem anything spelled_function function_listed
    (λ f rest. refl) p.functions r.1) (λ rest h. refl)) (λ rest h. refl)

-- Each function goes to the end of the list of functions.
functions_taken : (gs : List GlobalVar) (es : List Extern) (fs ms : List Function)
    → folded with_item (record { globals = gs; externs = es; functions = fs })
    (map FunctionItem ms) ≡ record { globals = gs; externs = es; functions = fs ++ ms }
functions_taken gs es fs [] = rw (append-nil fs) refl
functions_taken gs es fs (m ∷ ms) = rw (← append_assoc fs (m ∷ []) ms) (functions_taken gs es (fs ++ m ∷ []) ms)

externs_taken : (gs : List GlobalVar) (es ns : List Extern) (ms : List Function)
    → folded with_item (record { globals = gs; externs = es; functions = [] })
    (map ExternItem ns ++ map FunctionItem ms) ≡ record { globals = gs; externs = es ++ ns; functions = ms }
externs_taken gs es [] ms = rw (append-nil es) (functions_taken gs es [] ms)
externs_taken gs es (n ∷ ns) ms = rw (← append_assoc es (n ∷ []) ns) (externs_taken gs (es ++ n ∷ []) ns ms)

globals_taken : (gs hs : List GlobalVar) (ns : List Extern) (ms : List Function)
    → folded with_item (record { globals = gs; externs = []; functions = [] })
    (map GlobalItem hs ++ (map ExternItem ns ++ map FunctionItem ms))
    ≡ record { globals = gs ++ hs; externs = ns; functions = ms }
globals_taken gs [] ns ms = rw (append-nil gs) (externs_taken gs [] ns ms)
globals_taken gs (h ∷ hs) ns ms = rw (← append_assoc gs (h ∷ []) hs) (globals_taken (gs ++ h ∷ []) hs ns ms)

text_is : (p : Program) → spelled_program p ≡ true → DerivesText anything text.rule (show p) p
unfolding text
text_is p h =
    subst (DerivesText anything text.rule (show p)) (globals_taken [] p.globals p.externs p.functions)
    (last_text _ (items_are p h) (nothing_text anything))

end_of_tokens : (line : ℕ) → cut line 0 [] ≡ []
unfolding cut
end_of_tokens line = refl

-- A program that meets the rules is spelled: its canonical text reads as it.
pub spelled_is_read : (p : Program) → spelled_program p ≡ true → IsSpelled p
spelled_is_read p h =
    let q = (text_is p h).derives 1 [] refl in
    subst (λ (ts : List At). text.rule.Derives (tokens (show p)) p ts) (end_of_tokens q.0)
    (subst (λ (s : List ℕ). text.rule.Derives (tokens s) p (cut q.0 0 [])) (append-nil (show p)) q.1)
