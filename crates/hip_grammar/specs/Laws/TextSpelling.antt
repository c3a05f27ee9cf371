-- Every program that a text reads as meets the rules.
use Rattle.std.proofs.Common.{◌≡◌, ℕ, Bool, true, ◌&&◌, List, [], ◌∷◌, ◌++◌, refl, ◌∙◌}
use Rattle.std.specs.List.{list_all}
use Rattle.std.specs.Cmp.Derive.{both_true}
use Rattle.std.proofs.lemmas.Bool.{and_parts}
use Rattle.std.proofs.lemmas.List.Folds.{list_all-append}
use Rattle.hip_tokens.specs.Formed.{tokens_formed}
use Rattle.hip_tokens.specs.Tokens.{tokens}
use Rattle.hip_grammar.specs.Reader.{folded}
use Rattle.hip_grammar.specs.Laws.Yields.{Yields, Any, token_yields, gives_yields, then_yields, after_token, either_yields, repeated_yields, optional_yields, listed_yields, skipped_yields}
use Rattle.hip_tree.specs.declared.program.Program.{Program}
use Rattle.hip_grammar.specs.Words.{is_mark, is_label, comma, a_global, a_local}
use Rattle.hip_grammar.specs.Numbers.{an_alignment}
use Rattle.hip_grammar.specs.Grammar.{scalar}
use Rattle.hip_grammar.specs.Bodies.{block}
use Rattle.hip_grammar.specs.Text.{TextItem, GlobalItem, ExternItem, FunctionItem, DroppedItem, source_filename, target_item, section, only_align, placement, placed, place, global, extern_item, param, blocks, function, item, begins_item, no_items, with_item, text}
use Rattle.hip_grammar.specs.ReadTexts.{Reads}
use Rattle.hip_grammar.specs.Spelling.{not_empty, spelled_align, spelled_global, spelled_extern, spelled_param, spelled_function, spelled_block, spelled_program}
use Rattle.hip_grammar.specs.Laws.SpellingLaws.{local_is, global_is, alignment_is, type_yields, const_yields}
use Rattle.hip_grammar.specs.Laws.BodiesSpelling.{maybe_align_yields, block_yields}

-- An item meets the rules of its kind; an item that is dropped has none.
abbrev spelled_as_item : TextItem → Bool
spelled_as_item (GlobalItem g) = spelled_global g
spelled_as_item (ExternItem e) = spelled_extern e
spelled_as_item (FunctionItem f) = spelled_function f
spelled_as_item DroppedItem = true

source_filename_yields : Yields source_filename (λ i. spelled_as_item i ≡ true)
unfolding source_filename
source_filename_yields =
    after_token _ _ _ (λ _. after_token _ _ _ (λ _. after_token _ _ _ (λ _. gives_yields _ _ refl)))

target_item_yields : Yields target_item (λ i. spelled_as_item i ≡ true)
unfolding target_item
target_item_yields =
    after_token _ _ _ (λ _. after_token _ _ _
    (λ _. after_token _ _ _ (λ _. after_token _ _ _ (λ _. gives_yields _ _ refl))))

-- ---- globals

section_yields : Yields section (λ p. spelled_align p.1 ≡ true)
unfolding section
section_yields =
    after_token _ _ _ (λ _. after_token _ _ _
    (λ _. then_yields _ _ _ _ maybe_align_yields (λ n a. gives_yields _ _ a)))

only_align_yields : Yields only_align (λ p. spelled_align p.1 ≡ true)
unfolding only_align
only_align_yields =
    after_token _ _ _ (λ _. then_yields _ _ _ _ (token_yields an_alignment _ alignment_is)
    (λ n a. gives_yields _ _ a))

placement_yields : Yields placement (λ p. spelled_align p.1 ≡ true)
unfolding placement
placement_yields = after_token _ _ _ (λ _. either_yields _ _ _ _ section_yields only_align_yields)

place_yields : Yields place (λ p. spelled_align p.1 ≡ true)
unfolding place
place_yields =
    then_yields _ _ _ _ (optional_yields comma placement _
    (λ o. spelled_align (placed o).1 ≡ true) placement_yields refl (λ p a. a)) (λ found a. gives_yields _ _ a)

global_yields : Yields global (λ i. spelled_as_item i ≡ true)
unfolding global
global_yields =
    then_yields _ _ _ _ (token_yields a_global _ global_is)
    (λ name n. after_token _ _ _ (λ _. then_yields _ _ _ _ (skipped_yields _ _ (token_yields _ _ (λ t a f e. tt)))
    (λ _ _. after_token _ _ _ (λ fixed.
    then_yields _ _ _ _ (type_yields 32) (λ ty t. then_yields _ _ _ _ (const_yields 32 ty)
    (λ init c. then_yields _ _ _ _ place_yields
    (λ where_it_lies a. gives_yields _ _ (both_true n (both_true t (both_true c a))))))))))

-- ---- externs and functions

extern_yields : Yields extern_item (λ i. spelled_as_item i ≡ true)
unfolding extern_item
extern_yields =
    after_token _ _ _ (λ _. after_token _ _ _
    (λ result. then_yields _ _ _ _ (token_yields a_global _ global_is) (λ name n. after_token _ _ _ (λ _.
    then_yields _ _ _ _ (listed_yields comma (is_mark 41) scalar (λ s. true) (token_yields _ _ (λ t a f e. refl)))
    (λ params p. then_yields _ _ _ _ (optional_yields _ _ Any Any (token_yields _ _ (λ t a f e. tt)) tt (λ a h. tt))
    (λ _ _. gives_yields _ _ n))))))

param_yields : Yields param (λ p. spelled_param p ≡ true)
unfolding param
param_yields =
    after_token _ _ _ (λ s. then_yields _ _ _ _ (token_yields a_local _ local_is) (λ name n. gives_yields _ _ n))

blocks_yields : Yields blocks (λ bs. (not_empty bs && list_all spelled_block bs) ≡ true)
unfolding blocks
blocks_yields =
    then_yields _ _ _ _ block_yields (λ first f. then_yields _ _ _ _
    (repeated_yields is_label block spelled_block block_yields) (λ others o. gives_yields _ _ (both_true f o)))

function_yields : Yields function (λ i. spelled_as_item i ≡ true)
unfolding function
function_yields =
    after_token _ _ _ (λ _. then_yields _ _ _ _ (skipped_yields _ _ (token_yields _ _ (λ t a f e. tt)))
    (λ _ _. after_token _ _ _ (λ result. then_yields _ _ _ _ (token_yields a_global _ global_is)
    (λ name n. after_token _ _ _ (λ _.
    then_yields _ _ _ _ (listed_yields comma (is_mark 41) param spelled_param param_yields)
    (λ params p. then_yields _ _ _ _ (optional_yields _ _ Any Any (token_yields _ _ (λ t a f e. tt)) tt (λ a h. tt))
    (λ _ _. after_token _ _ _ (λ _.
    then_yields _ _ _ _ blocks_yields (λ body b. after_token _ _ _
    (λ _. gives_yields _ _ (both_true n (both_true p b))))))))))))

-- ---- texts

item_yields : Yields item (λ i. spelled_as_item i ≡ true)
unfolding item
item_yields =
    either_yields _ _ _ _ global_yields (either_yields _ _ _ _ extern_yields
    (either_yields _ _ _ _ function_yields (either_yields _ _ _ _ source_filename_yields target_item_yields)))

-- If all items pass and so does one more at the end, all pass.
one_more : {A : Type 0} (test : A → Bool) (xs : List A) (x : A) → list_all test xs ≡ true → test x ≡ true
    → list_all test (xs ++ x ∷ []) ≡ true
one_more test xs x h k = list_all-append test xs (x ∷ []) ∙ both_true h (both_true k refl)

spelled_parts : (p : Program) → spelled_program p ≡ true
    → (list_all spelled_global p.globals ≡ true) × (list_all spelled_extern p.externs ≡ true)
    × (list_all spelled_function p.functions ≡ true)
spelled_parts p h =
    let a = and_parts (list_all spelled_global p.globals) _ h in
    let b = and_parts (list_all spelled_extern p.externs) _ a.1 in
    (a.0, b.0, b.1)

with_item_spelled : (p : Program) (i : TextItem) → spelled_program p ≡ true → spelled_as_item i ≡ true
    → spelled_program (with_item p i) ≡ true
with_item_spelled p (GlobalItem g) h k =
    let a = spelled_parts p h in both_true (one_more spelled_global p.globals g a.0 k) (both_true a.1 a.2)
with_item_spelled p (ExternItem e) h k =
    let a = spelled_parts p h in both_true a.0 (both_true (one_more spelled_extern p.externs e a.1 k) a.2)
with_item_spelled p (FunctionItem f) h k =
    let a = spelled_parts p h in both_true a.0 (both_true a.1 (one_more spelled_function p.functions f a.2 k))
with_item_spelled p DroppedItem h k = h

all_spelled : (p : Program) (items : List TextItem) → spelled_program p ≡ true
    → list_all spelled_as_item items ≡ true
    → spelled_program (folded with_item p items) ≡ true
all_spelled p [] h k = h
all_spelled p (i ∷ items) h k =
    let b = and_parts (spelled_as_item i) (list_all spelled_as_item items) k in
    all_spelled (with_item p i) items (with_item_spelled p i h b.0) b.1

text_yields : Yields text (λ p. spelled_program p ≡ true)
unfolding text
text_yields =
    then_yields _ _ _ _ (repeated_yields begins_item item spelled_as_item item_yields)
    (λ items h. gives_yields _ _ (all_spelled no_items items refl h))

pub reads_spelled : (bytes : List ℕ) (program : Program) → Reads bytes program → spelled_program program ≡ true
reads_spelled bytes program r = (text_yields.yields (tokens bytes) program [] (tokens_formed bytes) r).0
