-- The reading of instructions and blocks is exact for its rule.
use Rattle.std.proofs.Common.{◌≡◌, ℕ, true, false, Bool, not, List, [], ◌∷◌, Option, Some, None, is_some, refl, codes}
use Rattle.hip_types.specs.declared.number.BinaryOp.{BinaryOp}
use Rattle.hip_types.specs.declared.number.Scalar.{Scalar}
use Rattle.hip_types.specs.declared.number.Scalar.TheVariants as scalars
use Rattle.hip_types.specs.declared.number.Width.{Width}
use Rattle.hip_types.specs.declared.number.Width.TheVariants.{W1}
use Rattle.hip_tokens.specs.Tokens.{Tok, Word}
use Rattle.hip_grammar.specs.Rule.{both, ◌or◌}
use Rattle.hip_grammar.specs.Production.{token, ◌>>=◌, repeated, one_more_by, separated, listed}
use Rattle.hip_grammar.specs.Laws.Exact.{never, joined}
use Rattle.hip_grammar.specs.Laws.Same.{SameRule, head_or_other}
use Rattle.hip_grammar.specs.Laws.Productions.{Exact, IsRead, Apart, apart_sym, apart_joined, joined_apart, begins, token_begins, link, part_link, token_read, token_exact, closed_exact, gives_exact, next_exact, next_read, then_read, maps_exact, maps_read, either_read, optional_then_read, repeated_then_read, optional_same, repeated_same, one_more_exact, separated_read, listed_read, passing_read, phased_exact}
use Rattle.hip_tree.specs.declared.block.Block.{Block}
use Rattle.hip_tree.specs.declared.block.Phi.{Phi}
use Rattle.hip_grammar.specs.declared.fault.TextFault.{TextFault}
use Rattle.hip_tree.specs.declared.instr.Flag.TheVariants as flag
use Rattle.hip_tree.specs.declared.instr.Instr.{Instr}
use Rattle.std.specs.Prelude.{if◌then◌else◌}
use Rattle.std.specs.List.{list_all}
use Rattle.hip_grammar.specs.Words.{is_word, is_mark, is_local, is_label, comma, a_local, a_label, a_word_of, is_word_of, width_word, width_text, scalar_word, binary_word, cast_text, int_casts, int_cast_word, flag_text, may_wrap, may_be_exact, flags_after, flag_word}
use Rattle.hip_grammar.specs.Numbers.{an_alignment}
use Rattle.hip_grammar.specs.Grammar.{word, maybe_word, type, is_width, operand, arg, index}
use Rattle.hip_grammar.specs.Bodies.{align, maybe_align, assigned, edge_label, edge, phi, flags, binary, compare, next_of_type, alternatives, select, to_int, int_cast, ptrtoint, inttoptr, alloca, next_address, aligned_address, load, gep, plain_call, call, store, memory_instr, cast_instr, value_instr, effect_instr, assigning_instr, instr, begins_effect, begins_instr, target, jump, branch, br, case, cases, switch, ret_void, ret_arg, ret_end, unreachable, end, closing, instrs_and_end, after_first, after_name, from_effect, after_phis, block}
use Rattle.hip_grammar.specs.Laws.Apart.{mark_apart, word_apart, local_apart, table_apart, not_local, not_label, not_word_of}
use Rattle.hip_grammar.specs.Laws.Exactness.{maybe_word_exact, type_read, begins_type, operand_read, arg_read, index_read}

align_read : IsRead align comma never
unfolding align
align_read = begins _ _ _ (λ _. link _ _ _ (λ _. token_exact an_alignment never))

pub maybe_align_exact : Exact maybe_align comma
maybe_align_exact = optional_same align comma align_read

-- ---- phis

pub assigned_read : IsRead assigned is_local never
unfolding assigned
assigned_read = token_begins a_local _ _ _ not_local (λ name. link _ _ _ (λ _. gives_exact _ _))

edge_label_exact : Exact edge_label never
unfolding edge_label
edge_label_exact = link _ _ _ (λ _. link _ _ _ (λ label. link _ _ _ (λ _. gives_exact _ _)))

pub edge_read : (s : Scalar) → IsRead (edge s) (is_mark 91) never
unfolding edge
edge_read s =
    begins _ _ _ (λ _. part_link _ _ _ (operand_read s).exact
    (λ value. part_link _ _ _ edge_label_exact (λ label. gives_exact _ _)))

pub phi_read : (dest : List ℕ) → IsRead (phi dest) (is_word (codes "phi")) comma
unfolding phi
phi_read dest =
    begins _ _ _ (λ _. link _ _ _ (λ s. maps_exact (separated comma (edge s)) _ comma
    (separated_read (edge s) comma (is_mark 91) (edge_read s)).exact))

-- ---- instructions; any token may follow one, except a comma after some

next_operand_exact : (s : Scalar) → Exact (one_more_by comma (operand s)) never
next_operand_exact s = one_more_exact (operand s) comma never (operand_read s).exact

-- If a table does not have a word and is apart from a test, it is apart from both together.
from_word : {A : Type 0} (f : List ℕ → Option A) (w : List ℕ) (d : Tok → Bool)
    → is_word_of f (Word w) ≡ false
    → Apart (is_word_of f) d → Apart (is_word_of f) (joined (is_word w) d)
from_word f w d h p =
    apart_joined (is_word_of f) (is_word w) d (apart_sym (is_word w) (is_word_of f) (word_apart w (is_word_of f) h)) p

no_width : (op : BinaryOp) → list_all (λ f. not (is_some (width_word (flag_text f)))) (flags_after op) ≡ true
no_width op = by_kind (may_wrap op) (may_be_exact op)
  where
    by_kind : (wraps exact : Bool)
        → list_all (λ f. not (is_some (width_word (flag_text f))))
        (if wraps then flag.Nuw ∷ flag.Nsw ∷ [] else (if exact then flag.Exact ∷ [] else [])) ≡ true
    by_kind true exact = refl
    by_kind false true = refl
    by_kind false false = refl

flag_apart : (op : BinaryOp) → Apart (is_word_of (flag_word op)) (is_word_of width_word)
flag_apart op =
    apart_sym (is_word_of width_word) (is_word_of (flag_word op))
    (table_apart width_word flag_text (flags_after op) (no_width op))

flags_exact : (op : BinaryOp) → Exact (flags op) (is_word_of (flag_word op))
unfolding flags
flags_exact op =
    maps_exact (repeated (is_word_of (flag_word op)) (token (a_word_of (flag_word op)))) _ _
    (repeated_same _ _ (token_read (a_word_of (flag_word op)) _ never (not_word_of (flag_word op))))

binary_read : (dest : List ℕ) → IsRead (binary dest) (is_word_of binary_word) comma
unfolding binary
binary_read dest =
    token_begins (a_word_of binary_word) _ _ _ (not_word_of binary_word)
    (λ op. next_exact (flags op) _ _ (is_word_of width_word) comma (flags_exact op)
    (λ set. token_begins (a_word_of width_word) _ _ _ (not_word_of width_word)
    (λ w. part_link _ _ _ (operand_read (scalars.Int w)).exact
    (λ a. part_link _ _ _ (next_operand_exact (scalars.Int w)) (λ b. gives_exact _ _))))
    (flag_apart op))

compare_read : (dest : List ℕ) → IsRead (compare dest) (is_word (codes "icmp")) comma
unfolding compare
compare_read dest =
    begins _ _ _ (λ _. link _ _ _ (λ pred. link _ _ _
    (λ s. part_link _ _ _ (operand_read s).exact
    (λ a. part_link _ _ _ (next_operand_exact s) (λ b. gives_exact _ _)))))

next_of_type_exact : (s : Scalar) → Exact (next_of_type s) never
unfolding next_of_type
next_of_type_exact s = link _ _ _ (λ _. link _ _ _ (λ _. (operand_read s).exact))

alternatives_exact : Exact alternatives never
unfolding alternatives
alternatives_exact =
    link _ _ _ (λ _. link _ _ _ (λ s. part_link _ _ _ (operand_read s).exact
    (λ a. part_link _ _ _ (next_of_type_exact s) (λ b. gives_exact _ _))))

select_read : (dest : List ℕ) → IsRead (select dest) (is_word (codes "select")) comma
unfolding select
select_read dest =
    begins _ _ _ (λ _. link _ _ _ (λ _. part_link _ _ _ (operand_read (scalars.Int W1)).exact
    (λ cond. part_link _ _ _ alternatives_exact (λ chosen. gives_exact _ _))))

to_int_exact : Exact to_int never
unfolding to_int
to_int_exact = link _ _ _ (λ _. token_exact (a_word_of width_word) never)

int_cast_read : (dest : List ℕ) → IsRead (int_cast dest) (is_word_of int_cast_word) comma
unfolding int_cast
int_cast_read dest =
    token_begins (a_word_of int_cast_word) _ _ _ (not_word_of int_cast_word)
    (λ op. link _ _ _ (λ w. part_link _ _ _ (operand_read (scalars.Int w)).exact
    (λ a. part_link _ _ _ to_int_exact (λ v. gives_exact _ _))))

ptrtoint_read : (dest : List ℕ) → IsRead (ptrtoint dest) (is_word (codes "ptrtoint")) comma
unfolding ptrtoint
ptrtoint_read dest =
    begins _ _ _ (λ _. link _ _ _ (λ _. part_link _ _ _ (operand_read scalars.Ptr).exact
    (λ a. part_link _ _ _ to_int_exact (λ w. gives_exact _ _))))

inttoptr_read : (dest : List ℕ) → IsRead (inttoptr dest) (is_word (codes "inttoptr")) comma
unfolding inttoptr
inttoptr_read dest =
    begins _ _ _ (λ _. link _ _ _ (λ w. part_link _ _ _ (operand_read (scalars.Int w)).exact
    (λ a. link _ _ _ (λ _. link _ _ _ (λ _. gives_exact _ _)))))

alloca_read : (dest : List ℕ) → IsRead (alloca dest) (is_word (codes "alloca")) comma
unfolding alloca
alloca_read dest =
    begins _ _ _ (λ _. part_link _ _ _ (type_read 32).exact (λ ty. maps_exact maybe_align _ comma maybe_align_exact))

next_address_exact : Exact next_address never
unfolding next_address
next_address_exact = link _ _ _ (λ _. link _ _ _ (λ _. (operand_read scalars.Ptr).exact))

aligned_address_exact : Exact aligned_address comma
unfolding aligned_address
aligned_address_exact =
    part_link _ _ _ next_address_exact (λ addr. maps_exact maybe_align _ comma maybe_align_exact)

load_read : (dest : List ℕ) → IsRead (load dest) (is_word (codes "load")) comma
unfolding load
load_read dest =
    begins _ _ _ (λ _. link _ _ _ (λ s. maps_exact aligned_address _ comma aligned_address_exact))

store_read : IsRead store (is_word (codes "store")) comma
unfolding store
store_read =
    begins _ _ _ (λ _. link _ _ _ (λ s. part_link _ _ _ (operand_read s).exact
    (λ value. maps_exact aligned_address _ comma aligned_address_exact)))

gep_read : (dest : List ℕ) → IsRead (gep dest) (is_word (codes "getelementptr")) comma
unfolding gep
gep_read dest =
    begins _ _ _ (λ _. next_exact (maybe_word (codes "inbounds")) _ _ begins_type comma
    (maybe_word_exact (codes "inbounds"))
    (λ inbounds. then_read type _ begins_type comma (type_read 32)
    (λ ty. part_link _ _ _ next_address_exact
    (λ base. maps_exact (one_more_by comma (separated comma index)) _ comma
    (one_more_exact (separated comma index) comma comma
    (separated_read index comma (is_word_of width_word) index_read).exact))))
    (word_apart (codes "inbounds") begins_type refl))

plain_call_read : (dest : Option (List ℕ)) → IsRead (plain_call dest) (is_word (codes "call")) comma
unfolding plain_call
plain_call_read dest = begins _ _ _ (λ _. link _ _ _ (λ result. link _ _ _ (λ callee. link _ _ _ (λ _.
    maps_exact (listed comma (is_mark 41) arg) _ comma
    (closed_exact _ comma (listed_read arg comma (is_mark 41) (is_word_of scalar_word) arg_read
    (mark_apart 44 (is_mark 41) refl) (mark_apart 41 (is_word_of scalar_word) refl)).exact)))))

-- The first tokens of calls without a register.
abbrev pub begins_call : Tok → Bool
begins_call = joined (is_word (codes "tail")) (is_word (codes "call"))

call_read : (dest : Option (List ℕ)) → IsRead (call dest) begins_call comma
unfolding call
call_read dest =
    optional_then_read TextFault (Unit {0}) Instr (word (codes "tail")) (λ _. plain_call dest) (is_word (codes "tail"))
    (is_word (codes "call")) comma
    (passing_read (is_word (codes "tail")) never) (λ _. plain_call_read dest)
    (word_apart (codes "tail") (is_word (codes "call")) refl)

-- ---- any instruction

-- The first tokens of what `memory_instr` reads.
abbrev pub begins_memory : Tok → Bool
begins_memory =
    joined (is_word (codes "alloca"))
    (joined (is_word (codes "load")) (joined (is_word (codes "getelementptr")) begins_call))

memory_read : (dest : List ℕ) → IsRead (memory_instr dest) begins_memory comma
unfolding memory_instr
memory_read dest =
    either_read _ _ _ _ comma (alloca_read dest)
    (either_read _ _ _ _ comma (load_read dest) (either_read _ _ _ _ comma (gep_read dest) (call_read (Some dest))
    (word_apart (codes "getelementptr") _ refl)) (word_apart (codes "load") _ refl))
    (word_apart (codes "alloca") _ refl)

-- The first tokens of what `cast_instr` reads.
abbrev pub begins_cast : Tok → Bool
begins_cast =
    joined (is_word_of int_cast_word)
    (joined (is_word (codes "ptrtoint")) (joined (is_word (codes "inttoptr")) begins_memory))

-- A table that has none of the first words of `memory_instr` is apart from them.
memory_apart : {A : Type 0} (f : List ℕ → Option A) → is_word_of f (Word (codes "alloca")) ≡ false
    → is_word_of f (Word (codes "load")) ≡ false → is_word_of f (Word (codes "getelementptr")) ≡ false
    → is_word_of f (Word (codes "tail")) ≡ false → is_word_of f (Word (codes "call")) ≡ false
    → Apart (is_word_of f) begins_memory
memory_apart f a b c d e =
    from_word f _ _ a (from_word f _ _ b (from_word f _ _ c
    (from_word f _ _ d (apart_sym (is_word (codes "call")) (is_word_of f)
    (word_apart (codes "call") (is_word_of f) e)))))

cast_read : (dest : List ℕ) → IsRead (cast_instr dest) begins_cast comma
unfolding cast_instr
cast_read dest =
    either_read _ _ _ _ comma (int_cast_read dest)
    (either_read _ _ _ _ comma (ptrtoint_read dest) (either_read _ _ _ _ comma (inttoptr_read dest) (memory_read dest)
    (word_apart (codes "inttoptr") _ refl)) (word_apart (codes "ptrtoint") _ refl))
    (from_word int_cast_word _ _ refl (from_word int_cast_word _ _ refl
    (memory_apart int_cast_word refl refl refl refl refl)))

-- The first tokens of instructions after LOCAL "=".
abbrev pub begins_value : Tok → Bool
begins_value =
    joined (is_word_of binary_word) (joined (is_word (codes "icmp")) (joined (is_word (codes "select")) begins_cast))

binary_no_cast : Apart (is_word_of binary_word) (is_word_of int_cast_word)
binary_no_cast = table_apart binary_word cast_text int_casts refl

binary_apart : Apart (is_word_of binary_word)
    (joined (is_word (codes "icmp")) (joined (is_word (codes "select")) begins_cast))
binary_apart =
    from_word binary_word _ _ refl (from_word binary_word _ _ refl
    (apart_joined (is_word_of binary_word) (is_word_of int_cast_word) _ binary_no_cast
    (from_word binary_word _ _ refl (from_word binary_word _ _ refl
    (memory_apart binary_word refl refl refl refl refl)))))

pub value_read : (dest : List ℕ) → IsRead (value_instr dest) begins_value comma
unfolding value_instr
value_read dest =
    either_read _ _ _ _ comma (binary_read dest)
    (either_read _ _ _ _ comma (compare_read dest) (either_read _ _ _ _ comma (select_read dest) (cast_read dest)
    (word_apart (codes "select") _ refl)) (word_apart (codes "icmp") _ refl)) binary_apart

pub effect_read : IsRead effect_instr begins_effect comma
unfolding effect_instr
effect_read =
    either_read store (call None) _ _ comma store_read (call_read None) (word_apart (codes "store") begins_call refl)

assigning_read : IsRead assigning_instr is_local comma
unfolding assigning_instr
assigning_read = then_read assigned _ is_local comma assigned_read (λ dest. (value_read dest).exact)

pub instr_read : IsRead instr begins_instr comma
unfolding instr
instr_read =
    either_read assigning_instr effect_instr is_local begins_effect comma assigning_read effect_read
    (local_apart begins_effect (λ n. refl))

-- ---- ends of blocks

target_exact : Exact target never
unfolding target
target_exact = link _ _ _ (λ _. token_exact a_local never)

next_target_exact : Exact (one_more_by comma target) never
next_target_exact = one_more_exact target comma never target_exact

jump_read : IsRead jump (is_word (codes "label")) never
unfolding jump target
jump_read =
    maps_read (word (codes "label") >>= λ _. token a_local) _ (is_word (codes "label")) never
    (begins _ _ _ (λ _. token_exact a_local never))

branch_read : IsRead branch (is_word (codes "i1")) never
unfolding branch
branch_read =
    begins _ _ _ (λ _. part_link _ _ _ (operand_read (scalars.Int W1)).exact
    (λ cond. part_link _ _ _ next_target_exact
    (λ yes_label. part_link _ _ _ next_target_exact (λ no_label. gives_exact _ _))))

br_read : IsRead br (is_word (codes "br")) never
unfolding br
br_read =
    begins _ _ _ (λ _. (either_read jump branch _ _ never jump_read branch_read
    (word_apart (codes "label") (is_word (codes "i1")) refl)).exact)

pub case_read : (w : Width) → IsRead (case w) (is_width w) never
unfolding case
case_read w =
    begins _ _ _ (λ _. link _ _ _ (λ value. part_link _ _ _ next_target_exact (λ label. gives_exact _ _)))

cases_exact : (w : Width) → Exact (cases w) never
unfolding cases
cases_exact w =
    link _ _ _ (λ _. next_exact (repeated (is_width w) (case w)) _ (is_width w) (is_mark 93) never
    (repeated_same (case w) (is_width w) (case_read w)) (λ found. begins _ _ _ (λ _. gives_exact _ _))
    (word_apart (width_text w) (is_mark 93) refl))

switch_read : IsRead switch (is_word (codes "switch")) never
unfolding switch
switch_read =
    begins _ _ _ (λ _. link _ _ _ (λ w. part_link _ _ _ (operand_read (scalars.Int w)).exact
    (λ value. part_link _ _ _ next_target_exact
    (λ other. part_link _ _ _ (cases_exact w) (λ found. gives_exact _ _)))))

ret_void_read : IsRead ret_void (is_word (codes "void")) never
unfolding ret_void
ret_void_read = begins _ _ _ (λ _. gives_exact _ _)

ret_arg_read : IsRead ret_arg (is_word_of scalar_word) never
unfolding ret_arg
ret_arg_read = maps_read arg _ _ _ arg_read

ret_end_read : IsRead ret_end (is_word (codes "ret")) never
unfolding ret_end
ret_end_read =
    begins _ _ _ (λ _. (either_read ret_void ret_arg _ _ never ret_void_read ret_arg_read
    (word_apart (codes "void") (is_word_of scalar_word) refl)).exact)

unreachable_read : IsRead unreachable (is_word (codes "unreachable")) never
unfolding unreachable
unreachable_read = begins _ _ _ (λ _. gives_exact _ _)

-- The first tokens of ends of blocks.
abbrev pub begins_end : Tok → Bool
begins_end =
    joined (is_word (codes "br"))
    (joined (is_word (codes "switch")) (joined (is_word (codes "ret")) (is_word (codes "unreachable"))))

pub end_read : IsRead end begins_end never
unfolding end
end_read =
    either_read br _ _ _ never br_read (either_read switch _ _ _ never switch_read
    (either_read ret_end unreachable _ _ never ret_end_read unreachable_read
    (word_apart (codes "ret") _ refl)) (word_apart (codes "switch") _ refl)) (word_apart (codes "br") _ refl)

-- ---- blocks

closing_read : (label : List ℕ) (phis : List Phi) (body : List Instr)
    → IsRead (closing label phis body) begins_end never
unfolding closing
closing_read label phis body = maps_read end _ _ _ end_read

comma_apart : Apart comma begins_instr
comma_apart = mark_apart 44 begins_instr refl

effect_apart : Apart begins_effect begins_end
effect_apart =
    joined_apart (is_word (codes "store")) begins_call begins_end (word_apart (codes "store") begins_end refl)
    (joined_apart (is_word (codes "tail")) (is_word (codes "call")) begins_end
    (word_apart (codes "tail") begins_end refl) (word_apart (codes "call") begins_end refl))

instr_apart : Apart (joined begins_instr comma) begins_end
instr_apart =
    joined_apart begins_instr comma begins_end
    (joined_apart is_local begins_effect begins_end (local_apart begins_end (λ n. refl)) effect_apart)
    (mark_apart 44 begins_end refl)

after_first_read : (label : List ℕ) (phis : List Phi) (first : Instr)
    → IsRead (after_first label phis first) (joined begins_instr begins_end) never
unfolding after_first
after_first_read label phis first =
    repeated_then_read TextFault Instr Block instr
    (λ body. closing label phis (first ∷ body)) begins_instr comma begins_end never instr_read comma_apart
    (λ body. closing_read label phis (first ∷ body)) instr_apart

after_name_read : (label : List ℕ) (phis : List Phi) (dest : List ℕ)
    → IsRead (after_name label phis dest) begins_value never
unfolding after_name
after_name_read label phis dest =
    next_read (value_instr dest) _ begins_value comma (joined begins_instr begins_end) never (value_read dest)
    (λ first. after_first_read label phis first) (mark_apart 44 (joined begins_instr begins_end) refl)

from_effect_read : (label : List ℕ) (phis : List Phi) → IsRead (from_effect label phis) begins_effect never
unfolding from_effect
from_effect_read label phis =
    next_read effect_instr _ begins_effect comma (joined begins_instr begins_end) never effect_read
    (λ first. after_first_read label phis first) (mark_apart 44 (joined begins_instr begins_end) refl)

after_phis_read : (label : List ℕ) (phis : List Phi)
    → IsRead (after_phis label phis) (joined begins_effect begins_end) never
unfolding after_phis
after_phis_read label phis =
    either_read _ _ begins_effect begins_end never (from_effect_read label phis)
    (closing_read label phis []) effect_apart

block_parts : (label : List ℕ) (phis : List Phi)
    → SameRule (both assigned.rule (λ dest. (after_name label phis dest).rule) or (after_phis label phis).rule)
    (instrs_and_end label phis).rule
unfolding after_name after_phis from_effect after_first instrs_and_end instr assigning_instr
block_parts label phis =
    head_or_other assigned.rule (λ dest. (value_instr dest).rule) effect_instr.rule
    (λ body. (closing label phis body).rule)

pub block_read : IsRead block is_label never
unfolding block
block_read =
    token_begins a_label is_label _ never not_label
    (λ label. phased_exact assigned phi (after_name label) (after_phis label) (instrs_and_end label) is_local
    (is_word (codes "phi")) comma begins_value (joined begins_effect begins_end) never
    assigned_read phi_read (after_name_read label) (after_phis_read label)
    (local_apart (joined begins_effect begins_end) (λ n. refl)) (word_apart (codes "phi") begins_value refl)
    (mark_apart 44 is_local refl) (mark_apart 44 (joined begins_effect begins_end) refl)
    (block_parts label))
