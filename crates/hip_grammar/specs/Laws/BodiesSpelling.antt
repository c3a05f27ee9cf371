-- What the grammar derives of instructions and blocks meets the rules.
use Rattle.std.proofs.Common.{◌≡◌, ℕ, Bool, true, false, not, ◌&&◌, ◌||◌, List, [], ◌∷◌, Option, Some, None, refl, codes}
use Rattle.std.specs.Prelude.{if◌then◌else◌}
use Rattle.std.specs.List.{list_all}
use Rattle.std.specs.Cmp.Derive.{both_true}
use Rattle.std.proofs.lemmas.Bool.{and_parts}
use Rattle.hip_types.specs.declared.number.BinaryOp.{BinaryOp}
use Rattle.hip_types.specs.declared.number.CastOp.{CastOp}
use Rattle.hip_types.specs.declared.number.Scalar.{Scalar}
use Rattle.hip_types.specs.declared.number.Scalar.TheVariants as scalars
use Rattle.hip_types.specs.declared.number.Width.{Width}
use Rattle.hip_types.specs.declared.number.Width.TheVariants.{W1}
use Rattle.hip_tokens.specs.Longest.{is_name}
use Rattle.hip_grammar.specs.Rule.{Yes}
use Rattle.hip_grammar.specs.Reader.{folded}
use Rattle.hip_grammar.specs.Production.{one_more_by, separated}
use Rattle.hip_grammar.specs.Laws.Yields.{Yields, Any, token_yields, gives_yields, then_yields, after_token, either_yields, repeated_yields, optional_yields, one_more_yields, separated_yields, listed_yields, phased_yields}
use Rattle.hip_tree.specs.declared.block.Phi.{Phi}
use Rattle.hip_tree.specs.declared.instr.Flag.{Flag}
use Rattle.hip_tree.specs.declared.instr.Flag.TheVariants.{Nuw, Nsw, Exact}
use Rattle.hip_tree.specs.declared.instr.Flags.{Flags}
use Rattle.hip_grammar.specs.Words.{is_word, is_mark, is_local, comma, a_local, a_global, a_label, a_word_of, or_no, cast_text, int_casts, int_cast_word, flag_text, may_wrap, may_be_exact, flags_after, flag_word}
use Rattle.hip_grammar.specs.Numbers.{a_literal, an_alignment}
use Rattle.hip_grammar.specs.Grammar.{operand, index, arg}
use Rattle.hip_grammar.specs.Bodies.{align, maybe_align, assigned, edge_label, edge, phi, no_flags, with_flag, flags, binary, compare, next_of_type, alternatives, select, to_int, int_cast, ptrtoint, inttoptr, alloca, next_address, aligned_address, load, gep, plain_call, call, store, memory_instr, cast_instr, value_instr, effect_instr, assigning_instr, instr, begins_instr, target, jump, branch, br, case, cases, switch, ret_void, ret_arg, ret_end, unreachable, end, closing, instrs_and_end, after_name, after_phis, block}
use Rattle.hip_grammar.specs.Spelling.{not_empty, spelled_align, spelled_operand, spelled_arg, spelled_index, spelled_flags, spelled_cast, spelled_result, spelled_instr, spelled_edge, spelled_phi, spelled_case, spelled_end, spelled_block}
use Rattle.hip_grammar.specs.Laws.SpellingLaws.{local_is, global_is, label_is, word_is, table_is, alignment_is, literal_is, type_yields, maybe_word_yields, operand_yields, arg_yields, index_yields}

align_yields : Yields align (λ n. spelled_align (Some n) ≡ true)
unfolding align
align_yields = after_token _ _ _ (λ _. after_token _ _ _ (λ _. token_yields an_alignment _ alignment_is))

pub maybe_align_yields : Yields maybe_align (λ n. spelled_align n ≡ true)
maybe_align_yields = optional_yields _ _ _ _ align_yields refl (λ n h. h)

-- ---- phis

assigned_yields : Yields assigned (λ n. is_name n ≡ true)
unfolding assigned
assigned_yields =
    then_yields _ _ _ _ (token_yields a_local _ local_is) (λ name n. after_token _ _ _ (λ _. gives_yields _ _ n))

edge_label_yields : Yields edge_label (λ n. is_name n ≡ true)
unfolding edge_label
edge_label_yields =
    after_token _ _ _ (λ _. then_yields _ _ _ _ (token_yields a_local _ local_is)
    (λ label l. after_token _ _ _ (λ _. gives_yields _ _ l)))

edge_yields : (s : Scalar) → Yields (edge s) (λ e. spelled_edge s e ≡ true)
unfolding edge
edge_yields s =
    after_token _ _ _ (λ _. then_yields _ _ _ _ (operand_yields s)
    (λ value v. then_yields _ _ _ _ edge_label_yields (λ label l. gives_yields _ _ (both_true v l))))

phi_yields : (dest : List ℕ) → is_name dest ≡ true → Yields (phi dest) (λ p. spelled_phi p ≡ true)
unfolding phi
phi_yields dest d =
    after_token _ _ _ (λ _. after_token _ _ _
    (λ s. then_yields _ _ _ _ (separated_yields comma (edge s) (spelled_edge s)
    (λ es. (not_empty es && list_all (spelled_edge s) es) ≡ true) (edge_yields s) (λ x xs h. h))
    (λ edges e. gives_yields _ _ (both_true d e))))

-- ---- instructions

-- The rule on flags, by what the operation may have.
abbrev suits : Bool → Bool → Flags → Bool
suits wraps exact f = (wraps || not (f.nuw || f.nsw)) && (exact || not f.exact)

-- Whether an operation of this kind may have the flag.
abbrev may_stand : Bool → Bool → Flag → Bool
may_stand wraps exact Nuw = wraps
may_stand wraps exact Nsw = wraps
may_stand wraps exact Exact = exact

flags_stand : (wraps exact : Bool)
    → list_all (may_stand wraps exact) (if wraps then Nuw ∷ Nsw ∷ [] else (if exact then Exact ∷ [] else []))
    ≡ true
flags_stand true exact = refl
flags_stand false true = refl
flags_stand false false = refl

with_flag_suits : (wraps exact : Bool) (f : Flags) (g : Flag) → suits wraps exact f ≡ true
    → may_stand wraps exact g ≡ true → suits wraps exact (with_flag f g) ≡ true
with_flag_suits true exact f Nuw h k = h
with_flag_suits true exact f Nsw h k = h
with_flag_suits wraps true f Exact h k = both_true (and_parts (wraps || not (f.nuw || f.nsw)) true h).0 refl
with_flag_suits false exact f Nuw h k = absurd cc
with_flag_suits false exact f Nsw h k = absurd cc
with_flag_suits wraps false f Exact h k = absurd cc

all_suit : (wraps exact : Bool) (f : Flags) (gs : List Flag) → suits wraps exact f ≡ true
    → list_all (may_stand wraps exact) gs ≡ true → suits wraps exact (folded with_flag f gs) ≡ true
all_suit wraps exact f [] h k = h
all_suit wraps exact f (g ∷ gs) h k =
    let b = and_parts (may_stand wraps exact g) (list_all (may_stand wraps exact) gs) k in
    all_suit wraps exact (with_flag f g) gs (with_flag_suits wraps exact f g h b.0) b.1

none_suits : (wraps exact : Bool) → suits wraps exact no_flags ≡ true
none_suits true true = refl
none_suits true false = refl
none_suits false true = refl
none_suits false false = refl

flags_yields : (op : BinaryOp) → Yields (flags op) (λ f. spelled_flags op f ≡ true)
unfolding flags
flags_yields op =
    then_yields _ _ _ _ (repeated_yields _ _ (may_stand (may_wrap op) (may_be_exact op))
    (token_yields (a_word_of (flag_word op)) _
    (word_is (flag_word op) (λ g. may_stand (may_wrap op) (may_be_exact op) g ≡ true)
    (λ t g e. table_is (may_stand (may_wrap op) (may_be_exact op)) flag_text (flags_after op) t g
    (flags_stand (may_wrap op) (may_be_exact op)) e))))
    (λ found h. gives_yields _ _ (all_suit (may_wrap op) (may_be_exact op) no_flags found
    (none_suits (may_wrap op) (may_be_exact op)) h))

next_operand_yields : (s : Scalar) → Yields (one_more_by comma (operand s)) (λ o. spelled_operand s o ≡ true)
next_operand_yields s = one_more_yields comma (operand s) _ (operand_yields s)

binary_yields : (dest : List ℕ) → is_name dest ≡ true → Yields (binary dest) (λ i. spelled_instr i ≡ true)
unfolding binary
binary_yields dest d =
    after_token _ _ _ (λ op. then_yields _ _ _ _ (flags_yields op)
    (λ set f. after_token _ _ _ (λ w. then_yields _ _ _ _ (operand_yields (scalars.Int w))
    (λ a x. then_yields _ _ _ _ (next_operand_yields (scalars.Int w)) (λ b y.
    gives_yields _ _ (both_true d (both_true f (both_true x y))))))))

compare_yields : (dest : List ℕ) → is_name dest ≡ true → Yields (compare dest) (λ i. spelled_instr i ≡ true)
unfolding compare
compare_yields dest d =
    after_token _ _ _ (λ _. after_token _ _ _
    (λ pred. after_token _ _ _ (λ s. then_yields _ _ _ _ (operand_yields s)
    (λ a x. then_yields _ _ _ _ (next_operand_yields s) (λ b y.
    gives_yields _ _ (both_true d (both_true x y)))))))

next_of_type_yields : (s : Scalar) → Yields (next_of_type s) (λ o. spelled_operand s o ≡ true)
unfolding next_of_type
next_of_type_yields s = after_token _ _ _ (λ _. after_token _ _ _ (λ _. operand_yields s))

alternatives_yields : Yields alternatives (λ c. (spelled_operand c.0 c.1 && spelled_operand c.0 c.2) ≡ true)
unfolding alternatives
alternatives_yields =
    after_token _ _ _ (λ _. after_token _ _ _ (λ s. then_yields _ _ _ _ (operand_yields s)
    (λ a x. then_yields _ _ _ _ (next_of_type_yields s) (λ b y. gives_yields _ _ (both_true x y)))))

select_yields : (dest : List ℕ) → is_name dest ≡ true → Yields (select dest) (λ i. spelled_instr i ≡ true)
unfolding select
select_yields dest d =
    after_token _ _ _ (λ _. after_token _ _ _
    (λ _. then_yields _ _ _ _ (operand_yields (scalars.Int W1))
    (λ cond c. then_yields _ _ _ _ alternatives_yields
    (λ chosen a. gives_yields _ _ (both_true d (both_true c a))))))

to_int_yields : Yields to_int Any
unfolding to_int
to_int_yields = after_token _ _ _ (λ _. token_yields _ Any (λ t w f e. tt))

int_cast_by : (v w : Width) (t : List ℕ) (op : CastOp) → or_no (int_cast_word t) ≡ Yes op
    → spelled_cast op (scalars.Int v) (scalars.Int w) ≡ true
int_cast_by v w t op e = table_is (λ z. spelled_cast z (scalars.Int v) (scalars.Int w)) cast_text int_casts t op refl e

int_cast_yields : (dest : List ℕ) → is_name dest ≡ true
    → Yields (int_cast dest) (λ i. spelled_instr i ≡ true)
unfolding int_cast
int_cast_yields dest d =
    then_yields _ _ _ _ (token_yields (a_word_of int_cast_word) _
    (word_is int_cast_word (λ op. (v w : Width) → spelled_cast op (scalars.Int v) (scalars.Int w) ≡ true)
    (λ t op e v w. int_cast_by v w t op e))) (λ op c.
    after_token _ _ _ (λ w. then_yields _ _ _ _ (operand_yields (scalars.Int w))
    (λ a x. then_yields _ _ _ _ to_int_yields
    (λ v _. gives_yields _ _ (both_true d (both_true (c w v) x))))))

ptrtoint_yields : (dest : List ℕ) → is_name dest ≡ true
    → Yields (ptrtoint dest) (λ i. spelled_instr i ≡ true)
unfolding ptrtoint
ptrtoint_yields dest d =
    after_token _ _ _ (λ _. after_token _ _ _
    (λ _. then_yields _ _ _ _ (operand_yields scalars.Ptr)
    (λ a x. then_yields _ _ _ _ to_int_yields (λ w _. gives_yields _ _ (both_true d x)))))

inttoptr_yields : (dest : List ℕ) → is_name dest ≡ true
    → Yields (inttoptr dest) (λ i. spelled_instr i ≡ true)
unfolding inttoptr
inttoptr_yields dest d =
    after_token _ _ _ (λ _. after_token _ _ _
    (λ w. then_yields _ _ _ _ (operand_yields (scalars.Int w))
    (λ a x. after_token _ _ _ (λ _. after_token _ _ _ (λ _. gives_yields _ _ (both_true d x))))))

alloca_yields : (dest : List ℕ) → is_name dest ≡ true → Yields (alloca dest) (λ i. spelled_instr i ≡ true)
unfolding alloca
alloca_yields dest d =
    after_token _ _ _ (λ _. then_yields _ _ _ _ (type_yields 32)
    (λ ty t. then_yields _ _ _ _ maybe_align_yields (λ n a. gives_yields _ _ (both_true d (both_true t a)))))

next_address_yields : Yields next_address (λ o. spelled_operand scalars.Ptr o ≡ true)
unfolding next_address
next_address_yields = after_token _ _ _ (λ _. after_token _ _ _ (λ _. operand_yields scalars.Ptr))

aligned_address_yields : Yields aligned_address (λ p. (spelled_operand scalars.Ptr p.0 && spelled_align p.1) ≡ true)
unfolding aligned_address
aligned_address_yields =
    then_yields _ _ _ _ next_address_yields
    (λ addr x. then_yields _ _ _ _ maybe_align_yields (λ n a. gives_yields _ _ (both_true x a)))

load_yields : (dest : List ℕ) → is_name dest ≡ true → Yields (load dest) (λ i. spelled_instr i ≡ true)
unfolding load
load_yields dest d =
    after_token _ _ _ (λ _. after_token _ _ _
    (λ s. then_yields _ _ _ _ aligned_address_yields (λ read a. gives_yields _ _ (both_true d a))))

store_yields : Yields store (λ i. spelled_instr i ≡ true)
unfolding store
store_yields =
    after_token _ _ _ (λ _. after_token _ _ _
    (λ s. then_yields _ _ _ _ (operand_yields s)
    (λ value v. then_yields _ _ _ _ aligned_address_yields (λ written a. gives_yields _ _ (both_true v a)))))

gep_yields : (dest : List ℕ) → is_name dest ≡ true → Yields (gep dest) (λ i. spelled_instr i ≡ true)
unfolding gep
gep_yields dest d =
    after_token _ _ _ (λ _. then_yields _ _ _ _ (maybe_word_yields (codes "inbounds"))
    (λ inbounds _. then_yields _ _ _ _ (type_yields 32)
    (λ ty t. then_yields _ _ _ _ next_address_yields
    (λ base b. then_yields _ _ _ _ (one_more_yields comma (separated comma index) _
    (separated_yields comma index spelled_index
    (λ is. (not_empty is && list_all spelled_index is) ≡ true) index_yields (λ x xs h. h)))
    (λ indices i. gives_yields _ _ (both_true d (both_true t (both_true b i))))))))

plain_call_yields : (dest : Option (List ℕ)) → spelled_result dest ≡ true
    → Yields (plain_call dest) (λ i. spelled_instr i ≡ true)
unfolding plain_call
plain_call_yields dest d =
    after_token _ _ _ (λ _. after_token _ _ _
    (λ result. then_yields _ _ _ _ (token_yields a_global _ global_is)
    (λ callee c. after_token _ _ _ (λ _. then_yields _ _ _ _
    (listed_yields comma (is_mark 41) arg spelled_arg arg_yields)
    (λ args a. gives_yields _ _ (both_true d (both_true c a)))))))

call_yields : (dest : Option (List ℕ)) → spelled_result dest ≡ true
    → Yields (call dest) (λ i. spelled_instr i ≡ true)
unfolding call
call_yields dest d =
    then_yields _ _ _ _ (optional_yields _ _ Any Any (token_yields _ _ (λ t a f e. tt)) tt (λ a h. tt))
    (λ _ h. plain_call_yields dest d)

memory_instr_yields : (dest : List ℕ) → is_name dest ≡ true
    → Yields (memory_instr dest) (λ i. spelled_instr i ≡ true)
unfolding memory_instr
memory_instr_yields dest d =
    either_yields _ _ _ _ (alloca_yields dest d)
    (either_yields _ _ _ _ (load_yields dest d) (either_yields _ _ _ _ (gep_yields dest d) (call_yields (Some dest) d)))

cast_instr_yields : (dest : List ℕ) → is_name dest ≡ true
    → Yields (cast_instr dest) (λ i. spelled_instr i ≡ true)
unfolding cast_instr
cast_instr_yields dest d =
    either_yields _ _ _ _ (int_cast_yields dest d)
    (either_yields _ _ _ _ (ptrtoint_yields dest d)
    (either_yields _ _ _ _ (inttoptr_yields dest d) (memory_instr_yields dest d)))

value_instr_yields : (dest : List ℕ) → is_name dest ≡ true
    → Yields (value_instr dest) (λ i. spelled_instr i ≡ true)
unfolding value_instr
value_instr_yields dest d =
    either_yields _ _ _ _ (binary_yields dest d)
    (either_yields _ _ _ _ (compare_yields dest d)
    (either_yields _ _ _ _ (select_yields dest d) (cast_instr_yields dest d)))

effect_instr_yields : Yields effect_instr (λ i. spelled_instr i ≡ true)
unfolding effect_instr
effect_instr_yields = either_yields _ _ _ _ store_yields (call_yields None refl)

instr_yields : Yields instr (λ i. spelled_instr i ≡ true)
unfolding instr assigning_instr
instr_yields =
    either_yields _ _ _ _ (then_yields _ _ _ _ assigned_yields (λ dest d. value_instr_yields dest d))
    effect_instr_yields

-- ---- ends of blocks

target_yields : Yields target (λ n. is_name n ≡ true)
unfolding target
target_yields = after_token _ _ _ (λ _. token_yields a_local _ local_is)

next_target_yields : Yields (one_more_by comma target) (λ n. is_name n ≡ true)
next_target_yields = one_more_yields comma target _ target_yields

jump_yields : Yields jump (λ e. spelled_end e ≡ true)
unfolding jump
jump_yields = then_yields _ _ _ _ target_yields (λ label l. gives_yields _ _ l)

branch_yields : Yields branch (λ e. spelled_end e ≡ true)
unfolding branch
branch_yields =
    after_token _ _ _ (λ _. then_yields _ _ _ _ (operand_yields (scalars.Int W1))
    (λ cond c. then_yields _ _ _ _ next_target_yields
    (λ yes_label y. then_yields _ _ _ _ next_target_yields (λ no_label n.
    gives_yields _ _ (both_true c (both_true y n))))))

br_yields : Yields br (λ e. spelled_end e ≡ true)
unfolding br
br_yields = after_token _ _ _ (λ _. either_yields _ _ _ _ jump_yields branch_yields)

case_yields : (w : Width) → Yields (case w) (λ c. spelled_case w c ≡ true)
unfolding case
case_yields w =
    after_token _ _ _ (λ _. then_yields _ _ _ _ (token_yields (a_literal w) _ (literal_is w))
    (λ value v. then_yields _ _ _ _ next_target_yields (λ label l. gives_yields _ _ (both_true v l))))

cases_yields : (w : Width) → Yields (cases w) (λ cs. list_all (spelled_case w) cs ≡ true)
unfolding cases
cases_yields w =
    after_token _ _ _ (λ _. then_yields _ _ _ _ (repeated_yields _ (case w) (spelled_case w) (case_yields w))
    (λ found c. after_token _ _ _ (λ _. gives_yields _ _ c)))

switch_yields : Yields switch (λ e. spelled_end e ≡ true)
unfolding switch
switch_yields =
    after_token _ _ _ (λ _. after_token _ _ _
    (λ w. then_yields _ _ _ _ (operand_yields (scalars.Int w))
    (λ value v. then_yields _ _ _ _ next_target_yields
    (λ other o. then_yields _ _ _ _ (cases_yields w)
    (λ found c. gives_yields _ _ (both_true v (both_true o c)))))))

ret_end_yields : Yields ret_end (λ e. spelled_end e ≡ true)
unfolding ret_end ret_void ret_arg
ret_end_yields =
    after_token _ _ _ (λ _. either_yields _ _ _ _ (after_token _ _ _ (λ _. gives_yields _ _ refl))
    (then_yields _ _ _ _ arg_yields (λ value v. gives_yields _ _ v)))

unreachable_yields : Yields unreachable (λ e. spelled_end e ≡ true)
unfolding unreachable
unreachable_yields = after_token _ _ _ (λ _. gives_yields _ _ refl)

end_yields : Yields end (λ e. spelled_end e ≡ true)
unfolding end
end_yields =
    either_yields _ _ _ _ br_yields (either_yields _ _ _ _ switch_yields
    (either_yields _ _ _ _ ret_end_yields unreachable_yields))

-- ---- blocks

instrs_and_end_yields : (label : List ℕ) (phis : List Phi) → is_name label ≡ true
    → list_all spelled_phi phis ≡ true
    → Yields (instrs_and_end label phis) (λ b. spelled_block b ≡ true)
unfolding instrs_and_end closing
instrs_and_end_yields label phis l p =
    then_yields _ _ _ _ (repeated_yields begins_instr instr spelled_instr instr_yields)
    (λ body b. then_yields _ _ _ _ end_yields
    (λ last e. gives_yields _ _ (both_true l (both_true p (both_true b e)))))

pub block_yields : Yields block (λ b. spelled_block b ≡ true)
unfolding block
block_yields = then_yields _ _ _ _ (token_yields a_label _ label_is) (λ label l.
    phased_yields is_local assigned (is_word (codes "phi")) phi (after_name label) (after_phis label)
    (instrs_and_end label) (λ n. is_name n ≡ true) spelled_phi
    (λ b. spelled_block b ≡ true) assigned_yields phi_yields (λ ps p. instrs_and_end_yields label ps l p))
