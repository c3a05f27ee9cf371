-- The text of an instruction reads as the instruction.
use Rattle.std.proofs.Common.{◌≡◌, ℕ, Bool, true, false, List, [], ◌∷◌, ◌++◌, map, Option, Some, None, not, ◌&&◌, ◌||◌, refl, codes}
use Rattle.std.specs.List.{list_all}
use Rattle.std.proofs.lemmas.Bool.{and_parts}
use Rattle.hip_types.specs.declared.number.BinaryOp.{BinaryOp}
use Rattle.hip_types.specs.declared.number.BinaryOp.TheVariants as ops
use Rattle.hip_types.specs.declared.number.CastOp.{CastOp}
use Rattle.hip_types.specs.declared.number.CastOp.TheVariants as casts
use Rattle.hip_types.specs.declared.number.Pred.{Pred}
use Rattle.hip_types.specs.declared.number.Pred.TheVariants as preds
use Rattle.hip_types.specs.declared.number.Scalar.{Scalar}
use Rattle.hip_types.specs.declared.number.Scalar.TheVariants as scalars
use Rattle.hip_types.specs.declared.number.Width.{Width}
use Rattle.hip_types.specs.declared.number.Width.TheVariants.{W1}
use Rattle.hip_types.specs.declared.ty.Ty.{Ty}
use Rattle.hip_tokens.specs.Longest.{is_name}
use Rattle.hip_tokens.specs.Tokens.{Word}
use Rattle.hip_tokens.specs.Written.{ends_word}
use Rattle.hip_grammar.specs.Rule.{Yes, one, many}
use Rattle.hip_grammar.specs.Production.{one_more_by, separated}
use Rattle.hip_grammar.specs.Laws.Texts.{DerivesText, Leaves, anything, then_text, last_text, nothing_text, anywhere_text, word_text, word_then, local_text, global_text, mark_text, mark_then, blank_text, blank_past, left_text, right_text, none_text, some_text, no_more_text, more_text}
use Rattle.hip_tree.specs.declared.instr.Arg.{Arg}
use Rattle.hip_tree.specs.declared.instr.Flag.{Flag}
use Rattle.hip_tree.specs.declared.instr.Flag.TheVariants.{Nuw, Nsw, Exact}
use Rattle.hip_tree.specs.declared.instr.Flags.{Flags}
use Rattle.hip_tree.specs.declared.instr.Instr.{Instr}
use Rattle.hip_tree.specs.declared.instr.Instr.TheVariants as instrs
use Rattle.hip_tree.specs.declared.instr.Operand.{Operand}
use Rattle.hip_grammar.specs.Words.{comma, a_word_of, scalar_text, width_text, ret_text, binary_text, binary_word, pred_text, pred_word, cast_text, int_cast_word, flag_text, may_wrap, may_be_exact, flags_after, flag_word}
use Rattle.hip_grammar.specs.Grammar.{operand, arg, index}
use Rattle.hip_grammar.specs.Bodies.{align, maybe_align, assigned, flags, binary, compare, next_of_type, alternatives, select, to_int, int_cast, ptrtoint, inttoptr, alloca, next_address, aligned_address, load, gep, plain_call, call, store, memory_instr, cast_instr, value_instr, effect_instr, assigning_instr, instr}
use Rattle.hip_grammar.specs.Show.{after_commas, type_text, inbounds_text, operand_text, arg_text, align_text, flag_if, flags_text, assigned_text, instr_text, parenthesized}
use Rattle.hip_grammar.specs.Spelling.{not_empty, spelled_align, spelled_type, spelled_operand, spelled_arg, spelled_index, spelled_flags, spelled_cast, spelled_instr}
use Rattle.hip_grammar.specs.Laws.WrittenNumbers.{alignment_text}
use Rattle.hip_grammar.specs.Laws.WrittenLists.{after_comma, separated_are, listed_are}
use Rattle.hip_grammar.specs.Laws.WrittenTypes.{int_is, scalar_is, same_scalar_is, ret_is, type_is}
use Rattle.hip_grammar.specs.Laws.WrittenConsts.{inbounds_then, operand_is, arg_is, index_is}

-- ---- alignments

pub align_is : (n : Option ℕ) → spelled_align n ≡ true → DerivesText ends_word maybe_align.rule (align_text n) n
unfolding align
align_is None e = none_text _ ends_word
align_is (Some n) e =
    some_text (mark_then _ _ 44 refl refl (blank_text 32 refl
    (word_then _ _ (codes "align") refl refl (alignment_text n e))))

pub align_leaves : (n : Option ℕ) → Leaves ends_word (align_text n) ends_word
align_leaves None rest e = e
align_leaves (Some n) rest e = refl

-- ---- words

binary_is : (op : BinaryOp) → DerivesText ends_word (one (a_word_of binary_word)) (binary_text op) op
binary_is ops.Add = word_text _ _ refl refl
binary_is ops.Sub = word_text _ _ refl refl
binary_is ops.Mul = word_text _ _ refl refl
binary_is ops.Udiv = word_text _ _ refl refl
binary_is ops.Sdiv = word_text _ _ refl refl
binary_is ops.Urem = word_text _ _ refl refl
binary_is ops.Srem = word_text _ _ refl refl
binary_is ops.And = word_text _ _ refl refl
binary_is ops.Or = word_text _ _ refl refl
binary_is ops.Xor = word_text _ _ refl refl
binary_is ops.Shl = word_text _ _ refl refl
binary_is ops.Lshr = word_text _ _ refl refl
binary_is ops.Ashr = word_text _ _ refl refl

pred_is : (p : Pred) → DerivesText ends_word (one (a_word_of pred_word)) (pred_text p) p
pred_is preds.Eq = word_text _ _ refl refl
pred_is preds.Ne = word_text _ _ refl refl
pred_is preds.Ugt = word_text _ _ refl refl
pred_is preds.Uge = word_text _ _ refl refl
pred_is preds.Ult = word_text _ _ refl refl
pred_is preds.Ule = word_text _ _ refl refl
pred_is preds.Sgt = word_text _ _ refl refl
pred_is preds.Sge = word_text _ _ refl refl
pred_is preds.Slt = word_text _ _ refl refl
pred_is preds.Sle = word_text _ _ refl refl

-- `%x = `.
pub assigned_is : (dest : List ℕ) → is_name dest ≡ true
    → DerivesText anything assigned.rule (assigned_text dest) dest
unfolding assigned
assigned_is dest e =
    then_text _ (local_text _ dest e refl) (blank_text 32 refl
    (last_text _ (blank_past 32 refl (λ rest h. refl) (mark_text _ 61 refl refl)) (nothing_text anything)))
    (λ rest h. refl)

-- ---- flags

wraps_are : (op : BinaryOp) → may_wrap op ≡ true → flags_after op ≡ Nuw ∷ Nsw ∷ []
wraps_are op e = rw e refl

exacts_are : (op : BinaryOp) → may_wrap op ≡ false → may_be_exact op ≡ true → flags_after op ≡ Exact ∷ []
exacts_are op e f = rw (e, f) refl

-- No operation has both kinds of flags.
wraps_alone : (op : BinaryOp) → may_be_exact op ≡ true → may_wrap op ≡ false
wraps_alone ops.Add e = absurd cc
wraps_alone ops.Sub e = absurd cc
wraps_alone ops.Mul e = absurd cc
wraps_alone ops.Udiv e = refl
wraps_alone ops.Sdiv e = refl
wraps_alone ops.Urem e = refl
wraps_alone ops.Srem e = refl
wraps_alone ops.And e = refl
wraps_alone ops.Or e = refl
wraps_alone ops.Xor e = refl
wraps_alone ops.Shl e = absurd cc
wraps_alone ops.Lshr e = refl
wraps_alone ops.Ashr e = refl

or_false : (b : Bool) → (b || false) ≡ true → b ≡ true
or_false true e = refl
or_false false e = absurd cc

one_flag : (op : BinaryOp) (flag : Flag) → is_name (flag_text flag) ≡ true
    → a_word_of (flag_word op) (Word (flag_text flag)) ≡ Yes flag
    → DerivesText anything (one (a_word_of (flag_word op))) (flag_text flag ++ codes " ") flag
one_flag op flag n e = blank_past 32 refl (λ rest h. refl) (word_text _ (flag_text flag) n e)

nuw_is : (op : BinaryOp) → may_wrap op ≡ true
    → DerivesText anything (one (a_word_of (flag_word op))) (flag_if Nuw true) Nuw
nuw_is op e = one_flag op Nuw refl (rw (wraps_are op e) refl)

nsw_is : (op : BinaryOp) → may_wrap op ≡ true
    → DerivesText anything (one (a_word_of (flag_word op))) (flag_if Nsw true) Nsw
nsw_is op e = one_flag op Nsw refl (rw (wraps_are op e) refl)

exact_flag_is : (op : BinaryOp) → may_be_exact op ≡ true
    → DerivesText anything (one (a_word_of (flag_word op))) (flag_if Exact true) Exact
exact_flag_is op e = one_flag op Exact refl (rw (exacts_are op (wraps_alone op e) e) refl)

no_flag_is : (op : BinaryOp) → DerivesText anything (many (one (a_word_of (flag_word op)))) [] []
no_flag_is op = no_more_text _ anything

exact_wraps : (op : BinaryOp) → may_wrap op ≡ true → may_be_exact op ≡ true → ⊥
exact_wraps op e f = let g = wraps_alone op f in absurd cc

flags_by : (op : BinaryOp) (nuw nsw exact : Bool) → (may_wrap op || not (nuw || nsw)) ≡ true
    → (may_be_exact op || not exact) ≡ true
    → DerivesText anything (flags op).rule (flags_text (record { nuw = nuw; nsw = nsw; exact = exact }))
    (record { nuw = nuw; nsw = nsw; exact = exact })
unfolding flags
flags_by op false false false e f = last_text _ (no_flag_is op) (nothing_text anything)
flags_by op true false false e f =
    last_text _ (more_text (nuw_is op (or_false (may_wrap op) e)) (no_flag_is op) (λ rest h. refl))
    (nothing_text anything)
flags_by op false true false e f =
    last_text _ (more_text (nsw_is op (or_false (may_wrap op) e)) (no_flag_is op) (λ rest h. refl))
    (nothing_text anything)
flags_by op true true false e f =
    let w = or_false (may_wrap op) e in
    last_text _ (more_text (nuw_is op w) (more_text (nsw_is op w) (no_flag_is op) (λ rest h. refl)) (λ rest h. refl))
    (nothing_text anything)
flags_by op false false true e f =
    last_text _ (more_text (exact_flag_is op (or_false (may_be_exact op) f)) (no_flag_is op) (λ rest h. refl))
    (nothing_text anything)
flags_by op true nsw true e f = absurd (exact_wraps op (or_false (may_wrap op) e) (or_false (may_be_exact op) f))
flags_by op false true true e f = absurd (exact_wraps op (or_false (may_wrap op) e) (or_false (may_be_exact op) f))

flags_are : (op : BinaryOp) (set : Flags) → spelled_flags op set ≡ true
    → DerivesText anything (flags op).rule (flags_text set) set
flags_are op set e =
    let p = and_parts (may_wrap op || not (set.nuw || set.nsw)) (may_be_exact op || not set.exact) e in
    flags_by op set.nuw set.nsw set.exact p.0 p.1

-- ---- arithmetic, comparison and choice

-- Two operands with a comma between them, as they are written.
abbrev two_operands : Operand → Operand → List ℕ
two_operands a b = operand_text a ++ (codes ", " ++ operand_text b)

next_operand_is : (s : Scalar) (o : Operand) → spelled_operand s o ≡ true
    → DerivesText ends_word (one_more_by comma (operand s)).rule (codes ", " ++ operand_text o) o
next_operand_is s o e = after_comma (operand s) (operand_is s o e)

binary_instr_is : (dest : List ℕ) (op : BinaryOp) (set : Flags) (w : Width) (a b : Operand)
    → spelled_flags op set ≡ true → spelled_operand (scalars.Int w) a ≡ true
    → spelled_operand (scalars.Int w) b ≡ true
    → DerivesText ends_word (binary dest).rule (binary_text op ++
    (codes " " ++ (flags_text set ++ (width_text w ++ (codes " " ++ two_operands a b))))) (instrs.Binary dest op set w
    a b)
unfolding binary
binary_instr_is dest op set w a b e f g =
    then_text _ (binary_is op) (blank_text 32 refl
    (then_text _ (flags_are op set e) (then_text _ (int_is w) (blank_text 32 refl
    (then_text _ (operand_is (scalars.Int w) a f)
    (last_text _ (next_operand_is (scalars.Int w) b g) (nothing_text anything)) (λ rest h. refl))) (λ rest h. refl))
    (λ rest h. refl))) (λ rest h. refl)

compare_is : (dest : List ℕ) (p : Pred) (s : Scalar) (a b : Operand) → spelled_operand s a ≡ true
    → spelled_operand s b ≡ true
    → DerivesText ends_word (compare dest).rule (codes "icmp " ++
    (pred_text p ++ (codes " " ++ (scalar_text s ++ (codes " " ++ two_operands a b))))) (instrs.Compare dest p s a b)
unfolding compare
compare_is dest p s a b f g =
    word_then _ _ (codes "icmp") refl refl (then_text _ (pred_is p)
    (blank_text 32 refl (then_text _ (scalar_is s) (blank_text 32 refl
    (then_text _ (operand_is s a f) (last_text _ (next_operand_is s b g) (nothing_text anything)) (λ rest h. refl)))
    (λ rest h. refl))) (λ rest h. refl))

next_of_type_is : (s : Scalar) (o : Operand) → spelled_operand s o ≡ true
    → DerivesText ends_word (next_of_type s).rule (codes ", " ++ (scalar_text s ++ (codes " " ++ operand_text o))) o
unfolding next_of_type
next_of_type_is s o e =
    mark_then _ _ 44 refl refl (blank_text 32 refl
    (then_text _ (same_scalar_is s) (blank_text 32 refl (operand_is s o e)) (λ rest h. refl)))

alternatives_are : (s : Scalar) (a b : Operand) → spelled_operand s a ≡ true → spelled_operand s b ≡ true
    → DerivesText ends_word alternatives.rule (codes ", " ++
    (scalar_text s ++
    (codes " " ++ (operand_text a ++ (codes ", " ++ (scalar_text s ++ (codes " " ++ operand_text b))))))) (s, a, b)
unfolding alternatives
alternatives_are s a b f g =
    mark_then _ _ 44 refl refl (blank_text 32 refl (then_text _ (scalar_is s)
    (blank_text 32 refl (then_text _ (operand_is s a f)
    (last_text _ (next_of_type_is s b g) (nothing_text anything)) (λ rest h. refl))) (λ rest h. refl)))

select_is : (dest : List ℕ) (cond : Operand) (s : Scalar) (a b : Operand)
    → spelled_operand (scalars.Int W1) cond ≡ true
    → spelled_operand s a ≡ true → spelled_operand s b ≡ true
    → DerivesText ends_word (select dest).rule (codes "select i1 " ++
    (operand_text cond ++
    (codes ", " ++
    (scalar_text s ++
    (codes " " ++ (operand_text a ++ (codes ", " ++ (scalar_text s ++ (codes " " ++ operand_text b)))))))))
    (instrs.Select dest cond s a b)
unfolding select
select_is dest cond s a b e f g =
    word_then _ _ (codes "select") refl refl (word_then _ _ (codes "i1") refl refl
    (then_text _ (operand_is (scalars.Int W1) cond e)
    (last_text _ (alternatives_are s a b f g) (nothing_text anything)) (λ rest h. refl)))

-- ---- casts

-- A conversion as it is written after LOCAL "=".
abbrev cast_form : List ℕ → Scalar → Operand → Scalar → List ℕ
cast_form word from a to =
    word ++ (codes " " ++ (scalar_text from ++ (codes " " ++ (operand_text a ++ (codes " to " ++ scalar_text to)))))

to_int_is : (v : Width) → DerivesText ends_word to_int.rule (codes "to " ++ width_text v) v
unfolding to_int
to_int_is v = word_then _ _ (codes "to") refl refl (int_is v)

int_cast_is : (dest : List ℕ) (op : CastOp) (word : List ℕ) (w v : Width) (a : Operand) → is_name word ≡ true
    → a_word_of int_cast_word (Word word) ≡ Yes op → spelled_operand (scalars.Int w) a ≡ true
    → DerivesText ends_word (int_cast dest).rule (cast_form word (scalars.Int w) a (scalars.Int v))
    (instrs.Cast dest op (scalars.Int w) a (scalars.Int v))
unfolding int_cast
int_cast_is dest op word w v a n e f =
    word_then _ _ word n e (then_text _ (int_is w) (blank_text 32 refl (then_text _ (operand_is (scalars.Int w) a f)
    (blank_text 32 refl (last_text _ (to_int_is v) (nothing_text anything))) (λ rest h. refl))) (λ rest h. refl))

ptrtoint_is : (dest : List ℕ) (v : Width) (a : Operand) → spelled_operand scalars.Ptr a ≡ true
    → DerivesText ends_word (ptrtoint dest).rule (cast_form (cast_text casts.Ptrtoint) scalars.Ptr a (scalars.Int v))
    (instrs.Cast dest casts.Ptrtoint scalars.Ptr a (scalars.Int v))
unfolding ptrtoint
ptrtoint_is dest v a f =
    word_then _ _ (cast_text casts.Ptrtoint) refl refl
    (word_then _ _ (codes "ptr") refl refl (then_text _ (operand_is scalars.Ptr a f)
    (blank_text 32 refl (last_text _ (to_int_is v) (nothing_text anything))) (λ rest h. refl)))

inttoptr_is : (dest : List ℕ) (w : Width) (a : Operand) → spelled_operand (scalars.Int w) a ≡ true
    → DerivesText ends_word (inttoptr dest).rule (cast_form (cast_text casts.Inttoptr) (scalars.Int w) a scalars.Ptr)
    (instrs.Cast dest casts.Inttoptr (scalars.Int w) a scalars.Ptr)
unfolding inttoptr
inttoptr_is dest w a f =
    word_then _ _ (cast_text casts.Inttoptr) refl refl
    (then_text _ (int_is w) (blank_text 32 refl (then_text _ (operand_is (scalars.Int w) a f)
    (blank_text 32 refl (word_then _ _ (codes "to") refl refl
    (last_text _ (word_text _ (codes "ptr") refl refl) (nothing_text anything)))) (λ rest h. refl)))
    (λ rest h. refl))

cast_is : (dest : List ℕ) (op : CastOp) (from : Scalar) (a : Operand) (to : Scalar)
    → spelled_cast op from to ≡ true
    → spelled_operand from a ≡ true
    → DerivesText ends_word (cast_instr dest).rule (cast_form (cast_text op) from a to) (instrs.Cast dest op from a to)
unfolding cast_instr
cast_is dest casts.Zext (scalars.Int w) a (scalars.Int v) e f =
    left_text _ (int_cast_is dest casts.Zext (cast_text casts.Zext) w v a refl refl f)
cast_is dest casts.Sext (scalars.Int w) a (scalars.Int v) e f =
    left_text _ (int_cast_is dest casts.Sext (cast_text casts.Sext) w v a refl refl f)
cast_is dest casts.Trunc (scalars.Int w) a (scalars.Int v) e f =
    left_text _ (int_cast_is dest casts.Trunc (cast_text casts.Trunc) w v a refl refl f)
cast_is dest casts.Ptrtoint scalars.Ptr a (scalars.Int v) e f = right_text _ (left_text _ (ptrtoint_is dest v a f))
cast_is dest casts.Inttoptr (scalars.Int w) a scalars.Ptr e f =
    right_text _ (right_text _ (left_text _ (inttoptr_is dest w a f)))
cast_is dest casts.Zext scalars.Ptr a to e f = absurd cc
cast_is dest casts.Zext (scalars.Int w) a scalars.Ptr e f = absurd cc
cast_is dest casts.Sext scalars.Ptr a to e f = absurd cc
cast_is dest casts.Sext (scalars.Int w) a scalars.Ptr e f = absurd cc
cast_is dest casts.Trunc scalars.Ptr a to e f = absurd cc
cast_is dest casts.Trunc (scalars.Int w) a scalars.Ptr e f = absurd cc
cast_is dest casts.Ptrtoint (scalars.Int w) a to e f = absurd cc
cast_is dest casts.Ptrtoint scalars.Ptr a scalars.Ptr e f = absurd cc
cast_is dest casts.Inttoptr scalars.Ptr a to e f = absurd cc
cast_is dest casts.Inttoptr (scalars.Int w) a (scalars.Int v) e f = absurd cc

-- ---- memory and calls

alloca_is : (dest : List ℕ) (ty : Ty) (n : Option ℕ) → spelled_type ty ≡ true → spelled_align n ≡ true
    → DerivesText ends_word (alloca dest).rule (codes "alloca " ++ (type_text ty ++ align_text n))
    (instrs.Alloca dest ty n)
unfolding alloca
alloca_is dest ty n e f =
    word_then _ _ (codes "alloca") refl refl (then_text _ (type_is 32 ty e)
    (last_text _ (align_is n f) (nothing_text anything)) (align_leaves n))

next_address_is : (addr : Operand) → spelled_operand scalars.Ptr addr ≡ true
    → DerivesText ends_word next_address.rule (codes ", ptr " ++ operand_text addr) addr
unfolding next_address
next_address_is addr e =
    mark_then _ _ 44 refl refl (blank_text 32 refl
    (word_then _ _ (codes "ptr") refl refl (operand_is scalars.Ptr addr e)))

aligned_address_is : (addr : Operand) (n : Option ℕ) → spelled_operand scalars.Ptr addr ≡ true
    → spelled_align n ≡ true
    → DerivesText ends_word aligned_address.rule (codes ", ptr " ++ (operand_text addr ++ align_text n)) (addr, n)
unfolding aligned_address
aligned_address_is addr n e f =
    then_text _ (next_address_is addr e) (last_text _ (align_is n f) (nothing_text anything)) (align_leaves n)

load_is : (dest : List ℕ) (s : Scalar) (addr : Operand) (n : Option ℕ) → spelled_operand scalars.Ptr addr ≡ true
    → spelled_align n ≡ true
    → DerivesText ends_word (load dest).rule (codes "load " ++
    (scalar_text s ++ (codes ", ptr " ++ (operand_text addr ++ align_text n)))) (instrs.Load dest s addr n)
unfolding load
load_is dest s addr n e f =
    word_then _ _ (codes "load") refl refl (then_text _ (scalar_is s)
    (last_text _ (aligned_address_is addr n e f) (nothing_text anything)) (λ rest h. refl))

store_is : (s : Scalar) (value addr : Operand) (n : Option ℕ) → spelled_operand s value ≡ true
    → spelled_operand scalars.Ptr addr ≡ true → spelled_align n ≡ true
    → DerivesText ends_word store.rule (codes "store " ++
    (scalar_text s ++ (codes " " ++ (operand_text value ++ (codes ", ptr " ++ (operand_text addr ++ align_text n))))))
    (instrs.Store s value addr n)
unfolding store
store_is s value addr n e f g =
    word_then _ _ (codes "store") refl refl (then_text _ (scalar_is s)
    (blank_text 32 refl (then_text _ (operand_is s value e)
    (last_text _ (aligned_address_is addr n f g) (nothing_text anything)) (λ rest h. refl))) (λ rest h. refl))

gep_is : (dest : List ℕ) (inbounds : Bool) (ty : Ty) (base : Operand) (indices : List Arg)
    → spelled_type ty ≡ true
    → spelled_operand scalars.Ptr base ≡ true → not_empty indices ≡ true
    → list_all spelled_index indices ≡ true
    → DerivesText ends_word (gep dest).rule (codes "getelementptr " ++
    (inbounds_text inbounds ++
    (type_text ty ++ (codes ", ptr " ++ (operand_text base ++ after_commas (map arg_text indices)))))) (instrs.Gep dest
    inbounds ty base indices)
unfolding gep
gep_is dest inbounds ty base [] e f some g = absurd cc
gep_is dest inbounds ty base (i ∷ is) e f some g =
    word_then _ _ (codes "getelementptr") refl refl
    (inbounds_then _ ends_word _ _ inbounds (then_text _ (type_is 32 ty e)
    (then_text _ (next_address_is base f)
    (last_text _ (after_comma (separated comma index) (separated_are index arg_text spelled_index index_is i is g))
    (nothing_text anything)) (λ rest h. refl)) (λ rest h. refl)))

call_is : (dest : Option (List ℕ)) (ret : Option Scalar) (callee : List ℕ) (args : List Arg)
    → is_name callee ≡ true
    → list_all spelled_arg args ≡ true
    → DerivesText anything (call dest).rule (codes "call " ++
    (ret_text ret ++ (codes " @" ++ (callee ++ parenthesized (map arg_text args))))) (instrs.Call dest ret callee args)
unfolding call plain_call
call_is dest ret callee args e f =
    then_text _ {s = []} (none_text _ anything)
    (word_then _ _ (codes "call") refl refl (then_text _ (ret_is ret)
    (blank_text 32 refl (then_text _ (global_text _ callee e refl) (mark_then _ _ 40 refl refl
    (last_text _ (listed_are arg arg_text spelled_arg arg_is 41 (codes ")") (mark_text _ 41 refl refl)
    (λ rest h. refl) args f) (nothing_text anything))) (λ rest h. refl))) (λ rest h. refl))) (λ rest h. refl)

-- ---- all instructions

past_register : (dest text : List ℕ) (i : Instr) → is_name dest ≡ true
    → DerivesText ends_word (value_instr dest).rule text i
    → DerivesText ends_word instr.rule (assigned_text dest ++ text) i
unfolding instr assigning_instr
past_register dest text i n p = left_text _ (then_text _ (assigned_is dest n) p (λ rest h. refl))

as_cast : (dest text : List ℕ) (i : Instr) → DerivesText ends_word (cast_instr dest).rule text i
    → DerivesText ends_word (value_instr dest).rule text i
unfolding value_instr
as_cast dest text i p = right_text _ (right_text _ (right_text _ p))

as_memory : (dest text : List ℕ) (i : Instr) → DerivesText ends_word (memory_instr dest).rule text i
    → DerivesText ends_word (value_instr dest).rule text i
unfolding cast_instr
as_memory dest text i p = as_cast dest text i (right_text _ (right_text _ (right_text _ p)))

pub instr_is : (i : Instr) → spelled_instr i ≡ true → DerivesText ends_word instr.rule (instr_text i) i
unfolding value_instr memory_instr instr effect_instr
instr_is (instrs.Binary dest op set w a b) e =
    let p =
    and_parts (is_name dest) (spelled_flags op set
    && (spelled_operand (scalars.Int w) a && spelled_operand (scalars.Int w) b)) e in
    let q =
    and_parts (spelled_flags op set) (spelled_operand (scalars.Int w) a && spelled_operand (scalars.Int w) b) p.1 in
    let r = and_parts (spelled_operand (scalars.Int w) a) (spelled_operand (scalars.Int w) b) q.1 in
    past_register dest _ _ p.0 (left_text _ (binary_instr_is dest op set w a b q.0 r.0 r.1))
instr_is (instrs.Compare dest pred s a b) e =
    let p = and_parts (is_name dest) (spelled_operand s a && spelled_operand s b) e in
    let q = and_parts (spelled_operand s a) (spelled_operand s b) p.1 in
    past_register dest _ _ p.0 (right_text _ (left_text _ (compare_is dest pred s a b q.0 q.1)))
instr_is (instrs.Select dest cond s a b) e =
    let p =
    and_parts (is_name dest) (spelled_operand (scalars.Int W1) cond
    && (spelled_operand s a && spelled_operand s b)) e in
    let q = and_parts (spelled_operand (scalars.Int W1) cond) (spelled_operand s a && spelled_operand s b) p.1 in
    let r = and_parts (spelled_operand s a) (spelled_operand s b) q.1 in
    past_register dest _ _ p.0 (right_text _ (right_text _ (left_text _ (select_is dest cond s a b q.0 r.0 r.1))))
instr_is (instrs.Cast dest op from a to) e =
    let p = and_parts (is_name dest) (spelled_cast op from to && spelled_operand from a) e in
    let q = and_parts (spelled_cast op from to) (spelled_operand from a) p.1 in
    past_register dest _ _ p.0 (as_cast dest _ _ (cast_is dest op from a to q.0 q.1))
instr_is (instrs.Alloca dest ty n) e =
    let p = and_parts (is_name dest) (spelled_type ty && spelled_align n) e in
    let q = and_parts (spelled_type ty) (spelled_align n) p.1 in
    past_register dest _ _ p.0 (as_memory dest _ _ (left_text _ (alloca_is dest ty n q.0 q.1)))
instr_is (instrs.Load dest s addr n) e =
    let p = and_parts (is_name dest) (spelled_operand scalars.Ptr addr && spelled_align n) e in
    let q = and_parts (spelled_operand scalars.Ptr addr) (spelled_align n) p.1 in
    past_register dest _ _ p.0 (as_memory dest _ _ (right_text _ (left_text _ (load_is dest s addr n q.0 q.1))))
instr_is (instrs.Store s value addr n) e =
    let p = and_parts (spelled_operand s value) (spelled_operand scalars.Ptr addr && spelled_align n) e in
    let q = and_parts (spelled_operand scalars.Ptr addr) (spelled_align n) p.1 in
    right_text _ (left_text _ (store_is s value addr n p.0 q.0 q.1))
instr_is (instrs.Gep dest inbounds ty base indices) e =
    let p =
    and_parts (is_name dest) (spelled_type ty
    && (spelled_operand scalars.Ptr base && (not_empty indices && list_all spelled_index indices))) e in
    let q =
    and_parts (spelled_type ty) (spelled_operand scalars.Ptr base
    && (not_empty indices && list_all spelled_index indices)) p.1 in
    let r = and_parts (spelled_operand scalars.Ptr base) (not_empty indices && list_all spelled_index indices) q.1 in
    let s = and_parts (not_empty indices) (list_all spelled_index indices) r.1 in
    past_register dest _ _ p.0 (as_memory dest _ _
    (right_text _ (right_text _ (left_text _ (gep_is dest inbounds ty base indices q.0 r.0 s.0 s.1)))))
instr_is (instrs.Call None ret callee args) e =
    let p = and_parts (is_name callee) (list_all spelled_arg args) e in
    right_text _ (right_text _ (anywhere_text ends_word (call_is None ret callee args p.0 p.1)))
instr_is (instrs.Call (Some dest) ret callee args) e =
    let p = and_parts (is_name dest) (is_name callee && list_all spelled_arg args) e in
    let q = and_parts (is_name callee) (list_all spelled_arg args) p.1 in
    past_register dest _ _ p.0 (as_memory dest _ _
    (right_text _ (right_text _ (right_text _
    (anywhere_text ends_word (call_is (Some dest) ret callee args q.0 q.1))))))
