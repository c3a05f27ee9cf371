-- What a sound program gives to the resolver.
use Rattle.std.proofs.Common.{◌≡◌, ℕ, zero, suc, ◌<◌, Bool, true, List, [], ◌∷◌, ◌++◌, map, Option, Some, None, slice_get, refl, sym, ap, subst, inl, inr, ⊎_elim, arith}
use Rattle.std.specs.Prelude.{All, min, not, ◌==◌, ◌%◌}
use Rattle.std.specs.List.{list_all, flat_map}
use Rattle.std.proofs.lemmas.Bool.{and_parts}
use Rattle.std.proofs.lemmas.List.Elements.{All-nil, All-cons, All-head, All-tail}
use Rattle.std.proofs.lemmas.Option.{same_Some}
use Rattle.hip_types.specs.Layout.{Fits}
use Rattle.hip_types.specs.declared.ty.Ty.{Ty}
use Rattle.hip_types.specs.declared.number.Scalar.{Scalar}
use Rattle.hip_types.specs.declared.number.Scalar.TheVariants as scalars
use Rattle.hip_types.specs.declared.number.Width.TheVariants.{W1, W8, W16, W32, W64}
use Rattle.hip_grammar.specs.Spelling.{spelled_align, spelled_instr, spelled_block, spelled_function, spelled_global, not_empty, spelled_operand, spelled_phi, spelled_param, spelled_type, spelled_index}
use Rattle.hip_grammar.specs.Laws.SpellingExact.{spelled_exact}
use Rattle.hip_tree.specs.declared.block.Block.{Block}
use Rattle.hip_tree.specs.declared.block.Edge as named_edge
use Rattle.hip_tree.specs.declared.block.End.{End}
use Rattle.hip_tree.specs.declared.block.End.TheVariants as ends
use Rattle.hip_tree.specs.declared.block.Phi.{Phi}
use Rattle.hip_tree.specs.declared.instr.Arg.{Arg}
use Rattle.hip_tree.specs.declared.instr.Instr.{Instr}
use Rattle.hip_tree.specs.declared.instr.Instr.TheVariants.{Binary, Compare, Select, Cast, Alloca, Load, Store, Gep, Call}
use Rattle.hip_tree.specs.declared.instr.Operand.{Operand}
use Rattle.hip_tree.specs.declared.instr.Operand.TheVariants.{Reg, Fixed}
use Rattle.hip_tree.specs.declared.program.Function.{Function}
use Rattle.hip_tree.specs.declared.program.Program.{Program}
use Rattle.hip_globals.specs.Constants.{types_in}
use Rattle.hip_names.specs.Names.{AllDiffer, IsAmong, number_of}
use Rattle.hip_names.specs.Laws.DifferLaws.{differ_append, differ_first, differ_second, differ_apart}
use Rattle.hip_names.specs.Laws.NumberLaws.{number_of-first}
use Rattle.hip_types.specs.Laws.DistinctLaws.{get_kept}
use Rattle.hip_tree.specs.declared.program.Param.{Param}
use Rattle.hip_names.specs.Laws.NameLaws.{among-left, among-right, among-either}
use Rattle.hip_sound.specs.Laws.Decided.{all-at}
use Rattle.hip_sound.specs.Laws.GivenLaws.{sound-calls, sound-phis}
use Rattle.hip_sound.specs.Paths.{names_of}
use Rattle.hip_sound.specs.Registers.{Register, Use, parameter_registers, block_registers, body_registers, phi_registers, assigned_by, arg_uses, edge_uses, end_labels, phi_uses, instr_uses, used_registers, used_constant_types, operand_registers, use_of, end_uses}
use Rattle.hip_sound.specs.Sound.{IsSound, IsBlockAt, NamesExist, TypesFit, TypesAgree, InstrItem, PhiItem, register_names, names_in_block, names_in_function, types_of}
use Rattle.hip_runs.specs.Operands.{access_align, scalar_size}
use Rattle.hip_code.specs.Frames.{names_at, names_in}
use Rattle.hip_scope.specs.Known.{PhiKnown}
use Rattle.hip_scope.specs.Known.{OperandKnown, ArgsKnown, InstrKnown}
use Rattle.hip_scope.specs.Known.{EndKnown}

-- ---- lists

pub all_front : {A : Type 0} (Q : A → Type 0) (xs ys : List A) → All Q (xs ++ ys) → All Q xs
all_front Q [] ys h = All-nil Q
all_front Q (x ∷ xs) ys h = All-cons Q x xs (All-head Q x (xs ++ ys) h) (all_front Q xs ys (All-tail Q x (xs ++ ys) h))

pub all_back : {A : Type 0} (Q : A → Type 0) (xs ys : List A) → All Q (xs ++ ys) → All Q ys
all_back Q [] ys h = h
all_back Q (x ∷ xs) ys h = all_back Q xs ys (All-tail Q x (xs ++ ys) h)

test_at : {A : Type 0} (test : A → Bool) (xs : List A) (k : ℕ) (x : A) → list_all test xs ≡ true → slice_get xs k ≡ Some x → test x ≡ true
test_at test [] k x h e = cc
test_at test (y ∷ xs) zero x h e = subst (λ z. test z ≡ true) (same_Some y x e) (and_parts (test y) (list_all test xs) h).0
test_at test (y ∷ xs) (suc k) x h e = test_at test xs k x (and_parts (test y) (list_all test xs) h).1 e

-- ---- names of registers

names_append : (xs ys : List Register) → names_of (xs ++ ys) ≡ names_of xs ++ names_of ys
names_append [] ys = refl
names_append (x ∷ xs) ys = ap (λ ns. x.name ∷ ns) (names_append xs ys)

named_left : (xs ys : List Register) (q : List ℕ) → IsAmong (names_of xs) q → IsAmong (names_of (xs ++ ys)) q
named_left xs ys q h = subst (λ ns. IsAmong ns q) (sym (names_append xs ys)) (among-left (names_of xs) (names_of ys) q h)

named_right : (xs ys : List Register) (q : List ℕ) → IsAmong (names_of ys) q → IsAmong (names_of (xs ++ ys)) q
named_right xs ys q h = subst (λ ns. IsAmong ns q) (sym (names_append xs ys)) (among-right (names_of xs) (names_of ys) q h)

named_in : {A : Type 0} (g : A → List Register) (xs : List A) (k : ℕ) (x : A) (q : List ℕ) → slice_get xs k ≡ Some x → IsAmong (names_of (g x)) q → IsAmong (names_of (flat_map g xs)) q
named_in g [] k x q e h = cc
named_in {A} g (y ∷ xs) zero x q e h = named_left (g y) (flat_map g xs) q (subst (λ (z : A). IsAmong (names_of (g z)) q) (sym (same_Some y x e)) h)
named_in g (y ∷ xs) (suc k) x q e h = named_right (g y) (flat_map g xs) q (named_in g xs k x q e h)

-- ---- operands

first_known : (names : List (List ℕ)) (o : Operand) (ty : Scalar) (us : List Use) → All (IsAmong names) (used_registers (use_of o ty ∷ us)) → All Fits (used_constant_types (use_of o ty ∷ us)) → OperandKnown names o
first_known names (Reg name) ty us h g = All-head (IsAmong names) name (used_registers us) h
first_known names (Fixed value) ty us h g = all_front Fits (types_in value) (used_constant_types us) g

later_types : (o : Operand) (ty : Scalar) (us : List Use) → All Fits (used_constant_types (use_of o ty ∷ us)) → All Fits (used_constant_types us)
later_types (Reg name) ty us g = g
later_types (Fixed value) ty us g = all_back Fits (types_in value) (used_constant_types us) g

uses_known : (names : List (List ℕ)) (us : List Use) → All (IsAmong names) (used_registers us) → All Fits (used_constant_types us) → All (λ u. OperandKnown names u.operand) us
uses_known names [] h g = All-nil (λ (u : Use). OperandKnown names u.operand)
uses_known names (u ∷ us) h g =
    All-cons (λ (u : Use). OperandKnown names u.operand) u us (first_known names u.operand u.ty us h g)
    (uses_known names us (all_back (IsAmong names) (operand_registers u.operand) (used_registers us) h) (later_types u.operand u.ty us g))

args_known : (names : List (List ℕ)) (args : List Arg) → All (λ u. OperandKnown names u.operand) (arg_uses args) → ArgsKnown names args
args_known names [] h = All-nil (λ (a : Arg). OperandKnown names a.value)
args_known names (a ∷ args) h =
    All-cons (λ (a : Arg). OperandKnown names a.value) a args (All-head (λ (u : Use). OperandKnown names u.operand) _ (arg_uses args) h)
    (args_known names args (All-tail (λ (u : Use). OperandKnown names u.operand) _ (arg_uses args) h))

record UsesKnown (names : List (List ℕ)) (us : List Use) : Type 0 where
  all : All (λ u. OperandKnown names u.operand) us

first_use : {names : List (List ℕ)} {u : Use} {us : List Use} → UsesKnown names (u ∷ us) → OperandKnown names u.operand
first_use {names} {u} {us} h = All-head (λ (u : Use). OperandKnown names u.operand) u us h.all

later_uses : {names : List (List ℕ)} {u : Use} {us : List Use} → UsesKnown names (u ∷ us) → UsesKnown names us
later_uses {names} {u} {us} h = record { all = All-tail (λ (u : Use). OperandKnown names u.operand) u us h.all }

second_use : {names : List (List ℕ)} {u v : Use} {us : List Use} → UsesKnown names (u ∷ v ∷ us) → OperandKnown names v.operand
second_use h = first_use (later_uses h)

end_by : (names : List (List ℕ)) (e : End) → UsesKnown names (end_uses e) → EndKnown names e
end_by names (ends.Br label) h = tt
end_by names (ends.CondBr x first second) h = first_use h
end_by names (ends.Switch width x other cases) h = first_use h
end_by names (ends.Ret None) h = tt
end_by names (ends.Ret (Some arg)) h = first_use h
end_by names ends.Unreachable h = tt

-- ---- alignments

align_by : (s : Scalar) (align : Option ℕ) → spelled_align align ≡ true → 0 < access_align s align
align_by scalars.Ptr None e = omega arith
align_by (scalars.Int W1) None e = omega arith
align_by (scalars.Int W8) None e = omega arith
align_by (scalars.Int W16) None e = omega arith
align_by (scalars.Int W32) None e = omega arith
align_by (scalars.Int W64) None e = omega arith
align_by s (Some n) e = least (scalar_size s) n (some_size s) (positive n (and_parts (not (n == 0)) (4096 % n == 0) e).0)
  where
    some_size : (s : Scalar) → 0 < scalar_size s
    some_size scalars.Ptr = omega arith
    some_size (scalars.Int W1) = omega arith
    some_size (scalars.Int W8) = omega arith
    some_size (scalars.Int W16) = omega arith
    some_size (scalars.Int W32) = omega arith
    some_size (scalars.Int W64) = omega arith

    positive : (n : ℕ) → not (n == 0) ≡ true → 0 < n
    positive zero e = cc
    positive (suc n) e = omega arith

    least : (m n : ℕ) → 0 < m → 0 < n → 0 < min m n
    least m n a b = omega arith

indices_spelled : (dest : List ℕ) (inbounds : Bool) (ty : Ty) (start : Operand) (indices : List Arg) → spelled_instr (Gep dest inbounds ty start indices) ≡ true → list_all spelled_index indices ≡ true
indices_spelled dest inbounds ty start indices t =
    (and_parts (not_empty indices) _ (and_parts (spelled_operand scalars.Ptr start) _ (and_parts (spelled_type ty) _ (and_parts _ _ t).1).1).1).1

-- ---- instructions

module _ (P : Program) (s : IsSound P) (f b : ℕ) (fn : Function) (block : Block) (at : IsBlockAt P f b fn block) where
  abbrev names : List (List ℕ)
  names = register_names fn

  pub block_is_spelled : spelled_block block ≡ true
  block_is_spelled =
      let whole = (spelled_exact P).1 s.spelled in
      let functions : list_all spelled_function P.functions ≡ true = (and_parts _ _ (and_parts (list_all spelled_global P.globals) _ whole).1).1 in
      let function : spelled_function fn ≡ true = test_at spelled_function P.functions f fn functions at.function in
      let blocks : list_all spelled_block fn.blocks ≡ true = (and_parts (not_empty fn.blocks) _ (and_parts (list_all spelled_param fn.params) _ (and_parts _ _ function).1).1).1 in
      test_at spelled_block fn.blocks b block blocks at.block_is

  instr_is_spelled : (k : ℕ) (i : Instr) → slice_get block.body k ≡ Some i → spelled_instr i ≡ true
  instr_is_spelled k i e =
      test_at spelled_instr block.body k i (and_parts (list_all spelled_instr block.body) _ (and_parts (list_all spelled_phi block.phis) _ (and_parts _ _ block_is_spelled).1).1).0 e

  assigned_known : (k : ℕ) (i : Instr) (q : List ℕ) → slice_get block.body k ≡ Some i → IsAmong (names_of (assigned_by i)) q → IsAmong names q
  assigned_known k i q e h =
      named_right (parameter_registers fn) (flat_map block_registers fn.blocks) q
      (named_in block_registers fn.blocks b block q at.block_is
      (named_right (phi_registers block.phis) (body_registers block.body) q (named_in assigned_by block.body k i q e h)))

  own_known : (k : ℕ) (i : Instr) → slice_get block.body k ≡ Some i → UsesKnown names (instr_uses i)
  own_known k i e =
      let named = all-at (λ i. NamesExist P fn (InstrItem i)) block.body k i (s.names_exist f b fn block at).body e in
      let fit : All Fits (types_of (InstrItem i)) = all-at (λ i. TypesFit (InstrItem i)) block.body k i (s.types_fit f b fn block at).body e in
      record { all = uses_known names (instr_uses i) named.registers (all_back Fits _ (used_constant_types (instr_uses i)) fit) }

  known_by : (k : ℕ) (i : Instr) → slice_get block.body k ≡ Some i → spelled_instr i ≡ true → TypesFit (InstrItem i) → TypesAgree P fn (InstrItem i) → UsesKnown names (instr_uses i) → InstrKnown P names i
  known_by k (Binary dest op flags width x y) e t g a h = (assigned_known k (Binary dest op flags width x y) dest e (inl refl), first_use h, second_use h)
  known_by k (Compare dest pred ty x y) e t g a h = (assigned_known k (Compare dest pred ty x y) dest e (inl refl), first_use h, second_use h)
  known_by k (Select dest test ty x y) e t g a h = (assigned_known k (Select dest test ty x y) dest e (inl refl), first_use h, second_use h, second_use (later_uses h))
  known_by k (Cast dest op from x to) e t g a h = (assigned_known k (Cast dest op from x to) dest e (inl refl), first_use h)
  known_by k (Alloca dest ty n) e t g a h = (assigned_known k (Alloca dest ty n) dest e (inl refl), All-head Fits ty [] g)
  known_by k (Load dest ty addr n) e t g a h =
      (assigned_known k (Load dest ty addr n) dest e (inl refl), first_use h, align_by ty n (and_parts (spelled_operand scalars.Ptr addr) (spelled_align n) (and_parts _ _ t).1).1)
  known_by k (Store ty value addr n) e t g a h =
      (first_use h, second_use h, align_by ty n (and_parts (spelled_operand scalars.Ptr addr) (spelled_align n) (and_parts (spelled_operand ty value) _ t).1).1)
  known_by k (Gep dest inbounds ty start indices) e t g a h =
      (assigned_known k (Gep dest inbounds ty start indices) dest e (inl refl), first_use h, args_known names indices (later_uses h).all, All-head Fits ty _ g, a.own, indices_spelled dest inbounds ty start indices t)
  known_by k (Call None ret callee args) e t g a h = (tt, args_known names args h.all, sound-calls P s f b k fn block None ret callee args at e)
  known_by k (Call (Some dest) ret callee args) e t g a h =
      (assigned_known k (Call (Some dest) ret callee args) dest e (inl refl), args_known names args h.all, sound-calls P s f b k fn block (Some dest) ret callee args at e)

  -- What the resolver has to know of an instruction.
  pub instr_known : (k : ℕ) (i : Instr) → slice_get block.body k ≡ Some i → InstrKnown P (names_at P f) i
  instr_known k i e =
      subst (λ o. InstrKnown P (names_in o) i) (sym at.function)
      (known_by k i e (instr_is_spelled k i e)
      (all-at (λ i. TypesFit (InstrItem i)) block.body k i (s.types_fit f b fn block at).body e)
      (all-at (λ i. TypesAgree P fn (InstrItem i)) block.body k i (s.types_agree f b fn block at).body e) (own_known k i e))

  -- What the resolver has to know about the end of a block.
  pub end_known : EndKnown (names_at P f) block.«end»
  end_known =
      let named = (s.names_exist f b fn block at).last in
      let fit : All Fits (used_constant_types (end_uses block.«end»)) = (s.types_fit f b fn block at).last in
      let all : UsesKnown names (end_uses block.«end») = record { all = uses_known names (end_uses block.«end») named.registers fit } in
      subst (λ o. EndKnown (names_in o) block.«end») (sym at.function) (end_by names block.«end» all)

-- A function has a first block.
pub entry_block : (P : Program) → IsSound P → (f : ℕ) (fn : Function) → slice_get P.functions f ≡ Some fn → (block : Block) × (slice_get fn.blocks 0 ≡ Some block)
entry_block P s f fn here =
    let whole = (spelled_exact P).1 s.spelled in
    let functions : list_all spelled_function P.functions ≡ true = (and_parts _ _ (and_parts (list_all spelled_global P.globals) _ whole).1).1 in
    let function : spelled_function fn ≡ true = test_at spelled_function P.functions f fn functions here in
    first_of fn.blocks (and_parts (not_empty fn.blocks) _ (and_parts (list_all spelled_param fn.params) _ (and_parts _ _ function).1).1).0
  where
    first_of : (bs : List Block) → not_empty bs ≡ true → (block : Block) × (slice_get bs 0 ≡ Some block)
    first_of [] h = absurd (let q : ⊥ = cc in q)
    first_of (b ∷ bs) h = (b, refl)

-- Names at two places of a list of different names differ.
pub earlier_none : (xs : List (List ℕ)) (k j : ℕ) (x : List ℕ) → AllDiffer xs → slice_get xs k ≡ Some x → j < k → slice_get xs j ≡ Some x → ⊥
earlier_none [] k j x d e lt f = cc
earlier_none (y ∷ xs) zero j x d e lt f = absurd (let q : ⊥ = omega (arith, lt) in q)
earlier_none (y ∷ xs) (suc k) zero x d e lt f = d.0 (subst (λ n. IsAmong xs n) (sym (same_Some y x f)) (there_among xs k x e))
  where
    there_among : (xs : List (List ℕ)) (k : ℕ) (x : List ℕ) → slice_get xs k ≡ Some x → IsAmong xs x
    there_among [] k x e = cc
    there_among (y ∷ xs) zero x e = inl (same_Some y x e)
    there_among (y ∷ xs) (suc k) x e = inr (there_among xs k x e)
earlier_none (y ∷ xs) (suc k) (suc j) x d e lt f = earlier_none xs k j x d.1 e (omega (arith, lt)) f

-- The names of a function's registers differ.
registers_among : (bs : List Block) (q : List ℕ) → IsAmong (names_of (flat_map block_registers bs)) q → IsAmong (flat_map names_in_block bs) q
registers_among [] q h = h
registers_among (b ∷ bs) q h =
    ⊎_elim (λ t. inr (among-left (names_of (block_registers b)) (flat_map names_in_block bs) q t))
    (λ t. inr (among-right (names_of (block_registers b)) (flat_map names_in_block bs) q (registers_among bs q t)))
    (among-either (names_of (block_registers b)) (names_of (flat_map block_registers bs)) q (subst (λ ns. IsAmong ns q) (names_append (block_registers b) (flat_map block_registers bs)) h))

registers_differ : (bs : List Block) → AllDiffer (flat_map names_in_block bs) → AllDiffer (names_of (flat_map block_registers bs))
registers_differ [] d = tt
registers_differ (b ∷ bs) d =
    subst AllDiffer (sym (names_append (block_registers b) (flat_map block_registers bs)))
    (differ_append (names_of (block_registers b)) (names_of (flat_map block_registers bs)) (differ_first (names_of (block_registers b)) (flat_map names_in_block bs) d.1)
    (registers_differ bs (differ_second (names_of (block_registers b)) (flat_map names_in_block bs) d.1))
    (λ q h t. differ_apart (names_of (block_registers b)) (flat_map names_in_block bs) d.1 q h (registers_among bs q t)))

pub names_differ : (P : Program) → IsSound P → (f : ℕ) (fn : Function) → slice_get P.functions f ≡ Some fn → AllDiffer (register_names fn)
names_differ P s f fn here =
    let d : AllDiffer (names_in_function fn) = all-at (λ fn. AllDiffer (names_in_function fn)) P.functions f fn s.inner_names_differ here in
    subst AllDiffer (sym (names_append (parameter_registers fn) (flat_map block_registers fn.blocks)))
    (differ_append (names_of (parameter_registers fn)) (names_of (flat_map block_registers fn.blocks)) (differ_first (names_of (parameter_registers fn)) (flat_map names_in_block fn.blocks) d)
    (registers_differ fn.blocks (differ_second (names_of (parameter_registers fn)) (flat_map names_in_block fn.blocks) d))
    (λ q h t. differ_apart (names_of (parameter_registers fn)) (flat_map names_in_block fn.blocks) d q h (registers_among fn.blocks q t)))

-- The number of a parameter is its place.
pub param_number : (P : Program) → IsSound P → (f : ℕ) (fn : Function) → slice_get P.functions f ≡ Some fn → (k : ℕ) (p : Param) → slice_get fn.params k ≡ Some p → number_of (register_names fn) p.name ≡ Some k
param_number P s f fn here k p e =
    let there : slice_get (register_names fn) k ≡ Some p.name =
    subst (λ ns. slice_get ns k ≡ Some p.name) (sym (names_append (parameter_registers fn) (flat_map block_registers fn.blocks)))
    (get_kept (names_of (parameter_registers fn)) (names_of (flat_map block_registers fn.blocks)) k p.name (in_params fn.params k p e)) in
    number_of-first (register_names fn) p.name k there (λ j lt t. earlier_none (register_names fn) k j p.name (names_differ P s f fn here) there lt t)
  where
    in_params : (ps : List Param) (k : ℕ) (p : Param) → slice_get ps k ≡ Some p → slice_get (names_of (map (λ q. record { name = q.name; ty = Some q.ty }) ps)) k ≡ Some p.name
    in_params [] k p e = cc
    in_params (x ∷ ps) zero p e = ap (λ (q : Param). Some q.name) (same_Some x p e)
    in_params (x ∷ ps) (suc k) p e = in_params ps k p e

pub among_all : (Q : List ℕ → Type 0) (xs : List (List ℕ)) (x : List ℕ) → All Q xs → IsAmong xs x → Q x
among_all Q [] x h t = absurd t
among_all Q (y ∷ xs) x h (inl e) = subst Q e (All-head Q y xs h)
among_all Q (y ∷ xs) x h (inr t) = among_all Q xs x (All-tail Q y xs h) t

edges_known : (names : List (List ℕ)) (ty : Scalar) (es : List named_edge.Edge) → All (λ u. OperandKnown names u.operand) (edge_uses ty es) → All (λ e. OperandKnown names e.value) es
edges_known names ty [] h = All-nil (λ (e : named_edge.Edge). OperandKnown names e.value)
edges_known names ty (e ∷ es) h =
    All-cons (λ (e : named_edge.Edge). OperandKnown names e.value) e es (All-head (λ (u : Use). OperandKnown names u.operand) _ (edge_uses ty es) h)
    (edges_known names ty es (All-tail (λ (u : Use). OperandKnown names u.operand) _ (edge_uses ty es) h))

-- What is known of a phi of a block, to which the end of another leads.
pub phi_known : (P : Program) → IsSound P → (f b c : ℕ) (fn : Function) (to from : Block) → IsBlockAt P f c fn to → IsBlockAt P f b fn from → IsAmong (end_labels from.«end») to.label →
    (k : ℕ) (p : Phi) → slice_get to.phis k ≡ Some p → PhiKnown (names_at P f) from.label p
phi_known P s f b c fn to from at before named k p e =
    subst (λ o. PhiKnown (names_in o) from.label p) (sym at.function)
    (record {
      dest = named_right (parameter_registers fn) (flat_map block_registers fn.blocks) p.dest
          (named_in block_registers fn.blocks c to p.dest at.block_is (named_left (phi_registers to.phis) (body_registers to.body) p.dest (in_phis to.phis k p e)));
      edges = edges_known (register_names fn) p.ty p.edges
          (uses_known (register_names fn) (phi_uses p) (all-at (λ p. NamesExist P fn (PhiItem p)) to.phis k p (s.names_exist f c fn to at).phis e).registers
          (all-at (λ p. TypesFit (PhiItem p)) to.phis k p (s.types_fit f c fn to at).phis e));
      from_is = sound-phis P s f c b k fn to from p at before named e;
    })
  where
    in_phis : (ps : List Phi) (k : ℕ) (p : Phi) → slice_get ps k ≡ Some p → IsAmong (names_of (phi_registers ps)) p.dest
    in_phis [] k p e = cc
    in_phis (x ∷ ps) zero p e = inl (ap (λ (q : Phi). q.dest) (same_Some x p e))
    in_phis (x ∷ ps) (suc k) p e = inr (in_phis ps k p e)
