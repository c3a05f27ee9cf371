-- The rules of places as requirements are the rules of soundness.
use Rattle.std.specs.Prelude.{ℕ, zero, suc, ◌≡◌, ◌≢◌, ◌&&◌, ◌||◌, not, Bool, true, false, List, [], ◌∷◌, ◌++◌, map, All, Option, Some, None, is_some, option_map, slice_get, if◌then◌else◌}
use Rattle.std.specs.List.{list_any, AllPairs}
use Rattle.std.specs.Bool.{Decides}
use Rattle.std.specs.Str.{bytes_eq}
use Rattle.std.proofs.Common.{refl, sym, ap, subst, ◌∙◌, inl, inr, ⊎_elim}
use Rattle.std.proofs.lemmas.List.Elements.{All-nil, All-cons, All-head, All-tail}
use Rattle.std.proofs.lemmas.Slice.Eq.{bytes_eq-Decides}
use Rattle.hip_types.specs.declared.number.Scalar.{Scalar}
use Rattle.hip_tree.specs.declared.block.Block.{Block}
use Rattle.hip_tree.specs.declared.block.Case.{Case}
use Rattle.hip_tree.specs.declared.block.Edge.{Edge}
use Rattle.hip_tree.specs.declared.block.End.{End}
use Rattle.hip_tree.specs.declared.block.End.TheVariants.{Br, CondBr, Switch, Ret, Unreachable}
use Rattle.hip_tree.specs.declared.block.Phi.{Phi}
use Rattle.hip_tree.specs.declared.instr.Arg.{Arg}
use Rattle.hip_tree.specs.declared.instr.Instr.{Instr}
use Rattle.hip_tree.specs.declared.instr.Instr.TheVariants.{Binary, Compare, Select, Cast, Alloca, Load, Store, Gep, Call}
use Rattle.hip_tree.specs.declared.instr.Operand.{Operand}
use Rattle.hip_tree.specs.declared.instr.Operand.TheVariants.{Reg, Fixed}
use Rattle.hip_tree.specs.declared.program.Extern.{Extern}
use Rattle.hip_tree.specs.declared.program.Function.{Function}
use Rattle.hip_tree.specs.declared.program.Program.{Program}
use Rattle.hip_sound.specs.Equal.{same_bits, same_operand}
use Rattle.hip_externs.specs.Externs.{Signature}
use Rattle.hip_names.specs.Names.{IsAmong, is_among}
use Rattle.hip_sound.specs.Paths.{label_at, names_of}
use Rattle.hip_sound.specs.Places.{scope_of, are_among, extern_of, function_of, first_of, callee_of, signature_agrees, register_agrees, uses_known, use_agrees, uses_agree, has_type, instr_agrees, callee_known, instr_required, returned_agrees, returns, differ, cases_differ, end_cases, is_entry, end_required, is_predecessor, predecessors, carry_alike, edge_labels, edges_agree, phi_required}
use Rattle.hip_sound.specs.Registers.{Register, Use, find_register, registers_of, instr_uses, end_uses, end_labels, phi_uses, used_registers, used_globals}
use Rattle.hip_sound.specs.declared.fault.Place.{Place}
use Rattle.hip_sound.specs.Laws.Decided.{both-decides, all-decides, not-decides, none-decides, pairs-decides}
use Rattle.hip_names.specs.Laws.NameLaws.{among-decides, among-left, among-right, among-either}
use Rattle.hip_sound.specs.Laws.EqualLaws.{same_scalar-decides, same_scalars-decides, same_result-decides, same_bits-decides, same_operand-decides}
use Rattle.hip_sound.specs.Sound as sound
use Rattle.hip_sound.specs.Sound.{BlockItem, PhiItem, InstrItem, EndItem, uses_of, callee_names, register_names, NamesExist, TypesFit, operand_is_typed, IsTyped, CallAgrees, OwnTypesAgree, TypesAgree, Precedes, EdgesAgree}
use Rattle.hip_sound.specs.NumberedNames.{global_names, label_names}

-- ---- what is found by its name

found-by_test : {V : Type 0} (b : Bool) (x name : List ℕ) (v : V) (later : Option V) (names : List (List ℕ))
    → bytes_eq x name ≡ b → Decides (is_some later) (IsAmong names name)
    → Decides (is_some (if b then Some v else later)) (IsAmong (x ∷ names) name)
found-by_test true x name v later names e d = (λ _. inl ((bytes_eq-Decides x name).0 e), λ _. refl)
found-by_test false x name v later names e d = (
  λ t. inr (d.0 t),
  λ h. ⊎_elim (λ same. let t : bytes_eq x name ≡ true = (bytes_eq-Decides x name).1 same in cc)
      (λ l. d.1 l) h,
)

register-decides : (rs : List Register) (name : List ℕ)
    → Decides (is_some (find_register rs name)) (IsAmong (names_of rs) name)
register-decides [] name = (λ e. cc, λ h. absurd h)
register-decides (r ∷ rs) name =
    found-by_test (bytes_eq r.name name) r.name name r.ty (find_register rs name) (names_of rs) refl
    (register-decides rs name)

extern-decides : (es : List Extern) (name : List ℕ)
    → Decides (is_some (extern_of es name)) (IsAmong (map (λ e. e.name) es) name)
extern-decides [] name = (λ e. cc, λ h. absurd h)
extern-decides (e ∷ es) name =
    found-by_test (bytes_eq e.name name) e.name name (record { ret = e.ret; params = e.params }) (extern_of es name)
    (map (λ e. e.name) es) refl (extern-decides es name)

function-decides : (fs : List Function) (name : List ℕ)
    → Decides (is_some (function_of fs name)) (IsAmong (map (λ f. f.name) fs) name)
function-decides [] name = (λ e. cc, λ h. absurd h)
function-decides (f ∷ fs) name =
    found-by_test (bytes_eq f.name name) f.name name (record { ret = f.ret; params = map (λ p. p.ty) f.params })
    (function_of fs name) (map (λ f. f.name) fs) refl (function-decides fs name)

first-decides : (a b : Option Signature) (names others : List (List ℕ)) (name : List ℕ)
    → Decides (is_some a) (IsAmong names name) → Decides (is_some b) (IsAmong others name)
    → Decides (is_some (first_of a b)) (IsAmong (names ++ others) name)
first-decides (Some s) b names others name p q = (λ e. among-left names others name (p.0 refl), λ h. refl)
first-decides None b names others name p q = (
  λ e. among-right names others name (q.0 e),
  λ h. ⊎_elim (λ l. let t = p.1 l in cc) (λ r. q.1 r) (among-either names others name h),
)

callee-decides : (P : Program) (name : List ℕ)
    → Decides (is_some (callee_of P name)) (IsAmong (callee_names P) name)
callee-decides P name =
    first-decides (extern_of P.externs name) (function_of P.functions name) (map (λ e. e.name) P.externs)
    (map (λ f. f.name) P.functions) name (extern-decides P.externs name) (function-decides P.functions name)

are_among-decides : (known names : List (List ℕ)) → Decides (are_among known names) (All (IsAmong known) names)
are_among-decides known names = all-decides (is_among known) (IsAmong known) names (λ x. among-decides known x)

known-decides : (P : Program) (fn : Function) (us : List Use)
    → Decides (uses_known (scope_of P fn) us)
    (All (IsAmong (register_names fn)) (used_registers us) × All (IsAmong (global_names P)) (used_globals us))
known-decides P fn us =
    both-decides _ _ (all-decides (λ n. is_some (find_register (registers_of fn) n)) (IsAmong (register_names fn))
    (used_registers us) (λ x. register-decides (registers_of fn) x))
    (are_among-decides (global_names P) (used_globals us))

callees-decides : (P : Program) (fn : Function) (i : Instr)
    → Decides (callee_known (scope_of P fn) i) (All (IsAmong (callee_names P)) (sound.callees_of (InstrItem i)))
callees-decides P fn (Call dest ret callee args) = (
  λ e. All-cons (IsAmong (callee_names P)) callee [] ((callee-decides P callee).0 e)
      (All-nil (IsAmong (callee_names P))),
  λ h. (callee-decides P callee).1
      (All-head (IsAmong (callee_names P)) callee [] h),
)
callees-decides P fn (Binary dest op flags width a b) = (λ e. All-nil (IsAmong (callee_names P)), λ h. refl)
callees-decides P fn (Compare dest pred ty a b) = (λ e. All-nil (IsAmong (callee_names P)), λ h. refl)
callees-decides P fn (Select dest cond ty a b) = (λ e. All-nil (IsAmong (callee_names P)), λ h. refl)
callees-decides P fn (Cast dest op from a to) = (λ e. All-nil (IsAmong (callee_names P)), λ h. refl)
callees-decides P fn (Alloca dest ty align) = (λ e. All-nil (IsAmong (callee_names P)), λ h. refl)
callees-decides P fn (Load dest ty addr align) = (λ e. All-nil (IsAmong (callee_names P)), λ h. refl)
callees-decides P fn (Store ty value addr align) = (λ e. All-nil (IsAmong (callee_names P)), λ h. refl)
callees-decides P fn (Gep dest inbounds ty base indices) = (λ e. All-nil (IsAmong (callee_names P)), λ h. refl)

-- The test of the names in a phi decides whether they exist.
phi_names-decides : (P : Program) (fn : Function) (p : Phi)
    → Decides (uses_known (scope_of P fn) (phi_uses p) && are_among (label_names fn) (edge_labels p.edges))
    (NamesExist P fn (PhiItem p))
phi_names-decides P fn p =
    let d =
    both-decides _ _ (known-decides P fn (phi_uses p)) (are_among-decides (label_names fn) (edge_labels p.edges)) in (
      λ e. let h = d.0 e in record {
        registers = h.0.0;
        globals = h.0.1;
        callees = All-nil (IsAmong (callee_names P));
        labels = h.1;
      },
      λ n. d.1 ((n.registers, n.globals), n.labels),
    )

instr_names-decides : (P : Program) (fn : Function) (i : Instr)
    → Decides (uses_known (scope_of P fn) (instr_uses i) && callee_known (scope_of P fn) i)
    (NamesExist P fn (InstrItem i))
instr_names-decides P fn i =
    let d = both-decides _ _ (known-decides P fn (instr_uses i)) (callees-decides P fn i) in (
      λ e. let h = d.0 e in record {
        registers = h.0.0;
        globals = h.0.1;
        callees = h.1;
        labels = All-nil (IsAmong (label_names fn));
      },
      λ n. d.1 ((n.registers, n.globals), n.callees),
    )

end_names-decides : (P : Program) (fn : Function) (e : End)
    → Decides (uses_known (scope_of P fn) (end_uses e) && are_among (label_names fn) (end_labels e))
    (NamesExist P fn (EndItem e))
end_names-decides P fn e =
    let d = both-decides _ _ (known-decides P fn (end_uses e)) (are_among-decides (label_names fn) (end_labels e)) in (
      λ t. let h = d.0 t in record {
        registers = h.0.0;
        globals = h.0.1;
        callees = All-nil (IsAmong (callee_names P));
        labels = h.1;
      },
      λ n. d.1 ((n.registers, n.globals), n.labels),
    )

-- ---- types agree

has_type-decides : (ty : Scalar) (found : Option (Option Scalar))
    → Decides (has_type ty found) (found ≡ Some (Some ty))
has_type-decides ty None = (λ e. cc, λ h. cc)
has_type-decides ty (Some None) = (λ e. cc, λ h. cc)
has_type-decides ty (Some (Some t)) = (
  λ e. ap (λ x. Some (Some x)) ((same_scalar-decides t ty).0 e),
  λ h. (same_scalar-decides t ty).1 (let same : t ≡ ty = cc in same),
)

use-decides : (registers : List Register) (o : Operand) (ty : Scalar)
    → Decides (use_agrees registers o ty) (operand_is_typed registers o ty)
use-decides registers (Reg name) ty = has_type-decides ty (find_register registers name)
use-decides registers (Fixed value) ty = (λ e. e, λ h. h)

uses-decides : (P : Program) (fn : Function) (us : List Use)
    → Decides (uses_agree (scope_of P fn) us) (All (IsTyped fn) us)
uses-decides P fn us =
    all-decides (λ u. use_agrees (registers_of fn) u.operand u.ty) (IsTyped fn) us
    (λ u. use-decides (registers_of fn) u.operand u.ty)

-- The signature that a call states: its result, and its arguments' types as parameters.
abbrev stated_signature : Option Scalar → List Arg → Signature
stated_signature ret args = record { ret = ret; params = map (λ a. a.ty) args }

signature-decides : (ret : Option Scalar) (args : List Arg) (o : Option Signature)
    → Decides (signature_agrees ret args o) (o ≡ Some (stated_signature ret args))
signature-decides ret args None = (λ e. cc, λ h. cc)
signature-decides ret args (Some s) =
    let d =
    both-decides _ _ (same_result-decides s.ret ret) (same_scalars-decides s.params (map (λ a. a.ty) args)) in (
      λ e. let h = d.0 e in λ i. Some (record { ret = h.0 i; params = h.1 i }),
      λ h. let same : s ≡ stated_signature ret args = cc in d.1 (ap (λ t. t.ret) same, ap (λ t. t.params) same),
    )

register-agrees : (dest : Option (List ℕ)) (ret : Option Scalar)
    → Decides (register_agrees dest ret) (ret ≡ None → dest ≡ None)
register-agrees (Some d) None = (λ e. cc, λ h. let none : Some d ≡ None = h refl in cc)
register-agrees (Some d) (Some t) = (λ e f. cc, λ h. refl)
register-agrees None None = (λ e f. refl, λ h. refl)
register-agrees None (Some t) = (λ e f. refl, λ h. refl)

call-decides : (P : Program) (dest : Option (List ℕ)) (ret : Option Scalar) (callee : List ℕ) (args : List Arg)
    → Decides (signature_agrees ret args (callee_of P callee) && register_agrees dest ret)
    (CallAgrees P dest ret callee args)
call-decides P dest ret callee args =
    let d = both-decides _ _ (signature-decides ret args (callee_of P callee)) (register-agrees dest ret) in
    (λ e. let h = d.0 e in record { signature = h.0; register = h.1 }, λ c. d.1 (c.signature, c.register))

instr_own-decides : (P : Program) (fn : Function) (i : Instr)
    → Decides (instr_agrees (scope_of P fn) i) (OwnTypesAgree P fn (InstrItem i))
instr_own-decides P fn (Cast dest op from a to) = (λ e. e, λ h. h)
instr_own-decides P fn (Gep dest inbounds ty base indices) = (λ e. e, λ h. h)
instr_own-decides P fn (Call dest ret callee args) = call-decides P dest ret callee args
instr_own-decides P fn (Binary dest op flags width a b) = (λ e. tt, λ h. refl)
instr_own-decides P fn (Compare dest pred ty a b) = (λ e. tt, λ h. refl)
instr_own-decides P fn (Select dest cond ty a b) = (λ e. tt, λ h. refl)
instr_own-decides P fn (Alloca dest ty align) = (λ e. tt, λ h. refl)
instr_own-decides P fn (Load dest ty addr align) = (λ e. tt, λ h. refl)
instr_own-decides P fn (Store ty value addr align) = (λ e. tt, λ h. refl)

returned-decides : (arg : Option Arg) (ret : Option Scalar)
    → Decides (returned_agrees arg ret) (option_map (λ a. a.ty) arg ≡ ret)
returned-decides None None = (λ e. refl, λ h. refl)
returned-decides None (Some t) = (λ e. cc, λ h. cc)
returned-decides (Some a) None = (λ e. cc, λ h. cc)
returned-decides (Some a) (Some t) = (
  λ e. ap Some ((same_scalar-decides a.ty t).0 e),
  λ h. (same_scalar-decides a.ty t).1 (let same : a.ty ≡ t = cc in same),
)

end_own-decides : (P : Program) (fn : Function) (e : End)
    → Decides (returns fn.ret e) (OwnTypesAgree P fn (EndItem e))
end_own-decides P fn (Ret arg) = returned-decides arg fn.ret
end_own-decides P fn (Br label) = (λ e. tt, λ h. refl)
end_own-decides P fn (CondBr cond first second) = (λ e. tt, λ h. refl)
end_own-decides P fn (Switch width value other cases) = (λ e. tt, λ h. refl)
end_own-decides P fn Unreachable = (λ e. tt, λ h. refl)

instr_types-decides : (P : Program) (fn : Function) (i : Instr)
    → Decides (uses_agree (scope_of P fn) (instr_uses i) && instr_agrees (scope_of P fn) i)
    (TypesAgree P fn (InstrItem i))
instr_types-decides P fn i =
    let d = both-decides _ _ (uses-decides P fn (instr_uses i)) (instr_own-decides P fn i) in
    (λ e. let h = d.0 e in record { operands = h.0; own = h.1 }, λ t. d.1 (t.operands, t.own))

end_types-decides : (P : Program) (fn : Function) (e : End)
    → Decides (uses_agree (scope_of P fn) (end_uses e) && returns fn.ret e) (TypesAgree P fn (EndItem e))
end_types-decides P fn e =
    let d = both-decides _ _ (uses-decides P fn (end_uses e)) (end_own-decides P fn e) in
    (λ t. let h = d.0 t in record { operands = h.0; own = h.1 }, λ t. d.1 (t.operands, t.own))

phi_types-decides : (P : Program) (fn : Function) (p : Phi)
    → Decides (uses_agree (scope_of P fn) (phi_uses p)) (TypesAgree P fn (PhiItem p))
phi_types-decides P fn p =
    let d = uses-decides P fn (phi_uses p) in
    (λ e. record { operands = d.0 e; own = tt }, λ t. d.1 t.operands)

-- ---- cases differ

pairs_differ-decides : (cases : List Case)
    → Decides (cases_differ cases) (AllPairs (λ c d. c.value ≢ d.value) cases)
pairs_differ-decides cases =
    pairs-decides differ (λ c d. c.value ≢ d.value) cases
    (λ c d. not-decides (same_bits c.value d.value) (same_bits-decides c.value d.value))

cases-decides : (e : End) → Decides (cases_differ (end_cases e)) (sound.CasesDiffer (EndItem e))
cases-decides (Switch width value other cases) = pairs_differ-decides cases
cases-decides (Br label) = (λ e. tt, λ h. refl)
cases-decides (CondBr cond first second) = (λ e. tt, λ h. refl)
cases-decides (Ret arg) = (λ e. tt, λ h. refl)
cases-decides Unreachable = (λ e. tt, λ h. refl)

-- ---- edges

entry-decides : (fn : Function) (label : List ℕ) → Decides (is_entry fn.blocks label) (label_at fn 0 ≡ Some label)
entry-decides fn label = by_blocks fn.blocks
  where
    by_blocks : (bs : List Block)
        → Decides (is_entry bs label) (option_map (λ b. b.label) (slice_get bs 0) ≡ Some label)
    by_blocks [] = (λ e. cc, λ h. cc)
    by_blocks (b ∷ bs) = (
      λ e. ap Some ((bytes_eq-Decides b.label label).0 e),
      λ h. (bytes_eq-Decides b.label label).1 (let same : b.label ≡ label = cc in same),
    )

ends-decides : (fn : Function) (block : Block) (e : End)
    → Decides (not (list_any (is_entry fn.blocks) (end_labels e))) (sound.EdgesAreSound fn block (EndItem e))
ends-decides fn block e =
    none-decides (is_entry fn.blocks) (λ label. label_at fn 0 ≡ Some label) (end_labels e)
    (λ label. entry-decides fn label)

-- Some block of the list has the first label, and its end names the second.
abbrev IsPredecessor : List Block → List ℕ → List ℕ → Type 0
IsPredecessor bs from to =
    (n : ℕ) × (b : Block) × (slice_get bs n ≡ Some b) × (b.label ≡ from) × IsAmong (end_labels b.end) to

predecessor-kept : (p : Bool) (x : List ℕ) (rest : List (List ℕ)) (from : List ℕ) → IsAmong rest from
    → IsAmong (if p then x ∷ rest else rest) from
predecessor-kept true x rest from h = inr h
predecessor-kept false x rest from h = h

predecessor-whole : (bs : List Block) (from to : List ℕ) → IsPredecessor bs from to
    → IsAmong (predecessors bs to) from
predecessor-whole [] from to (n, b, here, label, named) = cc
predecessor-whole (x ∷ xs) from to (zero, b, here, label, named) =
    let same : x ≡ b = cc in
    let leads : is_predecessor to x ≡ true =
    ap (is_predecessor to) same ∙ (among-decides (end_labels b.end) to).1 named in
    subst (λ p. IsAmong (if p then x.label ∷ predecessors xs to else predecessors xs to) from) (sym leads)
    (inl (ap (λ y. y.label) same ∙ label))
predecessor-whole (x ∷ xs) from to (suc n, b, here, label, named) =
    predecessor-kept (is_predecessor to x) x.label (predecessors xs to) from
    (predecessor-whole xs from to (n, b, here, label, named))

predecessor-sound : (bs : List Block) (from to : List ℕ) → IsAmong (predecessors bs to) from
    → IsPredecessor bs from to
predecessor-sound [] from to h = absurd h
predecessor-sound (x ∷ xs) from to h = by_test (is_predecessor to x) refl (λ l. predecessor-sound xs from to l) h
  where
    later : IsPredecessor xs from to → IsPredecessor (x ∷ xs) from to
    later (n, b, here, label, named) = (suc n, b, here, label, named)

    by_test : (p : Bool) → is_predecessor to x ≡ p
        → (IsAmong (predecessors xs to) from → IsPredecessor xs from to)
        → IsAmong (if p then x.label ∷ predecessors xs to else predecessors xs to) from
        → IsPredecessor (x ∷ xs) from to
    by_test true e rest (inl same) = (0, x, refl, same, (among-decides (end_labels x.end) to).0 e)
    by_test true e rest (inr l) = later (rest l)
    by_test false e rest l = later (rest l)

precedes : (fn : Function) (from to : List ℕ) → IsPredecessor fn.blocks from to → Precedes fn from to
precedes fn from to (n, b, here, label, named) =
    record { number = n; block = b; here = here; label = label; named = named }

preceding : (fn : Function) (from to : List ℕ) → Precedes fn from to → IsPredecessor fn.blocks from to
preceding fn from to p = (p.number, p.block, p.here, p.label, p.named)

all-of_among : (Q : List ℕ → Type 0) (xs : List (List ℕ)) → ((x : List ℕ) → IsAmong xs x → Q x)
    → All Q xs
all-of_among Q [] h = All-nil Q
all-of_among Q (x ∷ xs) h = All-cons Q x xs (h x (inl refl)) (all-of_among Q xs (λ y among. h y (inr among)))

among-of_all : (Q : List ℕ → Type 0) (xs : List (List ℕ)) → All Q xs → (x : List ℕ) → IsAmong xs x → Q x
among-of_all Q [] h x among = absurd among
among-of_all Q (y ∷ ys) h x (inl e) = subst Q e (All-head Q y ys h)
among-of_all Q (y ∷ ys) h x (inr among) = among-of_all Q ys (All-tail Q y ys h) x among

carry-decides : (e d : Edge) → Decides (carry_alike e d) (e.label ≡ d.label → e.value ≡ d.value)
carry-decides e d = by_test (bytes_eq e.label d.label) refl
  where
    by_test : (b : Bool) → bytes_eq e.label d.label ≡ b
        → Decides (not b || same_operand e.value d.value) (e.label ≡ d.label → e.value ≡ d.value)
    by_test true is = (
      λ t same. (same_operand-decides e.value d.value).0 t,
      λ h. (same_operand-decides e.value d.value).1 (h ((bytes_eq-Decides e.label d.label).0 is)),
    )
    by_test false is = (
      λ t same. let there : bytes_eq e.label d.label ≡ true = (bytes_eq-Decides e.label d.label).1 same in cc,
      λ h. refl,
    )

edges-decides : (fn : Function) (block : Block) (edges : List Edge)
    → Decides (edges_agree (predecessors fn.blocks block.label) edges) (EdgesAgree fn block edges)
edges-decides fn block edges =
    let before = predecessors fn.blocks block.label in
    let labels = edge_labels edges in
    let d =
    both-decides _ _ (are_among-decides labels before)
    (both-decides _ _ (are_among-decides before labels)
    (pairs-decides carry_alike (λ e d. e.label ≡ d.label → e.value ≡ d.value) edges carry-decides)) in (
      λ e.
          let h = d.0 e in
          record {
            named =
                λ label p. among-of_all (IsAmong labels) before h.0 label
                (predecessor-whole fn.blocks label block.label (preceding fn label block.label p));
            others =
                all-of_among (λ label. Precedes fn label block.label) labels
                (λ label among. precedes fn label block.label
                (predecessor-sound fn.blocks label block.label
                (among-of_all (IsAmong before) labels h.1.0 label among)));
            repeats = h.1.1;
          },
      λ a. d.1 (
        all-of_among (IsAmong labels) before (λ label among. a.named label
            (precedes fn label block.label (predecessor-sound fn.blocks label block.label among))),
        (
          all-of_among (IsAmong before) labels (λ label among. predecessor-whole fn.blocks label block.label
              (preceding fn label block.label (among-of_all
              (λ l. Precedes fn l block.label) labels a.others label among))),
          a.repeats,
        ),
      ),
    )

-- ---- a place

-- Each rule of places holds of the item.
pub record ItemIsSound (P : Program) (fn : Function) (block : Block) (x : BlockItem) : Type 0 where
  pub names : NamesExist P fn x
  pub fit : TypesFit x
  pub agree : TypesAgree P fn x
  pub cases : sound.CasesDiffer x
  pub edges : sound.EdgesAreSound fn block x

pub phi-sound : (P : Program) (fn : Function) (block : Block) (p : Phi) (place : Place)
    → (phi_required (scope_of P fn) block.label p place).Holds → ItemIsSound P fn block (PhiItem p)
phi-sound P fn block p place h = record {
  names = (phi_names-decides P fn p).0 h.0;
  fit = h.1.0;
  agree = (phi_types-decides P fn p).0 h.1.1.0;
  cases = tt;
  edges = (edges-decides fn block p.edges).0 h.1.1.1;
}

pub phi-whole : (P : Program) (fn : Function) (block : Block) (p : Phi) (place : Place)
    → ItemIsSound P fn block (PhiItem p) → (phi_required (scope_of P fn) block.label p place).Holds
phi-whole P fn block p place s = (
  (phi_names-decides P fn p).1 s.names,
  (
    s.fit,
    ((phi_types-decides P fn p).1 s.agree, (edges-decides fn block p.edges).1 s.edges),
  ),
)

pub instr-sound : (P : Program) (fn : Function) (block : Block) (i : Instr) (place : Place)
    → (instr_required (scope_of P fn) i place).Holds → ItemIsSound P fn block (InstrItem i)
instr-sound P fn block i place h = record {
  names = (instr_names-decides P fn i).0 h.0;
  fit = h.1.0;
  agree = (instr_types-decides P fn i).0 h.1.1;
  cases = tt;
  edges = tt;
}

pub instr-whole : (P : Program) (fn : Function) (block : Block) (i : Instr) (place : Place)
    → ItemIsSound P fn block (InstrItem i) → (instr_required (scope_of P fn) i place).Holds
instr-whole P fn block i place s =
    ((instr_names-decides P fn i).1 s.names, (s.fit, (instr_types-decides P fn i).1 s.agree))

pub end-sound : (P : Program) (fn : Function) (block : Block) (e : End) (place : Place)
    → (end_required (scope_of P fn) e place).Holds → ItemIsSound P fn block (EndItem e)
end-sound P fn block e place h = record {
  names = (end_names-decides P fn e).0 h.0;
  fit = h.1.0;
  agree = (end_types-decides P fn e).0 h.1.1.0;
  cases = (cases-decides e).0 h.1.1.1.0;
  edges = (ends-decides fn block e).0 h.1.1.1.1;
}

pub end-whole : (P : Program) (fn : Function) (block : Block) (e : End) (place : Place)
    → ItemIsSound P fn block (EndItem e) → (end_required (scope_of P fn) e place).Holds
end-whole P fn block e place s = (
  (end_names-decides P fn e).1 s.names,
  (
    s.fit,
    ((end_types-decides P fn e).1 s.agree, ((cases-decides e).1 s.cases, (ends-decides fn block e).1 s.edges)),
  ),
)
