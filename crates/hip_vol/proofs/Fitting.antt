-- In a sound program the types that rules use fit.
use Rattle.std.proofs.Common.{◌≡◌, ℕ, suc, List, [], ◌∷◌, ◌++◌, Some, None, slice_get, refl}
use Rattle.std.specs.Prelude.{All}
use Rattle.hip_types.specs.Layout.{Fits}
use Rattle.hip_types.specs.declared.number.Scalar.{Scalar}
use Rattle.hip_types.specs.declared.number.Scalar.TheVariants.{Int, Ptr}
use Rattle.hip_types.specs.declared.number.Width.TheVariants.{W1}
use Rattle.hip_tree.specs.declared.block.Block.{Block}
use Rattle.hip_tree.specs.declared.block.Edge.{Edge}
use Rattle.hip_tree.specs.declared.block.End.{End}
use Rattle.hip_tree.specs.declared.block.End.TheVariants as ends
use Rattle.hip_tree.specs.declared.block.Phi.{Phi}
use Rattle.hip_tree.specs.declared.instr.Arg.{Arg}
use Rattle.hip_tree.specs.declared.instr.Instr.{Instr}
use Rattle.hip_tree.specs.declared.instr.Instr.TheVariants.{Binary, Compare, Select, Cast, Alloca, Load, Store, Gep, Call}
use Rattle.hip_tree.specs.declared.instr.Operand.{Operand}
use Rattle.hip_tree.specs.declared.instr.Operand.TheVariants.{Reg, Fixed}
use Rattle.hip_tree.specs.declared.program.Function.{Function}
use Rattle.hip_tree.specs.declared.program.Program.{Program}
use Rattle.hip_globals.specs.Constants.{types_in}
use Rattle.hip_sound.specs.Registers.{Use, use_of, arg_uses, edge_uses, used_constant_types}
use Rattle.hip_sound.specs.Sound.{PhiItem, InstrItem, EndItem, IsBlockAt, TypesFit, IsSound}
use Rattle.hip_vol.specs.Gathered.{OperandFits, InstrFits, PhiFits, EndFits, BlockFits, FunctionFits}
use Rattle.std.proofs.lemmas.List.Elements.{All-nil, All-cons, All-head, All-tail}

all_front : {A : Type 0} (Q : A → Type 0) (xs ys : List A) → All Q (xs ++ ys) → All Q xs
all_front Q [] ys h = All-nil Q
all_front Q (x ∷ xs) ys h = All-cons Q x xs (All-head Q x (xs ++ ys) h) (all_front Q xs ys (All-tail Q x (xs ++ ys) h))

all_back : {A : Type 0} (Q : A → Type 0) (xs ys : List A) → All Q (xs ++ ys) → All Q ys
all_back Q [] ys h = h
all_back Q (x ∷ xs) ys h = all_back Q xs ys (All-tail Q x (xs ++ ys) h)

abbrev UsesFit : List Use → Type 0
UsesFit us = All Fits (used_constant_types us)

first_fits : (o : Operand) (ty : Scalar) (us : List Use) → UsesFit (use_of o ty ∷ us) → OperandFits o
first_fits (Reg name) ty us g = tt
first_fits (Fixed value) ty us g = record { fit = all_front Fits (types_in value) (used_constant_types us) g }

later_fit : (o : Operand) (ty : Scalar) (us : List Use) → UsesFit (use_of o ty ∷ us) → UsesFit us
later_fit (Reg name) ty us g = g
later_fit (Fixed value) ty us g = all_back Fits (types_in value) (used_constant_types us) g

args_fit : (args : List Arg) → UsesFit (arg_uses args) → All (λ a. OperandFits a.value) args
args_fit [] g = All-nil (λ (a : Arg). OperandFits a.value)
args_fit (a ∷ args) g = All-cons (λ (a : Arg). OperandFits a.value) a args (first_fits a.value a.ty (arg_uses args) g) (args_fit args (later_fit a.value a.ty (arg_uses args) g))

edges_fit : (ty : Scalar) (edges : List Edge) → UsesFit (edge_uses ty edges) → All (λ e. OperandFits e.value) edges
edges_fit ty [] g = All-nil (λ (e : Edge). OperandFits e.value)
edges_fit ty (e ∷ edges) g = All-cons (λ (e : Edge). OperandFits e.value) e edges (first_fits e.value ty (edge_uses ty edges) g) (edges_fit ty edges (later_fit e.value ty (edge_uses ty edges) g))

instr_fits : (i : Instr) → TypesFit (InstrItem i) → InstrFits i
instr_fits (Select dest test ty a b) h =
    let rest = later_fit test (Int W1) (use_of a ty ∷ use_of b ty ∷ []) h in
    (first_fits a ty (use_of b ty ∷ []) rest, first_fits b ty [] (later_fit a ty (use_of b ty ∷ []) rest))
instr_fits (Gep dest inbounds ty base indices) h =
    (first_fits base Ptr (arg_uses indices) (All-tail Fits ty _ h), All-head Fits ty _ h)
instr_fits (Store ty value addr align) h = first_fits addr Ptr [] (later_fit value ty (use_of addr Ptr ∷ []) h)
instr_fits (Call dest ret callee args) h = args_fit args h
instr_fits (Binary dest op flags width a b) h = tt
instr_fits (Compare dest pred ty a b) h = tt
instr_fits (Cast dest op from a to) h = tt
instr_fits (Alloca dest ty align) h = tt
instr_fits (Load dest ty addr align) h = tt

end_fits : (e : End) → TypesFit (EndItem e) → EndFits e
end_fits (ends.Ret (Some a)) h = first_fits a.value a.ty [] h
end_fits (ends.Ret None) h = tt
end_fits (ends.Br label) h = tt
end_fits (ends.CondBr test first second) h = tt
end_fits (ends.Switch width value other cases) h = tt
end_fits ends.Unreachable h = tt

-- If Q implies R, and Q holds of each item, then R does.
mapped : {A : Type 0} (Q R : A → Type 0) → ((x : A) → Q x → R x) → (xs : List A) → All Q xs → All R xs
mapped {A} Q R f [] h = All-nil R
mapped {A} Q R f (x ∷ xs) h = All-cons R x xs (f x (All-head Q x xs h)) (mapped Q R f xs (All-tail Q x xs h))

each_at : {A : Type 0} (R : A → Type 0) (xs : List A) → ((k : ℕ) (x : A) → slice_get xs k ≡ Some x → R x) → All R xs
each_at {A} R [] f = All-nil R
each_at {A} R (x ∷ xs) f = All-cons R x xs (f 0 x refl) (each_at R xs (λ k y e. f (suc k) y e))

block_fits : (P : Program) → IsSound P → (f b : ℕ) (fn : Function) (block : Block) → IsBlockAt P f b fn block → BlockFits block
block_fits P s f b fn block at =
    let each = s.types_fit f b fn block at in
    record {
      phis = mapped (λ (p : Phi). TypesFit (PhiItem p)) PhiFits (λ p h. edges_fit p.ty p.edges h) block.phis each.phis;
      body = mapped (λ (i : Instr). TypesFit (InstrItem i)) InstrFits instr_fits block.body each.body;
      last = end_fits block.end each.last;
    }

pub functions_fit : (P : Program) → IsSound P → All FunctionFits P.functions
functions_fit P s = each_at FunctionFits P.functions (λ f fn e. each_at BlockFits fn.blocks (λ b block h. block_fits P s f b fn block (record { function = e; block_is = h })))
