-- What holds in a sound program follows from its rules.
use Rattle.std.specs.Prelude.{ℕ, suc, ◌≡◌, ◌⊎◌, Bool, true, false, List, [], ◌∷◌, map, All, Option, Some, None, slice_get, option_map, if◌then◌else◌}
use Rattle.std.specs.Str.{bytes_eq}
use Rattle.std.proofs.Common.{refl, sym, ap, ◌∙◌, inl, inr}
use Rattle.std.proofs.lemmas.List.Elements.{All-head, All-tail, All-weaker}
use Rattle.std.proofs.lemmas.Slice.Eq.{bytes_eq-Decides}
use Rattle.hip_types.specs.declared.number.Scalar.{Scalar}
use Rattle.hip_tree.specs.declared.block.Block.{Block}
use Rattle.hip_tree.specs.declared.instr.Arg.{Arg}
use Rattle.hip_tree.specs.declared.instr.Instr.TheVariants.{Call}
use Rattle.hip_tree.specs.declared.program.Extern.{Extern}
use Rattle.hip_tree.specs.declared.program.Function.{Function}
use Rattle.hip_tree.specs.declared.program.Program.{Program}
use Rattle.hip_sound.specs.Laws.Decided.{all-at}
use Rattle.hip_externs.specs.Externs.{Signature, known_signature}
use Rattle.hip_sound.specs.Given.{CallsFunction, CallsExtern, CallsAgree, OperandsAgree, HasBlock, LabelsExist, PhisAgree}
use Rattle.hip_names.specs.Laws.NameLaws.{bytes_eq-sym}
use Rattle.hip_names.specs.Names.{IsAmong, number_of}
use Rattle.hip_sound.specs.NumberedNames.{function_names, label_names}
use Rattle.hip_names.specs.Laws.NumberLaws.{number_of-cons}
use Rattle.hip_sound.specs.Places.{callee_of, extern_of, function_of, first_of}
use Rattle.hip_sound.specs.Registers.{end_labels}
use Rattle.hip_sound.specs.Sound.{IsOfTable, EdgesAgree, PhiItem, InstrItem, TypesAgree, IsSound}

some_is : {A : Type 0} (x y : A) → Some x ≡ Some y → x ≡ y
some_is x y e = cc

-- ---- operands

pub sound-operands : (P : Program) → IsSound P → OperandsAgree P
sound-operands P s f b fn block at =
    let here = s.types_agree f b fn block at in
    record {
      phis = λ i p e. (all-at (λ p. TypesAgree P fn (PhiItem p)) block.phis i p here.phis e).operands;
      body = λ i instr e. (all-at (λ i. TypesAgree P fn (InstrItem i)) block.body i instr here.body e).operands;
      last = here.last.operands;
    }

-- ---- labels

has_block : (bs : List Block) (label : List ℕ) → IsAmong (map (λ b. b.label) bs) label
    → (n : ℕ) × (b : Block) × (slice_get bs n ≡ Some b) × (b.label ≡ label)
has_block [] label h = absurd h
has_block (b ∷ bs) label (inl e) = (0, b, refl, e)
has_block (b ∷ bs) label (inr h) = let later = has_block bs label h in (suc later.0, later.1, later.2, later.3)

block_of : (fn : Function) (label : List ℕ) → IsAmong (label_names fn) label → HasBlock fn label
block_of fn label h =
    let found = has_block fn.blocks label h in
    record { number = found.0; block = found.1; here = found.2; named = found.3 }

pub sound-labels : (P : Program) → IsSound P → LabelsExist P
sound-labels P s f b fn block at =
    All-weaker (IsAmong (label_names fn)) (HasBlock fn) (block_of fn) (end_labels block.end)
    (s.names_exist f b fn block at).last.labels

-- ---- edges

pub sound-phis : (P : Program) → IsSound P → PhisAgree P
sound-phis P s f b c i fn block prior p at before named e =
    (all-at (λ p. EdgesAgree fn block p.edges) block.phis i p (s.edges_agree f b fn block at).phis e).named prior.label
    (record { number = c; block = prior; here = before.block_is; label = refl; named = named })

-- ---- functions

-- A function with the signature, at the number of the name.
pub record FunctionAt (fs : List Function) (name : List ℕ) (s : Signature) : Type 0 where
  pub number : ℕ
  pub function : Function
  pub named : number_of (function_names fs) name ≡ Some number
  pub here : slice_get fs number ≡ Some function
  pub result : function.ret ≡ s.ret
  pub params : map (λ p. p.ty) function.params ≡ s.params

number_by : (f : Function) (fs : List Function) (name : List ℕ) (b : Bool) → bytes_eq f.name name ≡ b
    → number_of (function_names (f ∷ fs)) name
    ≡ (if b then Some 0 else option_map suc (number_of (function_names fs) name))
number_by f fs name b is =
    number_of-cons f.name (function_names fs) name
    ∙ ap (λ t. if t then Some 0 else option_map suc (number_of (function_names fs) name))
    (bytes_eq-sym name f.name ∙ is)

function_found : (fs : List Function) (name : List ℕ) (s : Signature) → function_of fs name ≡ Some s
    → FunctionAt fs name s
function_found [] name s e = cc
function_found (f ∷ fs) name s e = by_test (λ later. function_found fs name s later) (bytes_eq f.name name) refl e
  where
    by_test : (function_of fs name ≡ Some s → FunctionAt fs name s) → (b : Bool) → bytes_eq f.name name ≡ b
        → (if b then Some (record { ret = f.ret; params = map (λ p. p.ty) f.params }) else function_of fs name)
        ≡ Some s
        → FunctionAt (f ∷ fs) name s
    by_test rest true is e =
        let same = some_is (record { ret = f.ret; params = map (λ p. p.ty) f.params }) s e in
        record {
          number = 0;
          function = f;
          named = number_by f fs name true is;
          here = refl;
          result = ap (λ t. t.ret) same;
          params = ap (λ t. t.params) same;
        }
    by_test rest false is e =
        let later = rest e in
        record {
          number = suc later.number;
          function = later.function;
          named = number_by f fs name false is ∙ ap (option_map suc) later.named;
          here = later.here;
          result = later.result;
          params = later.params;
        }

-- ---- external functions

extern_found : (es : List Extern) (name : List ℕ) (s : Signature) → All IsOfTable es
    → extern_of es name ≡ Some s
    → known_signature name ≡ Some s
extern_found [] name s h e = cc
extern_found (x ∷ xs) name s h e =
    by_test (λ later. extern_found xs name s (All-tail IsOfTable x xs h) later) (bytes_eq x.name name) refl e
  where
    by_test : (extern_of xs name ≡ Some s → known_signature name ≡ Some s) → (b : Bool)
        → bytes_eq x.name name ≡ b
        → (if b then Some (record { ret = x.ret; params = x.params }) else extern_of xs name) ≡ Some s
        → known_signature name ≡ Some s
    by_test rest true is e =
        ap known_signature (sym ((bytes_eq-Decides x.name name).0 is)) ∙ All-head IsOfTable x xs h ∙ e
    by_test rest false is e = rest e

-- ---- calls

call_is : (P : Program) (callee : List ℕ) (ret : Option Scalar) (args : List Arg) → All IsOfTable P.externs
    → callee_of P callee ≡ Some (record { ret = ret; params = map (λ a. a.ty) args })
    → CallsFunction P callee ret args ⊎ CallsExtern callee ret args
call_is P callee ret args table e = by_extern (extern_of P.externs callee) refl e
  where
    of_function : FunctionAt P.functions callee (record { ret = ret; params = map (λ a. a.ty) args })
        → CallsFunction P callee ret args
    of_function f =
        record {
          number = f.number;
          function = f.function;
          named = f.named;
          here = f.here;
          result = f.result;
          params = f.params;
        }

    by_extern : (o : Option Signature) → extern_of P.externs callee ≡ o
        → first_of o (function_of P.functions callee) ≡ Some (record { ret = ret; params = map (λ a. a.ty) args })
        → CallsFunction P callee ret args ⊎ CallsExtern callee ret args
    by_extern None is e =
        inl (of_function (function_found P.functions callee (record { ret = ret; params = map (λ a. a.ty) args }) e))
    by_extern (Some s) is e =
        inr (record {
          signature = record { ret = ret; params = map (λ a. a.ty) args };
          known = extern_found P.externs callee (record { ret = ret; params = map (λ a. a.ty) args }) table (is ∙ e);
          result = refl;
          params = refl;
        })

pub sound-calls : (P : Program) → IsSound P → CallsAgree P
sound-calls P s f b i fn block dest ret callee args at e =
    call_is P callee ret args s.externs.externs
    (all-at (λ i. TypesAgree P fn (InstrItem i)) block.body i (Call dest ret callee args)
    (s.types_agree f b fn block at).body e).own.signature
