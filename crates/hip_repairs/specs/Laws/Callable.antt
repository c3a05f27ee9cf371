-- What a sound program's calls name.
use Rattle.std.proofs.Common.{◌≡◌, ◌⊎◌, ℕ, suc, Bool, true, false, cond, List, [], ◌∷◌, map, Option, Some, None, is_some, is_none, slice_get, option_map, refl, sym, ap, ◌∙◌, subst, inl, inr}
use Rattle.std.specs.Prelude.{codes, if◌then◌else◌}
use Rattle.std.specs.Str.{bytes_eq}
use Rattle.std.proofs.lemmas.Slice.Eq.{bytes_eq-Decides}
use Rattle.std.proofs.lemmas.Bool.{and_parts}
use Rattle.hip_tree.specs.declared.block.Block.{Block}
use Rattle.hip_tree.specs.declared.instr.Instr.{Instr}
use Rattle.hip_tree.specs.declared.instr.Instr.TheVariants.{Call}
use Rattle.hip_tree.specs.declared.program.Extern.{Extern}
use Rattle.hip_tree.specs.declared.program.Function.{Function}
use Rattle.hip_tree.specs.declared.program.Program.{Program}
use Rattle.hip_sound.specs.Requirement.{each}
use Rattle.hip_externs.specs.Externs.{Signature, signature, call_of, known_signature}
use Rattle.hip_names.specs.Names.{number_of}
use Rattle.hip_sound.specs.NumberedNames.{function_names, function_number}
use Rattle.hip_names.specs.Laws.NumberLaws.{number_of-cons, number_of-known}
use Rattle.hip_sound.specs.Laws.NumberingLaws.{function_number-there}
use Rattle.hip_sound.specs.Places.{extern_of, function_of, first_of, callee_of, scope_of, instr_required}
use Rattle.hip_sound.specs.Rules.{PassesVerifier, is_main, has_main, is_of, declared, free_function, externs_required, block_required, places_required}
use Rattle.hip_externs.specs.declared.call.ExternCall.{ExternCall}
use Rattle.hip_sound.specs.declared.fault.Place.TheVariants as places
use Rattle.hip_sound.specs.Laws.Decided.{holds-at}
use Rattle.hip_runs.specs.Places.{blocks_in, body_of, body_at}
use Rattle.hip_types.specs.declared.number.Scalar.{Scalar}
use Rattle.hip_tree.specs.declared.instr.Arg.{Arg}

-- The name is that of an external function of the table, or of a function of the program.
abbrev pub IsCalled : Program → List ℕ → Type 0
IsCalled P callee = ((e : ExternCall) × (call_of callee ≡ Some e))
    ⊎ ((g : ℕ) × (function_number P callee ≡ Some g))

-- What the theorems use of soundness: `main` exists, and each call names an external or a defined function.
pub record IsCallable (P : Program) : Type 0 where
  pub main_at : ℕ
  pub main : function_number P (codes "main") ≡ Some main_at
  pub calls : (f b k : ℕ) (dest : Option (List ℕ)) (ret : Option Scalar) (callee : List ℕ) (args : List Arg) →
      slice_get (body_at P f b) k ≡ Some (Call dest ret callee args) → IsCalled P callee
  -- No function has the name of an external one.
  pub free : (callee : List ℕ) (g : ℕ) → function_number P callee ≡ Some g → call_of callee ≡ None

-- ---- `main`

-- One of the functions has the name; the number is the place of the first that has it.
abbrev pub HasNumber : List Function → List ℕ → Type 0
HasNumber fs name = (j : ℕ) × (number_of (function_names fs) name ≡ Some j)

number_past : (f : Function) (fs : List Function) (name : List ℕ) → HasNumber fs name
    → HasNumber (f ∷ fs) name
number_past f fs name h = by_first (bytes_eq name f.name) refl
  where
    whole : (b : Bool) → bytes_eq name f.name ≡ b
        → number_of (function_names (f ∷ fs)) name ≡ cond b (Some 0)
        (option_map suc (number_of (function_names fs) name))
    whole b e =
        number_of-cons f.name (function_names fs) name
        ∙ ap (λ t. cond t (Some 0) (option_map suc (number_of (function_names fs) name))) e

    by_first : (b : Bool) → bytes_eq name f.name ≡ b → HasNumber (f ∷ fs) name
    by_first true e = (0, whole true e)
    by_first false e = (suc h.0, whole false e ∙ ap (option_map suc) h.1)

number_first : (f : Function) (fs : List Function) (name : List ℕ) → bytes_eq f.name name ≡ true
    → HasNumber (f ∷ fs) name
number_first f fs name e =
    number_of-known (function_names (f ∷ fs)) name 0 (ap Some ((bytes_eq-Decides f.name name).0 e))

main_number_of : (fs : List Function) → has_main fs ≡ true → HasNumber fs (codes "main")
main_number_of [] h = cc
main_number_of (f ∷ fs) h = by_first (bytes_eq f.name (codes "main")) refl h (main_number_of fs)
  where
    by_first : (b : Bool) → bytes_eq f.name (codes "main") ≡ b → (if b then is_main f else has_main fs) ≡ true
        → (has_main fs ≡ true → HasNumber fs (codes "main")) → HasNumber (f ∷ fs) (codes "main")
    by_first true e g rest = number_first f fs (codes "main") e
    by_first false e g rest = number_past f fs (codes "main") (rest g)

-- ---- calls

pub extern_at : (es : List Extern) (name : List ℕ) (s : Signature) → extern_of es name ≡ Some s
    → (k : ℕ) × (e : Extern) × (slice_get es k ≡ Some e) × (e.name ≡ name)
extern_at [] name s h = cc
extern_at (e ∷ es) name s h = by_first (bytes_eq e.name name) refl h (extern_at es name s)
  where
    by_first : (b : Bool) → bytes_eq e.name name ≡ b
        → (if b then Some (record { ret = e.ret; params = e.params }) else extern_of es name) ≡ Some s
        → (extern_of es name ≡ Some s → (k : ℕ) × (x : Extern) × (slice_get es k ≡ Some x)
        × (x.name ≡ name))
        → (k : ℕ) × (x : Extern) × (slice_get (e ∷ es) k ≡ Some x) × (x.name ≡ name)
    by_first true t g rest = (0, e, refl, (bytes_eq-Decides e.name name).0 t)
    by_first false t g rest = let later = rest g in (suc later.0, later.1, later.2, later.3)

pub function_at : (fs : List Function) (name : List ℕ) (s : Signature) → function_of fs name ≡ Some s
    → HasNumber fs name
function_at [] name s h = cc
function_at (f ∷ fs) name s h = by_first (bytes_eq f.name name) refl h (function_at fs name s)
  where
    by_first : (b : Bool) → bytes_eq f.name name ≡ b
        → (if b then Some (record { ret = f.ret; params = map (λ p. p.ty) f.params }) else function_of fs name)
        ≡ Some s
        → (function_of fs name ≡ Some s → HasNumber fs name) → HasNumber (f ∷ fs) name
    by_first true t g rest = number_first f fs name t
    by_first false t g rest = number_past f fs name (rest g)

-- A declared external function is in the table.
pub of_table : (e : Extern) (name : List ℕ) → e.name ≡ name → is_of e (known_signature e.name) ≡ true
    → (c : ExternCall) × (call_of name ≡ Some c)
of_table e name same h = by_call (call_of e.name) (ap call_of (sym same)) h
  where
    by_call : (o : Option ExternCall) → call_of name ≡ o → is_of e (option_map signature o) ≡ true
        → (c : ExternCall) × (call_of name ≡ Some c)
    by_call None f g = cc
    by_call (Some c) f g = (c, f)

-- Function f, its block b and the instruction at place k of the block's body exist, and the instruction is this one.
abbrev pub IsInstrAt : Program → (f b k : ℕ) → Instr → Type 0
IsInstrAt P f b k i =
    (fn : Function) × (block : Block) × (slice_get P.functions f ≡ Some fn)
    × (slice_get fn.blocks b ≡ Some block)
    × (slice_get block.body k ≡ Some i)

pub instr_place : (P : Program) (f b k : ℕ) (i : Instr) → slice_get (body_at P f b) k ≡ Some i
    → IsInstrAt P f b k i
instr_place P f b k i h = in_function (slice_get P.functions f) refl h
  where
    in_block : (fn : Function) → slice_get P.functions f ≡ Some fn → (o : Option Block)
        → slice_get fn.blocks b ≡ o
        → slice_get (body_of o) k ≡ Some i → IsInstrAt P f b k i
    in_block fn e None g c = cc
    in_block fn e (Some block) g c = (fn, block, e, g, c)

    in_function : (o : Option Function) → slice_get P.functions f ≡ o
        → slice_get (body_of (slice_get (blocks_in o) b)) k ≡ Some i → IsInstrAt P f b k i
    in_function None e c = cc
    in_function (Some fn) e c = in_block fn e (slice_get fn.blocks b) refl c

pub callee_there : (P : Program) (callee : List ℕ) → (externs_required P).Holds
    → is_some (callee_of P callee) ≡ true
    → IsCalled P callee
callee_there P callee externs h = in_externs (extern_of P.externs callee) refl h
  where
    in_functions : (o : Option Signature) → function_of P.functions callee ≡ o → is_some o ≡ true
        → IsCalled P callee
    in_functions None e g = cc
    in_functions (Some s) e g = inr (function_at P.functions callee s e)

    in_externs : (o : Option Signature) → extern_of P.externs callee ≡ o
        → is_some (first_of o (function_of P.functions callee)) ≡ true → IsCalled P callee
    in_externs None e g = in_functions (function_of P.functions callee) refl g
    in_externs (Some s) e g =
        let there = extern_at P.externs callee s e in
        inl (of_table there.1 callee there.3 (holds-at declared P.externs there.0 there.1 externs.1.0 there.2))

-- Each instruction meets the rules of places.
pub instr_checked : (P : Program) → (places_required P).Holds
    → (f b k : ℕ) (i : Instr) (fn : Function) (block : Block)
    → slice_get P.functions f ≡ Some fn → slice_get fn.blocks b ≡ Some block
    → slice_get block.body k ≡ Some i →
    (instr_required (scope_of P fn) i (places.Body (record { function = f; block = b; index = k }))).Holds
instr_checked P h f b k i fn block e g c =
    holds-at (λ k instr. instr_required (scope_of P fn) instr
    (places.Body (record { function = f; block = b; index = k }))) block.body k i
    (holds-at (block_required (scope_of P fn) f) fn.blocks b block
    (holds-at (λ f fn. each (block_required (scope_of P fn) f) fn.blocks) P.functions f fn h e) g).1.0 c

pub callable_of : (P : Program) → PassesVerifier P → IsCallable P
callable_of P sound =
    let main = main_number_of P.functions sound.main in
    record {
      main_at = main.0;
      main = main.1;
      calls = λ f b k dest ret callee args c.
          let at = instr_place P f b k (Call dest ret callee args) c in
          callee_there P callee sound.externs (and_parts _ _
          (instr_checked P sound.places f b k (Call dest ret callee args) at.0 at.1 at.2 at.3 at.4).0).1;
      free = λ callee g e.
          let there = function_number-there P callee g e in
          none_of (call_of callee) (subst (λ name. is_none (call_of name) ≡ true) there.2
          (holds-at free_function P.functions g there.0 sound.externs.1.1 there.1));
    }
  where
    none_of : (o : Option ExternCall) → is_none o ≡ true → o ≡ None
    none_of None e = refl
    none_of (Some c) e = cc
