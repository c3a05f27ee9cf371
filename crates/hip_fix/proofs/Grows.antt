-- A body grows by lists of instructions, and so does what is made by lists of functions.
use Rattle.std.proofs.Common.{ℕ, ◌≡◌, ◌||◌, ◌&&◌, Bool, true, false, List, [], ◌∷◌, ◌++◌, append_assoc, append-nil, refl, sym, ap, ◌∙◌}
use Rattle.std.proofs.lemmas.List.{map-append}
use Rattle.std.proofs.lemmas.List.Folds.{list_any-append}
use Rattle.hip_tree.specs.declared.instr.Instr.{Instr}
use Rattle.hip_tree.specs.declared.instr.Operand.{Operand}
use Rattle.hip_repairs.specs.Repaired.{Marked, inserts, is_call_of, instrs_of, clwb_name, sfence_name, pmem_flush_name, line_flush, range_flush, the_fence}
use Rattle.hip_fix.specs.Walk.{grown, noted, with_functions}
use Rattle.hip_fix.specs.declared.body.RepairedBody.{RepairedBody}
use Rattle.hip_fix.specs.declared.body.NeededExterns.{NeededExterns}
use Rattle.hip_fix.specs.declared.repair.RepairedFunctions.{RepairedFunctions}

or_false : (b : Bool) → b ≡ (b || false)
or_false true = refl
or_false false = refl

or_true : (b : Bool) → true ≡ (b || true)
or_true true = refl
or_true false = refl

or_assoc : (a b c : Bool) → ((a || b) || c) ≡ (a || (b || c))
or_assoc true b c = refl
or_assoc false b c = refl

noted_once : (b : Bool) (name : List ℕ) (xs ys : List Marked) → ((b || inserts name xs) || inserts name ys) ≡ (b || inserts name (xs ++ ys))
noted_once b name xs ys =
    or_assoc b (inserts name xs) (inserts name ys) ∙ ap (λ t. b || t) (sym (list_any-append (λ (m : Marked). m.1 && is_call_of name m.0) xs ys))

pub noted-append : (n : NeededExterns) (xs ys : List Marked) → noted (noted n xs) ys ≡ noted n (xs ++ ys)
noted-append n xs ys = λ i. record {
  clwb = noted_once n.clwb clwb_name xs ys i;
  sfence = noted_once n.sfence sfence_name xs ys i;
  pmem_flush = noted_once n.pmem_flush pmem_flush_name xs ys i;
}

pub noted-none : (n : NeededExterns) → n ≡ noted n []
noted-none n = λ i. record { clwb = or_false n.clwb i; sfence = or_false n.sfence i; pmem_flush = or_false n.pmem_flush i }

pub grown-append : (b : RepairedBody) (xs ys : List Marked) → grown (grown b xs) ys ≡ grown b (xs ++ ys)
grown-append b xs ys =
    let instrs : (b.instrs ++ instrs_of xs) ++ instrs_of ys ≡ b.instrs ++ instrs_of (xs ++ ys) =
    append_assoc b.instrs (instrs_of xs) (instrs_of ys) ∙ ap (λ is. b.instrs ++ is) (sym (map-append (λ (m : Marked). m.0) xs ys)) in
    λ i. record { instrs = instrs i; needed = noted-append b.needed xs ys i }

pub grown-none : (b : RepairedBody) → b ≡ grown b []
grown-none b = λ i. record { instrs = sym (append-nil b.instrs) i; needed = noted-none b.needed i }

-- What is made stays the same if no function is added.
pub made-none : (m : RepairedFunctions) → m ≡ with_functions m [] []
made-none m = λ i. record { functions = sym (append-nil m.functions) i; needed = noted-none m.needed i }

-- A body after an instruction of the program was added.
pub grown-kept : (b : RepairedBody) (instrs : List Instr) (instr : Instr) → instrs ≡ b.instrs ++ instr ∷ [] → record b { instrs = instrs } ≡ grown b ((instr, false) ∷ [])
grown-kept b instrs instr e = λ i. record { instrs = e i; needed = noted-none b.needed i }

-- A body after an inserted call was added.
pub grown-clwb : (b : RepairedBody) (instrs : List Instr) (addr : Operand) → instrs ≡ b.instrs ++ line_flush addr ∷ [] →
    record { instrs = instrs; needed = record { clwb = true; sfence = b.needed.sfence; pmem_flush = b.needed.pmem_flush } } ≡ grown b ((line_flush addr, true) ∷ [])
grown-clwb b instrs addr e = λ i. record { instrs = e i; needed = record { clwb = or_true b.needed.clwb i; sfence = or_false b.needed.sfence i; pmem_flush = or_false b.needed.pmem_flush i } }

pub grown-pmem_flush : (b : RepairedBody) (instrs : List Instr) (addr : Operand) (size : ℕ) → instrs ≡ b.instrs ++ range_flush addr size ∷ [] →
    record { instrs = instrs; needed = record { clwb = b.needed.clwb; sfence = b.needed.sfence; pmem_flush = true } } ≡ grown b ((range_flush addr size, true) ∷ [])
grown-pmem_flush b instrs addr size e = λ i. record { instrs = e i; needed = record { clwb = or_false b.needed.clwb i; sfence = or_false b.needed.sfence i; pmem_flush = or_true b.needed.pmem_flush i } }

pub grown-sfence : (b : RepairedBody) (instrs : List Instr) → instrs ≡ b.instrs ++ the_fence ∷ [] →
    record { instrs = instrs; needed = record { clwb = b.needed.clwb; sfence = true; pmem_flush = b.needed.pmem_flush } } ≡ grown b ((the_fence, true) ∷ [])
grown-sfence b instrs e = λ i. record { instrs = e i; needed = record { clwb = or_false b.needed.clwb i; sfence = or_true b.needed.sfence i; pmem_flush = or_false b.needed.pmem_flush i } }
