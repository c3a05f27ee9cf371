-- If no flush is ordered, the crash images are those of the other crates.
use Rattle.std.proofs.Common.{◌≡◌, ℕ, zero, suc, Bool, true, false, cond, ◌&&◌, List, [], ◌∷◌, Option, Some, None, slice_get, refl, ap, arith}
use Rattle.hip_tree.specs.declared.instr.Instr.{Instr}
use Rattle.hip_tree.specs.declared.instr.Instr.TheVariants.{Binary, Compare, Select, Cast, Alloca, Load, Store, Gep, Call}
use Rattle.hip_tree.specs.declared.program.Program.{Program}
use Rattle.hip_externs.specs.Externs.{call_of}
use Rattle.hip_externs.specs.declared.call.ExternCall.{ExternCall}
use Rattle.hip_runs.specs.Places.{code_at}
use Rattle.hip_runs.specs.State.{Frame}
use Rattle.hip_runs.specs.Step.{event, run}
use Rattle.hip_runs.specs.declared.input.Input.{Input}
use Rattle.hip_repair_laws.specs.OrderedHistories.{WeakImagesAreAll}
use Rattle.hip_repair_laws.specs.FlushOrders.{begins_ordered, flushes_line, is_ordered, ordered_parts, parts_in, stands_ordered, weak}

never : (o : Option ExternCall) → is_ordered weak o ≡ false
never None = refl
never (Some call) = refl

never_begins : (is : List Instr) → begins_ordered weak is ≡ false
never_begins [] = refl
never_begins (Binary to op flags width x y ∷ is) = refl
never_begins (Compare to pred ty x y ∷ is) = refl
never_begins (Select to test ty x y ∷ is) = refl
never_begins (Cast to op from x ty ∷ is) = refl
never_begins (Alloca to ty align ∷ is) = refl
never_begins (Load to ty addr align ∷ is) = refl
never_begins (Store ty value addr align ∷ is) = refl
never_begins (Gep to inbounds ty pointer indices ∷ is) = refl
never_begins (Call to ret callee args ∷ is) = never (call_of callee)

never_stands : (P : Program) (fs : List Frame) → stands_ordered weak P fs ≡ false
never_stands P [] = refl
never_stands P (f ∷ fs) = never_begins (code_at P f)

neither : (b o : Bool) (n : ℕ) → o ≡ false → cond (b && o) n 0 ≡ 0
neither true o n e = ap (λ (x : Bool). cond x n 0) e
neither false o n e = refl

no_parts : (P : Program) (I : Input) (n j : ℕ) → ordered_parts weak P I n j ≡ 0
no_parts P I zero j = refl
no_parts P I (suc n) j =
    let before = no_parts P I n j in
    let here = neither (flushes_line I j (event P I (run P I n))) (stands_ordered weak P (run P I n).frames)
    (parts_in (slice_get (run P I n).lines j)) (never_stands P (run P I n).frames) in
    omega (arith, before, here)

pub weak_are_all : (P : Program) (I : Input) (n : ℕ) (content : List ℕ) → WeakImagesAreAll P I n content
weak_are_all P I n content = record {
  there = λ h. record { whole = h.whole; lines = λ j l e. let x = h.lines j l e in (x.first, x.at) };
  back =
      λ h. record {
        whole = h.whole;
        lines =
            λ j l e. let x = h.lines j l e in
            let none = no_parts P I n j in
            record { first = x.0; at = x.1; ordered_too = omega (arith, none) };
      };
}
