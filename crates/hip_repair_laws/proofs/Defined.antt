-- A repair makes nothing undefined that was defined.
use Rattle.std.proofs.Common.{◌≡◌, ℕ, Bool, List, [], ◌∷◌, length, Option, Some, None, refl, sym, ap, ap₂, ◌∙◌, subst}
use Rattle.hip_tree.specs.declared.block.End.{End}
use Rattle.hip_tree.specs.declared.instr.Instr.{Instr}
use Rattle.hip_tree.specs.declared.instr.Instr.TheVariants.{Binary, Compare, Select, Cast, Alloca, Load, Store, Gep, Call}
use Rattle.hip_tree.specs.declared.program.Program.{Program}
use Rattle.hip_tree.specs.declared.site.Site.{Site}
use Rattle.hip_repairs.specs.Harmless.{IsHarmless, Matches, SameFrames, matched}
use Rattle.hip_repairs.specs.Repaired.{Clone, cloned, clones_of, renamed, repaired}
use Rattle.hip_repairs.specs.declared.plan.Plan.{Plan}
use Rattle.hip_runs.specs.Places.{code_at, end_at}
use Rattle.hip_runs.specs.State.{Frame, Registers, State, World}
use Rattle.hip_runs.specs.Step.{run}
use Rattle.hip_runs.specs.declared.event.Ending.{Ending}
use Rattle.hip_histories.specs.SameSteps.{HaveSameNext, IsSameNext, TakesSameSteps}
use Rattle.hip_repair_laws.specs.Defined.{AddsNothingUndefined, Doing, doing_in, first_of, nameless}

same_nameless : (clones : List Clone) (i : Instr) (to_clone : Bool) → nameless (renamed clones i to_clone) ≡ nameless i
same_nameless clones (Binary to op flags width x y) c = refl
same_nameless clones (Compare to pred ty x y) c = refl
same_nameless clones (Select to test ty x y) c = refl
same_nameless clones (Cast to op from x ty) c = refl
same_nameless clones (Alloca to ty align) c = refl
same_nameless clones (Load to ty addr align) c = refl
same_nameless clones (Store ty value addr align) c = refl
same_nameless clones (Gep to inbounds ty pointer indices) c = refl
same_nameless clones (Call to ret callee args) c = refl

same_first : (clones : List Clone) (is is' : List Instr) → IsSameNext clones is is' → first_of is' ≡ first_of is
same_first clones [] [] h = refl
same_first clones (i ∷ is) (i' ∷ is') h =
    ap (λ (j : Instr). Some (nameless j)) h.1 ∙ ap (λ (j : Instr). Some j) (same_nameless clones i h.0)
same_first clones [] (i' ∷ is') h = absurd h
same_first clones (i ∷ is) [] h = absurd h

-- What both frames are about to do.
abbrev doing_of : Option Instr → Option End → Registers → World → Option Doing
doing_of i e regs w = Some (record { instr = i; end = e; registers = regs; world = w })

module _ (P Q : Program) (clones : List Clone) (functions : ℕ) (copied : List ℕ) (w w' : World) (same : w' ≡ w) where
  same_doing : (fs fs' : List Frame) → SameFrames functions copied fs fs' → HaveSameNext P Q clones None fs fs'
      → doing_in Q w' fs' ≡ doing_in P w fs
  same_doing [] [] frames next = absurd next
  same_doing (f ∷ fs) (f' ∷ fs') frames next =
      ap (λ (x : World). doing_of (first_of (code_at Q f')) (end_at Q f') f'.registers x) same
      ∙ ap₂ (λ (i : Option Instr) (e : Option End). doing_of i e f'.registers w)
      (same_first clones (code_at P f) (code_at Q f') next.0) next.1
      ∙ ap (λ (regs : Registers). doing_of (first_of (code_at P f)) (end_at P f) regs w) frames.0.registers
  same_doing [] (f' ∷ fs') frames next = absurd frames
  same_doing (f ∷ fs) [] frames next = absurd frames

pub adds_nothing : (P : Program) (plan : Plan) (skip : Site → Bool) → IsHarmless P plan skip → TakesSameSteps P plan skip
    → AddsNothingUndefined P plan skip
adds_nothing P plan skip harmless steps I valid undefined none n going here =
    ap undefined
    (same_doing P (repaired P plan skip) (clones_of P plan) (length P.functions) (cloned P plan) s.world s'.world
    match.world s.frames s'.frames match.frames
    (subst (λ (o : Option Ending). HaveSameNext P (repaired P plan skip) (clones_of P plan) o s.frames s'.frames) going
    (steps.same I valid n here)))
    ∙ none (matched P plan skip I n) (sym (ap (λ (w : World). w.ending) match.world) ∙ going)
  where
    s : State
    s = run P I (matched P plan skip I n)

    s' : State
    s' = run (repaired P plan skip) I n

    match : Matches (length P.functions) (cloned P plan) I s s'
    match = harmless.matches I valid n
