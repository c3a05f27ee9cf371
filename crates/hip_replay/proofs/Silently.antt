-- Over silent steps a run goes on, and its output stays the same.
use Rattle.std.proofs.Common.{◌≡◌, ℕ, ◌+◌, ◌<◌, true, None, ap, ◌∙◌, subst, arith}
use Rattle.hip_tree.specs.declared.program.Program.{Program}
use Rattle.hip_runner.specs.Laws.SilentLaws.{still_going}
use Rattle.hip_runner.specs.Laws.SilentLaws as laws
use Rattle.hip_runner.specs.Silent.{ComesToPrint, GoesSilently, is_silent}
use Rattle.hip_lockstep.proofs.Going.{IsGoing, IsStated, fewer, here, steps_ahead}
use Rattle.hip_runs.specs.Outputs.{ending_by}
use Rattle.hip_runs.specs.Seen.{Seen, after_step}
use Rattle.hip_runs.specs.Step.{event, run}
use Rattle.hip_runs.specs.declared.event.Event.{Event}
use Rattle.hip_runs.specs.declared.input.Input.{Input}

module _ {P : Program} {I : Input} {old new : Seen} (is : IsGoing P I old) (q : GoesSilently old new) where
  pub silent_taken : new.taken ≡ old.taken + q.steps
  silent_taken = ap (λ (m : Seen). m.taken) q.is

  silent_at : (n : ℕ) → n < q.steps → is_silent (event P I (run P I (old.taken + n))) ≡ true
  silent_at n lt =
      subst (λ (i : Input). is_silent (event P i (run P i (old.taken + n))) ≡ true) is.input
      (subst (λ (p : Program). is_silent (event p old.input (run p old.input (old.taken + n))) ≡ true) is.program
      (q.silent n lt))

  pub goes_silently : IsGoing P I new
  goes_silently = record {
    program = ap (λ (m : Seen). m.program) q.is ∙ is.program;
    input = ap (λ (m : Seen). m.input) q.is ∙ is.input;
    going = ap (λ n. (run P I n).world.ending) silent_taken ∙ still_going P I old.taken q.steps is.going silent_at;
  }

  pub same_output : (run P I new.taken).world.output ≡ (run P I old.taken).world.output
  same_output = ap (λ n. (run P I n).world.output) silent_taken ∙ laws.same_output P I old.taken q.steps silent_at

-- The event to which a run comes is that of its step there.
pub print_there : {P : Program} {I : Input} {old new : Seen} {e : Event} → IsStated P I → IsGoing P I old
    → (c : ComesToPrint old new e) → event P I (run P I c.before.taken) ≡ e
print_there {e = e} stated is c = here stated (goes_silently is c.silent) e c.is

-- A run that comes to an event which is no end has fewer steps left.
pub prints_nearer : {P : Program} {I : Input} {old new : Seen} {e : Event} → IsStated P I → IsGoing P I old
    → ComesToPrint old new e → ending_by e ≡ None → steps_ahead P I new.taken < steps_ahead P I old.taken
prints_nearer {P} {I} {old} {new} {e} stated is c goes =
    let at = c.before in
    let on = goes_silently is c.silent in
    let less : steps_ahead P I (after_step at).taken < steps_ahead P I at.taken = fewer stated on e (here stated on e c.is) goes in
    let next : steps_ahead P I new.taken ≡ steps_ahead P I (after_step at).taken = ap (λ (m : Seen). steps_ahead P I m.taken) c.step in
    let taken = silent_taken is c.silent in
    omega (arith, less, next, taken)
