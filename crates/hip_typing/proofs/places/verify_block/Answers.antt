use Rattle.std.proofs.Common.{subst, Option}
use Rattle.hip_typing.specs.Seen.Answers.{Answers}
use Rattle.hip_typing.specs.Seen.EndSeen.{end_found-is}
use Rattle.hip_typing.specs.Seen.TablesSeen.{scope_in}
use Rattle.hip_sound.specs.declared.fault.Finding.{Finding}
use Rattle.hip_typing.proofs.Loops.{after_two}
use Rattle.hip_typing.proofs.places.verify_block.Goals as goal

pub returns : goal.returns
returns c =
    let p = c.args.program.now in
    let f = c.args.function.now in
    let is = end_found-is (scope_in p f) f.registers.names f.registers.values p.globals f.labels c.requires.function.registers c.requires.program.globals c.requires.function.labels c.args.block.now.end _ in
    after_two c.verify_end.result _ _ _ (rw (← c.as_slice.ensures, ← c.as_slice-2.ensures) c.in_ok-verify_phis.ensures) (rw (← c.as_slice-3.ensures) c.in_ok-verify_body.ensures)
    (subst (λ (o : Option Finding). Answers c.verify_end.result o) is c.verify_end.ensures)
