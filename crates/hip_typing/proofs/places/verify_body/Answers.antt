use Rattle.std.proofs.Common.{subst, Option, Err, Ok}
use Rattle.hip_typing.specs.Seen.Answers.{Answers}
use Rattle.hip_typing.specs.Seen.InstrSeen.{instr_found-is}
use Rattle.hip_sound.specs.Rules.{instr_at}
use Rattle.hip_typing.specs.Seen.TablesSeen.{scope_in}
use Rattle.hip_sound.specs.declared.fault.Finding.{Finding}
use Rattle.hip_typing.proofs.Loops.{each_stops, each_goes_on}
use Rattle.hip_typing.proofs.places.verify_body.Goals as goal

pub returns-in-Err : goal.returns-in-Err
returns-in-Err c =
    let p = c.args.program.now in
    let f = c.args.function.now in
    let is = instr_found-is (scope_in p f) f.registers.names f.registers.values p.globals p.callees.names p.callees.values c.requires.function.registers c.requires.program.globals c.requires.program.callees c.index-body-index.result _ in
    each_stops (Unit {0}) (instr_at (scope_in p f) c.args.site.0 c.args.site.1) c.args.body.now c.body.index c.index-body-index.result c.in-Err.refused c.body-test.true c.index-body-index.is c.body.invariant
    (subst (λ (o : Option Finding). Answers {T = Unit {0}} (Err c.in-Err.refused) o) is c.in-Err.ensures)

pub body-preserved : goal.body-preserved
body-preserved c =
    let p = c.args.program.now in
    let f = c.args.function.now in
    let is = instr_found-is (scope_in p f) f.registers.names f.registers.values p.globals p.callees.names p.callees.values c.requires.function.registers c.requires.program.globals c.requires.program.callees c.index-body-index.result _ in
    each_goes_on (instr_at (scope_in p f) c.args.site.0 c.args.site.1) c.args.body.now c.body.index c.index-body-index.result c.body-test.true c.index-body-index.is c.body.invariant
    (subst (λ (o : Option Finding). Answers {T = Unit {0}} (Ok tt) o) is c.in_default.ensures)
