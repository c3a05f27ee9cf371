use Rattle.std.proofs.Common.{ap, subst, ◌∙◌, Option, Err, Ok}
use Rattle.hip_typing.specs.Seen.Answers.{Answers}
use Rattle.hip_names.specs.Names.{is_among}
use Rattle.hip_typing.specs.Seen.PhiSeen.{phi_found-is}
use Rattle.hip_sound.specs.Rules.{phi_at}
use Rattle.hip_typing.specs.Seen.TablesSeen.{scope_in}
use Rattle.hip_sound.specs.declared.fault.Finding.{Finding}
use Rattle.hip_typing.proofs.Loops.{each_stops, each_goes_on}
use Rattle.hip_typing.proofs.places.verify_phis.Goals as goal

pub returns-in-Err : goal.returns-in-Err
returns-in-Err c =
    let p = c.args.program.now in
    let f = c.args.function.now in
    let label = c.args.label.now in
    let is = phi_found-is (scope_in p f) f.registers.names f.registers.values p.globals f.labels c.at-before.result.now label c.requires.function.registers c.requires.program.globals c.requires.function.labels
    (λ name. ap (λ ns. is_among ns name) c.at-before.ensures ∙ c.requires.function.before.finds label name) c.index-phis-index.result _ in
    each_stops (Unit {0}) (phi_at (scope_in p f) label c.args.site.0 c.args.site.1) c.args.phis.now c.phis.index c.index-phis-index.result c.in-Err.refused c.phis-test.true c.index-phis-index.is c.phis.invariant
    (subst (λ (o : Option Finding). Answers {T = Unit {0}} (Err c.in-Err.refused) o) is c.in-Err.ensures)

pub phis-preserved : goal.phis-preserved
phis-preserved c =
    let p = c.args.program.now in
    let f = c.args.function.now in
    let label = c.args.label.now in
    let is = phi_found-is (scope_in p f) f.registers.names f.registers.values p.globals f.labels c.at-before.result.now label c.requires.function.registers c.requires.program.globals c.requires.function.labels
    (λ name. ap (λ ns. is_among ns name) c.at-before.ensures ∙ c.requires.function.before.finds label name) c.index-phis-index.result _ in
    each_goes_on (phi_at (scope_in p f) label c.args.site.0 c.args.site.1) c.args.phis.now c.phis.index c.index-phis-index.result c.phis-test.true c.index-phis-index.is c.phis.invariant
    (subst (λ (o : Option Finding). Answers {T = Unit {0}} (Ok tt) o) is c.in_default.ensures)
