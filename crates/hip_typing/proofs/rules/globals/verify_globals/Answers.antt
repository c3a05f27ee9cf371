use Rattle.std.proofs.Common.{List, map, subst, Option}
use Rattle.hip_tree.specs.declared.program.GlobalVar.{GlobalVar}
use Rattle.hip_typing.specs.Seen.Answers.{Answers}
use Rattle.hip_sound.specs.Requirement.{each}
use Rattle.hip_sound.specs.Rules.{global_required}
use Rattle.hip_sound.specs.declared.fault.Finding.{Finding}
use Rattle.hip_typing.proofs.GlobalLemmas.{globals_known}
use Rattle.hip_typing.proofs.rules.globals.verify_globals.Goals as goal

pub returns : goal.returns
returns c =
    let globals = c.as_slice-globals.result.now in
    subst (λ (gs : List GlobalVar). Answers c.verify_each_global.result (each (global_required (map (λ g. g.name) gs)) gs).found) c.as_slice-globals.ensures
    (subst (λ (found : Option Finding). Answers c.verify_each_global.result found) (globals_known c.in_ok-known.known (map (λ g. g.name) globals) globals c.in_ok-known.ensures) c.verify_each_global.ensures)
