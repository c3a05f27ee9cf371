use Rattle.std.proofs.Common.{◌≡◌, drop}
use Rattle.hip_sound.specs.Requirement.{each, each_from}
use Rattle.hip_sound.specs.Rules.{instr_at}
use Rattle.hip_typing.specs.Seen.TablesSeen.{scope_in}
use Rattle.hip_typing.proofs.places.verify_body.Given as goal

abbrev pub invariant-body : goal.invariant-body
invariant-body l = (each_from l.index (instr_at (scope_in l.program l.function) l.site.0 l.site.1) (drop l.index l.body)).found ≡ (each (instr_at (scope_in l.program l.function) l.site.0 l.site.1) l.body).found
