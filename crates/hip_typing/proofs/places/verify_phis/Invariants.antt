use Rattle.std.proofs.Common.{◌≡◌, drop}
use Rattle.hip_sound.specs.Requirement.{each, each_from}
use Rattle.hip_sound.specs.Rules.{phi_at}
use Rattle.hip_typing.specs.Seen.TablesSeen.{scope_in}
use Rattle.hip_typing.proofs.places.verify_phis.Given as goal

abbrev pub invariant-phis : goal.invariant-phis
invariant-phis l = (each_from l.index (phi_at (scope_in l.program l.function) l.label l.site.0 l.site.1) (drop l.index l.phis)).found ≡ (each (phi_at (scope_in l.program l.function) l.label l.site.0 l.site.1) l.phis).found
