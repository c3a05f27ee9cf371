-- The repaired program passes the checks of soundness again.
use Rattle.std.proofs.Common.{Bool}
use Rattle.hip_grammar.specs.Laws.SpellingExact.{spelled_exact}
use Rattle.hip_tree.specs.declared.program.Program.{Program}
use Rattle.hip_tree.specs.declared.site.Site.{Site}
use Rattle.hip_sound.specs.Rules.{PassesVerifier}
use Rattle.hip_repairs.specs.declared.plan.Plan.{Plan}
use Rattle.hip_repairs.specs.Repaired.{repaired}
use Rattle.hip_repairs.proofs.soundness.AssignedAgain.{all_assigned_again}
use Rattle.hip_repairs.proofs.soundness.HeadsAgain.{names_again, externs_again, main_again}
use Rattle.hip_repairs.proofs.soundness.InnerAgain.{registers_again}
use Rattle.hip_repairs.proofs.soundness.PlacesAgain.{places_again}
use Rattle.hip_repairs.proofs.soundness.SpelledAgain.{spelled_again}

pub passes_again : (P : Program) (plan : Plan) (skip : Site → Bool) → PassesVerifier P → PassesVerifier (repaired P plan skip)
passes_again P plan skip sound = record {
  spelled = (spelled_exact (repaired P plan skip)).0 (spelled_again P plan skip ((spelled_exact P).1 sound.spelled));
  names = names_again P plan skip sound;
  globals = sound.globals;
  externs = externs_again P plan skip sound;
  sizes = sound.sizes;
  main = main_again P plan skip sound;
  registers = registers_again P plan skip sound;
  places = places_again P plan skip sound;
  assigned = all_assigned_again P plan skip sound;
}
