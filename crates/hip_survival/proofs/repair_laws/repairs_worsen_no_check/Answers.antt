use Rattle.hip_survival.specs.Laws.ChecksKept.{stays_clean, worsens_no_check}
use Rattle.hip_survival.proofs.repair_laws.repairs_worsen_no_check.Goals as goal

pub returns : goal.returns
returns c = record {
  checks = λ P plan skip s I v n range e. worsens_no_check P plan skip s I v n range e;
  clean = λ P plan skip s I v clean n. stays_clean P plan skip s I v clean n;
}
