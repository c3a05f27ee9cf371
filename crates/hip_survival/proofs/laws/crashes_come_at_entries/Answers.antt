use Rattle.hip_survival.specs.Laws.Entries.{crash_at_entry}
use Rattle.hip_survival.proofs.laws.crashes_come_at_entries.Goals as goal

pub returns : goal.returns
returns c = λ P I n content h. crash_at_entry P I n content h
