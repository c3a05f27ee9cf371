use Rattle.hip_repair_laws.proofs.Lines.{told}
use Rattle.hip_repair_laws.proofs.laws.lines_tell_reports.Goals as goal

pub returns : goal.returns
returns c = λ P sound r q w v short small e. told P sound r q w v short small e
