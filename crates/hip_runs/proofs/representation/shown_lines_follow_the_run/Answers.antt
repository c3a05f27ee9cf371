use Rattle.hip_runs.proofs.representation.shown_lines_follow_the_run.Goals as goal
use Rattle.hip_runs.specs.Laws.Represented.ShownLaws.{shown-fresh, holds_stored, holds_flushed, holds_fenced}

pub returns : goal.returns
returns c = record {
  fresh = shown-fresh;
  stored = λ I ps ls h. holds_stored h;
  flushed = λ I ps ls h. holds_flushed h;
  fenced = λ I ps ls h. holds_fenced h;
}
