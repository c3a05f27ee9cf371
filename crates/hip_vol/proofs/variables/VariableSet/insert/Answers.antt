use Rattle.std.proofs.Common.{◌∙◌, [], ◌∷◌, ap}
use Rattle.hip_types.specs.Distinct.{met}
use Rattle.hip_vol.specs.Bounds.{same_variable}
use Rattle.hip_vol.specs.Tables.{variable_of}
use Rattle.hip_vol.proofs.VariableLemmas.{met_same, stored_same}
use Rattle.hip_vol.proofs.variables.VariableSet.insert.Goals as goal
use Rattle.hip_vol.proofs.variables.VariableSet.insert.Goals.{in-Ok, in-Err}

pub returns-clause-there : goal.returns-clause-there
returns-clause-there c = elim c.match-insert_full.branch [
  | in-Ok w ↦ let s = w.in-Ok.ensures.stored in rw w.result-is (stored_same c.args.variable c.insert_full.new.self.keys w.in-Ok.number s.0 s.1 s.2)
  | in-Err w ↦ rw w.result-is tt
]

pub returns-clause-variables : goal.returns-clause-variables
returns-clause-variables c = elim c.match-insert_full.branch [
  | in-Ok w ↦ rw w.result-is (met_same c.args.variable c.self.inside.variables.keys c.insert_full.new.self.keys w.in-Ok.ensures.keys ∙ ap (λ vs. met same_variable vs (variable_of c.args.variable ∷ [])) c.self.view_is)
  | in-Err w ↦ rw w.result-is tt
]
