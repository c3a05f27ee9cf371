use Rattle.std.proofs.Common.{◌∙◌, ap}
use Rattle.std.specs.Prelude.{position}
use Rattle.hip_vol.specs.Bounds.{same_variable}
use Rattle.hip_vol.specs.Tables.{variable_of}
use Rattle.hip_vol.proofs.VariableLemmas.{position_same}
use Rattle.hip_vol.proofs.variables.VariableSet.number_of.Goals as goal

pub returns : goal.returns
returns c = c.get_index_of.ensures.index ∙ position_same c.args.variable c.self.inside.variables.keys ∙ ap (position (same_variable (variable_of c.args.variable))) c.self.view_is
