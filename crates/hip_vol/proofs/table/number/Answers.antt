use Rattle.std.proofs.Common.{◌≡◌, ◌<◌, List, length, sym, subst}
use Rattle.std.specs.Prelude.{IfOk, OnOk, OnErr, Result, Ok, Err, ℕ, slice_get, Some}
use Rattle.hip_vol.specs.Bounds.{Variable}
use Rattle.hip_vol.specs.Tables.{VariablesGrow, variable_of}
use Rattle.hip_vol.proofs.TableLemmas.{added, grows_by_one, grows_not, there_within}
use Rattle.hip_vol.proofs.table.number.Goals as goal

grown : {E : Type 0} (old new : List Variable) (v : Variable) (r : Result ℕ E) → OnOk r (new ≡ added old v) → OnErr r (new ≡ old) → VariablesGrow old new
grown old new v (Ok n) ok err = subst (VariablesGrow old) (sym ok) (grows_by_one old v)
grown old new v (Err e) ok err = subst (VariablesGrow old) (sym err) (grows_not old)

within : {E : Type 0} (new : List Variable) (v : Variable) (r : Result ℕ E) → IfOk r (λ k. slice_get new k ≡ Some v) → IfOk r (λ k. k < length new)
within new v (Ok k) there = (there_within new k v there).0
within new v (Err e) there = there

pub returns-clause-grows : goal.returns-clause-grows
returns-clause-grows c = grown c.args.variables.now c.insert.new.self (variable_of c.args.variable) c.insert.result c.insert.ensures.variables c.insert.ensures.err

pub returns-clause-within : goal.returns-clause-within
returns-clause-within c = within c.insert.new.self (variable_of c.args.variable) c.insert.result c.insert.ensures.there
