use Rattle.std.proofs.Common.{◌≡◌, List, ℕ, Option, Some, None, sym, ap, ◌∙◌}
use Rattle.std.specs.Prelude.{is_some, position}
use Rattle.hip_vol.specs.Bounds.{Variable, same_variable}
use Rattle.hip_vol.specs.Tables.{Leveled, leveled, level_among, variable_of}
use Rattle.hip_vol.proofs.TableLemmas.{low_at_number, low_by, low_beside}
use Rattle.hip_vol.proofs.table.LevelTable.is_low.Goals as goal

found : (vs : List Variable) (levels : List ℕ) (value : List Leveled) (v : Variable) (o : Option ℕ) → leveled vs levels ≡ value → o ≡ position (same_variable v) vs → low_by o levels ≡ is_some (level_among value v)
found vs levels value v o e f = ap (λ p. low_by p levels) f ∙ sym (low_at_number vs levels v) ∙ ap (λ x. is_some (level_among x v)) e

pub returns-in-Some-get : goal.returns-in-Some-get
returns-in-Some-get c =
    ap low_beside c.in-Some-get.ensures
    ∙ found c.self.inside.variables c.self.inside.levels c.args.self.now (variable_of c.args.variable) (Some c.in-Some.number) c.self.view_is c.in-Some.ensures

pub returns-in-None-get : goal.returns-in-None-get
returns-in-None-get c =
    ap low_beside c.in-None-get.ensures
    ∙ found c.self.inside.variables c.self.inside.levels c.args.self.now (variable_of c.args.variable) (Some c.in-Some.number) c.self.view_is c.in-Some.ensures

pub returns-in-None : goal.returns-in-None
returns-in-None c = found c.self.inside.variables c.self.inside.levels c.args.self.now (variable_of c.args.variable) None c.self.view_is c.in-None.ensures
