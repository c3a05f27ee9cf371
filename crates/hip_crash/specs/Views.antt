-- What is kept of one line, as it is read.
use Rattle.std.specs.Prelude.{List, ◌++◌, option_to_list}
use Rattle.hip_crash.specs.declared.values.StoredValue.{StoredValue}
use Rattle.hip_crash.specs.declared.views.LineView.{LineView}

-- The later stores, in order.
abbrev pub later_in : LineView → List StoredValue
later_in v = v.later.now ++ option_to_list v.last
