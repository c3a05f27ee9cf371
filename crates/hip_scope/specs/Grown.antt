-- The tables that the code has made so far.
use Rattle.hip_code.specs.Numbers.{Tables}
use Rattle.hip_scope.specs.declared.tables.Growing.{Growing}

-- The entries that the tables have so far.
abbrev pub grown : Growing → Tables
grown g = record { constants = g.constants; terms = g.terms; moves = g.moves; edges = g.edges; cases = g.cases }
