use Rattle.std.proofs.Common.{◌≡◌, drop}
use Rattle.hip_grammar.specs.Words.{written_as}
use Rattle.hip_grammar.proofs.words.written_as.Given as goal

abbrev pub invariant-each_value : goal.invariant-each_value
invariant-each_value g l = written_as g.T.Keyword.text (drop l.value-index l.values) l.word ≡ written_as g.T.Keyword.text l.fn.values l.fn.word
