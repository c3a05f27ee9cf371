use Rattle.hip_crash.proofs.Reading.{IsSearched}
use Rattle.hip_crash.proofs.views.LineView.find.Given as goal

abbrev pub invariant-stores : goal.invariant-stores
invariant-stores l = IsSearched l.self l.start l.place l.wanted l.bytes
