use Rattle.std.proofs.Common.{refl, subst}
use Rattle.hip_trace.specs.Reads.{ReaderState, ReadsOn, TakesAtNeed}
use Rattle.hip_trace.proofs.ReaderLaws.{reads_on, front_within, stays_current, takes_for}
use Rattle.hip_trace.proofs.reader.Reader.read_on.Goals as goal

pub answer-requires-clause-front : goal.answer-requires-clause-front
answer-requires-clause-front g c = front_within c.self.inside.held c.find_front-front.new.held (g.C.Cabinet.state c.args.cabinet.now) (g.C.Cabinet.state c.find_front-front.new.cabinet) c.find_front-front.result c.find_front-front.ensures

pub returns-clause-reads : goal.returns-clause-reads
returns-clause-reads g c =
    let i = c.self.inside in
    let s = g.C.Cabinet.state c.args.cabinet.now in
    let s' = g.C.Cabinet.state c.find_front-front.new.cabinet in
    subst (λ (r : ReaderState). ReadsOn r c.answer.new.self s s' c.answer.result) c.self.view_is
    (reads_on (record { held = i.held; count = i.count; progress = i.progress }) (record { held = c.find_front-front.new.held; count = i.count; progress = i.progress }) c.answer.new.self s s' c.find_front-front.result c.answer.result refl c.find_front-front.ensures c.answer.ensures)

pub returns-clause-current : goal.returns-clause-current
returns-clause-current g c = stays_current c.self.inside.held c.find_front-front.new.held (g.C.Cabinet.state c.args.cabinet.now) (g.C.Cabinet.state c.find_front-front.new.cabinet) c.find_front-front.result c.find_front-front.ensures

pub returns-clause-takes : goal.returns-clause-takes
returns-clause-takes g c =
    let s = g.C.Cabinet.state c.args.cabinet.now in
    let s' = g.C.Cabinet.state c.find_front-front.new.cabinet in
    subst (λ (r : ReaderState). TakesAtNeed r.held s s') c.self.view_is
    (takes_for c.self.inside.held c.find_front-front.new.held s s' c.find_front-front.result c.find_front-front.ensures)
