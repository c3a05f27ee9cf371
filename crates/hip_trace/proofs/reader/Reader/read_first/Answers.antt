use Rattle.std.proofs.Common.{Some, Ok, sym, subst}
use Rattle.hip_trace.specs.Reads.{ReadsOn}
use Rattle.hip_trace.specs.declared.entry.Entry.{Entry}
use Rattle.hip_trace.proofs.ReaderLaws.{takes_nothing}
use Rattle.hip_trace.proofs.reader.Reader.read_first.Goals as goal

pub returns-in-Some-clause-reads : goal.returns-in-Some-clause-reads
returns-in-Some-clause-reads g c =
    let s = g.C.Cabinet.state c.args.cabinet.now in
    subst (λ (e : Entry). ReadsOn c.args.self.now c.next_usual.new.self s s (Ok (Some e))) (sym c.entry.ensures)
    (c.in-Some.ensures.read s c.requires.current)

pub returns-in-Some-clause-takes : goal.returns-in-Some-clause-takes
returns-in-Some-clause-takes g c = takes_nothing c.args.self.now.held (g.C.Cabinet.state c.args.cabinet.now)
