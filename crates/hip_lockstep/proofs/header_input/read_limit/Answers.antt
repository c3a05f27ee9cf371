use Rattle.std.proofs.Common.{[], Some, sym, ◌∙◌, arith}
use Rattle.std.proofs.lemmas.Result.{err_from_is_err_and}
use Rattle.hip_lockstep.specs.Laws.Openings.{bad_start, none_fronts, none_stops, start_differs, start_missing}
use Rattle.hip_lockstep.specs.Laws.Readings.{next_read, nothing_read}
use Rattle.hip_lockstep.proofs.header_input.read_limit.Goals as goal

pub returns-in_err-entry-clause-read : goal.returns-in_err-entry-clause-read
returns-in_err-entry-clause-read g c = λ P.
    let p = err_from_is_err_and c.from_residual.result c.from_residual.ensures.1 in
    rw (p.1, p.2)
    (start_missing P (g.C.Cabinet.state c.args.cabinet.now) [] c.args.reader.now (g.C.Cabinet.state c.args.cabinet.now) (omega arith) (nothing_read (g.C.Cabinet.state c.args.cabinet.now) c.args.reader.now c.requires.new c.requires.current) (none_stops P) (none_fronts P)
    c.next_entry.new.reader (g.C.Cabinet.state c.next_entry.new.cabinet) c.in_err-entry.field-0.0 c.in_err-entry.ensures.read)

pub returns-in-Some-clause-read : goal.returns-in-Some-clause-read
returns-in-Some-clause-read g c = λ P. record {
  first = c.in_ok-entry.entry;
  read = next_read (g.C.Cabinet.state c.args.cabinet.now) (g.C.Cabinet.state c.args.cabinet.now) (g.C.Cabinet.state c.next_entry.new.cabinet) c.args.reader.now c.next_entry.new.reader [] c.in_ok-entry.entry (omega arith) (nothing_read (g.C.Cabinet.state c.args.cabinet.now) c.args.reader.now c.requires.new c.requires.current) c.in_ok-entry.ensures.read;
  starts = sym c.valid_limit.ensures ∙ c.in-Some.is;
}

pub returns-in-None-clause-read : goal.returns-in-None-clause-read
returns-in-None-clause-read g c = λ P.
    start_differs P (g.C.Cabinet.state c.args.cabinet.now) [] c.in_ok-entry.entry c.next_entry.new.reader (g.C.Cabinet.state c.next_entry.new.cabinet)
    (next_read (g.C.Cabinet.state c.args.cabinet.now) (g.C.Cabinet.state c.args.cabinet.now) (g.C.Cabinet.state c.next_entry.new.cabinet) c.args.reader.now c.next_entry.new.reader [] c.in_ok-entry.entry (omega arith) (nothing_read (g.C.Cabinet.state c.args.cabinet.now) c.args.reader.now c.requires.new c.requires.current) c.in_ok-entry.ensures.read)
    (λ rest. bad_start P (Some c.in_ok-entry.entry) rest (sym c.valid_limit.ensures ∙ c.in-None.is))
