use Rattle.std.proofs.Common.{[], ◌∷◌, Some, sym, ◌∙◌, arith}
use Rattle.std.proofs.lemmas.Result.{err_from_is_err_and}
use Rattle.hip_lockstep.specs.Laws.Openings.{bad_register, one_fronts, one_stops, start_differs, start_missing}
use Rattle.hip_lockstep.specs.Laws.Readings.{next_read}
use Rattle.hip_lockstep.proofs.header_input.read_base.Goals as goal

pub returns-in_err-entry-clause-read : goal.returns-in_err-entry-clause-read
returns-in_err-entry-clause-read g c = λ start limit h.
    let p = err_from_is_err_and c.from_residual.result c.from_residual.ensures.1 in
    rw (p.1, p.2)
    (start_missing c.args.checked.now start (h.first ∷ []) c.args.reader.now (g.C.Cabinet.state c.args.cabinet.now) (omega arith) h.read (one_stops c.args.checked.now h.first limit h.starts) (one_fronts c.args.checked.now h.first limit h.starts)
    c.next_entry.new.reader (g.C.Cabinet.state c.next_entry.new.cabinet) c.in_err-entry.field-0.0 c.in_err-entry.ensures.read)

pub returns-in-Some-clause-read : goal.returns-in-Some-clause-read
returns-in-Some-clause-read g c = λ start limit h. record {
  first = h.first;
  second = c.in_ok-entry.entry;
  read = next_read start (g.C.Cabinet.state c.args.cabinet.now) (g.C.Cabinet.state c.next_entry.new.cabinet) c.args.reader.now c.next_entry.new.reader (h.first ∷ []) c.in_ok-entry.entry (omega arith) h.read c.in_ok-entry.ensures.read;
  starts = h.starts;
  registers = sym c.valid_base.ensures ∙ c.in-Some.is;
}

pub returns-in-None-clause-read : goal.returns-in-None-clause-read
returns-in-None-clause-read g c = λ start limit h.
    start_differs c.args.checked.now start (h.first ∷ []) c.in_ok-entry.entry c.next_entry.new.reader (g.C.Cabinet.state c.next_entry.new.cabinet)
    (next_read start (g.C.Cabinet.state c.args.cabinet.now) (g.C.Cabinet.state c.next_entry.new.cabinet) c.args.reader.now c.next_entry.new.reader (h.first ∷ []) c.in_ok-entry.entry (omega arith) h.read c.in_ok-entry.ensures.read)
    (λ rest. bad_register c.args.checked.now (Some h.first) limit (Some c.in_ok-entry.entry) rest h.starts (sym c.valid_base.ensures ∙ c.in-None.is))
