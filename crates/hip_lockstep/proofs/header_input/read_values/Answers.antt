use Rattle.std.proofs.Common.{◌≡◌, ◌^◌, ◌<◌, false, Some, Ok, sym, subst, arith}
use Rattle.std.proofs.lemmas.Result.{err_from_is_err_and}
use Rattle.hip_globals.specs.Addresses.{region_size}
use Rattle.hip_run_traces.specs.Headers.{with_entry}
use Rattle.hip_lockstep.specs.Laws.Openings.{begins_giving, count_room, goes_on_giving, less_left, value_dropped, value_missing, value_refused}
use Rattle.hip_lockstep.specs.GivenInput.{Takes, input_of}
use Rattle.hip_lockstep.specs.HeaderInput.{HasAllGiven}
use Rattle.hip_lockstep.proofs.header_input.read_values.Goals as goal

pub entries-init : goal.entries-init
entries-init g c = begins_giving c.args.checked.now c.args.reader.now (g.C.Cabinet.state c.args.cabinet.now) (input_of c.args.given.now) c.requires.reading c.requires.current c.requires.empty.0 c.requires.empty.1

pub returns-in_err-next-clause-read : goal.returns-in_err-next-clause-read
returns-in_err-next-clause-read g c = λ start h.
    let small : region_size c.args.checked.now < 2 ^ 64 = let same = c.requires.size in let fits = c.ranges.size in omega (arith, same, fits) in
    let p = err_from_is_err_and c.from_residual.result c.from_residual.ensures.1 in
    rw (p.1, p.2)
    (value_missing (c.entries.invariant.so_far start h) (count_room c.entries.invariant small)
    c.next_entry.new.reader (g.C.Cabinet.state c.next_entry.new.cabinet) c.in_err-next.field-0.0 c.in_err-next.ensures.read)

pub entries-preserved : goal.entries-preserved
entries-preserved g c =
    let small : region_size c.args.checked.now < 2 ^ 64 = let same = c.requires.size in let fits = c.ranges.size in omega (arith, same, fits) in
    let took : with_entry c.args.checked.now (input_of c.entries.given) (Some c.in_ok-next.next) ≡ Some (input_of c.take.new.self) =
    subst (λ b. Takes (with_entry c.args.checked.now (input_of c.entries.given) (Some c.in_ok-next.next)) (input_of c.entries.given) (input_of c.take.new.self) (Ok b)) c.if-not-branch.false c.in_ok-take.ensures in
    goes_on_giving c.entries.invariant small c.next_entry.new.reader (g.C.Cabinet.state c.next_entry.new.cabinet) c.in_ok-next.next (input_of c.take.new.self) c.in_ok-next.ensures.read took

pub entries-smaller : goal.entries-smaller
entries-smaller g c =
    let small : region_size c.args.checked.now < 2 ^ 64 = let same = c.requires.size in let fits = c.ranges.size in omega (arith, same, fits) in
    let took : with_entry c.args.checked.now (input_of c.entries.given) (Some c.in_ok-next.next) ≡ Some (input_of c.take.new.self) =
    subst (λ b. Takes (with_entry c.args.checked.now (input_of c.entries.given) (Some c.in_ok-next.next)) (input_of c.entries.given) (input_of c.take.new.self) (Ok b)) c.if-not-branch.false c.in_ok-take.ensures in
    less_left c.entries.invariant small c.next_entry.new.reader (g.C.Cabinet.state c.next_entry.new.cabinet) c.in_ok-next.next (input_of c.take.new.self) c.in_ok-next.ensures.read took

pub returns-then-not-branch-clause-read : goal.returns-then-not-branch-clause-read
returns-then-not-branch-clause-read g c = λ start h.
    let small : region_size c.args.checked.now < 2 ^ 64 = let same = c.requires.size in let fits = c.ranges.size in omega (arith, same, fits) in
    let not : Takes (with_entry c.args.checked.now (input_of c.entries.given) (Some c.in_ok-next.next)) (input_of c.entries.given) (input_of c.take.new.self) (Ok false) =
    subst (λ b. Takes (with_entry c.args.checked.now (input_of c.entries.given) (Some c.in_ok-next.next)) (input_of c.entries.given) (input_of c.take.new.self) (Ok b)) c.if-not-branch.true c.in_ok-take.ensures in
    subst (λ given. HasAllGiven c.args.checked.now start c.next_entry.new.reader (g.C.Cabinet.state c.next_entry.new.cabinet) given (record { next = c.new.result; entries = c.entries.entries })) (sym not.1)
    (subst (λ next. HasAllGiven c.args.checked.now start c.next_entry.new.reader (g.C.Cabinet.state c.next_entry.new.cabinet) (input_of c.entries.given) (record { next = next; entries = c.entries.entries })) (sym c.new.ensures)
    (value_refused (c.entries.invariant.so_far start h) (count_room c.entries.invariant small)
    c.next_entry.new.reader (g.C.Cabinet.state c.next_entry.new.cabinet) c.in_ok-next.next c.in_ok-next.ensures.read not.0))

pub returns-in_err-take-clause-read : goal.returns-in_err-take-clause-read
returns-in_err-take-clause-read g c = λ start h.
    let small : region_size c.args.checked.now < 2 ^ 64 = let same = c.requires.size in let fits = c.ranges.size in omega (arith, same, fits) in
    let p = err_from_is_err_and c.from_residual-in_err-take.result c.from_residual-in_err-take.ensures.1 in
    rw (p.1, p.2)
    (value_dropped (c.entries.invariant.so_far start h) (count_room c.entries.invariant small)
    c.next_entry.new.reader (g.C.Cabinet.state c.next_entry.new.cabinet) c.in_ok-next.next c.in_ok-next.ensures.read)
