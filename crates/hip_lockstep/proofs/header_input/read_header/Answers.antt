use Rattle.std.proofs.Common.{◌-◌, ◌≤◌, ◌++◌, length, sym, ap, ◌∙◌, subst}
use Rattle.std.proofs.lemmas.Result.{err_from_is_err_and}
use Rattle.hip_types.specs.Bytes.{zeros}
use Rattle.hip_lockstep.specs.Laws.Openings.{first_given_at, header_read, image_within, stopped_after_header}
use Rattle.hip_lockstep.specs.GivenInput.{input_of}
use Rattle.hip_lockstep.specs.HeaderInput.{HasHeader}
use Rattle.hip_lockstep.proofs.header_input.read_header.Goals as goal

pub returns-in_err-limit-clause-read : goal.returns-in_err-limit-clause-read
returns-in_err-limit-clause-read g c =
    let p = err_from_is_err_and c.from_residual.result c.from_residual.ensures.1 in
    rw (p.1, p.2) (c.in_err-limit.ensures.read c.args.checked.now)

pub returns-in_err-base-clause-read : goal.returns-in_err-base-clause-read
returns-in_err-base-clause-read g c =
    let p = err_from_is_err_and c.from_residual-in_err-base.result c.from_residual-in_err-base.ensures.1 in
    rw (p.1, p.2)
    (c.in_err-base.ensures.read (g.C.Cabinet.state c.args.cabinet.now) c.in_ok-limit.limit (c.in_ok-limit.ensures.read c.args.checked.now))

pub returns-in_err-lockstep-clause-read : goal.returns-in_err-lockstep-clause-read
returns-in_err-lockstep-clause-read g c =
    let base = c.in_ok-base.ensures.read (g.C.Cabinet.state c.args.cabinet.now) c.in_ok-limit.limit (c.in_ok-limit.ensures.read c.args.checked.now) in
    let p = err_from_is_err_and c.from_residual-in_err-lockstep.result c.from_residual-in_err-lockstep.ensures.1 in
    rw (p.1, p.2)
    (c.in_err-lockstep.ensures.read (g.C.Cabinet.state c.args.cabinet.now)
    (first_given_at c.args.checked.now (g.C.Cabinet.state c.args.cabinet.now) c.read_base.new.reader (g.C.Cabinet.state c.read_base.new.cabinet) c.in_ok-limit.limit c.in_ok-base.base c.new.result c.new-2.result base c.new.ensures c.new-2.ensures))

pub fill-requires : goal.fill-requires
fill-requires g c =
    let base = c.in_ok-base.ensures.read (g.C.Cabinet.state c.args.cabinet.now) c.in_ok-limit.limit (c.in_ok-limit.ensures.read c.args.checked.now) in
    let all = c.in_ok-lockstep.ensures.read (g.C.Cabinet.state c.args.cabinet.now)
    (first_given_at c.args.checked.now (g.C.Cabinet.state c.args.cabinet.now) c.read_base.new.reader (g.C.Cabinet.state c.read_base.new.cabinet) c.in_ok-limit.limit c.in_ok-base.base c.new.result c.new-2.result base c.new.ensures c.new-2.ensures) in
    let within = image_within all in
    subst (λ n. length c.read_values.new.given.image ≤ n) (sym c.region_size-size.ensures) within

pub returns-clause-read : goal.returns-clause-read
returns-clause-read g c =
    let base = c.in_ok-base.ensures.read (g.C.Cabinet.state c.args.cabinet.now) c.in_ok-limit.limit (c.in_ok-limit.ensures.read c.args.checked.now) in
    let all = c.in_ok-lockstep.ensures.read (g.C.Cabinet.state c.args.cabinet.now)
    (first_given_at c.args.checked.now (g.C.Cabinet.state c.args.cabinet.now) c.read_base.new.reader (g.C.Cabinet.state c.read_base.new.cabinet) c.in_ok-limit.limit c.in_ok-base.base c.new.result c.new-2.result base c.new.ensures c.new-2.ensures) in
    subst (λ i. HasHeader c.args.checked.now (g.C.Cabinet.state c.args.cabinet.now) c.read_values.new.reader (g.C.Cabinet.state c.read_values.new.cabinet) (record { input = i; lockstep = c.in_ok-lockstep.lockstep }))
    (sym (c.in_ok-input.ensures ∙ ap (λ n. record (input_of c.read_values.new.given) { image = c.read_values.new.given.image ++ zeros (n - length c.read_values.new.given.image) }) c.region_size-size.ensures))
    (header_read c.args.checked.now (g.C.Cabinet.state c.args.cabinet.now) c.read_values.new.reader (g.C.Cabinet.state c.read_values.new.cabinet) (input_of c.read_values.new.given) c.in_ok-lockstep.lockstep all)

pub returns-in_err-input-clause-read : goal.returns-in_err-input-clause-read
returns-in_err-input-clause-read g c =
    let base = c.in_ok-base.ensures.read (g.C.Cabinet.state c.args.cabinet.now) c.in_ok-limit.limit (c.in_ok-limit.ensures.read c.args.checked.now) in
    let all = c.in_ok-lockstep.ensures.read (g.C.Cabinet.state c.args.cabinet.now)
    (first_given_at c.args.checked.now (g.C.Cabinet.state c.args.cabinet.now) c.read_base.new.reader (g.C.Cabinet.state c.read_base.new.cabinet) c.in_ok-limit.limit c.in_ok-base.base c.new.result c.new-2.result base c.new.ensures c.new-2.ensures) in
    let p = err_from_is_err_and c.from_residual-in_err-input.result c.from_residual-in_err-input.ensures.1 in
    rw (p.1, p.2) (stopped_after_header all)
