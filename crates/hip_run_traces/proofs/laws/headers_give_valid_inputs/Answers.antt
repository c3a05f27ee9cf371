use Rattle.hip_run_traces.specs.Laws.GivenLaws.{fit_pieces, header-given}
use Rattle.hip_run_traces.proofs.laws.headers_give_valid_inputs.Goals as goal

pub returns-clause-input : goal.returns-clause-input
returns-clause-input c = λ P bytes whole h I q. (header-given P _ h I (fit_pieces whole bytes) q).input

pub returns-clause-valid : goal.returns-clause-valid
returns-clause-valid c = λ P bytes whole h I q. (header-given P _ h I (fit_pieces whole bytes) q).valid

pub returns-clause-entries : goal.returns-clause-entries
returns-clause-entries c = λ P bytes whole h I q. (header-given P _ h I (fit_pieces whole bytes) q).count

pub returns-clause-front : goal.returns-clause-front
returns-clause-front c = λ P bytes whole h I q. let given = header-given P _ h I (fit_pieces whole bytes) q in (given.rest, given.split)
