use Rattle.hip_io.proofs.Reading.{read_on}
use Rattle.hip_io.proofs.read.read_all.Goals as goal

pub returns-in-Ready : goal.returns-in-Ready
returns-in-Ready g c = read_on (g.C.Cabinet.state c.args.cabinet.now) (g.C.Cabinet.state c.fetch.new.self) (g.C.Cabinet.state c.read_rest.new.cabinet) c.args.name.now c.args.limit c.read_rest.result c.in-Ready.ensures c.read_rest.ensures
