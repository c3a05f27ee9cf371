use Rattle.std.proofs.Common.{◌∙◌, ap, sym, refl}
use Rattle.hip_mem.specs.Areas.{after_write}
use Rattle.hip_mem.proofs.RamCalls.{access-below, areas-same, areas-written, on_ok_map, on_err_map}
use Rattle.hip_mem.proofs.ram.Ram.store.Goals as goal

pub put-requires-clause-fits : goal.put-requires-clause-fits
put-requires-clause-fits c = access-below c.self.inside c.args.self.now c.args.addr c.args.size c.args.align c.self.view_is c.self.invariant c.requires.some c.in-None.ensures

pub returns-in-None-clause-ok : goal.returns-in-None-clause-ok
returns-in-None-clause-ok c =
    on_ok_map c.put.result
    (λ h. (sym c.in-None.ensures, areas-written _ c.self.inside _ refl refl refl refl h ∙ ap (after_write _) c.self.view_is))
    c.put.ensures.ok

pub returns-in-None-clause-err : goal.returns-in-None-clause-err
returns-in-None-clause-err c = on_err_map c.put.result (λ h. areas-same c.self.inside _ refl refl refl refl h ∙ c.self.view_is) c.put.ensures.err
