use Rattle.hip_tree.specs.declared.instr.Instr.TheVariants as instrs
use Rattle.hip_ir.proofs.Copied.{copied}
use Rattle.hip_ir.proofs.instr.InstrStructural.copy.Goals as goal

pub returns-in_ok-dest-in-Binary : goal.returns-in_ok-dest-in-Binary
returns-in_ok-dest-in-Binary c =
    let i = c.in-Binary in
    copied c.in_ok-dest-in-Binary.ensures (λ k. instrs.Binary k.0 i.op i.flags i.width k.1 k.2) i.is

pub returns-in_ok-dest-in-Compare : goal.returns-in_ok-dest-in-Compare
returns-in_ok-dest-in-Compare c =
    let i = c.in-Compare in
    copied c.in_ok-dest-in-Compare.ensures (λ k. instrs.Compare k.0 i.pred i.ty k.1 k.2) i.is

pub returns-in_ok-dest-in-Select : goal.returns-in_ok-dest-in-Select
returns-in_ok-dest-in-Select c =
    let i = c.in-Select in
    copied c.in_ok-dest-in-Select.ensures (λ k. instrs.Select k.0 k.1 i.ty k.2 k.3) i.is

pub returns-in_ok-dest-in-Cast : goal.returns-in_ok-dest-in-Cast
returns-in_ok-dest-in-Cast c =
    let i = c.in-Cast in
    copied c.in_ok-dest-in-Cast.ensures (λ k. instrs.Cast k.0 i.op i.from k.1 i.to) i.is

pub returns-in_ok-dest-in-Alloca : goal.returns-in_ok-dest-in-Alloca
returns-in_ok-dest-in-Alloca c =
    let i = c.in-Alloca in
    copied c.in_ok-dest-in-Alloca.ensures (λ k. instrs.Alloca k.0 k.1 i.align) i.is

pub returns-in_ok-dest-in-Load : goal.returns-in_ok-dest-in-Load
returns-in_ok-dest-in-Load c =
    let i = c.in-Load in
    copied c.in_ok-dest-in-Load.ensures (λ k. instrs.Load k.0 i.ty k.1 i.align) i.is

pub returns-in_ok-value-in-Store : goal.returns-in_ok-value-in-Store
returns-in_ok-value-in-Store c =
    let i = c.in-Store in
    copied c.in_ok-value-in-Store.ensures (λ k. instrs.Store i.ty k.0 k.1 i.align) i.is

pub returns-in_ok-dest-in-Gep : goal.returns-in_ok-dest-in-Gep
returns-in_ok-dest-in-Gep c =
    let i = c.in-Gep in
    copied c.in_ok-dest-in-Gep.ensures (λ k. instrs.Gep k.0 i.inbounds k.1 k.2 k.3) i.is

pub returns-in_ok-dest-in-Call : goal.returns-in_ok-dest-in-Call
returns-in_ok-dest-in-Call c =
    let i = c.in-Call in
    copied c.in_ok-dest-in-Call.ensures (λ k. instrs.Call k.0 i.ret k.1 k.2) i.is
