use Rattle.std.proofs.Common.{◌*◌, ◌<◌, ◌^◌, List, length, sym, ap, ◌∙◌, subst, arith}
use Rattle.std.proofs.lemmas.List.{length-map}
use Rattle.hip_lines.specs.Pending.{Pending as Waiting}
use Rattle.hip_lines.specs.declared.part.Part.{Part}
use Rattle.hip_runs.specs.Laws.CrashLaws.{same_size}
use Rattle.hip_ledger.specs.Noted.{IsForgotten}
use Rattle.hip_ledger.proofs.noting.Assembled.{few_at, forgotten}
use Rattle.hip_ledger.proofs.NoteLists.{in_order}
use Rattle.hip_report.proofs.step.forget.Goals as goal

pub forget-requires-clause-region : goal.forget-requires-clause-region
forget-requires-clause-region c =
    let m = c.args.machine.now in
    c.region_of-region.ensures.size ∙ same_size m.program m.input m.taken c.input-input.ensures.valid ∙ ap (λ k. 64 * k) (sym (ap length c.region_of-region.ensures.lines ∙ length-map _ _))

pub forget-requires-clause-order : goal.forget-requires-clause-order
forget-requires-clause-order c =
    let m = c.args.machine.now in
    let n = m.taken in
    let h = c.requires.noted in
    let few : n < 2 ^ 127 = few_at m.program m.input n c.args.ledger.now h (c.runs_are_bounded.ensures.bounded m.program m.input n) c.input-input.ensures.valid.limit c.requires.short in
    in_order m.program m.input n c.args.ledger.now.header c.args.ledger.now.pending (omega (arith, few)) h.pending

pub returns-clause-noted : goal.returns-clause-noted
returns-clause-noted c =
    let m = c.args.machine.now in
    let P = m.program in
    let I = m.input in
    let n = m.taken in
    forgotten P I n c.region_of-region.result.size c.args.ledger.now c.forget.new.self c.requires.noted
    (c.region_of-region.ensures.size ∙ same_size P I n c.input-input.ensures.valid)
    (subst (λ (ws : List (Waiting Part)). IsForgotten ws c.region_of-region.result.size c.args.ledger.now.pending c.forget.new.self.pending) c.region_of-region.ensures.lines c.forget.ensures.kept)
    c.forget.ensures.rest
