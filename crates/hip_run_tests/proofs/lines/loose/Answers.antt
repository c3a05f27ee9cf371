use Rattle.std.proofs.Common.{◌≡◌, ◌+◌, ◌*◌, ◌≤◌, length, ap, ◌∙◌, arith}
use Rattle.std.proofs.lemmas.List.{length-map}
use Rattle.hip_runs.specs.Laws.CrashLaws.{same_size}
use Rattle.hip_runs.specs.Seen.{state_of}
use Rattle.hip_runs.specs.StoredParts.Shown.{shown_line}
use Rattle.hip_runs.specs.declared.input.Input.{Input}
use Rattle.hip_run_tests.proofs.lines.loose.Goals as goal

pub not_durable-requires : goal.not_durable-requires
not_durable-requires g c =
    let m = c.args.machine.now in
    let lines : length c.lines.result.now.lines ≡ length (state_of m).lines = ap length c.lines.ensures ∙ length-map (state_of m).lines shown_line in
    let all = same_size m.program m.input m.taken c.input.ensures.valid in
    let size : c.len-size.result ≡ length m.input.image = c.len-size.ensures ∙ ap (λ (i : Input). length i.image) c.input.ensures.is in
    omega (arith, lines, all, size)
