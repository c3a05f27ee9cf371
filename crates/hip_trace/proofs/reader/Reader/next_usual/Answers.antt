use Rattle.std.proofs.Common.{◌+◌, List, ℕ, drop, ap, subst, ◌∙◌}
use Rattle.hip_trace.specs.Lines.{IsFirstLine}
use Rattle.hip_trace.specs.Reads.{ReaderState, one_more}
use Rattle.hip_trace.specs.declared.refusal.Progress.{Progress}
use Rattle.hip_trace.proofs.FirstLines.{line_read, line_within}
use Rattle.hip_trace.proofs.reader.Reader.next_usual.Goals as goal

pub pass-requires : goal.pass-requires
pass-requires c =
    line_within c.args.self.now.held c.in-Some.line
    (subst (λ (h : List ℕ). IsFirstLine h c.in-Some.line) (c.as_slice.ensures ∙ ap (λ (r : ReaderState). r.held) c.self.view_is) c.in-Some.ensures)

pub returns-in-Some-clause-read : goal.returns-in-Some-clause-read
returns-in-Some-clause-read c = λ s current.
    let r = c.args.self.now in
    let line = c.in-Some.line in
    line_read r c.pass.new.self s line
    (subst (λ (h : List ℕ). IsFirstLine h line) (c.as_slice.ensures ∙ ap (λ (x : ReaderState). x.held) c.self.view_is) c.in-Some.ensures)
    current
    (c.pass.ensures ∙ ap (λ (p : Progress). record { held = drop (line.len + 1) r.held; count = one_more r.count; progress = p }) c.requires)
