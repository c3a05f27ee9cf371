use Rattle.std.proofs.Common.{◌≡◌, ◌∙◌, ◌-◌, ◌++◌, ℕ, ap, ap₂, List, None}
use Rattle.std.specs.Prelude.{min}
use Rattle.hip_lines.specs.Parts.{loose_from}
use Rattle.hip_lines.specs.declared.part.LooseByte.{LooseByte}
use Rattle.hip_ledger.specs.CheckGroups.{group_from, reports_stated}
use Rattle.hip_ledger.specs.Pending.{lines_of}
use Rattle.hip_ledger.proofs.Clamped.{clamped}
use Rattle.hip_ledger.proofs.Searches.{on_ok}
use Rattle.hip_ledger.proofs.ledger.Ledger.check_within.Goals as goal

pub returns-clause-stated : goal.returns-clause-stated
returns-clause-stated c =
    let ws = c.args.region.now.lines.now.lines in
    let whole = c.args.region.now.size in
    let same : loose_from ws c.min-from.result c.min-count.result ≡ loose_from ws c.args.offset c.args.size =
    ap₂ (loose_from ws) c.min-from.ensures (c.min-count.ensures ∙ ap (λ f. min c.args.size (whole - f)) c.min-from.ensures) ∙ clamped ws c.args.offset c.args.size whole c.requires.region in
    on_ok _ _ c.check_range.result c.check_range.ensures (λ g. (g.0, g.1, (λ tag. g.2 tag ∙ ap (λ (bs : List LooseByte). group_from (lines_of c.args.self.now.pending.lines) tag None bs) same), g.3 ∙ ap (λ (births : List ℕ). c.args.self.now.reports ++ reports_stated births c.args.entry c.args.self.now.fence c.args.self.now.pending.stores.items g.0.entries) c.births.ensures))
