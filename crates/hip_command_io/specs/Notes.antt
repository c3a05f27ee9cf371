-- What `thin` and `many` write to the notes.
use Rattle.std.specs.Prelude.{ℕ, List, ◌++◌, codes}
use Rattle.std.specs.List.{flat_map}
use Rattle.hip_tree.specs.declared.program.Program.{Program}
use Rattle.hip_many.specs.declared.reason.Reason.{Reason}
use Rattle.hip_many.specs.declared.reason.Sort.{Sort}
use Rattle.hip_many.specs.declared.reason.Sort.TheVariants.{Fence, Flush, Hoist}
use Rattle.hip_repairs.specs.declared.plan.Plan.{Plan}
use Rattle.hip_report_lines.specs.Counts.{count_line, repair_counts}
use Rattle.hip_report_lines.specs.Reports.{numbered, site_text}

-- The counts of `thin`: those of `repair`, and how many stores are spared.
abbrev pub thin_counts : ℕ → Plan → ℕ → ℕ → List ℕ
thin_counts reports plan clones spared = repair_counts reports plan clones ++ count_line (codes "spared") spared

-- The word for what a plan does at a site.
abbrev pub sort_word : Sort → List ℕ
sort_word Flush = codes "flush"
sort_word Fence = codes "fence"
sort_word Hoist = codes "hoist"

-- `why flush S traces K`, or `fence` or `hoist` in place of `flush`, where K of the traces need it at site S.
abbrev pub reason_line : Program → Reason → List ℕ
reason_line P r =
    codes "why " ++ sort_word r.sort ++ codes " " ++ site_text P r.site ++ numbered (codes " traces ") r.traces
    ++ codes "\n"

-- A line for each reason, in their order.
abbrev pub reason_lines : Program → List Reason → List ℕ
reason_lines P reasons = flat_map (reason_line P) reasons

-- How many traces there are, what `repair` writes, and the reasons.
abbrev pub many_notes : Program → ℕ → ℕ → Plan → ℕ → List Reason → List ℕ
many_notes P traces reports plan clones reasons =
    count_line (codes "traces") traces ++ repair_counts reports plan clones ++ reason_lines P reasons
