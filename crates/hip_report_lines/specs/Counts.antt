-- The lines of counts that the commands write to the notes.
use Rattle.std.specs.Prelude.{ℕ, List, ◌++◌, codes, length}
use Rattle.std.specs.Fmt.{decimal}
use Rattle.hip_repairs.specs.declared.plan.Plan.{Plan}

-- A word, a blank and a number.
abbrev pub count_line : List ℕ → ℕ → List ℕ
count_line word n = word ++ codes " " ++ decimal n ++ codes "\n"

-- The counts of `check`: how many reports there are.
abbrev pub check_counts : ℕ → List ℕ
check_counts reports = count_line (codes "reports") reports

-- The counts of `repair`: how many reports there are, how long the plan's lists are, and how many clones there are.
abbrev pub repair_counts : ℕ → Plan → ℕ → List ℕ
repair_counts reports plan clones =
    count_line (codes "reports") reports
    ++ count_line (codes "flushes") (length plan.flush_after)
    ++ count_line (codes "fences") (length plan.fence_after)
    ++ count_line (codes "hoists") (length plan.hoist)
    ++ count_line (codes "clones") clones

-- The counts of `rerun`: how many reports the program's run has, and how many the repaired program's run.
abbrev pub rerun_counts : ℕ → ℕ → List ℕ
rerun_counts before after = count_line (codes "before") before ++ count_line (codes "after") after
