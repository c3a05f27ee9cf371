-- The line of a report.
use Rattle.std.specs.Prelude.{ℕ, List, [], ◌∷◌, ◌++◌, codes, Option, Some, None, slice_get}
use Rattle.std.specs.Fmt.{decimal}
use Rattle.std.specs.List.{flat_map}
use Rattle.hip_tree.specs.Sites.{block_of}
use Rattle.hip_tree.specs.declared.program.Program.{Program}
use Rattle.hip_tree.specs.declared.site.Site.{Site}
use Rattle.hip_sound.specs.NumberedNames.{name_in}
use Rattle.hip_runs.specs.Places.{label_of}
use Rattle.hip_runs.specs.declared.report.Kind.{Kind}
use Rattle.hip_runs.specs.declared.report.Kind.TheVariants.{MissingFlush, MissingFence, MissingBoth}
use Rattle.hip_runs.specs.declared.report.Report.{Report}

-- ---- sites

-- `@function:label:index`; a name is empty if the program has no such function or block.
abbrev pub site_text : Program → Site → List ℕ
site_text P s =
    codes "@" ++ name_in (slice_get P.functions s.function) ++ codes ":"
    ++ label_of (block_of P s.function s.block) ++ codes ":" ++ decimal s.index

-- ---- reports

-- The word for what the store of a report lacks to be durable.
abbrev pub kind_word : Kind → List ℕ
kind_word MissingFlush = codes "flush"
kind_word MissingFence = codes "fence"
kind_word MissingBoth = codes "both"

-- The flush that lacks a fence, if the report names one.
abbrev pub flush_text : Program → Option Site → List ℕ
flush_text P None = []
flush_text P (Some s) = codes " flush " ++ site_text P s

-- A blank and a site, for each site of the path.
abbrev pub path_text : Program → List Site → List ℕ
path_text P sites = flat_map (λ s. codes " " ++ site_text P s) sites

-- Words and the decimal digits of a number, with nothing between them.
abbrev pub numbered : List ℕ → ℕ → List ℕ
numbered words n = words ++ decimal n

-- `report KIND entry E check C closed N path S S S`; if only a fence is missing, `flush S` comes before `path`.
abbrev pub report_line : Program → Report → List ℕ
report_line P r =
    codes "report " ++ kind_word r.kind ++ numbered (codes " entry ") r.entry
    ++ numbered (codes " check ") r.check_entry ++ numbered (codes " closed ") r.closed ++ flush_text P r.flush_site
    ++ codes " path" ++ path_text P r.path ++ codes "\n"

-- A line for each report, in their order.
abbrev pub report_lines : Program → List Report → List ℕ
report_lines P reports = flat_map (report_line P) reports
