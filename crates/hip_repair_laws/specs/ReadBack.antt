-- Reports whose lines read back.
use Rattle.std.specs.Prelude.{ℕ, ◌<◌, ◌^◌, List, IfSome}
use Rattle.std.specs.List.{All}
use Rattle.hip_tree.specs.declared.site.Site.{Site}
use Rattle.hip_runs.specs.declared.report.Report.{Report}

-- The place of the site's instruction in its block's body is below 2^64.
abbrev pub IsShortSite : Site → Type 0
IsShortSite s = s.index < 2 ^ 64

-- The numbers of the report are below 2^64.
pub record IsShort (r : Report) : Type 0 where
  pub entry : r.entry < 2 ^ 64
  pub check : r.check_entry < 2 ^ 64
  pub closed : r.closed < 2 ^ 64
  pub flush : IfSome r.flush_site IsShortSite
  pub path : All IsShortSite r.path
