-- Reports whose paths are shared, and what iterators over them have left.
use Rattle.std.specs.Prelude.{ℕ, List, ◌∷◌, ◌++◌, map, Option, Some, None}
use Rattle.std.specs.List.{flat_map}
use Rattle.hip_tree.specs.declared.site.Site.{Site}
use Rattle.hip_runs.specs.declared.report.Report.{Report}
use Rattle.hip_findings.specs.declared.reports.CheckReports.{CheckReports}
use Rattle.hip_findings.specs.declared.store_report.StoreReport.{StoreReport}

-- The report of a store at the check whose entry has that number.
abbrev pub report_at : ℕ → StoreReport → Report
report_at check store =
    record {
      entry = store.entry;
      check_entry = check;
      kind = store.kind;
      flush_site = store.flush_site;
      path = store.path;
      closed = store.closed;
    }

-- The reports of checks, in their order.
abbrev pub reports_of : List CheckReports → List Report
reports_of checks = flat_map (λ c. map (report_at c.check_entry) c.stores.value) checks

-- The reports that are left: those of the stores that the current check has left, and those of the checks after it.
abbrev pub reports_left : ℕ → List StoreReport → List CheckReports → List Report
reports_left check stores checks = map (report_at check) stores ++ reports_of checks

-- The sites that are left of a path: that of the store, if it was not given yet, and those of calls.
abbrev pub sites_left : Option Site → List Site → List Site
sites_left None calls = calls
sites_left (Some store) calls = store ∷ calls
