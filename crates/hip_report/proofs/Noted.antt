-- What a tracker noted of a machine.
use Rattle.std.proofs.Common.{◌≡◌, ℕ, false, Some, refl, sym, subst}
use Rattle.hip_ledger.specs.declared.sought.Sought.{Sought}
use Rattle.hip_report.specs.TrackerView.{HasNoted, Tracked}
use Rattle.hip_runs.specs.Seen.{Seen}

pub noted_now : (t : Tracked) (m : Seen) (header : ℕ) (sought : Sought) → t ≡ record { header = header; sought = sought; noted = Some m; failed = false } → HasNoted t m
noted_now t m header sought e = subst (λ (x : Tracked). HasNoted x m) (sym e) (record { working = refl; all = refl })
