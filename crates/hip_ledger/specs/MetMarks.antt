-- What the recent marks and the flags of globals show: which marks and globals were met.
use Rattle.std.specs.Prelude.{◌≡◌, ℕ, true, nat_eq, List, Option, Some, slice_get, Bool}
use Rattle.std.specs.List.{list_any}
use Rattle.hip_runs.specs.Found.Marks.{same_mark}
use Rattle.hip_runs.specs.declared.report.Mark.{Mark}

-- Each recent mark was met.
abbrev pub AreMet : List Mark → List (Option Mark) → Type 0
AreMet marks recent = (i : ℕ) → (m : Mark) → slice_get recent i ≡ Some (Some m)
    → list_any (same_mark m) marks ≡ true

-- Each global with a flag was hit.
abbrev pub WereHit : List ℕ → List Bool → Type 0
WereHit hit flags = (g : ℕ) → slice_get flags g ≡ Some true → list_any (nat_eq g) hit ≡ true
