-- A flush before the store, and a fence before the flush, leave something to report.
use Rattle.std.proofs.Common.{◌≡◌, true, false, List, [], ◌∷◌, refl, sym, ◌∙◌}
use Rattle.hip_types.specs.Laws.LayoutLaws.{shape-Int}
use Rattle.hip_runs.specs.Actions.{Deed, Fences, Flushes, Returns, Stores}
use Rattle.hip_runs.specs.Laws.Opened.{run_opened}
use Rattle.hip_runs.specs.Step.{start}
use Rattle.hip_runs.specs.declared.report.Report.{Report}
use Rattle.hip_repairs.specs.Clean.{IsClean}
use Rattle.hip_repairs.specs.examples.Words.{zeroed}
use Rattle.hip_repairs.proofs.worked.Runs.{Follows, address_value, done_opened, int_value, reports_are, stated}
use Rattle.hip_histories.specs.examples.WrongRepairs.{fence_before_flush, flush_before_store}

abbrev stored : Deed
stored = record { turn = true; action = Stores 4294967296 (5 ∷ 0 ∷ 0 ∷ 0 ∷ 0 ∷ 0 ∷ 0 ∷ 0 ∷ []) }

abbrev flushed : Deed
flushed = record { turn = false; action = Flushes 4294967296 1 }

abbrev fenced : Deed
fenced = record { turn = false; action = Fences }

abbrev returned : Deed
returned = record { turn = true; action = Returns 0 }

not_empty : (r : Report) (rs : List Report) → r ∷ rs ≡ [] → ⊥
not_empty r rs e = let z : ⊥ = cc in z

-- ---- the flush first

abbrev early_flush : List Deed
early_flush = flushed ∷ stored ∷ fenced ∷ returned ∷ []

flush_follows : Follows flush_before_store (zeroed 1) (start flush_before_store (zeroed 1)) early_flush
unfolding run_opened
flush_follows = (
  refl,
  simp (address_value, shape-Int) refl,
  (refl, simp (int_value, address_value, shape-Int) refl, (refl, refl, (refl, simp int_value refl, tt))),
)

flush_stated : stated (zeroed 1) (start flush_before_store (zeroed 1)) early_flush ≡ [] → ⊥
unfolding done_opened
flush_stated e = not_empty _ _ e

pub early_flush_refused : IsClean flush_before_store (zeroed 1) → ⊥
early_flush_refused clean =
    flush_stated (sym (reports_are flush_before_store (zeroed 1) early_flush flush_follows) ∙ clean 4)

-- ---- the fence first

abbrev early_fence : List Deed
early_fence = stored ∷ fenced ∷ flushed ∷ returned ∷ []

fence_follows : Follows fence_before_flush (zeroed 1) (start fence_before_flush (zeroed 1)) early_fence
unfolding run_opened
fence_follows = (
  refl,
  simp (int_value, address_value, shape-Int) refl,
  (refl, refl, (refl, simp (address_value, shape-Int) refl, (refl, simp int_value refl, tt))),
)

fence_stated : stated (zeroed 1) (start fence_before_flush (zeroed 1)) early_fence ≡ [] → ⊥
unfolding done_opened
fence_stated e = not_empty _ _ e

pub early_fence_refused : IsClean fence_before_flush (zeroed 1) → ⊥
early_fence_refused clean =
    fence_stated (sym (reports_are fence_before_flush (zeroed 1) early_fence fence_follows) ∙ clean 4)
