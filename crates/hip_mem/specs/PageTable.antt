-- Pages in one list of bytes, and the directory that gives the place of each.
use Rattle.std.specs.Prelude.{◌≡◌, ◌≢◌, ℕ, ◌+◌, ◌-◌, ◌*◌, ◌%◌, ◌<◌, ◌≤◌, Bool, true, false, cond, List, length, slice_index, slice_index_or}
use Rattle.hip_directory.specs.declared.directory.Directory.{Directory}
use Rattle.hip_directory.specs.Directories.{number_at}
use Rattle.hip_mem.specs.declared.TheConstants.{PAGE_SIZE}
use Rattle.hip_mem.specs.declared.keys.TheConstants.{STACK_PAGE, STACK_PAGES, VOLATILE_PAGE, VOLATILE_PAGES, REGION_PAGES}
use Rattle.hip_mem.specs.Memory.{range_contains}

-- The key of page n in the directory, if the region begins with page `region`: the stack's pages come first, then those
-- of the volatile globals, those of the region, and all others.
unfoldable pub key_of : ℕ → ℕ → ℕ
key_of region n =
    cond (range_contains STACK_PAGE STACK_PAGES n) (n - STACK_PAGE)
    (cond (range_contains VOLATILE_PAGE VOLATILE_PAGES n) (n - VOLATILE_PAGE + STACK_PAGES)
    (cond (range_contains region REGION_PAGES n) (n - region + (STACK_PAGES + VOLATILE_PAGES))
    (n + (STACK_PAGES + VOLATILE_PAGES + REGION_PAGES))))

-- The bytes are whole pages; the first page is zeros, and each other page belongs to one key.
pub record ArePages (d : Directory) (bytes : List ℕ) : Type 0 where
  pub whole : length bytes % PAGE_SIZE ≡ 0
  pub within : (k : ℕ) → PAGE_SIZE * number_at d k + PAGE_SIZE ≤ length bytes
  pub first : (i : ℕ) → i < PAGE_SIZE → slice_index bytes i ≡ 0
  pub apart : (j k : ℕ) → j ≢ k → number_at d j ≢ 0 → number_at d j ≢ number_at d k

-- `dirty` marks the pages that may have other bytes; each page that it does not mark is zeros.
pub record AreClean (dirty : List Bool) (bytes : List ℕ) : Type 0 where
  pub zero : (n i : ℕ) → slice_index_or dirty n true ≡ false → i < PAGE_SIZE
      → slice_index bytes (PAGE_SIZE * n + i) ≡ 0
