-- The starts of recently used pages.
use Rattle.std.specs.Prelude.{◌≡◌, ◌≢◌, ℕ, ◌*◌, slice_index}
use Rattle.hip_directory.specs.declared.directory.Directory.{Directory}
use Rattle.hip_directory.specs.Directories.{number_at}
use Rattle.hip_mem.specs.declared.TheConstants.{PAGE_SIZE}
use Rattle.hip_mem.specs.declared.recent.Recent.{Recent}
use Rattle.hip_mem.specs.PageTable.{key_of}

-- Each noted start is the start of the page with the number beside it.
abbrev pub AreStarts : Recent → (ℕ → ℕ) → Type 0
AreStarts r start_of =
    (i : ℕ) → slice_index r.starts i ≢ 0 → slice_index r.starts i ≡ start_of (slice_index r.numbers i)

-- Where page n begins, if the region begins with page `region`; 0 if it was not made.
abbrev pub start_in : Directory → ℕ → ℕ → ℕ
start_in d region n = PAGE_SIZE * number_at d (key_of region n)
