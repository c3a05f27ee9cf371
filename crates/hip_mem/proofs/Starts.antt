-- The starts of pages that are noted.
use Rattle.std.proofs.Common.{◌≡◌, ℕ, ◌*◌, refl}
use Rattle.hip_mem.specs.declared.pages.Pages.{Pages}
use Rattle.hip_mem.specs.Pages.{place_of}
use Rattle.hip_mem.specs.Recents.{start_in}

pub place-start : (m : Pages) (n : ℕ) → 4096 * place_of m n ≡ start_in m.directory m.region n
unfolding place_of
place-start m n = refl
