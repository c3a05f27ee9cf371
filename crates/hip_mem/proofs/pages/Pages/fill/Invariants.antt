use Rattle.std.proofs.Common.{◌≡◌, ◌≤◌, ◌-◌, ◌%◌, ◌⊎◌, ℕ, length, take}
use Rattle.hip_mem.specs.Memory.{byte_written}
use Rattle.hip_mem.specs.Pages.{page_byte}
use Rattle.hip_mem.proofs.pages.Pages.fill.Given as goal

abbrev pub invariant-loop-done : goal.invariant-loop-done
invariant-loop-done l = (l.done ≤ length l.bytes) × ((l.done % 4096 ≡ 0) ⊎ (l.done ≡ length l.bytes)) × ((a : ℕ) → page_byte l.self a ≡ byte_written (record { addr = l.start; bytes = take l.done l.bytes }) a (page_byte l.initial.self a))

abbrev pub decreases-loop-done : goal.decreases-loop-done
decreases-loop-done l = length l.bytes - l.done
