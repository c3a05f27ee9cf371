-- The areas of a `Ram`.
use Rattle.std.specs.Prelude.{◌≡◌, ◌-◌, ◌%◌, ◌^◌, ◌≤◌}
use Rattle.hip_mem.specs.declared.ram.Ram.TheInside.{Inside}
use Rattle.hip_types.specs.Areas.{volatile_start, stack_start, stack_end}
use Rattle.hip_mem.specs.Areas.{Areas}
use Rattle.hip_mem.specs.Pages.{page_bytes}
use Rattle.hip_types.specs.declared.limits.TheConstants.{LARGEST_REGION, LARGEST_VOLATILE}

-- The bytes of the volatile globals, of the stack up to the mark, and of the region, as the pages hold them.
abbrev pub areas_of : Inside → Areas
areas_of s =
    record {
      base = s.base;
      volatile = page_bytes s.pages volatile_start s.volatile;
      stack = page_bytes s.pages stack_start (s.mark - stack_start);
      region = page_bytes s.pages s.base s.region;
    }

-- A region may begin at the base, both sizes are within their limits, and the mark is within the stack.
pub record IsRam (s : Inside) : Type 0 where
  pub low : 2 ^ 32 ≤ s.base
  pub high : s.base ≤ 2 ^ 46
  pub aligned : s.base % 4096 ≡ 0
  pub volatile : s.volatile ≤ LARGEST_VOLATILE
  pub region : s.region ≤ LARGEST_REGION
  pub start : stack_start ≤ s.mark
  pub end : s.mark ≤ stack_end
