-- The storage before the first step of a run.
use Rattle.std.proofs.Common.{◌≡◌, ◌+◌, length, arith}
use Rattle.hip_tree.specs.declared.program.Program.{Program}
use Rattle.hip_globals.specs.Addresses.{volatile_end}
use Rattle.hip_globals.specs.Initial.{volatile_bytes}
use Rattle.hip_mem.specs.Laws.AreasLaws.{holds-new}
use Rattle.hip_types.specs.Areas.{volatile_start}
use Rattle.hip_runs.specs.Step.{start}
use Rattle.hip_runs.specs.Validity.{IsValid}
use Rattle.hip_runs.specs.declared.input.Input.{Input}
use Rattle.hip_sound.specs.Sound.{IsSound}
use Rattle.hip_storage.specs.Contents.{initial}
use Rattle.hip_storage.specs.Represented.{HoldsState}

-- The contents before the first step of a run are those of its start.
pub starts : (P : Program) (I : Input) → IsSound P → IsValid P I
    → volatile_start + length (volatile_bytes P I.base) ≡ volatile_end P
    → HoldsState P I (initial P I) (start P I)
starts P I s v e = record {
  volatile = e;
  memory = record {
    holds =
        holds-new I.base (volatile_bytes P I.base) I.image (omega (arith, e, s.sizes.volatile))
        (omega (arith, v.base.low));
    mark_is = omega arith;
    laid_out = record {
      low = v.base.low;
      high = v.base.high;
      aligned = v.base.page;
      volatile = omega (arith, e, s.sizes.volatile);
      stack = omega arith;
      region = omega (arith, v.image, s.sizes.region);
    };
  };
}
