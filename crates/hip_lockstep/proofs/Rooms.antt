-- The number of entries of a run fits 128 bits, with room for some more.
use Rattle.std.proofs.Common.{◌≡◌, ℕ, suc, ◌+◌, ◌*◌, ◌^◌, ◌<◌, ◌≤◌, length, arith}
use Rattle.std.proofs.lemmas.Nat.{mul-le}
use Rattle.hip_tree.specs.declared.program.Program.{Program}
use Rattle.hip_invariants.specs.Bounds.{IsBounded}
use Rattle.hip_run_traces.specs.Laws.TraceLaws.{length-header_of, length-trace}
use Rattle.hip_run_traces.specs.Traces.{header_of, trace}
use Rattle.hip_runs.specs.Ends.{longest}
use Rattle.hip_runs.specs.Step.{run}
use Rattle.hip_runs.specs.Validity.{IsValid}
use Rattle.hip_runs.specs.declared.input.Input.{Input}
use Rattle.hip_sound.specs.Sound.{IsSound}

module _ (P : Program) (I : Input) (sound : IsSound P) (valid : IsValid P I) (short : longest P < 2 ^ 64) (bounded : (n : ℕ) → IsBounded P I n) where
  entries_few : (n : ℕ) → (run P I n).counts.entries + 2 < 2 ^ 128
  entries_few n =
      let b = bounded n in
      let entries = b.entries in
      let steps = b.steps in
      let header = b.header in
      let limit = valid.limit in
      let numbers = valid.numbers in
      let image = valid.image in
      let region = sound.sizes.region in
      let product : suc I.limit * suc (longest P) ≤ suc (2 ^ 40) * 2 ^ 64 = mul-le (suc I.limit) (suc (longest P)) (suc (2 ^ 40)) (2 ^ 64) (omega (arith, limit)) (omega (arith, short)) in
      omega (arith, entries, steps, header, product, numbers, image, region)

  -- The number of entries after n steps, plus 2, fits 128 bits.
  pub room : (n count : ℕ) → count ≡ length (trace P I n) → count + 2 < 2 ^ 128
  room n count same =
      let few = entries_few n in
      let counted = length-trace P I n in
      omega (arith, few, counted, same)

-- The region ends below 2^64.
pub within : (P : Program) (I : Input) → IsSound P → IsValid P I → I.base + length I.image < 2 ^ 64
within P I sound valid =
    let high = valid.base.high in
    let image = valid.image in
    let region = sound.sizes.region in
    omega (arith, high, image, region)

module _ (P : Program) (I : Input) (sound : IsSound P) (valid : IsValid P I) (bounded : (n : ℕ) → IsBounded P I n) where
  -- There are at most 2^64 entries before the first step.
  pub header_small : (count : ℕ) → count ≡ length (header_of I) → count ≤ 2 ^ 64
  header_small count same =
      let b = (bounded 0).header in
      let counted = length-header_of I in
      let numbers = valid.numbers in
      let image = valid.image in
      let region = sound.sizes.region in
      omega (arith, same, b, counted, numbers, image, region)
