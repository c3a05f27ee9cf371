-- The initial bytes of a generated program's region are zeros.
use Rattle.std.proofs.Common.{◌≡◌, ◌<◌, ◌++◌, ◌∙◌, ℕ, ℤ, true, zero, suc, codes, List, [], All, take, replicate, sym, ap, subst, arith}
use Rattle.std.proofs.lemmas.List.Elements.{All-append, All-cons, All-nil, All-take}
use Rattle.hip_runs.specs.FirstInput.{first_input}
use Rattle.hip_runs.specs.declared.limits.TheConstants.{DEFAULT_LIMIT}
use Rattle.hip_gen.specs.Generated.{array_of, generated_program, zeroed_array}
use Rattle.hip_globals.specs.Addresses.{global_align}
use Rattle.hip_globals.specs.Initial.{region_bytes}
use Rattle.hip_globals.specs.Values.{Written, aligned, constant_bytes, global_address, sized, written}
use Rattle.hip_tree.specs.declared.constant.Const.{Const}
use Rattle.hip_tree.specs.declared.constant.Const.TheFolds.{fold-roll-Const}
use Rattle.hip_tree.specs.declared.constant.Const.TheOpen.{Const-F}
use Rattle.hip_tree.specs.declared.constant.Const.TheVariants as consts
use Rattle.hip_tree.specs.declared.program.Program.{Program}
use Rattle.hip_runs.specs.Validity.{IsInput}
use Rattle.hip_runs.specs.declared.input.Input.{Input}
use Rattle.hip_types.specs.declared.limits.TheConstants.{LOWEST_BASE}
use Rattle.std.specs.Int.{w64}
use Rattle.std.specs.Prelude.{FitsSigned}

abbrev AreBytes : List ℕ → Type 0
AreBytes = All (λ b. b < 256)

zeros_are : (n : ℕ) → AreBytes (replicate n 0)
zeros_are zero = All-nil (λ b. b < 256)
zeros_are (suc n) = All-cons (λ b. b < 256) 0 (replicate n 0) (omega arith) (zeros_are n)

aligned_are : (start align : ℕ) (bytes : List ℕ) → AreBytes bytes → AreBytes (aligned start align bytes)
aligned_are start align bytes h = All-append (λ b. b < 256) bytes _ h (zeros_are _)

sized_are : (size : ℕ) (bytes : List ℕ) → AreBytes bytes → AreBytes (sized size bytes)
sized_are size bytes h =
    All-append (λ b. b < 256) (take size bytes) _ (All-take (λ b. b < 256) size bytes h) (zeros_are _)

zero_written : (address_of : List ℕ → ℕ) → (written address_of consts.Zero).bytes ≡ replicate 8 0
zero_written address_of =
    ap (λ (c : Const). (written address_of c).bytes) (sym consts.rolls-Zero)
    ∙ ap (λ (w : Written). w.bytes) (fold-roll-Const _ _ _ _ _ _ Const-F.Zero)

zero_are : (address_of : List ℕ → ℕ) (size : ℕ) → AreBytes (constant_bytes address_of consts.Zero (array_of size))
zero_are address_of size =
    sized_are _ (written address_of consts.Zero).bytes (subst AreBytes (sym (zero_written address_of)) (zeros_are 8))

region_is : (seed size base : ℕ) → AreBytes (region_bytes (generated_program seed size) base)
region_is seed size base =
    let address_of = global_address (generated_program seed size).globals base in
    let align = global_align (zeroed_array (codes "data") size true) in
    let bytes = constant_bytes address_of consts.Zero (array_of size) in
    aligned_are 0 64 (aligned 0 align [] ++ bytes) (All-append (λ b. b < 256) (aligned 0 align []) bytes
    (aligned_are 0 align [] (All-nil (λ b. b < 256))) (zero_are address_of size))

pub is_input : (seed size : ℕ) (P : Program) (numbers : List ℤ) (I : Input) → P ≡ generated_program seed size
    → numbers ≡ [] → I ≡ first_input P LOWEST_BASE DEFAULT_LIMIT numbers → IsInput I
is_input seed size P numbers I generated empty same =
    subst IsInput
    (sym (same ∙ ap (λ Q. first_input Q LOWEST_BASE DEFAULT_LIMIT numbers) generated
    ∙ ap (λ ns. first_input (generated_program seed size) LOWEST_BASE DEFAULT_LIMIT ns) empty))
    (record { bytes = region_is seed size LOWEST_BASE; numbers = All-nil (FitsSigned w64) })
