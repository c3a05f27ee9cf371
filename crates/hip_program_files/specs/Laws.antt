-- What the definitions of loading imply: what is met in two calls, and that a file gives one answer.
pub mod FormRefusals
pub mod OneAnswer
pub mod TextRefusals
use Rattle.std.specs.Prelude.{ℕ, ◌+◌, ◌-◌, ◌^◌, ◌≡◌, min, Bool, true, false, List, [], Some}
use Rattle.std.proofs.Common.{◌∙◌, ap, subst, arith, inl, inr}
use Rattle.hip_io.specs.Cabinets.{CabinetState}
use Rattle.hip_io.specs.Counts.{Rose}
use Rattle.hip_io.specs.declared.cabinet.NamedFile.{NamedFile}
use Rattle.hip_tree.specs.declared.program.Program.{Program}
use Rattle.hip_program_files.specs.LoadedPrograms.{HasNoProgram, IsProgramOf}
use Rattle.hip_program_files.specs.Outside.{CountsFetches, CountsUp, HasMet, MakesFetches}
use Rattle.hip_program_files.specs.declared.refusal.LoadRefusal.{LoadRefusal}
use Rattle.hip_program_files.specs.declared.refusal.LoadRefusal.TheVariants as loads
use Rattle.hip_program_files.specs.declared.refusal.ProgramRefusal.TheVariants as refusals
use Rattle.hip_sound.specs.declared.fault.TypeFault.{TypeFault}
use Rattle.hip_sound.specs.declared.fault.TypeFault.TheVariants as faults

-- ---- two calls

counts_then : (rises : Bool) (old mid new : ℕ) → mid ≡ old → CountsUp rises mid new → CountsUp rises old new
counts_then true old mid new same up = (omega (arith, same, up.0), subst (λ n. Rose n new) same up.1)
counts_then false old mid new same up = up ∙ same

-- Where the first of two calls met nothing, both together met what the second met.
pub met_then : {missed failed : Bool} {old mid new : CabinetState} → HasMet false false old mid
    → HasMet missed failed mid new → HasMet missed failed old new
met_then {missed} {failed} {old} {mid} {new} first second = record {
  files = second.files ∙ first.files;
  misses = counts_then missed old.misses mid.misses new.misses first.misses second.misses;
  faults = counts_then failed old.faults mid.faults new.faults first.faults second.faults;
}

min_then : (a m n most : ℕ) → min (min (a + m) most + n) most ≡ min (a + (m + n)) most
min_then a m n most = omega arith

none_then : (a m n : ℕ) → m ≡ 0 → min (a + n) (2 ^ 64 - 1) ≡ min (a + (m + n)) (2 ^ 64 - 1)
none_then a m n none = omega (arith, none)

-- The numbers of fetches of two calls add up.
pub fetches_then : (m n : ℕ) {old mid new : CabinetState} → CountsFetches m old mid → CountsFetches n mid new
    → CountsFetches (m + n) old new
fetches_then m n {old} {mid} {new} first second =
    record {
      count =
          second.count ∙ ap (λ k. min (k + n) (2 ^ 64 - 1)) first.count
          ∙ min_then old.fetches m n (2 ^ 64 - 1);
    }

-- The same where the first call may have made none.
pub makes_then : (m n : ℕ) {old mid new : CabinetState} → MakesFetches m old mid → CountsFetches n mid new
    → CountsFetches (m + n) old new
makes_then m n {old} {mid} {new} (inl none) second =
    record { count = second.count ∙ ap (λ k. min (k + n) (2 ^ 64 - 1)) none.1 ∙ none_then old.fetches m n none.0 }
makes_then m n {old} {mid} {new} (inr first) second = fetches_then m n first second

-- ---- one answer

-- The fault without the path that shows a register without an assignment, since another path may show it too.
abbrev pub without_path : TypeFault → TypeFault
without_path (faults.Unassigned path) = faults.Unassigned []
without_path fault = fault

-- The refusal without that path; any other refusal as it is.
abbrev pub without_paths : LoadRefusal → LoadRefusal
without_paths (loads.Bad (refusals.Form why)) =
    loads.Bad (refusals.Form (record { fault = without_path why.fault; place = why.place }))
without_paths why = why

-- A known file has one program or none. If it has one, no refusal has a cause; if it has none, one refusal has,
-- except for the path that shows a register without an assignment.
pub record LoadsOne (files : List NamedFile) (name : List ℕ) : Type 0 where
  pub programs : (P Q : Program) → IsProgramOf (Some files) name P → IsProgramOf (Some files) name Q → P ≡ Q
  pub excluded : (P : Program) (why : LoadRefusal) → IsProgramOf (Some files) name P
      → HasNoProgram (Some files) name why → ⊥
  pub refusals : (why other : LoadRefusal) → HasNoProgram (Some files) name why
      → HasNoProgram (Some files) name other → without_paths why ≡ without_paths other
