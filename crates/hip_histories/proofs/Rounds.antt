-- The crash histories and the whole runs of a program that does no harm.
use Rattle.std.proofs.Common.{◌≡◌, ℕ, false, List, [], ◌∷◌, Option, length, refl, sym, ap, ap₂, ◌∙◌, subst}
use Rattle.hip_tree.specs.declared.program.Program.{Program}
use Rattle.hip_tree.specs.declared.program.GlobalVar.{GlobalVar}
use Rattle.hip_globals.specs.Initial.{laid_bytes}
use Rattle.hip_globals.specs.Values.{global_address}
use Rattle.hip_mem.specs.Memory.{Memory, bytes_at}
use Rattle.hip_types.specs.Areas.{volatile_start}
use Rattle.hip_runs.specs.Actions.{memory_of}
use Rattle.hip_runs.specs.State.{World}
use Rattle.hip_runs.specs.Step.{run}
use Rattle.hip_runs.specs.Validity.{IsValid}
use Rattle.hip_runs.specs.declared.event.Ending.{Ending}
use Rattle.hip_runs.specs.declared.input.Input.{Input}
use Rattle.hip_survival.specs.Laws.WholeImage.{whole_image}
use Rattle.hip_survival.specs.Survival.{working_region}
use Rattle.hip_sound.specs.Sound.{IsSound}
use Rattle.hip_runs.specs.Crash.{IsCrashImage}
use Rattle.hip_histories.specs.Histories.{Round, input_of, IsHistory, IsLossless, HasHistoryOf}
use Rattle.hip_histories.specs.NoHarm.{Mirrors, GoesAlong, DoesNoHarm}
use Rattle.hip_histories.specs.WholeRuns.{EndAlike}
use Rattle.hip_histories.proofs.Corresponding.{valid_back, valid_there}

-- Working memory, given a program's globals.
abbrev memory_with : Input → World → List GlobalVar → Memory
memory_with I w gs =
    record {
      base = I.base;
      volatile = laid_bytes (global_address gs I.base) false volatile_start [] gs;
      region = I.image;
      writes = w.writes;
    }

module _ (P Q : Program) (d : DoesNoHarm P Q) where
  pub no_history_more : (bytes : List ℕ) (rounds' : List Round) → IsHistory Q bytes rounds'
      → HasHistoryOf P Q bytes rounds'
  no_history_more bytes [] h =
      record { rounds = []; history = tt; same = tt; printed = refl; ended = refl }
  no_history_more bytes (r' ∷ rs') h =
      let I : Input = input_of bytes r' in
      let v : IsValid P I = valid_back P Q d I h.0.valid in
      let along : GoesAlong d.original P Q I = d.runs I v in
      let m : Mirrors d.original I (run P I (along.steps_of r'.steps)) (run Q I r'.steps) = along.matches r'.steps in
      let rest = no_history_more r'.image rs' h.1 in
      record {
        rounds = record {
          base = r'.base;
          numbers = r'.numbers;
          limit = r'.limit;
          steps = along.steps_of r'.steps;
          image = r'.image;
        } ∷ rest.rounds;
        history = (record { valid = v; left = m.images r'.image h.0.left }, rest.history);
        same = (record { base = refl; numbers = refl; limit = refl; image = refl }, rest.same);
        printed = ap₂ (λ (x : List ℕ) (xs : List (List ℕ)). x ∷ xs) (ap (λ (w : World). w.output) (sym m.world))
            rest.printed;
        ended = ap₂ (λ (x : Option Ending) (xs : List (Option Ending)). x ∷ xs)
            (ap (λ (w : World). w.ending) (sym m.world)) rest.ended;
      }

  -- In the same world, both programs have the same working memory.
  same_memory : (I : Input) (w : World) → memory_of Q I w ≡ memory_of P I w
  same_memory I w = ap (memory_with I w) d.globals

  pub lossless_too : IsSound Q → (bytes : List ℕ) (rounds : List Round) → IsHistory P bytes rounds
      → IsLossless P bytes rounds → HasHistoryOf Q P bytes rounds
  lossless_too sound bytes [] h lossless =
      record { rounds = []; history = tt; same = tt; printed = refl; ended = refl }
  lossless_too sound bytes (r ∷ rs) h lossless =
      let I : Input = input_of bytes r in
      let v : IsValid P I = h.0.valid in
      let along : GoesAlong d.original P Q I = d.runs I v in
      let p = along.progress r.steps in
      let w : (run Q I p.0).world ≡ (run P I r.steps).world =
      (along.matches p.0).world ∙ ap (λ n. (run P I n).world) p.1 in
      let whole = (whole_image Q sound I (valid_there P Q d I v) p.0).image in
      let memory : memory_of Q I (run Q I p.0).world ≡ memory_of P I (run P I r.steps).world =
      same_memory I (run Q I p.0).world ∙ ap (memory_of P I) w in
      let image : working_region Q I (run Q I p.0) ≡ r.image =
      ap (λ (m : Memory). bytes_at m I.base (length I.image)) memory ∙ sym lossless.0 in
      let rest = lossless_too sound r.image rs h.1 lossless.1 in
      record {
        rounds = record {
          base = r.base;
          numbers = r.numbers;
          limit = r.limit;
          steps = p.0;
          image = r.image;
        } ∷ rest.rounds;
        history = (
          record {
            valid = valid_there P Q d I v;
            left = subst (IsCrashImage I (run Q I p.0)) image whole;
          },
          rest.history,
        );
        same = (record { base = refl; numbers = refl; limit = refl; image = refl }, rest.same);
        printed = ap₂ (λ (x : List ℕ) (xs : List (List ℕ)). x ∷ xs) (ap (λ (w : World). w.output) w) rest.printed;
        ended = ap₂ (λ (x : Option Ending) (xs : List (Option Ending)). x ∷ xs) (ap (λ (w : World). w.ending) w)
            rest.ended;
      }

  pub end_alike : (I : Input) → IsValid P I → EndAlike P Q I
  end_alike I v =
      let along : GoesAlong d.original P Q I = d.runs I v in
      record {
        forth = λ ending output memory e.
            let p = along.progress e.0 in
            let w : (run Q I p.0).world ≡ (run P I e.0).world =
            (along.matches p.0).world ∙ ap (λ n. (run P I n).world) p.1 in (
              p.0,
              record {
                ended = ap (λ (w : World). w.ending) w ∙ e.1.ended;
                printed = ap (λ (w : World). w.output) w ∙ e.1.printed;
                working = same_memory I (run Q I p.0).world ∙ (ap (memory_of P I) w ∙ e.1.working);
              },
            );
        back = λ ending output memory e.
            let m = along.matches e.0 in (
              along.steps_of e.0,
              record {
                ended = ap (λ (w : World). w.ending) (sym m.world) ∙ e.1.ended;
                printed = ap (λ (w : World). w.output) (sym m.world) ∙ e.1.printed;
                working = ap (memory_of P I) (sym m.world)
                    ∙ (sym (same_memory I (run Q I e.0).world) ∙ e.1.working);
              },
            );
      }
