-- What a file gives that was fetched and replayed.
use Rattle.std.proofs.Common.{◌≡◌, ℕ, false, List, Option, Some, None, inr, sym, ap, ◌∙◌, subst, arith}
use Rattle.std.specs.Prelude.{IfSome}
use Rattle.hip_io.specs.Cabinets.{CabinetState, IsFetched, IsFirstFile, StaysOpen, file_of}
use Rattle.hip_io.specs.declared.cabinet.NamedFile.{NamedFile}
use Rattle.hip_tree.specs.declared.program.Program.{Program}
use Rattle.hip_program_files.specs.Outside.{CountsFetches, HasMet}
use Rattle.hip_answers.specs.TraceFiles.{IsTraceFile, ShowsNoMisfit}
use Rattle.hip_replay.specs.Replays.{HasReplayed}
use Rattle.hip_lockstep.specs.Refusals.{HasReadFault, Refuses, ShowsNone}
use Rattle.hip_lockstep.specs.declared.refusal.ReplayRefusal.{ReplayRefusal}
use Rattle.hip_lockstep.specs.declared.refusal.ReplayRefusal.TheVariants as refusals
use Rattle.hip_io.specs.Counts.{Rose}
use Rattle.hip_ledger.specs.declared.sought.Sought.{Sought}
use Rattle.hip_replay.specs.declared.compared.Replayed.{Replayed}
use Rattle.hip_run_traces.specs.Misfits.{IsTraceOf}
use Rattle.hip_trace.specs.Reads.{IsReading, ReaderState}
use Rattle.hip_command_io.specs.LoadedTraces.{HasFailedTrace, HasLoadedTrace}

-- What is known of the rest of a file that was fetched is known of the file.
of_file : (mid : CabinetState) (name : List ℕ) (Q : List ℕ → Type 0) (R : List NamedFile → Type 0)
    (files : Option (List NamedFile)) → IfSome files (λ fs. IsFirstFile fs name mid) → IfSome mid.rest Q
    → ((fs : List NamedFile) (bytes : List ℕ) → file_of fs name ≡ Some bytes → Q bytes → R fs) → IfSome files R
of_file mid name Q R None first q make = first
of_file mid name Q R (Some fs) first q make =
    make fs first.bytes first.found (subst (λ (rest : Option (List ℕ)). IfSome rest Q) first.rest q)

-- The file was fetched, and then read.
pub fetched_once : {old mid new : CabinetState} {name : List ℕ} → IsFetched old mid name → StaysOpen mid new
    → CountsFetches 1 old new
fetched_once f stays = record { count = stays.fetches ∙ f.fetches }

-- The file stays open while it is replayed.
pub replay_stays : (P : Program) (r : ReaderState) (mid new : CabinetState) (why : ReplayRefusal)
    → Refuses P r mid new why → StaysOpen mid new
replay_stays P r mid new (refusals.Misfit entry kind) h = h.reading.stays
replay_stays P r mid new refusals.ReadFault h = h.stays
replay_stays P r mid new refusals.NoMemory h = h.reading.stays

module _ {old mid new : CabinetState} {name : List ℕ} (P : Program) (r : ReaderState) (f : IsFetched old mid name) where
  met_nothing : IsReading mid new → HasMet false false old new
  met_nothing h = record {
    files = h.stays.files ∙ f.files;
    misses = h.stays.misses ∙ f.misses;
    faults = h.faults ∙ f.faults;
  }

  pub loaded : (sought : Sought) (replayed : Replayed) → HasReplayed P sought r mid new replayed
      → HasLoadedTrace P sought name old new replayed
  loaded sought replayed h = record {
    met = met_nothing h.reading;
    traced =
        of_file mid name (λ bytes. IsTraceOf P bytes replayed.input) (λ fs. IsTraceFile fs name P replayed.input) old.files
        f.stated h.stated (λ fs bytes found trace. record { bytes = bytes; found = found; trace = trace });
    left = h.left;
    valid = h.valid;
    found = h.found;
    trace = h.trace;
    is_trace = h.is_trace;
    ended = h.ended;
    entries = h.entries;
  }

  -- A read failed.
  pub failed : HasReadFault P mid new → HasFailedTrace P name old new
  failed h = record {
    met = record {
      files = h.stays.files ∙ f.files;
      misses = h.stays.misses ∙ f.misses;
      faults = (omega (arith, h.later, f.faults), subst (λ n. Rose n new.faults) f.faults h.rose);
    };
    fetches = fetched_once f h.stays;
    unread = inr (record {
      is = record {
        current = h.stays.current;
        named = subst (λ (n : Option (List ℕ)). IfSome n (λ m. m ≡ name)) (sym h.stays.named) f.named;
      };
      taken =
          of_file mid name (λ bytes. ShowsNone P bytes new.rest) (λ fs. ShowsNoMisfit fs name P new.rest) old.files f.stated
          h.stated (λ fs bytes found shows. record {
            taken = shows.front;
            left = shows.taken.left;
            found = found ∙ ap (λ (x : List ℕ). Some x) shows.taken.bytes_are;
            rest_is = shows.taken.rest_is;
            none = shows.none;
          });
    });
  }
