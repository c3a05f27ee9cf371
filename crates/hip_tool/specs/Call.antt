-- What `hippo` answers, by the order that its words give.
use Rattle.std.specs.Prelude.{ℕ, ◌≡◌, ◌+◌, ◌<◌, ◌≤◌, Bool, true, false, length, Option, Some, None}
use Rattle.hip_answers.specs.Answers.{Answer, refusal}
use Rattle.hip_answers.specs.declared.status.Status.TheVariants as statuses
use Rattle.hip_run_commands.specs.Record.{RecordAnswers}
use Rattle.hip_run_commands.specs.Run.{RunAnswers}
use Rattle.hip_run_commands.specs.Crash.{CrashAnswers}
use Rattle.hip_demo.specs.Demo.{DemoAnswers}
use Rattle.hip_gen.specs.declared.limits.TheConstants.{LARGEST_SIZE, SEED_END}
use Rattle.hip_globals.specs.Addresses.{IsBase}
use Rattle.hip_io.specs.Cabinets.{CabinetState}
use Rattle.hip_repair_commands.specs.Many.{ManyAnswers}
use Rattle.hip_repair_answers.specs.Answers.{CheckAnswers, RepairAnswers, RerunAnswers}
use Rattle.hip_runs.specs.declared.limits.TheConstants.{MOST_NUMBERS, MOST_TURNS}
use Rattle.hip_repair_commands.specs.Thin.{ThinAnswers}
use Rattle.hip_words.specs.declared.order.Order.{Order}
use Rattle.hip_words.specs.declared.order.Order.TheVariants.{Run, Record, Check, Repair, Rerun, Demo, Many, Crash, Thin}

-- The words are no order; no file is read.
pub record IsMisused (old new : CabinetState) (answer : Answer) : Type 0 where
  pub met : new ≡ old
  pub is : answer ≡ refusal statuses.Usage

-- The answers of each order.
abbrev pub AnswersTo : Option Order → CabinetState → CabinetState → Answer → Type 0
AnswersTo None old new answer = IsMisused old new answer
AnswersTo (Some (Run program limit numbers)) old new answer = RunAnswers old new program limit numbers answer
AnswersTo (Some (Record program base limit numbers)) old new answer =
    RecordAnswers old new program base limit numbers answer
AnswersTo (Some (Check program trace)) old new answer = CheckAnswers old new program trace answer
AnswersTo (Some (Repair program trace)) old new answer = RepairAnswers old new program trace answer
AnswersTo (Some (Rerun program trace)) old new answer = RerunAnswers old new program trace answer
AnswersTo (Some (Demo seed size)) old new answer = DemoAnswers seed size old new answer
AnswersTo (Some (Many program traces)) old new answer = ManyAnswers old new program traces answer
AnswersTo (Some (Crash program trace entry picks)) old new answer =
    CrashAnswers old new program trace entry picks answer
AnswersTo (Some (Thin program trace)) old new answer = ThinAnswers old new program trace answer

-- How many files the command of an order reads: none where the words are no order; the program; the program and a
-- trace; or the program and the traces of `many`. `demo` reads none.
abbrev pub files_of : Option Order → ℕ
files_of None = 0
files_of (Some (Run program limit numbers)) = 1
files_of (Some (Record program base limit numbers)) = 1
files_of (Some (Check program trace)) = 2
files_of (Some (Repair program trace)) = 2
files_of (Some (Rerun program trace)) = 2
files_of (Some (Demo seed size)) = 0
files_of (Some (Many program traces)) = 1 + length traces
files_of (Some (Crash program trace entry picks)) = 2
files_of (Some (Thin program trace)) = 2

-- Whether the command of an order writes its text before the whole text is made.
abbrev pub begins : Option Order → Bool
begins (Some (Run program limit numbers)) = true
begins (Some (Record program base limit numbers)) = true
begins (Some (Rerun program trace)) = true
begins (Some (Crash program trace entry picks)) = true
begins _ = false

-- Whether an order writes what one run of the program does: `run`, `record` and `crash`.
abbrev pub is_run : Order → Bool
is_run (Run program limit numbers) = true
is_run (Record program base limit numbers) = true
is_run (Crash program trace entry picks) = true
is_run _ = false

-- An order's base, limit, numbers, seed and size are within their bounds.
abbrev pub IsFit : Order → Type 0
IsFit (Run program limit numbers) = (limit ≤ MOST_TURNS) × (length numbers ≤ MOST_NUMBERS)
IsFit (Record program base limit numbers) = IsBase base × (limit ≤ MOST_TURNS) × (length numbers ≤ MOST_NUMBERS)
IsFit (Demo seed size) = (seed < SEED_END) × (1 ≤ size) × (size ≤ LARGEST_SIZE)
IsFit _ = Unit {0}
