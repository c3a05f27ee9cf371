-- The line that a status writes to the notes.
use Rattle.std.specs.Prelude.{ℕ, List, [], ◌++◌, codes}
use Rattle.std.specs.Fmt.{decimal}
use Rattle.hip_run_traces.specs.declared.misfit.MisfitKind.{MisfitKind}
use Rattle.hip_run_traces.specs.declared.misfit.MisfitKind.TheVariants as kinds
use Rattle.hip_grammar.specs.declared.refusal.ParseRefusal.{ParseRefusal}
use Rattle.hip_grammar.specs.declared.refusal.ParseRefusal.TheVariants as parse
use Rattle.hip_types.specs.declared.pick.PickRefusal.{PickRefusal}
use Rattle.hip_types.specs.declared.pick.PickRefusal.TheVariants as picks
use Rattle.hip_sound.specs.declared.fault.TypeFault.{TypeFault}
use Rattle.hip_sound.specs.declared.fault.TypeFault.TheVariants as fault
use Rattle.hip_sound.specs.declared.fault.Place.{Place}
use Rattle.hip_sound.specs.declared.fault.Place.TheVariants as place
use Rattle.hip_answers.specs.declared.status.FileRole.{FileRole}
use Rattle.hip_answers.specs.declared.status.FileRole.TheVariants as role
use Rattle.hip_program_files.specs.declared.refusal.ProgramRefusal.{ProgramRefusal}
use Rattle.hip_program_files.specs.declared.refusal.ProgramRefusal.TheVariants as refusal
use Rattle.hip_answers.specs.declared.status.Status.{Status}
use Rattle.hip_answers.specs.declared.status.Status.TheVariants as status

-- The words of the usage, and a line for each command.
abbrev pub usage_text : List ℕ
usage_text =
    codes "hippo: usage\n" ++ codes "usage: hippo run PROGRAM [--limit N] [NUMBERS...]\n"
    ++ codes "       hippo record PROGRAM [--base N] [--limit N] [NUMBERS...]\n"
    ++ codes "       hippo check PROGRAM TRACE\n" ++ codes "       hippo repair PROGRAM TRACE\n"
    ++ codes "       hippo rerun PROGRAM TRACE\n" ++ codes "       hippo demo SEED SIZE\n"
    ++ codes "       hippo many PROGRAM TRACES...\n" ++ codes "       hippo crash PROGRAM TRACE ENTRY [PICKS...]\n"
    ++ codes "       hippo thin PROGRAM TRACE\n"

-- `hippo: no file: program`, `hippo: no file: trace`, or `hippo: no file: trace T` for the T-th of many traces.
abbrev pub missing_text : FileRole → List ℕ
missing_text role.Program = codes "hippo: no file: program\n"
missing_text role.Trace = codes "hippo: no file: trace\n"
missing_text (role.Number number) = codes "hippo: no file: trace " ++ decimal number ++ codes "\n"

-- The word for how an entry of a trace differs from the run.
abbrev pub kind_word : MisfitKind → List ℕ
kind_word kinds.Malformed = codes "malformed"
kind_word kinds.Differs = codes "differs"
kind_word kinds.Early = codes "early"
kind_word kinds.Extra = codes "extra"

-- The words for the rule of soundness that is broken; the path that shows an unassigned register is left out.
abbrev pub fault_words : TypeFault → List ℕ
fault_words fault.BadShape = codes "shape"
fault_words fault.Duplicate = codes "duplicate"
fault_words fault.Unknown = codes "unknown"
fault_words fault.Mismatch = codes "mismatch"
fault_words fault.NoMain = codes "no main"
fault_words (fault.Unassigned path) = codes "unassigned"
fault_words fault.BadExtern = codes "bad extern"
fault_words fault.BadGlobal = codes "bad global"
fault_words fault.BadEdge = codes "bad edge"
fault_words fault.TooLarge = codes "too large"
fault_words fault.NoMemory = codes "out of memory"

-- `function F block B`, each counted from 0.
abbrev pub block_text : ℕ → ℕ → List ℕ
block_text function block = codes "function " ++ decimal function ++ codes " block " ++ decimal block

-- `program`, `global G`, `extern E`, `function F`, or a block with `phi I`, `index I` or `end`; each counted from 0.
abbrev pub place_text : Place → List ℕ
place_text place.Whole = codes "program"
place_text (place.Global g) = codes "global " ++ decimal g
place_text (place.Extern e) = codes "extern " ++ decimal e
place_text (place.Head f) = codes "function " ++ decimal f
place_text (place.Phi s) = block_text s.function s.block ++ codes " phi " ++ decimal s.index
place_text (place.Body s) = block_text s.function s.block ++ codes " index " ++ decimal s.index
place_text (place.End f b) = block_text f b ++ codes " end"

-- The word for why the text of a program is refused; no status has the refusal out of memory.
abbrev pub parse_word : ParseRefusal → List ℕ
parse_word (parse.Syntax line) = codes "syntax"
parse_word (parse.Unsupported line) = codes "unsupported"
parse_word (parse.Range line) = codes "range"
parse_word (parse.TooDeep line) = codes "depth"
parse_word parse.NoMemory = codes "out of memory"

-- The line of the refused token, counted from 1; 0 for out of memory, which is in no status.
abbrev pub parse_line : ParseRefusal → ℕ
parse_line (parse.Syntax line) = line
parse_line (parse.Unsupported line) = line
parse_line (parse.Range line) = line
parse_line (parse.TooDeep line) = line
parse_line parse.NoMemory = 0

-- `hippo: program line L: WORD`.
abbrev pub text_refusal : List ℕ → ℕ → List ℕ
text_refusal word line = codes "hippo: program line " ++ decimal line ++ codes ": " ++ word ++ codes "\n"

-- `hippo: program: WORDS at PLACE`.
abbrev pub form_refusal : List ℕ → Place → List ℕ
form_refusal words at = codes "hippo: program: " ++ words ++ codes " at " ++ place_text at ++ codes "\n"

-- The line for a text that reads as no program, or as one that is not sound.
abbrev pub program_refusal : ProgramRefusal → List ℕ
program_refusal (refusal.Text r) = text_refusal (parse_word r) (parse_line r)
program_refusal (refusal.Form r) = form_refusal (fault_words r.fault) r.place

-- `hippo: trace entry E: KIND`, for the one trace of a command.
abbrev pub misfit_text : ℕ → List ℕ → List ℕ
misfit_text entry word = codes "hippo: trace entry " ++ decimal entry ++ codes ": " ++ word ++ codes "\n"

-- `hippo: trace T entry E: KIND`, for the T-th of many traces.
abbrev pub misfit_in_text : ℕ → ℕ → List ℕ → List ℕ
misfit_in_text trace entry word =
    codes "hippo: trace " ++ decimal trace ++ codes " entry " ++ decimal entry ++ codes ": " ++ word ++ codes "\n"

-- `hippo: no entry: N entries`, where the trace has N.
abbrev pub no_entry_text : ℕ → List ℕ
no_entry_text entries = codes "hippo: no entry: " ++ decimal entries ++ codes " entries\n"

-- The number of the pick that fails, counted from 1; 0 for out of memory, which is in no status.
abbrev pub pick_number : PickRefusal → ℕ
pick_number (picks.NoLine at) = at
pick_number (picks.Repeated at) = at
pick_number (picks.OutOfRange at least most) = at
pick_number picks.NoMemory = 0

-- How a pick fails: `line`, `repeated` or `range G to L`.
abbrev pub pick_words : PickRefusal → List ℕ
pick_words (picks.NoLine at) = codes "line"
pick_words (picks.Repeated at) = codes "repeated"
pick_words (picks.OutOfRange at least most) = codes "range " ++ decimal least ++ codes " to " ++ decimal most
pick_words picks.NoMemory = codes "out of memory"

-- `hippo: pick N: ` and how the pick fails.
abbrev pub bad_pick_text : PickRefusal → List ℕ
bad_pick_text refusal =
    codes "hippo: pick " ++ decimal (pick_number refusal) ++ codes ": " ++ pick_words refusal ++ codes "\n"

-- Each refusal has a line; a command that was carried out has none.
unfoldable pub line_of : Status → List ℕ
line_of status.Done = []
line_of status.Usage = usage_text
line_of (status.Missing file) = missing_text file
line_of status.ReadFault = codes "hippo: read fault\n"
line_of status.WriteFault = codes "hippo: write fault\n"
line_of (status.BadProgram r) = program_refusal r
line_of (status.Misfit entry kind) = misfit_text entry (kind_word kind)
line_of status.NoMemory = codes "hippo: out of memory\n"
line_of status.TooLarge = codes "hippo: program too large\n"
line_of (status.Trapped kind) = []
line_of status.Cut = []
line_of (status.MisfitIn trace entry kind) = misfit_in_text trace entry (kind_word kind)
line_of (status.NoEntry entries) = no_entry_text entries
line_of (status.BadPick refusal) = bad_pick_text refusal
