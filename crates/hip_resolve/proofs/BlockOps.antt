-- The ops of a block.
use Rattle.std.proofs.Common.{◌≡◌, ℕ, suc, ◌+◌, ◌≤◌, length, Some, slice_get, ap, arith}
use Rattle.hip_tree.specs.declared.block.Block.{Block}
use Rattle.hip_tree.specs.declared.instr.Instr.{Instr}
use Rattle.hip_tree.specs.declared.program.Program.{Program}
use Rattle.hip_runs.specs.Places.{block_at}
use Rattle.hip_code.specs.Entries.{entry, entry_in}
use Rattle.hip_code.specs.Extents.{IsExtent, keeps_extent}
use Rattle.hip_code.specs.Frames.{names_at}
use Rattle.hip_code.specs.Laws.CallLaws.{resolves_kept}
use Rattle.hip_code.specs.Numbers.{Tables}
use Rattle.hip_code.specs.declared.op.Control.TheVariants as controls
use Rattle.hip_code.specs.declared.op.Op.{Op}
use Rattle.hip_code.specs.declared.op.Op.TheVariants as ops
use Rattle.hip_scope.specs.Known.{InstrKnown}
use Rattle.hip_scope.specs.Scopes.{DescribesScope, DoesInstr, names_of}
use Rattle.hip_scope.specs.declared.scope.Scope.{Scope}
use Rattle.hip_end_ops.proofs.EdgeOps.{is_at}
use Rattle.hip_resolve.specs.Extents.{with_frame}
use Rattle.hip_scope.proofs.Places.{entry_at, next_in}
use Rattle.hip_scope.proofs.Sound.{instr_known}

-- ---- what is known of a block's instructions

pub known_at : (s : Scope) → DescribesScope s → (b : ℕ) (block : Block) → block_at s.program.now s.number b ≡ Some block → (k : ℕ) (i : Instr) → slice_get block.body k ≡ Some i → InstrKnown s.program.now (names_of s) i
known_at s d b block h k i e = instr_known s.program.now d.sound s.number b s.function.now block (is_at s d b block h) k i e

-- ---- places

-- A block begins after the end of the one before it.
pub next_block : (s : Scope) → DescribesScope s → (b : ℕ) (block : Block) → block_at s.program.now s.number b ≡ Some block → entry s.program.now s.number (b + 1) ≡ entry s.program.now s.number b + length block.body + 1
next_block s d b block h =
    let at = is_at s d b block h in
    let p = entry_at s.program.now s.number b s.function.now d.function in
    let q = entry_at s.program.now s.number (b + 1) s.function.now d.function in
    let n = next_in s.function.now.blocks b block at.block_is in
    let same : entry_in s.function.now.blocks (b + 1) ≡ entry_in s.function.now.blocks (suc b) = ap (entry_in s.function.now.blocks) (let e : b + 1 ≡ suc b = omega arith in e) in
    omega (arith, p, q, n, same)

-- ---- the slots that calls keep

-- A call that keeps another number of slots does the same, as long as the function has these slots.
pub does_kept : (P : Program) (base f : ℕ) (t : Tables) (frame : ℕ) (o : Op) (i : Instr) → frame ≤ length (names_at P f) → DoesInstr P base f t o i → DoesInstr P base f t (with_frame frame o) i
does_kept P base f t frame (ops.Value dest value) i few d = d
does_kept P base f t frame (ops.Memory memory) i few d = d
does_kept P base f t frame (ops.Control (controls.Go go)) i few d = d
does_kept P base f t frame (ops.Control (controls.Call call)) i few d = record { on = λ I e. resolves_kept P I f t call frame i few (d.on I e) }
does_kept P base f t frame (ops.Control (controls.Exit exit)) i few d = d

pub extent_kept : (P : Program) (f b frame : ℕ) (o : Op) → IsExtent P f b frame → keeps_extent P f b (with_frame frame o)
extent_kept P f b frame (ops.Value dest value) e = tt
extent_kept P f b frame (ops.Memory memory) e = tt
extent_kept P f b frame (ops.Control (controls.Go go)) e = tt
extent_kept P f b frame (ops.Control (controls.Call call)) e = e
extent_kept P f b frame (ops.Control (controls.Exit exit)) e = tt
