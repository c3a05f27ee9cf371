-- What is kept of a line when its durable parts are removed: the parts from the durable number on, and how many of
-- these are flushed.
use Rattle.std.specs.Prelude.{ℕ, ◌-◌, List, [], ◌∷◌, ◌++◌, length, drop}
use Rattle.hip_lines.specs.Line.{Line}

-- The parts of a line that are not durable, in the order of their stores, and how many of them are flushed, which are
-- the first ones.
pub record Pending (P : Type 0) : Type 0 where
  pub parts : List P
  pub flushed : ℕ

-- What is kept of a line.
abbrev pub pending_of : {P : Type 0} → Line P → Pending P
pending_of l = record { parts = drop l.durable l.parts; flushed = l.flushed - l.durable }

-- No part is pending.
abbrev pub none_pending : {P : Type 0} → Pending P
none_pending = record { parts = []; flushed = 0 }

-- The pending parts after a store, whose part becomes the last one. The number of flushed parts stays.
abbrev pub pending_with : {P : Type 0} → P → Pending P → Pending P
pending_with x w = record { parts = w.parts ++ x ∷ []; flushed = w.flushed }

-- The pending parts after a flush of the line: all are flushed.
abbrev pub pending_flushed : {P : Type 0} → Pending P → Pending P
pending_flushed w = record { parts = w.parts; flushed = length w.parts }

-- The pending parts after a fence: the flushed parts are durable and are removed, and none of the others is flushed.
abbrev pub pending_fenced : {P : Type 0} → Pending P → Pending P
pending_fenced w = record { parts = drop w.flushed w.parts; flushed = 0 }
