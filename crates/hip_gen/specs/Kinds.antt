-- The kinds of the groups of a generated program, by the sample generator of pseudo-random numbers of the C standard
-- (ISO C, "rand") modulo 2 ^ 31.
use Rattle.std.specs.Prelude.{ℕ, zero, suc, ◌+◌, ◌*◌, ◌/◌, ◌%◌, ◌==◌, if◌then◌else◌}
use Rattle.hip_gen.specs.declared.kinds.GroupKind.{GroupKind}
use Rattle.hip_gen.specs.declared.kinds.GroupKind.TheVariants.{Store, FlushedStore, PersistentCall, VolatileCall}
use Rattle.hip_gen.specs.declared.limits.TheConstants.{SEED_END}

-- The number that is drawn after another one.
abbrev pub next_draw : ℕ → ℕ
next_draw draw = (1103515245 * draw + 12345) % SEED_END

-- The number that is drawn after n others; the seed is the first.
abbrev pub draw : ℕ → ℕ → ℕ
draw seed zero = seed
draw seed (suc n) = next_draw (draw seed n)

-- The kind of that number, of four.
abbrev pub kind_numbered : ℕ → GroupKind
kind_numbered n =
    if n == 0 then Store
    else (if n == 1 then FlushedStore
    else (if n == 2 then PersistentCall
    else VolatileCall))

-- The lowest two bits of a draw that is shifted right by 16.
abbrev pub kind_by : ℕ → GroupKind
kind_by draw = kind_numbered (draw / 65536 % 4)

-- The kind of the group of that number.
abbrev pub kind : ℕ → ℕ → GroupKind
kind seed group = kind_by (draw seed (suc group))
