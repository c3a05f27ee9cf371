-- The entries of a trace, and the texts that spell them.
use Rattle.std.specs.Prelude.{ℕ, ◌+◌, ◌*◌, ◌%◌, ◌^◌, Bool, ◌&&◌, ◌||◌, List, [], ◌∷◌, length, Option, Some, None, nat_lt, nat_le, ◌==◌, if◌then◌else◌, codes, option_and_then}
use Rattle.std.specs.Option.{option_map}
use Rattle.std.specs.Result.{result_ok}
use Rattle.std.specs.List.{slice_split}
use Rattle.std.specs.Str.{bytes_eq}
use Rattle.hex.specs.Hex.{decode_sized}
use Rattle.hip_tokens.specs.Bytes.{byte}
use Rattle.hip_num.specs.Texts.{decimal_of, hex_of, signed_of}
use Rattle.hip_trace.specs.declared.entry.Entry.{Entry}
use Rattle.hip_trace.specs.declared.entry.Entry.TheVariants.{Start, Register, Input, Image, Store, Flush, Fence, Persist, Assert, Stop, Trap, Cut}
use Rattle.hip_trace.specs.declared.entry.TrapWord.{TrapWord}
use Rattle.hip_trace.specs.declared.entry.TrapWord.TheVariants as traps

-- The fields of an entry's text: the parts between semicolons.
abbrev pub fields : List ℕ → List (List ℕ)
fields text = slice_split (λ b. b == byte ";") text

-- The field after an entry's word, if there is exactly one.
abbrev pub one_field : List (List ℕ) → Option (List ℕ)
one_field (a ∷ []) = Some a
one_field _ = None

-- The fields after an entry's word, if there are exactly two.
abbrev pub two_fields : List (List ℕ) → Option (List ℕ × List ℕ)
two_fields (a ∷ b ∷ []) = Some (a, b)
two_fields _ = None

-- The fields after an entry's word, if there are exactly three.
abbrev pub three_fields : List (List ℕ) → Option (List ℕ × List ℕ × List ℕ)
three_fields (a ∷ b ∷ c ∷ []) = Some (a, b, c)
three_fields _ = None

-- Two fields, both hexadecimal numbers.
unfoldable pub two_numbers : List (List ℕ) → Option (ℕ × ℕ)
two_numbers fs =
    option_and_then (λ f. option_and_then (λ a. option_map (λ b. (a, b)) (hex_of f.1)) (hex_of f.0)) (two_fields fs)

-- `START;L`.
unfoldable pub start : List (List ℕ) → Option Entry
start fs = option_and_then (λ l. option_map (λ limit. Start limit) (decimal_of l)) (one_field fs)

-- `REGISTER;B;S`.
unfoldable pub register : List (List ℕ) → Option Entry
register fs = option_map (λ n. Register n.0 n.1) (two_numbers fs)

-- `INPUT;N`.
unfoldable pub input : List (List ℕ) → Option Entry
input fs = option_and_then (λ n. option_map (λ number. Input number) (signed_of (2 ^ 63) n)) (one_field fs)

-- The 64 bytes of a cache line, from 128 hexadecimal digits.
abbrev pub line_bytes : List ℕ → Option (List ℕ)
line_bytes text = result_ok (decode_sized text 64)

-- The IMAGE entry of a line at an address, if the address is a multiple of 64.
abbrev pub image_at : ℕ → Option (List ℕ) → Option Entry
image_at addr bytes = if addr % 64 == 0 then option_map (λ bs. Image addr bs) bytes else None

-- `IMAGE;A;H`.
unfoldable pub image : List (List ℕ) → Option Entry
image fs = option_and_then (λ f. option_and_then (λ addr. image_at addr (line_bytes f.1)) (hex_of f.0))
    (two_fields fs)

-- Whether a store may have this size: 1, 2, 4 or 8.
abbrev pub is_store_size : ℕ → Bool
is_store_size size = (size == 1) || ((size == 2) || ((size == 4) || (size == 8)))

-- Whether the size is one that a store may have, and the value has at most as many bytes.
abbrev pub is_sized : ℕ → ℕ → Bool
is_sized value size = is_store_size size && nat_lt value (2 ^ (8 * size))

-- A store of a value, if its size is one of these and its value fits the size.
abbrev pub sized_store : ℕ → ℕ → ℕ → Option Entry
sized_store addr value size = if is_sized value size then Some (Store addr value size) else None

-- `STORE;A;V;S`.
unfoldable pub store : List (List ℕ) → Option Entry
store fs =
    option_and_then (λ f.
    option_and_then (λ addr.
    option_and_then (λ value.
    option_and_then (λ size. sized_store addr value size) (hex_of f.2)) (hex_of f.1)) (hex_of f.0))
    (three_fields fs)

-- Whether an address and a size are those of one or more whole cache lines, which end at most at 2^64.
abbrev pub are_lines : ℕ → ℕ → Bool
are_lines addr size = (addr % 64 == 0) && ((size % 64 == 0) && (nat_lt 0 size && nat_le (addr + size) (2 ^ 64)))

-- An address and a size, if they are those of one or more whole cache lines.
abbrev pub some_lines : ℕ × ℕ → Option (ℕ × ℕ)
some_lines n = if are_lines n.0 n.1 then Some n else None

-- `FLUSH;A;S`.
unfoldable pub flush : List (List ℕ) → Option Entry
flush fs = option_map (λ n. Flush n.0 n.1) (option_and_then some_lines (two_numbers fs))

-- `PERSIST;A;S`.
unfoldable pub persist : List (List ℕ) → Option Entry
persist fs = option_map (λ n. Persist n.0 n.1) (option_and_then some_lines (two_numbers fs))

-- `ASSERT;A;N`.
unfoldable pub assert : List (List ℕ) → Option Entry
assert fs = option_map (λ n. Assert n.0 n.1) (two_numbers fs)

-- `STOP;C`.
unfoldable pub stop : List (List ℕ) → Option Entry
stop fs = option_and_then (λ c. option_map (λ code. Stop code) (signed_of (2 ^ 31) c)) (one_field fs)

-- The word for why a run trapped.
abbrev pub trap_text : TrapWord → List ℕ
trap_text traps.DivZero = codes "divzero"
trap_text traps.DivOverflow = codes "divoverflow"
trap_text traps.ShiftRange = codes "shift"
trap_text traps.Address = codes "address"
trap_text traps.Misaligned = codes "misaligned"
trap_text traps.Stack = codes "stack"
trap_text traps.Depth = codes "depth"
trap_text traps.InputEnd = codes "input"
trap_text traps.Unreachable = codes "unreachable"

-- Whether a text is the word for that reason of a trap.
abbrev pub is_trap_text : List ℕ → TrapWord → Bool
is_trap_text text kind = bytes_eq text (trap_text kind)

-- The reason of a trap for its word; none if the text is no such word.
unfoldable pub trap_of : List ℕ → Option TrapWord
trap_of text =
    if is_trap_text text traps.DivZero then Some traps.DivZero
    else (if is_trap_text text traps.DivOverflow then Some traps.DivOverflow
    else (if is_trap_text text traps.ShiftRange then Some traps.ShiftRange
    else (if is_trap_text text traps.Address then Some traps.Address
    else (if is_trap_text text traps.Misaligned then Some traps.Misaligned
    else (if is_trap_text text traps.Stack then Some traps.Stack
    else (if is_trap_text text traps.Depth then Some traps.Depth
    else (if is_trap_text text traps.InputEnd then Some traps.InputEnd
    else (if is_trap_text text traps.Unreachable then Some traps.Unreachable
    else None))))))))

-- `TRAP;K`.
unfoldable pub trap : List (List ℕ) → Option Entry
trap fs = option_and_then (λ k. option_map (λ kind. Trap kind) (trap_of k)) (one_field fs)

-- An entry without fields: `FENCE` or `CUT`.
abbrev pub alone : Entry → List (List ℕ) → Option Entry
alone e [] = Some e
alone e (f ∷ fs) = None

-- The entry that a word and the fields after it spell; none if no entry has that word with such fields.
unfoldable pub entry_by : List (List ℕ) → Option Entry
entry_by [] = None
entry_by (word ∷ fs) =
    if bytes_eq word (codes "STORE") then store fs
    else (if bytes_eq word (codes "FLUSH") then flush fs
    else (if bytes_eq word (codes "FENCE") then alone Fence fs
    else (if bytes_eq word (codes "PERSIST") then persist fs
    else (if bytes_eq word (codes "ASSERT") then assert fs
    else (if bytes_eq word (codes "START") then start fs
    else (if bytes_eq word (codes "REGISTER") then register fs
    else (if bytes_eq word (codes "INPUT") then input fs
    else (if bytes_eq word (codes "IMAGE") then image fs
    else (if bytes_eq word (codes "STOP") then stop fs
    else (if bytes_eq word (codes "TRAP") then trap fs
    else (if bytes_eq word (codes "CUT") then alone Cut fs
    else None)))))))))))

-- The entry that a text spells; a text of more than 256 bytes spells none.
unfoldable pub entry_of : List ℕ → Option Entry
entry_of text = if nat_lt 256 (length text) then None else entry_by (fields text)
