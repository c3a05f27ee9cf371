-- The canonical text of an entry: numbers with the least number of digits, in lower case.
use Rattle.std.specs.Prelude.{ℕ, List, [], ◌∷◌, ◌++◌, codes, decimal}
use Rattle.std.specs.Fmt.{signed_decimal}
use Rattle.std.specs.List.{flat_map}
use Rattle.hex.specs.Hex.{encode_lower}
use Rattle.hip_num.specs.Texts.{hexadecimal}
use Rattle.hip_tokens.specs.Bytes.{byte}
use Rattle.hip_trace.specs.Entries.{trap_text}
use Rattle.hip_trace.specs.declared.entry.Entry.{Entry}
use Rattle.hip_trace.specs.declared.entry.Entry.TheVariants.{Start, Register, Input, Image, Store, Flush, Fence, Persist, Assert, Stop, Trap, Cut}

-- The word that begins the text of an entry.
abbrev pub word_of : Entry → List ℕ
word_of (Start limit) = codes "START"
word_of (Register base size) = codes "REGISTER"
word_of (Input number) = codes "INPUT"
word_of (Image addr bytes) = codes "IMAGE"
word_of (Store addr value size) = codes "STORE"
word_of (Flush addr size) = codes "FLUSH"
word_of Fence = codes "FENCE"
word_of (Persist addr size) = codes "PERSIST"
word_of (Assert addr size) = codes "ASSERT"
word_of (Stop code) = codes "STOP"
word_of (Trap kind) = codes "TRAP"
word_of Cut = codes "CUT"

-- The fields after the word of an entry, in order: a limit, an input and a code in decimal, other numbers in
-- hexadecimal with `0x`, the bytes of a line as two hexadecimal digits each, a trap by its word.
abbrev pub fields_of : Entry → List (List ℕ)
fields_of (Start limit) = decimal limit ∷ []
fields_of (Register base size) = hexadecimal base ∷ hexadecimal size ∷ []
fields_of (Input number) = signed_decimal number ∷ []
fields_of (Image addr bytes) = hexadecimal addr ∷ encode_lower bytes ∷ []
fields_of (Store addr value size) = hexadecimal addr ∷ hexadecimal value ∷ hexadecimal size ∷ []
fields_of (Flush addr size) = hexadecimal addr ∷ hexadecimal size ∷ []
fields_of Fence = []
fields_of (Persist addr size) = hexadecimal addr ∷ hexadecimal size ∷ []
fields_of (Assert addr size) = hexadecimal addr ∷ hexadecimal size ∷ []
fields_of (Stop code) = signed_decimal code ∷ []
fields_of (Trap kind) = trap_text kind ∷ []
fields_of Cut = []

-- Each field comes after a semicolon.
abbrev pub with_fields : List ℕ → List (List ℕ) → List ℕ
with_fields text [] = text
with_fields text (f ∷ fs) = with_fields (text ++ byte ";" ∷ f) fs

-- The canonical text of an entry: its word, and each field after a semicolon.
unfoldable pub text_of : Entry → List ℕ
text_of e = with_fields (word_of e) (fields_of e)

-- The line of an entry: its text and a line feed.
abbrev pub line_of : Entry → List ℕ
line_of e = text_of e ++ codes "\n"

-- The text of a trace: a line for each entry.
abbrev pub lines_of : List Entry → List ℕ
lines_of es = flat_map line_of es
