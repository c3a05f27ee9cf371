-- What a parser has left, and what the contracts of its methods say of it.
use Rattle.std.specs.Prelude.{◌≡◌, ℕ, List, [], ◌∷◌, Option, Some, None, Result, Ok, Err}
use Rattle.hip_tokens.specs.declared.lexer.Token.{Token}
use Rattle.hip_tokens.specs.Tokens.{At, cut}
use Rattle.hip_tokens.specs.Seen.{seen}
use Rattle.hip_grammar.specs.Reader.{Outcome}
use Rattle.hip_grammar.specs.declared.fault.TextFault.{TextFault}
use Rattle.hip_parse.specs.declared.error.ReadError.{ReadError}
use Rattle.hip_parse.specs.declared.error.ReadError.TheVariants as errors
use Rattle.hip_parse.specs.declared.parser.Parser.{Parser}

-- The look-ahead token with its line, and the tokens after it; if there is none, the text has ended.
abbrev pub and_after : Option (Token × ℕ) → List At → List At
and_after None ts = []
and_after (Some x) ts = (record { tok = seen x.0; line = x.1 }) ∷ ts

-- The tokens from the next one on.
unfoldable pub left : Parser → List At
left p = and_after p.token (cut p.lexer.line 0 p.lexer.rest.now)

-- The tokens after the first one; none if there are no tokens.
abbrev pub tail : List At → List At
tail [] = []
tail (t ∷ ts) = ts

-- What a method gave, under `view`, is what the reading gives. After it the parser is at the token after what was read,
-- or at the refused place.
abbrev pub Gives : {X Y : Type 0} → (X → Y) → Result X (Option TextFault) → Outcome TextFault Y → List At → Type 0
Gives view (Ok x) read after = read ≡ Ok (view x, after)
Gives view (Err why) read after = read ≡ Err (why, after)

-- The failure of a method that takes memory: a refusal, which is that of the reading, or out of memory, which states
-- nothing of the reading.
abbrev pub Fails : {Y : Type 0} → ReadError → Outcome TextFault Y → List At → Type 0
Fails errors.Memory read after = Unit {0}
Fails (errors.Refused why) read after = read ≡ Err (why, after)

-- The same as `Gives`, for a method that takes memory.
abbrev pub Takes : {X Y : Type 0} → (X → Y) → Result X ReadError → Outcome TextFault Y → List At → Type 0
Takes view (Ok x) read after = read ≡ Ok (view x, after)
Takes view (Err e) read after = Fails e read after
