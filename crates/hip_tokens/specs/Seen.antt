-- What the code's tokens mean.
use Rattle.std.specs.Prelude.{◌≡◌, ℕ, List, [], ◌∷◌, Option, Some, None}
use Rattle.hip_tokens.specs.declared.lexer.Token.{Token}
use Rattle.hip_tokens.specs.declared.lexer.Token.TheVariants as code
use Rattle.hip_tokens.specs.Tokens.{Tok, Word, Label, Local, Global, Num, Str, Punctuation, Odd, At}

-- A token of the code as a token of the definitions: of the same kind, with the same text or byte.
abbrev pub seen : Token → Tok
seen (code.Word t) = Word t.now
seen (code.Label t) = Label t.now
seen (code.Local t) = Local t.now
seen (code.Global t) = Global t.now
seen (code.Num t) = Num t.now
seen (code.Str t) = Str t.now
seen (code.Punctuation b) = Punctuation b
seen (code.Odd b) = Odd b

-- The next token, if there is one, is the first of the tokens before, and the others are left.
abbrev pub IsNext : List At → Option (Token × ℕ) → List At → Type 0
IsNext before None after = (before ≡ []) × (after ≡ [])
IsNext before (Some x) after = before ≡ (record { tok = seen x.0; line = x.1 }) ∷ after
