-- Which program a text reads as, and which refusal another text gets.
use Rattle.std.specs.Prelude.{◌≡◌, ℕ, ◌≤◌, List, [], ◌∷◌, length}
use Rattle.hip_tokens.specs.Tokens.{At, tokens}
use Rattle.hip_tokens.specs.Lines.{last_line}
use Rattle.hip_grammar.specs.Rule.{Later}
use Rattle.hip_grammar.specs.declared.fault.TextFault.{TextFault}
use Rattle.hip_tree.specs.declared.program.Program.{Program}
use Rattle.hip_grammar.specs.Show.{show}
use Rattle.hip_grammar.specs.Text.{text}
use Rattle.hip_grammar.specs.Unsupported.{usual}

-- The grammar derives the program from the tokens of the text.
abbrev pub Reads : List ℕ → Program → Type 0
Reads bytes program = text.rule.Derives (tokens bytes) program []

-- The refused token is the first of `rest`, or the end of the text if `rest` is empty. The tokens up to each place at
-- or before it are a front of the grammar, and no front goes further.
pub record IsRefusedAt (ts : List At) (why : TextFault) (rest : List At) : Type 0 where
  pub here : Later ts rest
  pub viable : (m : List At) → Later ts m → Later m rest → text.rule.Front ts m
  pub no_further : (m : List At) → text.rule.Front ts m → length rest ≤ length m
  -- A reason of the token's place takes precedence over the usual fault.
  pub own : (w : TextFault) → text.rule.Refuses w ts rest → why ≡ w
  pub other : ((w : TextFault) → text.rule.Refuses w ts rest → ⊥) → why ≡ usual rest

-- The line of the refused token, or of the text's last byte.
abbrev pub line_at : List ℕ → List At → ℕ
line_at bytes [] = last_line bytes
line_at bytes (t ∷ ts) = t.line

-- The text is refused for this fault, on this line.
abbrev pub IsRefusal : List ℕ → TextFault → ℕ → Type 0
IsRefusal bytes why line = (rest : List At) × IsRefusedAt (tokens bytes) why rest × (line ≡ line_at bytes rest)

-- The program is the one that its canonical text reads as.
abbrev pub IsSpelled : Program → Type 0
IsSpelled program = Reads (show program) program
