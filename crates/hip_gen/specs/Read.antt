-- How the reader and the verifier take a generated text.
use Rattle.std.specs.Prelude.{ℕ, ◌≡◌}
use Rattle.hip_grammar.specs.ReadTexts.{Reads}
use Rattle.hip_grammar.specs.Show.{show}
use Rattle.hip_sound.specs.Sound.{IsSound}
use Rattle.hip_gen.specs.Generated.{generated_program}
use Rattle.hip_gen.specs.Lines.{generated_text}

-- The text for a seed and a size is the canonical text of the generated program and reads as that program, which is
-- sound.
pub record IsReadAsSound (seed size : ℕ) : Type 0 where
  pub canonical : generated_text seed size ≡ show (generated_program seed size)
  pub reads : Reads (generated_text seed size) (generated_program seed size)
  pub sound : IsSound (generated_program seed size)
