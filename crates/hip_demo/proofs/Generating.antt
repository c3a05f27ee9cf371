-- The generated text is read as the generated program, and is refused in no way.
use Rattle.std.proofs.Common.{◌≡◌, ℕ, List, sym, subst}
use Rattle.hip_gen.specs.Generated.{generated_program}
use Rattle.hip_gen.specs.Lines.{generated_text}
use Rattle.hip_gen.specs.Read.{IsReadAsSound}
use Rattle.hip_grammar.specs.Laws.TextExact.{one_program}
use Rattle.hip_grammar.specs.ReadTexts.{Reads}
use Rattle.hip_tree.specs.declared.program.Program.{Program}
use Rattle.hip_program_files.specs.LoadedPrograms.{RefusesProgram, RefusesText}
use Rattle.hip_program_files.specs.declared.refusal.ProgramRefusal.{ProgramRefusal}
use Rattle.hip_program_files.specs.declared.refusal.ProgramRefusal.TheVariants as refusals
use Rattle.hip_grammar.specs.declared.refusal.ParseRefusal.{ParseRefusal}
use Rattle.hip_grammar.specs.declared.refusal.ParseRefusal.TheVariants as parse
use Rattle.hip_tokens.specs.Tokens.{tokens}
use Rattle.hip_sound.specs.Sound.{IsSound}

same_program : (text : List ℕ) (P Q : Program) → Reads text P → Reads text Q → P ≡ Q
same_program text P Q p q = one_program (tokens text) P Q p q

unread : (text : List ℕ) (why : ParseRefusal) (P : Program) → RefusesText text why → Reads text P → ⊥
unread text (parse.Syntax line) P h r = h.unread P r
unread text (parse.Unsupported line) P h r = h.unread P r
unread text (parse.Range line) P h r = h.unread P r
unread text (parse.TooDeep line) P h r = h.unread P r
unread text parse.NoMemory P h r = h

module _ (seed size : ℕ) (g : IsReadAsSound seed size) (text : List ℕ) (same : text ≡ generated_text seed size) where
  reads : Reads text (generated_program seed size)
  reads = subst (λ t. Reads t (generated_program seed size)) (sym same) g.reads

  pub loaded : (P : Program) → Reads text P × IsSound P → P ≡ generated_program seed size
  loaded P r = same_program text P (generated_program seed size) r.0 reads

  pub not_refused : (why : ProgramRefusal) → RefusesProgram text why → ⊥
  not_refused (refusals.Text why) h = unread text why (generated_program seed size) h reads
  not_refused (refusals.Form why) h =
      h.2.unsound (subst IsSound (same_program text (generated_program seed size) h.0 reads h.1) g.sound)
