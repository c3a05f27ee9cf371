-- A known file gives one program, or one refusal has a cause.
use Rattle.std.proofs.Common.{◌≡◌, ℕ, List, Option, Some, None, length, refl, sym, ap, ◌∙◌, subst, arith}
use Rattle.hip_io.specs.Cabinets.{file_of}
use Rattle.hip_io.specs.declared.cabinet.NamedFile.{NamedFile}
use Rattle.hip_grammar.specs.Laws.TextExact.{one_program}
use Rattle.hip_grammar.specs.ReadTexts.{Reads}
use Rattle.hip_tree.specs.declared.program.Program.{Program}
use Rattle.hip_program_files.specs.Laws.{LoadsOne, without_paths}
use Rattle.hip_program_files.specs.LoadedPrograms.{HasNoProgram, IsBadProgram, IsProgramOf, RefusesProgram, RefusesText}
use Rattle.hip_program_files.specs.declared.refusal.LoadRefusal.{LoadRefusal}
use Rattle.hip_program_files.specs.declared.refusal.LoadRefusal.TheVariants as loads
use Rattle.hip_program_files.specs.declared.refusal.ProgramRefusal.{ProgramRefusal}
use Rattle.hip_program_files.specs.declared.refusal.ProgramRefusal.TheVariants as refusals
use Rattle.hip_program_files.specs.Laws.FormRefusals.{SameRefusal, one_form_refusal}
use Rattle.hip_program_files.specs.Laws.TextRefusals.{one_text_refusal}
use Rattle.hip_grammar.specs.declared.refusal.ParseRefusal.{ParseRefusal}
use Rattle.hip_grammar.specs.declared.refusal.ParseRefusal.TheVariants as parse
use Rattle.hip_tokens.specs.Tokens.{tokens}
use Rattle.hip_sound.specs.Refusals.{IsRefused}
use Rattle.hip_sound.specs.Sound.{IsSound}
use Rattle.hip_sound.specs.declared.fault.Place.{Place}
use Rattle.hip_sound.specs.declared.fault.TypeFault.{TypeFault}
use Rattle.hip_sound.specs.declared.fault.TypeRefusal.{TypeRefusal}

-- Byte strings that one option holds are the same.
pub same_bytes : (o : Option (List ℕ)) (a b : List ℕ) → o ≡ Some a → o ≡ Some b → a ≡ b
same_bytes o a b p q = let k : Some a ≡ Some b = sym p ∙ q in cc

-- An option that holds bytes is not None.
pub not_there : (o : Option (List ℕ)) (a : List ℕ) → o ≡ Some a → o ≡ None → ⊥
not_there o a p q = let k : Some a ≡ None = sym p ∙ q in cc

same_program : (text : List ℕ) (P Q : Program) → Reads text P → Reads text Q → P ≡ Q
same_program text P Q p q = one_program (tokens text) P Q p q

unread : (text : List ℕ) (why : ParseRefusal) (P : Program) → RefusesText text why → Reads text P → ⊥
unread text (parse.Syntax line) P h r = h.unread P r
unread text (parse.Unsupported line) P h r = h.unread P r
unread text (parse.Range line) P h r = h.unread P r
unread text (parse.TooDeep line) P h r = h.unread P r
unread text parse.NoMemory P h r = h

programs : (files : List NamedFile) (name : List ℕ) (P Q : Program) → IsProgramOf (Some files) name P
    → IsProgramOf (Some files) name Q → P ≡ Q
programs files name P Q p q =
    let text = same_bytes (file_of files name) q.text p.text q.is_text.stated p.is_text.stated in
    same_program p.text P Q p.reads (subst (λ t. Reads t Q) text q.reads)

excluded : (files : List NamedFile) (name : List ℕ) (P : Program) (why : LoadRefusal)
    → IsProgramOf (Some files) name P
    → HasNoProgram (Some files) name why → ⊥
excluded files name P loads.Missing p h = not_there (file_of files name) p.text p.is_text.stated h
excluded files name P loads.TooLarge p h =
    let text = same_bytes (file_of files name) h.text p.text h.found p.is_text.stated in
    omega (arith, ap length text, h.long, p.is_text.fits)
excluded files name P (loads.Bad (refusals.Text why)) p h =
    let text = same_bytes (file_of files name) h.text p.text h.is_text.stated p.is_text.stated in
    unread p.text why P (subst (λ t. RefusesText t why) text h.refused) p.reads
excluded files name P (loads.Bad (refusals.Form why)) p h =
    let text = same_bytes (file_of files name) h.text p.text h.is_text.stated p.is_text.stated in
    let same = same_program p.text h.refused.0 P (subst (λ t. Reads t h.refused.0) text h.refused.1) p.reads in
    h.refused.2.unsound (subst IsSound (sym same) p.sound)

same_form : (a b : TypeRefusal) → SameRefusal a.fault b.fault a.place b.place
    → without_paths (loads.Bad (refusals.Form a)) ≡ without_paths (loads.Bad (refusals.Form b))
same_form a b s = made s.fault s.place
  where
    made : {f g : TypeFault} {p q : Place} → f ≡ g → p ≡ q
        → loads.Bad (refusals.Form (record { fault = f; place = p }))
        ≡ loads.Bad (refusals.Form (record { fault = g; place = q }))
    made e h = cc

bad : (text : List ℕ) (a b : ProgramRefusal) → RefusesProgram text a → RefusesProgram text b
    → without_paths (loads.Bad a) ≡ without_paths (loads.Bad b)
bad text (refusals.Text a) (refusals.Text b) p q =
    ap (λ r. loads.Bad (refusals.Text r)) (one_text_refusal text a b p q)
bad text (refusals.Text a) (refusals.Form b) p q = absurd (unread text a q.0 p q.1)
bad text (refusals.Form a) (refusals.Text b) p q = absurd (unread text b p.0 q p.1)
bad text (refusals.Form a) (refusals.Form b) p q =
    let same = same_program text p.0 q.0 p.1 q.1 in
    same_form a b (one_form_refusal q.0 a b (subst (λ Q. IsRefused Q a) same p.2).first q.2.first)

bad_files : (files : List NamedFile) (name : List ℕ) (a b : ProgramRefusal) → IsBadProgram (Some files) name a
    → IsBadProgram (Some files) name b → without_paths (loads.Bad a) ≡ without_paths (loads.Bad b)
bad_files files name a b p q =
    let text = same_bytes (file_of files name) p.text q.text p.is_text.stated q.is_text.stated in
    bad q.text a b (subst (λ t. RefusesProgram t a) text p.refused) q.refused

one_refusal : (files : List NamedFile) (name : List ℕ) (a b : LoadRefusal) → HasNoProgram (Some files) name a
    → HasNoProgram (Some files) name b → without_paths a ≡ without_paths b
one_refusal files name loads.Missing loads.Missing p q = refl
one_refusal files name loads.TooLarge loads.TooLarge p q = refl
one_refusal files name (loads.Bad a) (loads.Bad b) p q = bad_files files name a b p q
one_refusal files name loads.Missing loads.TooLarge p q = absurd (not_there (file_of files name) q.text q.found p)
one_refusal files name loads.TooLarge loads.Missing p q = absurd (not_there (file_of files name) p.text p.found q)
one_refusal files name loads.Missing (loads.Bad b) p q =
    absurd (not_there (file_of files name) q.text q.is_text.stated p)
one_refusal files name (loads.Bad a) loads.Missing p q =
    absurd (not_there (file_of files name) p.text p.is_text.stated q)
one_refusal files name loads.TooLarge (loads.Bad b) p q =
    absurd (let text = same_bytes (file_of files name) p.text q.text p.found q.is_text.stated in
    omega (arith, ap length text, p.long, q.is_text.fits))
one_refusal files name (loads.Bad a) loads.TooLarge p q =
    absurd (let text = same_bytes (file_of files name) q.text p.text q.found p.is_text.stated in
    omega (arith, ap length text, q.long, p.is_text.fits))

pub loads_one : (files : List NamedFile) (name : List ℕ) → LoadsOne files name
loads_one files name =
    record { programs = programs files name; excluded = excluded files name; refusals = one_refusal files name }
