-- After a read fault the bytes of a trace that were taken show no misfit.
use Rattle.std.proofs.Common.{◌≡◌, ℕ, List, Option, Some, inl, inr, sym, ap, ◌∙◌, subst}
use Rattle.std.specs.Prelude.{IfSome}
use Rattle.hip_answers.specs.Answers.{Answer}
use Rattle.hip_answers.specs.RunLaws.OneAnswer.{loads_no_fault, reads_program, shows_none}
use Rattle.hip_answers.specs.TraceFiles.{FailsToRead, IsReadInPart}
use Rattle.hip_answers.specs.declared.refusal.TraceFileRefusal.{TraceFileRefusal}
use Rattle.hip_answers.specs.declared.refusal.TraceFileRefusal.TheVariants as traces
use Rattle.hip_answers.specs.declared.status.Status.TheVariants as statuses
use Rattle.hip_io.specs.Cabinets.{CabinetState}
use Rattle.hip_io.specs.declared.cabinet.NamedFile.{NamedFile}
use Rattle.hip_repair_commands.specs.ManyLaws.{ManyFaultsHideNone}
use Rattle.hip_repair_commands.specs.Many.{status_in}
use Rattle.hip_tree.specs.declared.program.Program.{Program}

no_trace_fault : (number : ℕ) (why : TraceFileRefusal) → status_in number why ≡ statuses.ReadFault → ⊥
no_trace_fault number traces.Missing e = cc
no_trace_fault number (traces.Misfit entry kind) e = cc

-- The file that could not be read is the current one.
same_name : (t name : List ℕ) (files : Option (List NamedFile)) (new : CabinetState) (P : Program) → new.name ≡ Some t
    → FailsToRead files name P new → FailsToRead files t P new
same_name t name files new P named (inl e) = inl e
same_name t name files new P named (inr h) =
    let same : t ≡ name = subst (λ (n : Option (List ℕ)). IfSome n (λ x. x ≡ name)) named h.is.named in
    inr (subst (λ (n : List ℕ). IsReadInPart files n P new) (sym same) h)

pub faults_hide_none : ManyFaultsHideNone
faults_hide_none files old new p t names P a known loaded current named apart status (inl u) =
    absurd (loads_no_fault old new known loaded current a status u)
faults_hide_none files old new p t names P a known loaded current named apart status (inr (inl u)) =
    absurd (reads_program old new known loaded current a named apart u)
faults_hide_none files old new p t names P a known loaded current named apart status (inr (inr (inl u))) =
    absurd (no_trace_fault u.number u.why (sym (ap (λ (x : Answer). x.status) u.is) ∙ status))
faults_hide_none files old new p t names P a known loaded current named apart status (inr (inr (inr (inl u)))) =
    shows_none old new known loaded current t u.program u.loaded (same_name t u.name old.files new u.program named u.unread)
faults_hide_none files old new p t names P a known loaded current named apart status (inr (inr (inr (inr d)))) =
    absurd (let k : statuses.Done ≡ statuses.ReadFault = sym d.texts.status_is ∙ status in let z : ⊥ = cc in z)
