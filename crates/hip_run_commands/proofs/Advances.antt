-- A run up to an entry of its trace.
use Rattle.std.proofs.Common.{◌≡◌, ◌⊎◌, ◌≤◌, ◌<◌, ◌-◌, ℕ, suc, true, false, Bool, cond, length, inl, inr, refl, sym, ap, ◌∙◌, subst, arith}
use Rattle.std.proofs.lemmas.Bool.{cases_order}
use Rattle.hip_runs.specs.Laws.OneEndLaws.{rests_later}
use Rattle.hip_run_commands.specs.StepsToEntry.{ReachesEntry}
use Rattle.hip_run_commands.specs.ImagesAtEntries.{TraceHasEntry, StateAtEntry}
use Rattle.hip_tree.specs.declared.program.Program.{Program}
use Rattle.hip_run_traces.specs.Laws.TraceLaws.{length-trace}
use Rattle.hip_runs.specs.Entry.{IsAtEntry}
use Rattle.hip_runs.specs.Laws.EndLaws.{runs_end}
use Rattle.hip_runs.specs.Laws.NextLaws.{entry_there}
use Rattle.hip_runs.specs.State.{State}
use Rattle.hip_runs.specs.Step.{has_ended, run}
use Rattle.hip_runs.specs.declared.input.Input.{Input}
use Rattle.hip_runs.specs.Seen.{Seen, after_step, state_of}

-- How many steps are left at most.
abbrev pub steps_ahead : Program → Input → ℕ → ℕ
steps_ahead P I n = (runs_end P I).0 - n

-- The run has taken some steps, and before each of them its trace had fewer than `entry` entries.
pub record IsBefore (P : Program) (I : Input) (entry : ℕ) (m : Seen) : Type 0 where
  pub program : m.program ≡ P
  pub input : m.input ≡ I
  pub least : (k : ℕ) → k < m.taken → (run P I k).counts.entries < entry

-- The run comes to the entry.
pub comes : (P : Program) (I : Input) (entry : ℕ) → TraceHasEntry P I entry → (n : ℕ) × IsAtEntry P I entry n
comes P I entry has =
    let steps = has.counted.is_trace.steps in
    let many : has.entries ≡ (run P I steps).counts.entries =
    has.counted.many ∙ ap length has.counted.is_trace.are ∙ length-trace P I steps in
    let found = entry_there P I entry steps (subst (λ n. entry ≤ n) many has.there) in (found.0, found.2)

module _ {P : Program} {I : Input} {entry : ℕ} (has : TraceHasEntry P I entry) {m : Seen} (is : IsBefore P I entry m)
    (few : (run P I m.taken).counts.entries < entry) where
  ahead : (n : ℕ) → IsAtEntry P I entry n → m.taken ≤ n
  ahead n at = go (cases_order m.taken n)
    where
      go : (m.taken ≡ n) ⊎ ((m.taken < n) ⊎ (n < m.taken)) → m.taken ≤ n
      go (inl same) = omega (arith, same)
      go (inr (inl less)) = omega (arith, less)
      go (inr (inr more)) = let h = is.least n more in absurd (omega (arith, h, at.enough))

  goes_on : has_ended (run P I m.taken) ≡ false
  goes_on = go (has_ended (run P I m.taken)) refl
    where
      go : (b : Bool) → has_ended (run P I m.taken) ≡ b → has_ended (run P I m.taken) ≡ false
      go false e = e
      go true e =
          let at = comes P I entry has in
          let same = ap (λ (s : State). s.counts.entries) (rests_later P I m.taken at.0 (ahead at.0 at.1) e) in
          let enough = at.1.enough in
          absurd (omega (arith, same, few, enough))

  stepped : after_step m ≡ record { program = m.program; input = m.input; taken = suc m.taken }
  stepped =
      ap (λ b. record { program = m.program; input = m.input; taken = cond b m.taken (suc m.taken) })
      (ap (λ (p : Program). has_ended (run p m.input m.taken)) is.program
      ∙ ap (λ (i : Input). has_ended (run P i m.taken)) is.input ∙ goes_on)

  pub before_more : IsBefore P I entry (after_step m)
  before_more = subst (λ (x : Seen). IsBefore P I entry x) (sym stepped) (record {
    program = is.program;
    input = is.input;
    least = λ k less. by k (split k less);
  })
    where
      split : (k : ℕ) → k < suc m.taken → (k < m.taken) ⊎ (k ≡ m.taken)
      split k h = grind arith

      by : (k : ℕ) → (k < m.taken) ⊎ (k ≡ m.taken) → (run P I k).counts.entries < entry
      by k (inl less) = is.least k less
      by k (inr same) = subst (λ n. (run P I n).counts.entries < entry) (sym same) few

  pub fewer : steps_ahead P I (after_step m).taken < steps_ahead P I m.taken
  fewer =
      let end = runs_end P I in
      let less : m.taken < end.0 = go end.0 end.1 (cases_order m.taken end.0) in
      subst (λ (x : Seen). steps_ahead P I x.taken < steps_ahead P I m.taken) (sym stepped) (omega (arith, less))
    where
      no : (n : ℕ) → has_ended (run P I n) ≡ true → n ≤ m.taken → ⊥
      no n ended le =
          let same : false ≡ true = sym goes_on ∙ ap has_ended (rests_later P I n m.taken le ended) ∙ ended in cc

      go : (n : ℕ) → has_ended (run P I n) ≡ true → (m.taken ≡ n) ⊎ ((m.taken < n) ⊎ (n < m.taken)) → m.taken < n
      go n ended (inl same) = absurd (no n ended (omega (arith, same)))
      go n ended (inr (inl less)) = less
      go n ended (inr (inr more)) = absurd (no n ended (omega (arith, more)))

-- The entries that a log counts are those of the run.
pub counts_of : (start m : Seen) (entry : ℕ) → IsBefore start.program start.input entry m
    → (state_of m).counts.entries ≡ (run start.program start.input m.taken).counts.entries
counts_of start m entry is =
    ap (λ (p : Program). (run p m.input m.taken).counts.entries) is.program
    ∙ ap (λ (i : Input). (run start.program i m.taken).counts.entries) is.input

-- The state of a log that reaches the entry is the state at the entry.
pub stands : (start m : Seen) (entry : ℕ) → TraceHasEntry start.program start.input entry → ReachesEntry start m entry
    → StateAtEntry m.program m.input entry (state_of m)
stands start m entry has r =
    subst (λ (p : Program). StateAtEntry p m.input entry (run p m.input m.taken)) (sym r.program)
    (subst (λ (i : Input). StateAtEntry start.program i entry (run start.program i m.taken)) (sym r.input) (record {
      has = has;
      steps = m.taken;
      at = r.at;
      state_is = refl;
    }))
