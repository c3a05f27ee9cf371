-- Plain steps change no notes but the count of steps.
use Rattle.std.proofs.Common.{◌≡◌, ℕ, suc, ◌+◌, ◌<◌, ◌≤◌, ◌^◌, false, cond, Option, Some, None, Result, Ok, Err, refl, sym, ap, ◌∙◌, subst, arith}
use Rattle.std.specs.Prelude.{OnErr, is_some}
use Rattle.hip_tree.specs.declared.program.Program.{Program}
use Rattle.hip_invariants.specs.Bounds.{IsBounded}
use Rattle.hip_runs.specs.Ends.{longest}
use Rattle.hip_runs.specs.Seen.{Seen, after_step, state_of}
use Rattle.hip_runs.specs.State.{State}
use Rattle.hip_runs.specs.Step.{event, event_on_ending, has_ended, run}
use Rattle.hip_runs.specs.declared.event.Ending.{Ending}
use Rattle.hip_runs.specs.declared.event.Event.TheVariants as events
use Rattle.hip_runs.specs.declared.input.Input.{Input}
use Rattle.hip_runner.specs.PlainSteps.{PassesPlainly}
use Rattle.hip_runner.specs.Quiet.{GoesQuietly, next_event}
use Rattle.hip_runner.proofs.Quietly.{one_step, steps_then}
use Rattle.hip_ledger.specs.Noted.{IsLedger}
use Rattle.hip_ledger.specs.declared.ledger.Ledger.{Ledger}
use Rattle.hip_ledger.specs.declared.sought.Sought.TheVariants.{Reports}
use Rattle.hip_ledger.proofs.noting.Still.{IsPlainAt, IsQuietAt, plain_steps_few, plain_steps_noted, quiet_steps_noted}

-- ---- steps

pub goes_on : (P : Program) (I : Input) (s : State) → event P I s ≡ events.Quiet → has_ended s ≡ false
unfolding event
goes_on P I s q = by s.world.ending q
  where
    by : (o : Option Ending) → event_on_ending P I s o ≡ events.Quiet → is_some o ≡ false
    by None e = refl
    by (Some x) e = absurd (let z : events.End x ≡ events.Quiet = e in let w : ⊥ = cc in w)

-- ---- plain steps

module _ (m m' : Seen) (k : ℕ) (p : PassesPlainly m k m') where
  plain_at : (j : ℕ) → j < k → IsPlainAt m.program m.input (m.taken + j)
  plain_at j lt = let h = p.plain j lt in record { going = h.going; quiet = h.quiet; pointer = h.pointer }

  -- The ledger after plain steps.
  pub noted_passed : (c : Ledger) → IsLedger m.program m.input m.taken c → IsLedger m'.program m'.input m'.taken (record c { steps = c.steps + k })
  noted_passed c t = subst (λ (x : Seen). IsLedger x.program x.input x.taken (record c { steps = c.steps + k })) (sym p.is) (plain_steps_noted m.program m.input m.taken k plain_at c t)

  -- The count of steps after plain steps fits 128 bits.
  pub passed_few : (c : Ledger) → IsLedger m.program m.input m.taken c → IsBounded m.program m.input (m.taken + k) → m.input.limit ≤ 2 ^ 40 → longest m.program < 2 ^ 64 → c.steps + k < 2 ^ 128
  passed_few c t bounded limit short = plain_steps_few m.program m.input m.taken k plain_at c t bounded limit short

  -- Plain steps have no event.
  pub plainly_quiet : GoesQuietly m m'
  plainly_quiet = record { steps = k; is = p.is; quiet = λ n lt. (p.plain n lt).quiet }

-- ---- steps without an event, where no marks are sought

module _ (m m' : Seen) (q : GoesQuietly m m') where
  quiet_at : (j : ℕ) → j < q.steps → IsQuietAt m.program m.input (m.taken + j)
  quiet_at j lt = let e = q.quiet j lt in record { going = goes_on m.program m.input (run m.program m.input (m.taken + j)) e; quiet = e }

  -- The ledger after steps without an event, with the steps that were taken.
  pub noted_quietly : (c : Ledger) → c.sought ≡ Reports → IsLedger m.program m.input m.taken c → IsLedger m'.program m'.input m'.taken (record c { steps = m'.taken })
  noted_quietly c none t =
      let taken : c.steps + q.steps ≡ m'.taken = ap (λ k. k + q.steps) t.steps ∙ sym (ap (λ (x : Seen). x.taken) q.is) in
      subst (λ k. IsLedger m'.program m'.input m'.taken (record c { steps = k })) taken
      (subst (λ (x : Seen). IsLedger x.program x.input x.taken (record c { steps = c.steps + q.steps })) (sym q.is) (quiet_steps_noted m.program m.input m.taken q.steps quiet_at c none t))

-- ---- up to an event

-- Steps without an event do not change the program.
pub same_short : (m m' : Seen) → GoesQuietly m m' → longest m.program < 2 ^ 64 → longest m'.program < 2 ^ 64
same_short m m' q short = subst (λ (x : Seen). longest x.program < 2 ^ 64) (sym q.is) short

-- A step without an event adds one to the steps taken.
pub one_more : (m m' : Seen) → m' ≡ after_step m → next_event m ≡ events.Quiet → m' ≡ record m { taken = m.taken + 1 }
one_more m m' step quiet =
    step ∙ ap (λ b. record m { taken = cond b m.taken (suc m.taken) }) (goes_on m.program m.input (state_of m) quiet)
    ∙ ap (λ n. record m { taken = n }) (let e : suc m.taken ≡ m.taken + 1 = omega arith in e)

pub goes_one_more : (old mid new : Seen) → GoesQuietly old mid → new ≡ after_step mid → next_event mid ≡ events.Quiet → GoesQuietly old new
goes_one_more old mid new q step quiet = steps_then old mid new q (subst (λ (x : Seen). GoesQuietly mid x) (sym (one_more mid new step quiet)) (one_step mid quiet))

pub on_err : {A E : Type 0} {Q : Type 0} (r : Result A E) → Q → OnErr r Q
on_err (Ok x) q = tt
on_err (Err e) q = q
