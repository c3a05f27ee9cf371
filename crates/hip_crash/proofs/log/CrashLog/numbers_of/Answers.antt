use Rattle.std.proofs.Common.{inr, ◌∙◌, sym, take}
use Rattle.hip_runs.specs.Seen.{state_of}
use Rattle.hip_types.specs.declared.pick.Pick.{Pick}
use Rattle.hip_crash.proofs.PickLaws.{pick-fails, pick-passes, numbers-next}
use Rattle.hip_crash.proofs.log.CrashLog.numbers_of.Goals as goal

pub returns-in-Some-clause-refused : goal.returns-in-Some-clause-refused
returns-in-Some-clause-refused c =
    let none : Pick = record { line = 0; upto = 0 } in
    inr (pick-fails (state_of c.args.self.now) c.args.picks.now c.picks.place none c.picks-test.true c.in-Some.refusal (sym (c.failure_of.ensures (take c.picks.place c.args.picks.now) c.picks.invariant.numbers) ∙ c.in-Some.is) c.picks.invariant.fit)

pub picks-preserved : goal.picks-preserved
picks-preserved c =
    let none : Pick = record { line = 0; upto = 0 } in
    let fits = sym (c.failure_of.ensures (take c.picks.place c.args.picks.now) c.picks.invariant.numbers) ∙ c.in-None.is in
    record {
      numbers = numbers-next (state_of c.args.self.now) c.args.picks.now c.picks.place none c.picks-test.true c.picks.numbers.entries c.insert.new.self.entries c.picks.invariant.numbers fits c.in-Ok.ensures.updates.0;
      fit = pick-passes (state_of c.args.self.now) c.args.picks.now c.picks.place none c.picks-test.true fits c.picks.invariant.fit;
    }
