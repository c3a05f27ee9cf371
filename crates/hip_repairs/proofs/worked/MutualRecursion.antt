-- The run of two functions that call one another, and its repair by two clones.
use Rattle.std.proofs.Common.{◌≡◌, true, [], ◌∷◌, List, Some, None, codes, refl, ap, ◌∙◌, false}
use Rattle.hip_types.specs.Laws.LayoutLaws.{shape-Int}
use Rattle.hip_sound.specs.Rules.{site}
use Rattle.hip_runs.specs.declared.event.Object.TheVariants.{Global, Slot}
use Rattle.hip_runs.specs.declared.report.Mark.{Mark}
use Rattle.hip_runs.specs.Actions.{Deed, Allocates, Assigns, Calls, Jumps, Returns, Stores}
use Rattle.hip_runs.specs.declared.report.Findings.{Findings}
use Rattle.hip_runs.specs.Found.Marks.{pointed, hit, findings}
use Rattle.hip_runs.specs.Found.Reports.{reports}
use Rattle.hip_runs.specs.Step.{start, run, has_ended}
use Rattle.hip_runs.specs.Laws.Opened.{run_opened}
use Rattle.hip_repairs.specs.Choice.{plan_for}
use Rattle.hip_repairs.specs.Repaired.{repaired}
use Rattle.hip_repairs.specs.declared.plan.Plan.{Plan}
use Rattle.hip_repairs.specs.examples.Words.{zeroed, ExampleIsHoisted}
use Rattle.hip_repairs.specs.examples.MutualRecursion.{mutual_recursion, mutual_recursion_report, mutual_recursion_repaired}
use Rattle.hip_repairs.proofs.worked.Runs.{Follows, done_opened, int_value, address_value, run_is, reports_are}
use Rattle.hip_repairs.proofs.worked.Marked.{Seen, Sees, pointed_is, hit_is}

-- What is done, step by step.
abbrev deeds : List Deed
deeds =
    record { turn = true; action = Allocates (codes "t") 268435456 8 }
    ∷ record { turn = true; action = Calls 0 ((codes "d", 268435456) ∷ (codes "n", 2) ∷ []) None }
    ∷ record { turn = true; action = Assigns (Some (codes "z")) 0 }
    ∷ record { turn = true; action = Jumps 1 ((codes "z", 0) ∷ (codes "d", 268435456) ∷ (codes "n", 2) ∷ []) }
    ∷ record { turn = true; action = Stores 268435456 (2 ∷ 0 ∷ 0 ∷ 0 ∷ 0 ∷ 0 ∷ 0 ∷ 0 ∷ []) }
    ∷ record { turn = true; action = Assigns (Some (codes "m")) 1 }
    ∷ record { turn = true; action = Calls 1 ((codes "d", 268435456) ∷ (codes "n", 1) ∷ []) None }
    ∷ record { turn = true; action = Assigns (Some (codes "z")) 0 }
    ∷ record { turn = true; action = Jumps 1 ((codes "z", 0) ∷ (codes "d", 268435456) ∷ (codes "n", 1) ∷ []) }
    ∷ record { turn = true; action = Stores 268435456 (1 ∷ 0 ∷ 0 ∷ 0 ∷ 0 ∷ 0 ∷ 0 ∷ 0 ∷ []) }
    ∷ record { turn = true; action = Assigns (Some (codes "m")) 0 }
    ∷ record { turn = true; action = Calls 0 ((codes "d", 268435456) ∷ (codes "n", 0) ∷ []) None }
    ∷ record { turn = true; action = Assigns (Some (codes "z")) 1 }
    ∷ record { turn = true; action = Jumps 2 ((codes "z", 1) ∷ (codes "d", 268435456) ∷ (codes "n", 0) ∷ []) }
    ∷ record { turn = true; action = Returns 0 }
    ∷ record { turn = true; action = Jumps 2 ((codes "m", 0) ∷ (codes "z", 0) ∷ (codes "d", 268435456) ∷ (codes "n", 1) ∷ []) }
    ∷ record { turn = true; action = Returns 0 }
    ∷ record { turn = true; action = Jumps 2 ((codes "m", 1) ∷ (codes "z", 0) ∷ (codes "d", 268435456) ∷ (codes "n", 2) ∷ []) }
    ∷ record { turn = true; action = Returns 0 }
    ∷ record { turn = true; action = Calls 0 ((codes "d", 4294967296) ∷ (codes "n", 2) ∷ []) None }
    ∷ record { turn = true; action = Assigns (Some (codes "z")) 0 }
    ∷ record { turn = true; action = Jumps 1 ((codes "z", 0) ∷ (codes "d", 4294967296) ∷ (codes "n", 2) ∷ []) }
    ∷ record { turn = true; action = Stores 4294967296 (2 ∷ 0 ∷ 0 ∷ 0 ∷ 0 ∷ 0 ∷ 0 ∷ 0 ∷ []) }
    ∷ record { turn = true; action = Assigns (Some (codes "m")) 1 }
    ∷ record { turn = true; action = Calls 1 ((codes "d", 4294967296) ∷ (codes "n", 1) ∷ []) None }
    ∷ record { turn = true; action = Assigns (Some (codes "z")) 0 }
    ∷ record { turn = true; action = Jumps 1 ((codes "z", 0) ∷ (codes "d", 4294967296) ∷ (codes "n", 1) ∷ []) }
    ∷ record { turn = true; action = Stores 4294967296 (1 ∷ 0 ∷ 0 ∷ 0 ∷ 0 ∷ 0 ∷ 0 ∷ 0 ∷ []) }
    ∷ record { turn = true; action = Assigns (Some (codes "m")) 0 }
    ∷ record { turn = true; action = Calls 0 ((codes "d", 4294967296) ∷ (codes "n", 0) ∷ []) None }
    ∷ record { turn = true; action = Assigns (Some (codes "z")) 1 }
    ∷ record { turn = true; action = Jumps 2 ((codes "z", 1) ∷ (codes "d", 4294967296) ∷ (codes "n", 0) ∷ []) }
    ∷ record { turn = true; action = Returns 0 }
    ∷ record { turn = true; action = Jumps 2 ((codes "m", 0) ∷ (codes "z", 0) ∷ (codes "d", 4294967296) ∷ (codes "n", 1) ∷ []) }
    ∷ record { turn = true; action = Returns 0 }
    ∷ record { turn = true; action = Jumps 2 ((codes "m", 1) ∷ (codes "z", 0) ∷ (codes "d", 4294967296) ∷ (codes "n", 2) ∷ []) }
    ∷ record { turn = true; action = Returns 0 }
    ∷ record { turn = true; action = Returns 0 }
    ∷ []

follows : Follows mutual_recursion (zeroed 1) (start mutual_recursion (zeroed 1)) deeds
unfolding run_opened
follows = (
  refl,
  simp shape-Int refl,
  (
    refl,
    simp int_value refl,
    (
      refl,
      simp int_value refl,
      (
        refl,
        refl,
        (
          refl,
          refl,
          (
            refl,
            simp int_value refl,
            (
              refl,
              refl,
              (
                refl,
                simp int_value refl,
                (
                  refl,
                  refl,
                  (
                    refl,
                    refl,
                    (
                      refl,
                      simp int_value refl,
                      (
                        refl,
                        refl,
                        (
                          refl,
                          simp int_value refl,
                          (
                            refl,
                            refl,
                            (
                              refl,
                              refl,
                              (
                                refl,
                                refl,
                                (
                                  refl,
                                  refl,
                                  (
                                    refl,
                                    refl,
                                    (
                                      refl,
                                      refl,
                                      (
                                        refl,
                                        simp (int_value, address_value, shape-Int) refl,
                                        (
                                          refl,
                                          simp int_value refl,
                                          (
                                            refl,
                                            refl,
                                            (
                                              refl,
                                              refl,
                                              (
                                                refl,
                                                simp int_value refl,
                                                (
                                                  refl,
                                                  refl,
                                                  (
                                                    refl,
                                                    simp int_value refl,
                                                    (
                                                      refl,
                                                      refl,
                                                      (
                                                        refl,
                                                        refl,
                                                        (
                                                          refl,
                                                          simp int_value refl,
                                                          (
                                                            refl,
                                                            refl,
                                                            (
                                                              refl,
                                                              simp int_value refl,
                                                              (
                                                                refl,
                                                                refl,
                                                                (refl, refl, (refl, refl, (refl, refl, (refl, refl, (refl, refl, (refl, simp int_value refl, tt)))))),
                                                              ),
                                                            ),
                                                          ),
                                                        ),
                                                      ),
                                                    ),
                                                  ),
                                                ),
                                              ),
                                            ),
                                          ),
                                        ),
                                      ),
                                    ),
                                  ),
                                ),
                              ),
                            ),
                          ),
                        ),
                      ),
                    ),
                  ),
                ),
              ),
            ),
          ),
        ),
      ),
    ),
  ),
)

ended : has_ended (run mutual_recursion (zeroed 1) 38) ≡ true
unfolding done_opened
ended = ap has_ended (run_is mutual_recursion (zeroed 1) deeds follows)

found : reports mutual_recursion (zeroed 1) 38 ≡ mutual_recursion_report ∷ []
unfolding done_opened
found = reports_are mutual_recursion (zeroed 1) deeds follows

-- What the pointers of the stores and the calls pointed into.
abbrev nothing_seen : Seen
nothing_seen = record { marks = []; hits = [] }

abbrev all_seen : List Seen
all_seen =
    nothing_seen
    ∷ record { marks = record { site = site 2 0 1; operand = 0; object = Slot (site 2 0 0) } ∷ []; hits = [] }
    ∷ nothing_seen
    ∷ nothing_seen
    ∷ record { marks = record { site = site 0 1 0; operand = 0; object = Slot (site 2 0 0) } ∷ []; hits = [] }
    ∷ nothing_seen
    ∷ record { marks = record { site = site 0 1 2; operand = 0; object = Slot (site 2 0 0) } ∷ []; hits = [] }
    ∷ nothing_seen
    ∷ nothing_seen
    ∷ record { marks = record { site = site 1 1 0; operand = 0; object = Slot (site 2 0 0) } ∷ []; hits = [] }
    ∷ nothing_seen
    ∷ record { marks = record { site = site 1 1 2; operand = 0; object = Slot (site 2 0 0) } ∷ []; hits = [] }
    ∷ nothing_seen
    ∷ nothing_seen
    ∷ nothing_seen
    ∷ nothing_seen
    ∷ nothing_seen
    ∷ nothing_seen
    ∷ nothing_seen
    ∷ record { marks = record { site = site 2 0 2; operand = 0; object = Global 0 } ∷ []; hits = [] }
    ∷ nothing_seen
    ∷ nothing_seen
    ∷ record { marks = record { site = site 0 1 0; operand = 0; object = Global 0 } ∷ []; hits = 0 ∷ [] }
    ∷ nothing_seen
    ∷ record { marks = record { site = site 0 1 2; operand = 0; object = Global 0 } ∷ []; hits = [] }
    ∷ nothing_seen
    ∷ nothing_seen
    ∷ record { marks = record { site = site 1 1 0; operand = 0; object = Global 0 } ∷ []; hits = 0 ∷ [] }
    ∷ nothing_seen
    ∷ record { marks = record { site = site 1 1 2; operand = 0; object = Global 0 } ∷ []; hits = [] }
    ∷ nothing_seen
    ∷ nothing_seen
    ∷ nothing_seen
    ∷ nothing_seen
    ∷ nothing_seen
    ∷ nothing_seen
    ∷ nothing_seen
    ∷ nothing_seen
    ∷ []

sees : Sees mutual_recursion (zeroed 1) (start mutual_recursion (zeroed 1)) deeds all_seen
unfolding done_opened
sees = (
  refl,
  (
    simp shape-Int refl,
    (
      refl,
      (
        refl,
        (
          simp shape-Int refl,
          (
            refl,
            (
              simp shape-Int refl,
              (
                refl,
                (
                  refl,
                  (
                    simp shape-Int refl,
                    (
                      refl,
                      (
                        simp shape-Int refl,
                        (
                          refl,
                          (
                            refl,
                            (
                              refl,
                              (
                                refl,
                                (
                                  refl,
                                  (
                                    refl,
                                    (
                                      refl,
                                      (
                                        simp (address_value, shape-Int) refl,
                                        (
                                          refl,
                                          (
                                            refl,
                                            (
                                              simp shape-Int refl,
                                              (
                                                refl,
                                                (
                                                  simp shape-Int refl,
                                                  (
                                                    refl,
                                                    (
                                                      refl,
                                                      (
                                                        simp shape-Int refl,
                                                        (
                                                          refl,
                                                          (
                                                            simp shape-Int refl,
                                                            (
                                                              refl,
                                                              (
                                                                refl,
                                                                (refl, (refl, (refl, (refl, (refl, (refl, tt)))))),
                                                              ),
                                                            ),
                                                          ),
                                                        ),
                                                      ),
                                                    ),
                                                  ),
                                                ),
                                              ),
                                            ),
                                          ),
                                        ),
                                      ),
                                    ),
                                  ),
                                ),
                              ),
                            ),
                          ),
                        ),
                      ),
                    ),
                  ),
                ),
              ),
            ),
          ),
        ),
      ),
    ),
  ),
)

abbrev marks : List Mark
marks =
    record { site = site 2 0 1; operand = 0; object = Slot (site 2 0 0) }
    ∷ record { site = site 0 1 0; operand = 0; object = Slot (site 2 0 0) }
    ∷ record { site = site 0 1 2; operand = 0; object = Slot (site 2 0 0) }
    ∷ record { site = site 1 1 0; operand = 0; object = Slot (site 2 0 0) }
    ∷ record { site = site 1 1 2; operand = 0; object = Slot (site 2 0 0) }
    ∷ record { site = site 2 0 2; operand = 0; object = Global 0 }
    ∷ record { site = site 0 1 0; operand = 0; object = Global 0 }
    ∷ record { site = site 0 1 2; operand = 0; object = Global 0 }
    ∷ record { site = site 1 1 0; operand = 0; object = Global 0 }
    ∷ record { site = site 1 1 2; operand = 0; object = Global 0 }
    ∷ []

points : pointed mutual_recursion (zeroed 1) 38 ≡ marks
points = pointed_is mutual_recursion (zeroed 1) deeds all_seen follows sees

hits : hit mutual_recursion (zeroed 1) 38 ≡ 0 ∷ []
hits = hit_is mutual_recursion (zeroed 1) deeds all_seen follows sees

abbrev all_found : Findings
all_found = record { reports = mutual_recursion_report ∷ []; marks = record { pointed = marks; hit = 0 ∷ [] } }

findings_are : findings mutual_recursion (zeroed 1) 38 ≡ all_found
findings_are = λ i. record { reports = found i; marks = record { pointed = points i; hit = hits i } }

-- The plan, and what it makes of the program.
abbrev hoist_second : Plan
hoist_second = record { flush_after = []; fence_after = []; hoist = site 2 0 2 ∷ [] }

planned : plan_for mutual_recursion all_found ≡ hoist_second
planned = refl

hoisted : repaired mutual_recursion hoist_second (λ s. false) ≡ mutual_recursion_repaired
hoisted = refl

pub mutual_recursion_worked : ExampleIsHoisted mutual_recursion (zeroed 1) 38 (mutual_recursion_report ∷ []) mutual_recursion_repaired
mutual_recursion_worked =
    record {
      ended = ended;
      reports = found;
      repaired = ap (λ (f : Findings). repaired mutual_recursion (plan_for mutual_recursion f) (λ s. false)) findings_are ∙ (ap (λ (p : Plan). repaired mutual_recursion p (λ s. false)) planned ∙ hoisted);
    }
