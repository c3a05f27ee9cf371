use Rattle.std.proofs.Common.{◌≡◌, suc, ◌+◌, ◌-◌, ◌*◌, ◌<◌, ◌^◌, List, length, sym, ap, ◌∙◌, subst, arith}
use Rattle.std.proofs.lemmas.List.{length-map}
use Rattle.hip_globals.specs.Addresses.{region_size}
use Rattle.hip_runs.specs.Laws.CrashLaws.{same_size}
use Rattle.hip_runs.specs.Step.{event, run}
use Rattle.hip_runs.specs.StoredParts.Shown.{shown}
use Rattle.hip_runs.specs.declared.event.Event.{Event}
use Rattle.hip_runs.specs.declared.report.Mark.{Mark}
use Rattle.hip_types.specs.Distinct.{met}
use Rattle.hip_runs.specs.Found.Marks.{same_mark, unless_ended}
use Rattle.hip_ledger.specs.MetMarks.{AreMet, WereHit}
use Rattle.hip_ledger.specs.Sights.{AddUnlessEnded, is_still, marks_ahead}
use Rattle.hip_runs.specs.Seen.{next_site}
use Rattle.hip_ledger.specs.Noted.{IsLedger, EndsBelow, Stood}
use Rattle.hip_ledger.specs.declared.ledger.Ledger.{Ledger}
use Rattle.hip_ledger.proofs.noting.Assembled.{Did, assembled, did_at, ends_below, few_at, stood_next}
use Rattle.hip_report.proofs.Looked.{looked_before}
use Rattle.hip_report.proofs.Stepping.{stays_noted, taken_by}
use Rattle.hip_ledger.proofs.NoteLists.{in_order}
use Rattle.hip_ledger.proofs.noting.Still.{still_noted}
use Rattle.hip_ledger.proofs.Rooms.{Lies, event_lies}
use Rattle.hip_report.proofs.step.note_step.Goals as goal

-- A step that has nothing to note.
pub returns-then-has_nothing_to_note-clause-noted : goal.returns-then-has_nothing_to_note-clause-noted
returns-then-has_nothing_to_note-clause-noted c =
    let t = taken_by c.args.machine.now c.args.seen c.args.ledger.now c.args.sight.now c.requires c.if-sight.false in
    let m = c.args.machine.now in
    let n = m.taken - 1 in
    let next : suc n ≡ m.taken = (let some = t.0 in omega (arith, some)) in
    let nothing = c.has_nothing_to_note.ensures c.if-has_nothing_to_note.true in
    subst (λ i. IsLedger m.program m.input i (record c.args.ledger.now { steps = c.args.ledger.now.steps + 1 })) next
    (still_noted m.program m.input n t.1.going c.args.ledger.now t.1.noted (ap is_still (sym t.1.seen) ∙ nothing.0)
    (λ k. subst (λ ms. AddUnlessEnded (event m.program m.input (run m.program m.input n)) c.args.ledger.now.marks.keys ms (marks_ahead m.program m.input (run m.program m.input n))) nothing.1 (t.1.sees.marks k)))

pub note_calls-requires : goal.note_calls-requires
note_calls-requires c =
    let t = taken_by c.args.machine.now c.args.seen c.args.ledger.now c.args.sight.now c.requires c.if-sight.false in
    let m = c.args.machine.now in
    subst (λ i. Stood m.program m.input i c.args.ledger.now.calls) (let some = t.0 in let next : suc (m.taken - 1) ≡ m.taken = omega (arith, some) in next)
    (stood_next m.program m.input (m.taken - 1) c.args.ledger.now.calls t.1.noted.calls)

pub note_check-requires-clause-region : goal.note_check-requires-clause-region
note_check-requires-clause-region c =
    let m = c.args.machine.now in
    c.region_of-region.ensures.size ∙ same_size m.program m.input m.taken c.input-input.ensures.valid ∙ ap (λ k. 64 * k) (sym (ap length c.region_of-region.ensures.lines ∙ length-map _ _))

pub note_check-requires-clause-order : goal.note_check-requires-clause-order
note_check-requires-clause-order c =
    let t = taken_by c.args.machine.now c.args.seen c.args.ledger.now c.args.sight.now c.requires c.if-sight.false in
    let m = c.args.machine.now in
    let n = m.taken - 1 in
    let l = looked_before m t.1.seen (let some = t.0 in omega (arith, some)) c.args.ledger.now c.note_calls.new.ledger t.1.noted c.in_ok-note_calls.ensures in
    let few : n < 2 ^ 127 = few_at m.program m.input n c.note_calls.new.ledger l.noted (c.runs_are_bounded.ensures.bounded m.program m.input n) c.input-input.ensures.valid.limit t.1.short in
    in_order m.program m.input n c.note_calls.new.ledger.header c.note_calls.new.ledger.pending (omega (arith, few)) l.noted.pending

pub note_memory-requires : goal.note_memory-requires
note_memory-requires c =
    let t = taken_by c.args.machine.now c.args.seen c.args.ledger.now c.args.sight.now c.requires c.if-sight.false in
    let m = c.args.machine.now in
    let n = m.taken - 1 in
    let size = same_size m.program m.input n c.input-input.ensures.valid in
    let small : length m.input.image < 2 ^ 64 = (let a = c.input-input.ensures.valid.image in let b = c.program-program.ensures.sound.sizes.region in let k = ap region_size c.checked-checked.ensures in omega (arith, a, b, k)) in
    let lies : Lies m.input c.args.seen = subst (λ (e : Event). Lies m.input e) (sym t.1.seen) (event_lies m.program m.input (run m.program m.input n)) in
    record { ends = subst (λ b. EndsBelow b c.args.seen) (sym c.region_of-region.ensures.base) (ends_below m.input _ c.args.seen lies size small) }

pub forget-requires-clause-noted : goal.forget-requires-clause-noted
forget-requires-clause-noted c =
    let t = taken_by c.args.machine.now c.args.seen c.args.ledger.now c.args.sight.now c.requires c.if-sight.false in
    let m = c.args.machine.now in
    let n = m.taken - 1 in
    let P = m.program in
    let I = m.input in
    let s = run P I n in
    let next : suc n ≡ m.taken = (let some = t.0 in omega (arith, some)) in
    let l = looked_before m t.1.seen (let some = t.0 in omega (arith, some)) c.args.ledger.now c.note_calls.new.ledger t.1.noted c.in_ok-note_calls.ensures in
    let seen : Ledger = c.note_calls.new.ledger in
    let moment : c.args.ledger.now.steps ≡ seen.steps = sym (ap (λ (x : Ledger). x.steps) c.in_ok-note_calls.ensures.rest) in
    let region : c.region_of-region.result.size ≡ length I.image = c.region_of-region.ensures.size in
    let base : c.region_of-region.result.base ≡ I.base = c.region_of-region.ensures.base in
    let marks2 : c.note_memory.new.self.marks ≡ c.args.ledger.now.marks =
    ap (λ (x : Ledger). x.marks) c.in_ok-note_memory.ensures.rest ∙ ap (λ (x : Ledger). x.marks) c.in_ok-note_check.ensures.rest ∙ ap (λ (x : Ledger). x.marks) c.in_ok-note_calls.ensures.rest in
    let sought2 : c.note_memory.new.self.sought ≡ c.args.ledger.now.sought =
    ap (λ (x : Ledger). x.sought) c.in_ok-note_memory.ensures.rest ∙ ap (λ (x : Ledger). x.sought) c.in_ok-note_check.ensures.rest ∙ ap (λ (x : Ledger). x.sought) c.in_ok-note_calls.ensures.rest in
    let did : Did P I seen c.note_check.new.self c.note_memory.new.self c.note_marks.new.self c.note_hit.new.ledger c.count.new.self c.region_of-region.result.lines.now.lines c.region_of-region.result.base c.region_of-region.result.size c.args.seen c.args.sight.now.site (marks_ahead P I s) = record {
      stated = c.in_ok-note_check.ensures.stated;
      r1 = c.in_ok-note_check.ensures.rest;
      follows = c.in_ok-note_memory.ensures.follows;
      r2 = c.in_ok-note_memory.ensures.rest;
      marks = λ k. c.in_ok-note_marks.ensures.marks k ∙ ap (λ (ms : List Mark). met same_mark c.note_memory.new.self.marks.keys (unless_ended c.args.seen ms)) c.as_slice.ensures
          ∙ subst (λ (e : Event). AddUnlessEnded e c.note_memory.new.self.marks.keys c.args.sight.now.pointed.marks (marks_ahead P I s)) (sym t.1.seen)
          (subst (λ x. AddUnlessEnded (event P I s) x.keys c.args.sight.now.pointed.marks (marks_ahead P I s)) (sym marks2) (t.1.sees.marks (sym sought2 ∙ k)));
      known = c.in_ok-note_marks.ensures.known;
      r3 = c.in_ok-note_marks.ensures.rest;
      hits = c.in_ok-note_hit.ensures.hit;
      flags = c.in_ok-note_hit.ensures.known;
      r4 = c.in_ok-note_hit.ensures.rest;
      r5 = c.count.ensures;
    } in
    let at = did_at P I seen c.note_check.new.self c.note_memory.new.self c.note_marks.new.self c.note_hit.new.ledger c.count.new.self c.region_of-region.result.base c.region_of-region.result.size
    c.region_of-region.result.lines.now.lines (shown (run P I (suc n)).lines) (c.region_of-region.ensures.lines ∙ ap (λ i. shown (run P I i).lines) (sym next))
    c.args.seen (event P I s) t.1.seen c.args.sight.now.site (next_site P s) t.1.sees.site (marks_ahead P I s) did in
    let noted : IsLedger P I (suc n) c.count.new.self =
    assembled P I n t.1.going seen c.note_check.new.self c.note_memory.new.self c.note_marks.new.self c.note_hit.new.ledger c.count.new.self l.noted l.calls c.region_of-region.result.base c.region_of-region.result.size base region at in
    subst (λ i. IsLedger P I i c.count.new.self) next noted

pub note_marks-requires : goal.note_marks-requires
note_marks-requires c =
    let t = taken_by c.args.machine.now c.args.seen c.args.ledger.now c.args.sight.now c.requires c.if-sight.false in
    let h = t.1.noted in
    let r0 = c.in_ok-note_calls.ensures.rest in
    let r1 = c.in_ok-note_check.ensures.rest in
    let r2 = c.in_ok-note_memory.ensures.rest in
    subst (λ x. AreMet x.keys c.note_memory.new.self.recent.items) (sym (ap (λ (x : Ledger). x.marks) r2 ∙ ap (λ (x : Ledger). x.marks) r1 ∙ ap (λ (x : Ledger). x.marks) r0))
    (subst (λ x. AreMet c.args.ledger.now.marks.keys x.items) (sym (ap (λ (x : Ledger). x.recent) r2 ∙ ap (λ (x : Ledger). x.recent) r1 ∙ ap (λ (x : Ledger). x.recent) r0)) h.recent)

pub note_hit-requires-clause-last : goal.note_hit-requires-clause-last
note_hit-requires-clause-last c = let t = taken_by c.args.machine.now c.args.seen c.args.ledger.now c.args.sight.now c.requires c.if-sight.false in t.1.sees.last

pub note_hit-requires-clause-known : goal.note_hit-requires-clause-known
note_hit-requires-clause-known c =
    let t = taken_by c.args.machine.now c.args.seen c.args.ledger.now c.args.sight.now c.requires c.if-sight.false in
    let h = t.1.noted in
    let r0 = c.in_ok-note_calls.ensures.rest in
    let r1 = c.in_ok-note_check.ensures.rest in
    let r2 = c.in_ok-note_memory.ensures.rest in
    let r3 = c.in_ok-note_marks.ensures.rest in
    subst (λ x. WereHit x.keys c.note_marks.new.self.flags.items) (sym (ap (λ (x : Ledger). x.hit) r3 ∙ ap (λ (x : Ledger). x.hit) r2 ∙ ap (λ (x : Ledger). x.hit) r1 ∙ ap (λ (x : Ledger). x.hit) r0))
    (subst (λ x. WereHit c.args.ledger.now.hit.keys x.items) (sym (ap (λ (x : Ledger). x.flags) r3 ∙ ap (λ (x : Ledger). x.flags) r2 ∙ ap (λ (x : Ledger). x.flags) r1 ∙ ap (λ (x : Ledger). x.flags) r0)) h.flags)

pub forget-requires-clause-short : goal.forget-requires-clause-short
forget-requires-clause-short c = let t = taken_by c.args.machine.now c.args.seen c.args.ledger.now c.args.sight.now c.requires c.if-sight.false in t.1.short

pub returns-then-sight-clause-noted : goal.returns-then-sight-clause-noted
returns-then-sight-clause-noted c = stays_noted c.args.machine.now c.args.seen c.args.ledger.now c.args.sight.now c.requires c.if-sight.true

pub count-requires-clause-steps : goal.count-requires-clause-steps
count-requires-clause-steps c =
    let t = taken_by c.args.machine.now c.args.seen c.args.ledger.now c.args.sight.now c.requires c.if-sight.false in
    let m = c.args.machine.now in
    let n = m.taken - 1 in
    let h = t.1.noted in
    let few : n < 2 ^ 127 = few_at m.program m.input n c.args.ledger.now h (c.runs_are_bounded.ensures.bounded m.program m.input n) c.input-input.ensures.valid.limit t.1.short in
    let steps = h.steps in
    let same = ap (λ (x : Ledger). x.steps) c.in_ok-note_hit.ensures.rest ∙ ap (λ (x : Ledger). x.steps) c.in_ok-note_marks.ensures.rest
    ∙ ap (λ (x : Ledger). x.steps) c.in_ok-note_memory.ensures.rest ∙ ap (λ (x : Ledger). x.steps) c.in_ok-note_check.ensures.rest ∙ ap (λ (x : Ledger). x.steps) c.in_ok-note_calls.ensures.rest in
    omega (arith, few, steps, same)

pub count-requires-clause-entries : goal.count-requires-clause-entries
count-requires-clause-entries c =
    let t = taken_by c.args.machine.now c.args.seen c.args.ledger.now c.args.sight.now c.requires c.if-sight.false in
    let m = c.args.machine.now in
    let n = m.taken - 1 in
    let h = t.1.noted in
    let few : n < 2 ^ 127 = few_at m.program m.input n c.args.ledger.now h (c.runs_are_bounded.ensures.bounded m.program m.input n) c.input-input.ensures.valid.limit t.1.short in
    let entries = h.few in
    let header = h.header in
    let same = ap (λ (x : Ledger). x.entries) c.in_ok-note_hit.ensures.rest ∙ ap (λ (x : Ledger). x.entries) c.in_ok-note_marks.ensures.rest
    ∙ ap (λ (x : Ledger). x.entries) c.in_ok-note_memory.ensures.rest ∙ ap (λ (x : Ledger). x.entries) c.in_ok-note_check.ensures.rest ∙ ap (λ (x : Ledger). x.entries) c.in_ok-note_calls.ensures.rest in
    omega (arith, few, entries, header, same)
