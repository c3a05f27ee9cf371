-- Whichever flushes are ordered, a repair adds no crash image and no crash history.
use Rattle.std.proofs.Common.{◌≡◌, ℕ, zero, suc, ◌+◌, ◌-◌, ◌≤◌, Bool, true, false, cond, ◌&&◌, nat_le, nat_lt, List, [], ◌∷◌, map, length, take, Option, Some, None, slice_get, slice_index, refl, sym, ap, ap₂, ◌∙◌, subst, arith}
use Rattle.std.proofs.lemmas.List.{length-map}
use Rattle.hip_tree.specs.declared.instr.Instr.{Instr}
use Rattle.hip_tree.specs.declared.instr.Instr.TheVariants.{Binary, Compare, Select, Cast, Alloca, Load, Store, Gep, Call}
use Rattle.hip_tree.specs.declared.program.Program.{Program}
use Rattle.hip_tree.specs.declared.site.Site.{Site}
use Rattle.hip_externs.specs.Externs.{call_of}
use Rattle.hip_externs.specs.declared.call.ExternCall.{ExternCall}
use Rattle.hip_histories.proofs.Corresponding.{repair_does_no_harm, valid_back}
use Rattle.hip_histories.specs.Histories.{Round, input_of}
use Rattle.hip_histories.specs.SameSteps.{HaveSameNext, IsSameNext, TakesSameSteps}
use Rattle.hip_lines.specs.Image.{byte_after}
use Rattle.hip_lines.specs.Line.{Line}
use Rattle.hip_repair_laws.specs.OrderedHistories.{AddsNothingOrdered, HasOrderedHistoryOf, IsOrderedHistory}
use Rattle.hip_repair_laws.specs.FlushOrders.{IsOrderedImage, IsOrderedLine, begins_ordered, flushes_line, is_ordered, ordered_parts, parts_in, stands_ordered}
use Rattle.hip_repairs.proofs.clean.Events.{checks}
use Rattle.hip_repairs.proofs.functions.Lookup.{extern_name, sound_callable}
use Rattle.hip_repairs.proofs.simulation.Ahead.{Ahead}
use Rattle.hip_repairs.proofs.simulation.Facts.{Lines}
use Rattle.hip_repairs.proofs.simulation.Harm.{nothing_held, nothing_kept}
use Rattle.hip_repairs.proofs.simulation.Pairs.{Related, related}
use Rattle.hip_repairs.proofs.simulation.Sim.{Follows, follows}
use Rattle.hip_repairs.specs.Harmless.{Content, IsHarmless, contents, matched, stands_inserted}
use Rattle.hip_repairs.specs.Laws.Callable.{IsCallable}
use Rattle.hip_repairs.specs.Repaired.{Clone, clone_name, clones_of, renamed, repaired}
use Rattle.hip_repairs.specs.declared.plan.Plan.{Plan}
use Rattle.hip_runs.specs.Crash.{byte_of, covers}
use Rattle.hip_runs.specs.Places.{code_at}
use Rattle.hip_runs.specs.State.{Frame, State, StorePart, World}
use Rattle.hip_runs.specs.Step.{event, event_on_ending, run}
use Rattle.hip_runs.specs.Validity.{IsValid}
use Rattle.hip_runs.specs.declared.event.Ending.{Ending}
use Rattle.hip_runs.specs.declared.event.Event.{Event}
use Rattle.hip_runs.specs.declared.event.Event.TheVariants as events
use Rattle.hip_runs.specs.declared.input.Input.{Input}
use Rattle.hip_sound.specs.Laws.SoundExact.{sound-passes}
use Rattle.hip_sound.specs.Sound.{IsSound}

-- ---- the bytes of a line

-- A byte after one more part, by the part's content.
abbrev after_content : Content → ℕ → ℕ → ℕ
after_content c b first =
    cond (nat_le c.offset b && nat_lt b (c.offset + length c.bytes)) (slice_index c.bytes (b - c.offset)) first

abbrev content_of : StorePart → Content
content_of p = record { offset = p.offset; bytes = p.bytes }

-- Parts with the same contents change a byte alike.
same_bytes : (q : ℕ) (ps qs : List StorePart) → map content_of ps ≡ map content_of qs → (b first : ℕ)
    → byte_after covers byte_of (take q ps) b first ≡ byte_after covers byte_of (take q qs) b first
same_bytes zero ps qs e b first = refl
same_bytes (suc q) [] [] e b first = refl
same_bytes (suc q) [] (y ∷ qs) e b first = absurd (let z : ⊥ = cc in z)
same_bytes (suc q) (x ∷ ps) [] e b first = absurd (let z : ⊥ = cc in z)
same_bytes (suc q) (x ∷ ps) (y ∷ qs) e b first =
    let here : content_of x ≡ content_of y = cc in
    let rest : map content_of ps ≡ map content_of qs = cc in
    ap (λ (c : Content). byte_after covers byte_of (take q ps) b (after_content c b first)) here
    ∙ same_bytes q ps qs rest b (after_content (content_of y) b first)

-- The line at the same place of a run that is ahead has the same contents, and as many durable parts or more.
record IsThere (ls' : Lines) (j : ℕ) (l : Line StorePart) : Type 0 where
  pub line : Line StorePart
  pub at : slice_get ls' j ≡ Some line
  pub same : contents line ≡ contents l
  pub durable : l.durable ≤ line.durable

there : (ls ls' : Lines) → Ahead ls ls' → (j : ℕ) (l : Line StorePart) → slice_get ls j ≡ Some l → IsThere ls' j l
there [] ls' a j l e = absurd (let z : ⊥ = cc in z)
there (x ∷ ls) [] a j l e = absurd a
there (x ∷ ls) (y ∷ ls') a zero l e =
    let same : x ≡ l = cc in
    subst (λ (z : Line StorePart). IsThere (y ∷ ls') 0 z) same
    (record { line = y; at = refl; same = a.0.parts; durable = a.0.durable })
there (x ∷ ls) (y ∷ ls') a (suc j) l e =
    let h = there ls ls' a.1 j l e in
    record { line = h.line; at = h.at; same = h.same; durable = h.durable }

parts_same : (ls ls' : Lines) → map contents ls' ≡ map contents ls → (j : ℕ)
    → parts_in (slice_get ls' j) ≡ parts_in (slice_get ls j)
parts_same [] [] e j = refl
parts_same [] (y ∷ ls') e j = absurd (let z : ⊥ = cc in z)
parts_same (x ∷ ls) [] e j = absurd (let z : ⊥ = cc in z)
parts_same (x ∷ ls) (y ∷ ls') e zero =
    let here : contents y ≡ contents x = cc in
    sym (length-map y.parts content_of) ∙ ap length here ∙ length-map x.parts content_of
parts_same (x ∷ ls) (y ∷ ls') e (suc j) = let rest : map contents ls' ≡ map contents ls = cc in parts_same ls ls' rest j

-- ---- the flushes of both runs

grows : (f o o' : Bool) (n : ℕ) → (o ≡ true → o' ≡ true) → cond (f && o) n 0 ≤ cond (f && o') n 0
grows false o o' n h = omega arith
grows true false o' n h = omega arith
grows true true o' n h = let all : cond o' n 0 ≡ n = ap (λ (b : Bool). cond b n 0) (h refl) in omega (arith, all)

none_after_end : (I : Input) (j : ℕ) (e : Event) (o : Bool) (n : ℕ) (ending : Ending) → e ≡ events.End ending
    → cond (flushes_line I j e && o) n 0 ≡ 0
none_after_end I j e o n ending is = ap (λ (x : Event). cond (flushes_line I j x && o) n 0) is

event_of_end : (P : Program) (I : Input) (s : State) (e : Ending) → s.world.ending ≡ Some e → event P I s ≡ events.End e
unfolding event
event_of_end P I s e is = ap (event_on_ending P I s) is

module _ (ordered : ExternCall → Bool) (P : Program) (plan : Plan) (skip : Site → Bool) (good : IsCallable P) where
  abbrev Q : Program
  Q = repaired P plan skip

  abbrev clones : List Clone
  clones = clones_of P plan

  same_callee : (callee : List ℕ) (e : ExternCall) → call_of callee ≡ Some e → (b : Bool)
      → cond b (clone_name clones callee) callee ≡ callee
  same_callee callee e is true = extern_name P plan skip good callee e is
  same_callee callee e is false = refl

  ordered_callee : (callee : List ℕ) (b : Bool) (o : Option ExternCall) → call_of callee ≡ o → is_ordered ordered o ≡ true
      → is_ordered ordered (call_of (cond b (clone_name clones callee) callee)) ≡ true
  ordered_callee callee b None is h = absurd (let z : ⊥ = cc in z)
  ordered_callee callee b (Some e) is h =
      ap (λ (name : List ℕ). is_ordered ordered (call_of name)) (same_callee callee e is b) ∙ ap (is_ordered ordered) is ∙ h

  ordered_instr : (i : Instr) (b : Bool) (is is' : List Instr) → begins_ordered ordered (i ∷ is) ≡ true
      → begins_ordered ordered (renamed clones i b ∷ is') ≡ true
  ordered_instr (Call dest ret callee args) b is is' h = ordered_callee callee b (call_of callee) refl h
  ordered_instr (Binary to op flags width x y) b is is' h = absurd (let z : ⊥ = cc in z)
  ordered_instr (Compare to pred ty x y) b is is' h = absurd (let z : ⊥ = cc in z)
  ordered_instr (Select to test ty x y) b is is' h = absurd (let z : ⊥ = cc in z)
  ordered_instr (Cast to op from x ty) b is is' h = absurd (let z : ⊥ = cc in z)
  ordered_instr (Alloca to ty align) b is is' h = absurd (let z : ⊥ = cc in z)
  ordered_instr (Load to ty addr align) b is is' h = absurd (let z : ⊥ = cc in z)
  ordered_instr (Store ty value addr align) b is is' h = absurd (let z : ⊥ = cc in z)
  ordered_instr (Gep to inbounds ty pointer indices) b is is' h = absurd (let z : ⊥ = cc in z)

  ordered_code : (is is' : List Instr) → IsSameNext clones is is' → begins_ordered ordered is ≡ true
      → begins_ordered ordered is' ≡ true
  ordered_code [] is' same h = absurd (let z : ⊥ = cc in z)
  ordered_code (i ∷ is) [] same h = absurd same
  ordered_code (i ∷ is) (i' ∷ is') same h =
      subst (λ (x : Instr). begins_ordered ordered (x ∷ is') ≡ true) (sym same.1) (ordered_instr i same.0 is is' h)

  ordered_frames : (o : Option Ending) (fs fs' : List Frame) → o ≡ None → HaveSameNext P Q clones o fs fs'
      → stands_ordered ordered P fs ≡ true → stands_ordered ordered Q fs' ≡ true
  ordered_frames (Some e) fs fs' is same h = absurd (let z : ⊥ = cc in z)
  ordered_frames None [] fs' is same h = absurd (let z : ⊥ = cc in z)
  ordered_frames None (f ∷ fs) [] is same h = absurd same
  ordered_frames None (f ∷ fs) (f' ∷ fs') is same h = ordered_code (code_at P f) (code_at Q f') same.0 h

  -- ---- the runs

  module _ (steps : TakesSameSteps P plan skip) (I : Input) (valid : IsValid P I) where
    pair : (n : ℕ) → Follows P plan skip I good valid nothing_held (nothing_kept P plan skip I) n
    pair n = follows P plan skip I good valid nothing_held (nothing_kept P plan skip I) n

    same_world : (size : ℕ) (s s' : State) → Related P plan skip I nothing_held size s s' → s'.world ≡ s.world
    same_world size s s' (related t r b a h le) = refl

    lines_ahead : (size : ℕ) (s s' : State) → Related P plan skip I nothing_held size s s' → Ahead s.lines s'.lines
    lines_ahead size s s' (related t r b a h le) = a

    worlds : (n : ℕ) → (run Q I n).world ≡ (run P I (matched P plan skip I n)).world
    worlds n = same_world (pair n).size _ _ (pair n).pair

    aheads : (n : ℕ) → Ahead (run P I (matched P plan skip I n)).lines (run Q I n).lines
    aheads n = lines_ahead (pair n).size _ _ (pair n).pair

    module _ (j : ℕ) where
      abbrev more : Program → ℕ → ℕ
      more R n =
          cond (flushes_line I j (event R I (run R I n)) && stands_ordered ordered R (run R I n).frames)
          (parts_in (slice_get (run R I n).lines j)) 0

      same_step : (n : ℕ) → map contents (run Q I n).lines ≡ map contents (run P I (matched P plan skip I n)).lines
          → stands_inserted P plan skip (run Q I n) ≡ false → more P (matched P plan skip I n) ≤ more Q n
      same_step n lines h = by (run Q I n).world.ending refl
        where
          by : (o : Option Ending) → (run Q I n).world.ending ≡ o → more P (matched P plan skip I n) ≤ more Q n
          by (Some e) is =
              let there_too : (run P I (matched P plan skip I n)).world.ending ≡ Some e =
              ap (λ (w : World). w.ending) (sym (worlds n)) ∙ is in
              let none = none_after_end I j (event P I (run P I (matched P plan skip I n)))
              (stands_ordered ordered P (run P I (matched P plan skip I n)).frames)
              (parts_in (slice_get (run P I (matched P plan skip I n)).lines j)) e
              (event_of_end P I (run P I (matched P plan skip I n)) e there_too) in
              omega (arith, none)
          by None is =
              let same : event Q I (run Q I n) ≡ event P I (run P I (matched P plan skip I n)) =
              (checks P plan skip I good nothing_held (pair n).size _ _ (pair n).pair is).same h in
              let parts = parts_same (run P I (matched P plan skip I n)).lines (run Q I n).lines lines j in
              let flag = ordered_frames (run Q I n).world.ending (run P I (matched P plan skip I n)).frames (run Q I n).frames
              is (steps.same I valid n h) in
              let here = grows (flushes_line I j (event P I (run P I (matched P plan skip I n))))
              (stands_ordered ordered P (run P I (matched P plan skip I n)).frames)
              (stands_ordered ordered Q (run Q I n).frames)
              (parts_in (slice_get (run P I (matched P plan skip I n)).lines j)) flag in
              let there_too : more Q n ≡ cond (flushes_line I j (event P I (run P I (matched P plan skip I n)))
              && stands_ordered ordered Q (run Q I n).frames)
              (parts_in (slice_get (run P I (matched P plan skip I n)).lines j)) 0 =
              ap₂ (λ (x : Event) (k : ℕ). cond (flushes_line I j x && stands_ordered ordered Q (run Q I n).frames) k 0)
              same parts in
              omega (arith, here, there_too)

      after_step : (n : ℕ) (b : Bool) → stands_inserted P plan skip (run Q I n) ≡ b
          → map contents (run Q I n).lines ≡ map contents (run P I (matched P plan skip I n)).lines
          → ordered_parts ordered P I (matched P plan skip I n) j ≤ ordered_parts ordered Q I n j
          → ordered_parts ordered P I (cond b (matched P plan skip I n) (suc (matched P plan skip I n))) j
          ≤ ordered_parts ordered Q I (suc n) j
      after_step n true h lines before = omega (arith, before)
      after_step n false h lines before = let here = same_step n lines h in omega (arith, before, here)

    module _ (lines : (n : ℕ) → map contents (run Q I n).lines ≡ map contents (run P I (matched P plan skip I n)).lines) where
      more_ordered : (n j : ℕ) → ordered_parts ordered P I (matched P plan skip I n) j ≤ ordered_parts ordered Q I n j
      unfolding matched
      more_ordered zero j = omega arith
      more_ordered (suc n) j =
          after_step j n (stands_inserted P plan skip (run Q I n)) refl (lines n) (more_ordered n j)

      line_there : (n : ℕ) (content : List ℕ) (j : ℕ) (l l' : Line StorePart) → contents l' ≡ contents l
          → l.durable ≤ l'.durable → IsOrderedLine ordered Q I n content j l'
          → IsOrderedLine ordered P I (matched P plan skip I n) content j l
      line_there n content j l l' same durable h =
          let long : length l'.parts ≡ length l.parts =
          sym (length-map l'.parts content_of) ∙ ap length same ∙ length-map l.parts content_of in
          let least = h.at.least in
          let most = h.at.most in
          let too = h.ordered_too in
          let before = more_ordered n j in
          record {
            first = h.first;
            at = record {
              least = omega (arith, durable, least);
              most = omega (arith, long, most);
              bytes = λ b from to. h.at.bytes b from to ∙ same_bytes h.first l'.parts l.parts same b (slice_index I.image b);
            };
            ordered_too = omega (arith, before, too);
          }

      images : (n : ℕ) (content : List ℕ) → IsOrderedImage ordered Q I n content
          → IsOrderedImage ordered P I (matched P plan skip I n) content
      images n content h = record {
        whole = h.whole;
        lines =
            λ j l e. let x = there (run P I (matched P plan skip I n)).lines (run Q I n).lines (aheads n) j l e in
            line_there n content j l x.line x.same x.durable (h.lines j x.line x.at);
      }

-- ---- crash histories

module _ (ordered : ExternCall → Bool) (P : Program) (plan : Plan) (skip : Site → Bool) (sound : IsSound P)
    (harmless : IsHarmless P plan skip) (steps : TakesSameSteps P plan skip)
  where
    all_images : (I : Input) → IsValid P I → (n : ℕ) (content : List ℕ) → IsOrderedImage ordered (repaired P plan skip) I n content
        → IsOrderedImage ordered P I (matched P plan skip I n) content
    all_images I valid n content h =
        images ordered P plan skip (sound_callable P (sound-passes P sound)) steps I valid
        (λ k. (harmless.matches I valid k).lines) n content h

    no_history : (bytes : List ℕ) (rounds' : List Round) → IsOrderedHistory ordered (repaired P plan skip) bytes rounds'
        → HasOrderedHistoryOf ordered P (repaired P plan skip) bytes rounds'
    no_history bytes [] h = record { rounds = []; history = tt; same = tt; printed = refl; ended = refl }
    no_history bytes (r' ∷ rs') h =
        let I : Input = input_of bytes r' in
        let valid : IsValid P I =
        valid_back P (repaired P plan skip) (repair_does_no_harm P plan skip sound) I h.0.valid in
        let worlds : (run (repaired P plan skip) I r'.steps).world ≡ (run P I (matched P plan skip I r'.steps)).world =
        (harmless.matches I valid r'.steps).world in
        let rest = no_history r'.image rs' h.1 in
        record {
          rounds = record {
            base = r'.base;
            numbers = r'.numbers;
            limit = r'.limit;
            steps = matched P plan skip I r'.steps;
            image = r'.image;
          } ∷ rest.rounds;
          history = (
            record { valid = valid; left = all_images I valid r'.steps r'.image h.0.left },
            rest.history,
          );
          same = (record { base = refl; numbers = refl; limit = refl; image = refl }, rest.same);
          printed = ap₂ (λ (x : List ℕ) (xs : List (List ℕ)). x ∷ xs) (ap (λ (w : World). w.output) (sym worlds))
              rest.printed;
          ended = ap₂ (λ (x : Option Ending) (xs : List (Option Ending)). x ∷ xs)
              (ap (λ (w : World). w.ending) (sym worlds)) rest.ended;
        }

pub adds_nothing_ordered : (ordered : ExternCall → Bool) (P : Program) (plan : Plan) (skip : Site → Bool) → IsSound P
    → IsHarmless P plan skip → TakesSameSteps P plan skip → AddsNothingOrdered ordered P plan skip
adds_nothing_ordered ordered P plan skip sound harmless steps = record {
  images = all_images ordered P plan skip sound harmless steps;
  histories = no_history ordered P plan skip sound harmless steps;
}
