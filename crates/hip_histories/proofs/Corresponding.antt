-- A repaired program does no harm in the place of the program, and neither does a program repaired twice.
use Rattle.std.proofs.Common.{◌≡◌, ◌⊎◌, inl, inr, ℕ, zero, suc, ◌+◌, ◌-◌, ◌≤◌, ◌<◌, ◌*◌, Bool, true, false, cond, nat_lt, List, [], ◌∷◌, map, length, Option, Some, None, slice_get, refl, sym, ap, ap₂, ◌∙◌, subst, arith, lt-ltb, length-append}
use Rattle.std.proofs.lemmas.Bool.{cases_lt}
use Rattle.std.proofs.lemmas.Bool.Decides.{nat_tests}
use Rattle.std.proofs.lemmas.Option.{slice_get_within}
use Rattle.std.specs.Int.{next_multiple_of}
use Rattle.hip_tree.specs.declared.program.Function.{Function}
use Rattle.hip_tree.specs.declared.program.Program.{Program}
use Rattle.hip_tree.specs.declared.site.Site.{Site}
use Rattle.hip_calls.specs.Fresh.{fresh_names}
use Rattle.hip_globals.specs.Addresses.{end_of}
use Rattle.hip_types.specs.declared.areas.TheConstants.{LINE_SIZE}
use Rattle.hip_sound.specs.Laws.SoundExact.{sound-passes}
use Rattle.hip_sound.specs.Sound.{IsSound}
use Rattle.hip_lines.specs.Line.{Line}
use Rattle.hip_runs.specs.Found.Reports.{Range, check_reports}
use Rattle.hip_runs.specs.State.{Frame, Level, State, StorePart}
use Rattle.hip_runs.specs.StoredParts.Parts.{In}
use Rattle.hip_runs.specs.declared.report.Report.{Report}
use Rattle.hip_runs.specs.Step.{run}
use Rattle.hip_runs.specs.Validity.{IsValid}
use Rattle.hip_runs.specs.declared.input.Input.{Input}
use Rattle.hip_repairs.specs.Harmless.{Extent, IsHarmless, matched}
use Rattle.hip_repairs.specs.Repaired.{Marked, clone_functions, cloned, clones_of, repaired, repaired_functions, wanted_by}
use Rattle.hip_repairs.specs.declared.plan.Plan.{Plan}
use Rattle.hip_repairs.proofs.Theorems.{repairs_do_no_harm}
use Rattle.hip_repairs.proofs.functions.Functions.{length-repaired_functions}
use Rattle.hip_repairs.proofs.functions.Lookup.{sound_callable}
use Rattle.hip_repairs.proofs.functions.Origins.{Origin, origin}
use Rattle.hip_repairs.proofs.functions.Twins.{Twin}
use Rattle.hip_repairs.proofs.simulation.Pairs.{Tied, tied, Below, bottom, on, Related, related}
use Rattle.hip_repairs.proofs.simulation.Sim.{follows}
use Rattle.hip_survival.specs.Kept.{HasReportOf}
use Rattle.hip_survival.specs.Laws.ChecksKept.{worsens_no_check}
use Rattle.hip_repairs.proofs.simulation.Harm.{nothing_held, nothing_kept}
use Rattle.hip_survival.specs.Laws.LoosensNothing.{loosens_nothing, matched_first, matched_onward}
use Rattle.hip_survival.specs.Laws.SameStores.{same_line}
use Rattle.hip_survival.specs.Laws.Entries.{one_step}
use Rattle.hip_survival.specs.Laws.ReportedBytes.{report_step}
use Rattle.hip_survival.specs.Survival.{IsOfStep}
use Rattle.hip_histories.specs.NoHarm.{Activation, activation, GoesAlong, DoesNoHarm}

-- ---- what goes up by 1 at most, from 0 on, comes by each number

reached : (f : ℕ → ℕ) → f 0 ≡ 0 → ((n : ℕ) → (f (suc n) ≡ f n) ⊎ (f (suc n) ≡ suc (f n)))
    → (m k : ℕ) → k ≤ f m → (n : ℕ) × (f n ≡ k)
reached f first onward zero k le = (0, omega arith)
reached f first onward (suc m) k le =
    by (onward m) (cases_lt (f m) k) (λ low. reached f first onward m k low)
  where
    by : (f (suc m) ≡ f m) ⊎ (f (suc m) ≡ suc (f m)) → (f m < k) ⊎ (k ≤ f m)
        → (k ≤ f m → (n : ℕ) × (f n ≡ k)) → (n : ℕ) × (f n ≡ k)
    by o (inr low) rest = rest low
    by (inl same) (inl high) rest = absurd (omega arith)
    by (inr more) (inl high) rest = (suc m, omega arith)

-- ---- the frames of matching states have the same activations

-- The number of a function; 0 if there is none.
number_or : Option ℕ → ℕ
number_or None = 0
number_or (Some f) = f

-- The original of a function of the repaired program: the function itself, or the one that it is a clone of.
abbrev original_in : ℕ → List ℕ → ℕ → ℕ
original_in functions copied f =
    cond (nat_lt f functions) f (number_or (slice_get copied (f - functions)))

low_original : (functions : ℕ) (copied : List ℕ) (f : ℕ) → f < functions → original_in functions copied f ≡ f
low_original functions copied f h =
    ap (λ b. cond b f (number_or (slice_get copied (f - functions)))) (let e : nat_lt f functions ≡ true = lt-ltb f functions h in e)

high_original : (functions : ℕ) (copied : List ℕ) (f k g : ℕ) → f ≡ functions + k → slice_get copied k ≡ Some g
    → original_in functions copied f ≡ g
unfolding number_or
high_original functions copied f k g e h =
    ap (λ b. cond b f (number_or (slice_get copied (f - functions))))
    (let t : nat_lt f functions ≡ false = ge_ltb f functions (omega (arith, e)) in t)
    ∙ ap (λ j. number_or (slice_get copied j)) (let t : f - functions ≡ k = omega (arith, e) in t)
    ∙ ap number_or h
  where
    ge_ltb : (a b : ℕ) → b ≤ a → nat_lt a b ≡ false
    ge_ltb a b h = grind (arith, nat_tests)

get_there : {A : Type 0} (xs : List A) (k : ℕ) → k < length xs → (x : A) × (slice_get xs k ≡ Some x)
get_there [] k h = absurd (omega arith)
get_there (x ∷ xs) zero h = (x, refl)
get_there (x ∷ xs) (suc k) h = get_there xs k (omega arith)

module _ (P : Program) (plan : Plan) (skip : Site → Bool) where
  abbrev original : ℕ → ℕ
  original = original_in (length P.functions) (cloned P plan)

  twin_original : (clone : Bool) (f f' : ℕ) → Twin P plan skip clone f f' → original f' ≡ f
  twin_original false f f' t =
      low_original (length P.functions) (cloned P plan) f' (t.plain refl).1 ∙ (t.plain refl).0
  twin_original true f f' t =
      let h = t.high refl in
      high_original (length P.functions) (cloned P plan) f' h.0 f h.1 h.2

  same_activation : {clone : Bool} {pend : List Marked} {f f' : Frame} → Tied P plan skip clone pend f f'
      → activation original f' ≡ activation (λ n. n) f
  same_activation (tied {clone = clone} {f = f} {f' = f'} {b = b} {m = m} {regs = regs} {slots = slots} {slots' = slots'} rest tw e e' same) =
      ap₂ (λ (n : ℕ) (xs : List Extent). record { function = n; block = b; registers = regs; mark = m; slots = xs })
      (twin_original clone f f' tw) same

  same_below : {clone : Bool} {lvl lvl' : Option Level} {fs fs' : List Frame} → Below P plan skip clone lvl lvl' fs fs'
      → map (activation original) fs' ≡ map (activation (λ n. n)) fs
  same_below bottom = refl
  same_below (on t q u h b) =
      ap₂ (λ (x : Activation) (xs : List Activation). x ∷ xs) (same_activation t) (same_below b)

  same_frames : (I : Input) (n : ℕ) (s s' : State) → Related P plan skip I nothing_held n s s'
      → map (activation original) s'.frames ≡ map (activation (λ n. n)) s.frames
  same_frames I n s s' (related t r b a kept le) =
      ap₂ (λ (x : Activation) (xs : List Activation). x ∷ xs) (same_activation t) (same_below b)

  -- Each function of the repaired program has an original in the program.
  from_origin : (f : ℕ) (fn : Function) → Origin P plan skip f fn → original f < length P.functions
  from_origin f fn o = by o.clone refl
    where
      below : o.f < length P.functions
      below = slice_get_within P.functions o.f o.fn o.at

      by : (c : Bool) → o.clone ≡ c → original f < length P.functions
      by false h =
          let p = o.plain h in
          subst (λ n. n < length P.functions)
          (sym (low_original (length P.functions) (cloned P plan) f
          (subst (λ n. n < length P.functions) (sym p.0) below) ∙ p.0)) below
      by true h =
          let p = o.high h in
          subst (λ n. n < length P.functions)
          (sym (high_original (length P.functions) (cloned P plan) f p.0 o.f p.1 p.2)) below

  original_there : (f : ℕ) → f < length (repaired P plan skip).functions → original f < length P.functions
  original_there f h =
      let r = get_there (repaired P plan skip).functions f h in
      from_origin f r.0 (origin P plan skip f r.0 r.1)

  more_functions : length P.functions ≤ length (repaired P plan skip).functions
  more_functions =
      let front = length-repaired_functions (clones_of P plan) (wanted_by plan skip) 0 P.functions in
      let whole = length-append (repaired_functions (clones_of P plan) (wanted_by plan skip) 0 P.functions)
      (clone_functions P (clones_of P plan) (wanted_by plan skip) (cloned P plan) (fresh_names P (cloned P plan))) in
      omega arith

-- ---- a repair

pub repair_does_no_harm : (P : Program) (plan : Plan) (skip : Site → Bool) → IsSound P
    → DoesNoHarm P (repaired P plan skip)
repair_does_no_harm P plan skip sound =
    let harmless : IsHarmless P plan skip = repairs_do_no_harm P plan skip sound in
    record {
      globals = refl;
      functions = more_functions P plan skip;
      original = original P plan skip;
      same = low_original (length P.functions) (cloned P plan);
      further = original_there P plan skip;
      runs = λ I v. record {
        steps_of = matched P plan skip I;
        first = matched_first P plan skip I;
        onward = matched_onward P plan skip I;
        matches = λ n. let m = harmless.matches I v n in record {
          world = m.world;
          lines = m.lines;
          frames = let f = follows P plan skip I (sound_callable P (sound-passes P sound)) v nothing_held
              (nothing_kept P plan skip I) n in
              same_frames P plan skip I f.size (run P I (matched P plan skip I n)) (run (repaired P plan skip) I n) f.pair;
          images = m.images;
        };
        durable = λ n. (loosens_nothing P plan skip sound).durable I v n;
        loose = λ n b h. (loosens_nothing P plan skip sound).loose I v n b h;
        checks = λ n range e. worsens_no_check P plan skip sound I v n range e;
        progress = λ k. reached (matched P plan skip I) (matched_first P plan skip I) (matched_onward P plan skip I)
            (3 * k) k (harmless.progress I v k);
      };
    }

-- ---- one after another

pub valid_there : (P Q : Program) → DoesNoHarm P Q → (I : Input) → IsValid P I → IsValid Q I
valid_there P Q d I v = record {
  base = v.base;
  image = v.image ∙ ap (λ gs. next_multiple_of (end_of true 0 gs) LINE_SIZE) (sym d.globals);
  numbers = v.numbers;
  limit = v.limit;
}

pub valid_back : (P Q : Program) → DoesNoHarm P Q → (I : Input) → IsValid Q I → IsValid P I
valid_back P Q d I v = record {
  base = v.base;
  image = v.image ∙ ap (λ gs. next_multiple_of (end_of true 0 gs) LINE_SIZE) d.globals;
  numbers = v.numbers;
  limit = v.limit;
}

-- The activation with the original of its function in the function's place.
relabelled : (ℕ → ℕ) → Activation → Activation
relabelled original a =
    record {
      function = original a.function;
      block = a.block;
      registers = a.registers;
      mark = a.mark;
      slots = a.slots;
    }

originals : (o p : ℕ → ℕ) (fs : List Frame)
    → map (activation (λ f. o (p f))) fs ≡ map (relabelled o) (map (activation p) fs)
unfolding relabelled
originals o p [] = refl
originals o p (f ∷ fs) = ap (λ xs. activation (λ f. o (p f)) f ∷ xs) (originals o p fs)

-- For each report of the third program, the first program has a report of the same store.
report_both : (P Q R : Program) (I : Input) (f g : ℕ → ℕ) (n : ℕ) (range : Range) (r : Report)
    → HasReportOf Q R I g n range r
    → ((r' : Report) → In r' (check_reports (run Q I (g n)) (Some range)) → HasReportOf P Q I f (g n) range r')
    → HasReportOf P R I (λ k. f (g k)) n range r
report_both P Q R I f g n range r h further =
    let x = further h.report h.there in
    let same : x.step ≡ g h.step = one_step Q I x.step (g h.step) h.report x.store' h.store in
    record {
      report = x.report;
      there = x.there;
      step = h.step;
      store' = h.store';
      store = subst (λ t. IsOfStep P I (f t) x.report) same x.store;
    }

along_both : (o p : ℕ → ℕ) (P Q R : Program) (I : Input) → GoesAlong o P Q I → GoesAlong p Q R I
    → GoesAlong (λ f. o (p f)) P R I
along_both o p P Q R I a b = record {
  steps_of = λ n. a.steps_of (b.steps_of n);
  first = ap a.steps_of b.first ∙ a.first;
  onward = λ n. by n (b.onward n);
  matches = λ n. let x = a.matches (b.steps_of n) in let y = b.matches n in record {
    world = y.world ∙ x.world;
    lines = y.lines ∙ x.lines;
    frames = originals o p (run R I n).frames
        ∙ (ap (map (relabelled o)) y.frames
        ∙ (sym (originals o (λ f. f) (run Q I (b.steps_of n)).frames) ∙ x.frames));
    images = λ content i. x.images content (y.images content i);
  };
  durable = λ n j l l' e e'.
      let m = same_line (run R I n).lines (run Q I (b.steps_of n)).lines (b.matches n).lines j l' e' in
      let x = a.durable (b.steps_of n) j l m.0 e m.1 in
      let y = b.durable n j m.0 l' m.1 e' in
      (omega (arith, x.0, y.0), omega (arith, x.1, y.1));
  loose = λ n x h. a.loose (b.steps_of n) x (b.loose n x h);
  checks = λ n range e.
      let y = b.checks n range e in
      let x = a.checks (b.steps_of n) range y.there in
      record {
        there = x.there;
        reports = λ r i. report_both P Q R I a.steps_of b.steps_of n range r (y.reports r i) x.reports;
        quiet = λ none. y.quiet (x.quiet none);
      };
  progress = λ k. let p = a.progress k in let q = b.progress p.0 in (q.0, ap a.steps_of q.1 ∙ p.1);
}
  where
    by : (n : ℕ) → (b.steps_of (suc n) ≡ b.steps_of n) ⊎ (b.steps_of (suc n) ≡ suc (b.steps_of n))
        → (a.steps_of (b.steps_of (suc n)) ≡ a.steps_of (b.steps_of n))
        ⊎ (a.steps_of (b.steps_of (suc n)) ≡ suc (a.steps_of (b.steps_of n)))
    by n (inl e) = inl (ap a.steps_of e)
    by n (inr e) = more (a.onward (b.steps_of n))
      where
        more : (a.steps_of (suc (b.steps_of n)) ≡ a.steps_of (b.steps_of n))
            ⊎ (a.steps_of (suc (b.steps_of n)) ≡ suc (a.steps_of (b.steps_of n)))
            → (a.steps_of (b.steps_of (suc n)) ≡ a.steps_of (b.steps_of n))
            ⊎ (a.steps_of (b.steps_of (suc n)) ≡ suc (a.steps_of (b.steps_of n)))
        more (inl q) = inl (ap a.steps_of e ∙ q)
        more (inr q) = inr (ap a.steps_of e ∙ q)

pub no_harm_both : (P Q R : Program) → DoesNoHarm P Q → DoesNoHarm Q R → DoesNoHarm P R
no_harm_both P Q R d e = record {
  globals = e.globals ∙ d.globals;
  functions = omega (arith, d.functions, e.functions);
  original = λ f. d.original (e.original f);
  same = λ f h. ap d.original (e.same f (omega (arith, d.functions))) ∙ d.same f h;
  further = λ f h. d.further (e.original f) (e.further f h);
  runs = λ I v. along_both d.original e.original P Q R I (d.runs I v) (e.runs I (valid_there P Q d I v));
}

pub no_harm_alone : (P : Program) → DoesNoHarm P P
no_harm_alone P = record {
  globals = refl;
  functions = omega arith;
  original = λ f. f;
  same = λ f h. refl;
  further = λ f h. h;
  runs = λ I v. record {
    steps_of = λ n. n;
    first = refl;
    onward = λ n. inr refl;
    matches = λ n. record { world = refl; lines = refl; frames = refl; images = λ content i. i };
    durable = λ n j l l' e e'.
        let same : l ≡ l' = (let q : Some l ≡ Some l' = sym e ∙ e' in cc) in (
          subst (λ (x : Line StorePart). l.flushed ≤ x.flushed) same (omega arith),
          subst (λ (x : Line StorePart). l.durable ≤ x.durable) same (omega arith),
        );
    loose = λ n b h. h;
    checks = λ n range e. record {
      there = e;
      reports = λ r i. let s = report_step P I n range r i in
          record { report = r; there = i; step = s.0; store' = s.1; store = s.1 };
      quiet = λ none. none;
    };
    progress = λ k. (k, refl);
  };
}
