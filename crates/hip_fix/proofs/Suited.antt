-- The test of plans decides which plans suit.
use Rattle.std.proofs.Common.{◌≡◌, ◌⊎◌, ℕ, Bool, true, false, cond, ◌&&◌, ◌||◌, List, [], ◌∷◌, Option, Some, None, is_some, is_none, refl, sym, ap, ◌∙◌, subst, inl, inr}
use Rattle.std.specs.Prelude.{option_and_then, slice_get}
use Rattle.std.specs.List.{list_all}
use Rattle.hip_externs.specs.Externs.{call_of}
use Rattle.hip_externs.specs.declared.call.ExternCall.{ExternCall}
use Rattle.hip_tree.specs.Laws.SiteLaws.{same_site_equal, site_same}
use Rattle.hip_tree.specs.Sites.{has_site, instr_of, same_site}
use Rattle.hip_tree.specs.declared.block.Block.{Block}
use Rattle.hip_tree.specs.declared.instr.Instr.{Instr}
use Rattle.hip_tree.specs.declared.instr.Instr.TheVariants.{Call}
use Rattle.hip_tree.specs.declared.program.Function.{Function}
use Rattle.hip_tree.specs.declared.program.Program.{Program}
use Rattle.hip_tree.specs.declared.site.Site.{Site}
use Rattle.hip_runs.specs.Laws.Members.{both_true}
use Rattle.hip_runs.specs.StoredParts.Parts.{In}
use Rattle.hip_runs.specs.Places.{blocks_in, body_at, body_of}
use Rattle.hip_runs.specs.Sites.{is_defined_call, is_flush_call, is_store}
use Rattle.hip_sound.specs.NumberedNames.{function_number}
use Rattle.hip_repairs.specs.declared.plan.Plan.{Plan}
use Rattle.hip_repairs.specs.Laws.SiteOrder.{has_in, in_has, strict_order}
use Rattle.hip_repairs.specs.Suits.{IsSuiting, site_before, is_ascending}
use Rattle.hip_fix.specs.SuitsTest.{ascend, begins_with, calls_defined, fences_pass, not_before, passes}
use Rattle.hip_repairs.specs.Laws.Callable.{IsCallable}

never : {A : Type 0} (b : Bool) → b ≡ true → b ≡ false → A
never true e f = absurd (let z : ⊥ = cc in z)
never false e f = absurd (let z : ⊥ = cc in z)

-- ---- ascending lists

tail_ascends : (x : Site) (xs : List Site) → is_ascending (x ∷ xs) ≡ true → is_ascending xs ≡ true
tail_ascends x [] e = refl
tail_ascends x (y ∷ ys) e = (both_true (site_before x y) _ e).1

-- The first site of an ascending list is before each other site of the list.
all_later : (x : Site) (xs : List Site) → is_ascending (x ∷ xs) ≡ true → (y : Site) → In y xs → site_before x y ≡ true
all_later x [] e y i = absurd i
all_later x (z ∷ zs) e y (inl same) = subst (λ (s : Site). site_before x s ≡ true) (sym same) (both_true (site_before x z) _ e).0
all_later x (z ∷ zs) e y (inr i) = let both = both_true (site_before x z) _ e in strict_order.trans x z y both.0 (all_later z zs both.1 y i)

-- A site that is before all sites of a list is not in the list.
none_of : (xs : List Site) (s : Site) → ((y : Site) → In y xs → site_before s y ≡ true) → has_site xs s ≡ false
none_of xs s before = by_test (has_site xs s) refl
  where
    by_test : (b : Bool) → has_site xs s ≡ b → has_site xs s ≡ false
    by_test true e = never (site_before s s) (before s (has_in xs s e)) (strict_order.apart s)
    by_test false e = e

other : (s x : Site) → site_before x s ≡ true → same_site s x ≡ false
other s x before = by_test (same_site s x) refl
  where
    by_test : (b : Bool) → same_site s x ≡ b → same_site s x ≡ false
    by_test true e = never (site_before s s) (subst (λ (y : Site). site_before y s ≡ true) (sym (same_site_equal s x e)) before) (strict_order.apart s)
    by_test false e = e

-- The rest of an ascending list, without the sites before a site, begins with that site exactly if the list has it.
begins : (xs : List Site) (s : Site) → is_ascending xs ≡ true → begins_with (not_before s xs) s ≡ has_site xs s
begins [] s e = refl
begins (x ∷ xs) s e = by_test (site_before x s) refl (begins xs s (tail_ascends x xs e))
  where
    first : site_before x s ≡ false → (site_before s x ≡ true) ⊎ ((s ≡ x) ⊎ (site_before x s ≡ true)) → same_site s x ≡ (same_site s x || has_site xs s)
    first t (inl before) = absorbed (same_site s x) (has_site xs s) (none_of xs s (λ y i. strict_order.trans s x y before (all_later x xs e y i)))
      where
        absorbed : (a b : Bool) → b ≡ false → a ≡ (a || b)
        absorbed true b f = refl
        absorbed false b f = sym f
    first t (inr (inl same)) = met (same_site s x) (subst (λ (y : Site). same_site s y ≡ true) same (site_same s))
      where
        met : (a : Bool) → a ≡ true → a ≡ (a || has_site xs s)
        met true f = refl
        met false f = absurd (let z : ⊥ = cc in z)
    first t (inr (inr before)) = never (site_before x s) before t

    by_test : (b : Bool) → site_before x s ≡ b → begins_with (not_before s xs) s ≡ has_site xs s → begins_with (cond b (not_before s xs) (x ∷ xs)) s ≡ (same_site s x || has_site xs s)
    by_test true t rest = rest ∙ ap (λ a. a || has_site xs s) (sym (other s x t))
    by_test false t rest = first t (strict_order.total s x)

left_ascends : (xs : List Site) (s : Site) → is_ascending xs ≡ true → is_ascending (not_before s xs) ≡ true
left_ascends [] s e = refl
left_ascends (x ∷ xs) s e = by_test (site_before x s) (left_ascends xs s (tail_ascends x xs e))
  where
    by_test : (b : Bool) → is_ascending (not_before s xs) ≡ true → is_ascending (cond b (not_before s xs) (x ∷ xs)) ≡ true
    by_test true rest = rest
    by_test false rest = e

-- The rest of a list, without the sites before a site, still has all later sites.
left_has : (xs : List Site) (s t : Site) → site_before s t ≡ true → has_site (not_before s xs) t ≡ has_site xs t
left_has [] s t h = refl
left_has (x ∷ xs) s t h = by_test (site_before x s) refl (left_has xs s t h)
  where
    by_test : (b : Bool) → site_before x s ≡ b → has_site (not_before s xs) t ≡ has_site xs t → has_site (cond b (not_before s xs) (x ∷ xs)) t ≡ (same_site t x || has_site xs t)
    by_test true e rest = rest ∙ ap (λ a. a || has_site xs t) (sym (other t x (strict_order.trans x s t e h)))
    by_test false e rest = refl

-- ---- fences

fences_stated : (P : Program) (flushes rest ss : List Site) → is_ascending rest ≡ true → is_ascending ss ≡ true → ((t : Site) → In t ss → has_site rest t ≡ has_site flushes t) →
    fences_pass P rest ss ≡ list_all (λ s. is_flush_call (instr_of P s) || has_site flushes s) ss
fences_stated P flushes rest [] up e same = refl
fences_stated P flushes rest (s ∷ ss) up e same =
    ap (λ b. (is_flush_call (instr_of P s) || b) && fences_pass P (not_before s rest) ss) (begins rest s up ∙ same s (inl refl))
    ∙ ap (λ b. (is_flush_call (instr_of P s) || has_site flushes s) && b)
    (fences_stated P flushes (not_before s rest) ss (left_ascends rest s up) (tail_ascends s ss e) (λ t i. left_has rest s t (all_later s ss e t i) ∙ same t (inr i)))

-- ---- tests of all sites of a list

all_pass : (test : Site → Bool) (xs : List Site) → list_all test xs ≡ true → (s : Site) → has_site xs s ≡ true → test s ≡ true
all_pass test [] e s h = absurd (let z : ⊥ = cc in z)
all_pass test (x ∷ xs) e s h = let both = both_true (test x) _ e in in_list (has_in (x ∷ xs) s h) both.0 (λ i. all_pass test xs both.1 s (in_has xs s i))
  where
    in_list : In s (x ∷ xs) → test x ≡ true → (In s xs → test s ≡ true) → test s ≡ true
    in_list (inl same) first rest = ap test same ∙ first
    in_list (inr i) first rest = rest i

pass_all : (test : Site → Bool) (xs : List Site) → ((s : Site) → has_site xs s ≡ true → test s ≡ true) → list_all test xs ≡ true
pass_all test [] each = refl
pass_all test (x ∷ xs) each =
    ap (λ b. b && list_all test xs) (each x (in_has (x ∷ xs) x (inl refl))) ∙ pass_all test xs (λ s h. each s (in_has (x ∷ xs) s (inr (has_in xs s h))))

-- ---- calls

module _ (P : Program) (callable : IsCallable P) where
  body_there : (s : Site) (i : Instr) → instr_of P s ≡ Some i → slice_get (body_at P s.function s.block) s.index ≡ Some i
  body_there s i e = in_function (slice_get P.functions s.function) refl e
    where
      in_block : (o : Option Block) → option_and_then (λ (b : Block). slice_get b.body s.index) o ≡ Some i → slice_get (body_of o) s.index ≡ Some i
      in_block None g = absurd (let z : ⊥ = cc in z)
      in_block (Some b) g = g

      in_function : (o : Option Function) → slice_get P.functions s.function ≡ o →
          option_and_then (λ (b : Block). slice_get b.body s.index) (option_and_then (λ (f : Function). slice_get f.blocks s.block) o) ≡ Some i →
          slice_get (body_of (slice_get (blocks_in (slice_get P.functions s.function)) s.block)) s.index ≡ Some i
      in_function None h g = absurd (let z : ⊥ = cc in z)
      in_function (Some f) h g = ap (λ o. slice_get (body_of (slice_get (blocks_in o) s.block)) s.index) h ∙ in_block (slice_get f.blocks s.block) g

  -- In a sound program a call is of a defined function exactly if it is not of an external one.
  call_stated : (s : Site) (o : Option Instr) → instr_of P s ≡ o → calls_defined o ≡ is_defined_call P o
  call_stated s (Some (Call dest ret callee args)) e = by_callee (callable.calls s.function s.block s.index dest ret callee args (body_there s (Call dest ret callee args) e))
    where
      by_number : (o : Option ℕ) → function_number P callee ≡ o → (c : ExternCall) → call_of callee ≡ Some c → is_none (call_of callee) ≡ is_some o
      by_number None f c g = ap is_none g
      by_number (Some n) f c g = absurd (let none = callable.free callee n f in let z : ⊥ = cc in z)

      by_callee : ((c : ExternCall) × (call_of callee ≡ Some c)) ⊎ ((g : ℕ) × (function_number P callee ≡ Some g)) → is_none (call_of callee) ≡ is_some (function_number P callee)
      by_callee (inl (c, g)) = by_number (function_number P callee) refl c g
      by_callee (inr (n, f)) = ap is_none (callable.free callee n f) ∙ sym (ap is_some f)
  call_stated s _ e = refl

  calls_all : (xs : List Site) → list_all (λ s. calls_defined (instr_of P s)) xs ≡ list_all (λ s. is_defined_call P (instr_of P s)) xs
  calls_all [] = refl
  calls_all (x ∷ xs) = ap (λ b. b && list_all (λ s. calls_defined (instr_of P s)) xs) (call_stated x (instr_of P x) refl) ∙ ap (λ b. is_defined_call P (instr_of P x) && b) (calls_all xs)

  -- A plan that passes the whole test suits the program.
  pub passes_suits : (plan : Plan) → passes P plan ≡ true → IsSuiting P plan
  passes_suits plan e =
      let one = both_true (ascend plan && list_all (λ s. is_store (instr_of P s)) plan.flush_after && fences_pass P plan.flush_after plan.fence_after) _ e in
      let two = both_true (ascend plan && list_all (λ s. is_store (instr_of P s)) plan.flush_after) _ one.0 in
      let three = both_true (ascend plan) _ two.0 in
      let four = both_true (is_ascending plan.flush_after && is_ascending plan.fence_after) _ three.0 in
      let five = both_true (is_ascending plan.flush_after) _ four.0 in
      record {
        flushes = all_pass (λ s. is_store (instr_of P s)) plan.flush_after three.1;
        fences = all_pass (λ s. is_flush_call (instr_of P s) || has_site plan.flush_after s) plan.fence_after
            (sym (fences_stated P plan.flush_after plan.flush_after plan.fence_after five.0 five.1 (λ t i. refl)) ∙ two.1);
        hoists = all_pass (λ s. is_defined_call P (instr_of P s)) plan.hoist (sym (calls_all plan.hoist) ∙ one.1);
        flushes_ascend = five.0;
        fences_ascend = five.1;
        hoists_ascend = four.1;
      }

  all_true : (a b c d e f : Bool) → a ≡ true → b ≡ true → c ≡ true → d ≡ true → e ≡ true → f ≡ true → (((a && b && c) && d) && e) && f ≡ true
  all_true a b c d e f ta tb tc td te tf = rw (ta, tb, tc, td, te, tf) refl

  pub suits_passes : (plan : Plan) → IsSuiting P plan → passes P plan ≡ true
  suits_passes plan s =
      all_true _ _ _ _ _ _ s.flushes_ascend s.fences_ascend s.hoists_ascend (pass_all (λ s. is_store (instr_of P s)) plan.flush_after s.flushes)
      (fences_stated P plan.flush_after plan.flush_after plan.fence_after s.flushes_ascend s.fences_ascend (λ t i. refl)
      ∙ pass_all (λ s. is_flush_call (instr_of P s) || has_site plan.flush_after s) plan.fence_after s.fences)
      (calls_all plan.hoist ∙ pass_all (λ s. is_defined_call P (instr_of P s)) plan.hoist s.hoists)
