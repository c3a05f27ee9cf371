-- Each inserted call is declared.
use Rattle.std.proofs.Common.{◌≡◌, ℕ, zero, suc, ◌+◌, Bool, true, false, cond, not, ◌&&◌, List, [], ◌∷◌, ◌++◌, map, Some, slice_get, refl, sym, ap, ap₂, ◌∙◌, subst, arith}
use Rattle.std.specs.List.{list_any}
use Rattle.std.specs.Str.{bytes_eq}
use Rattle.std.specs.Cmp.Lexicographic.{nat_list_eq_equiv}
use Rattle.std.proofs.lemmas.List.{map-append}
use Rattle.std.proofs.lemmas.Option.{same_Some}
use Rattle.hip_types.specs.Laws.DistinctLaws.{or_first, or_second, any_front, any_back, any_at}
use Rattle.hip_tree.specs.declared.block.Block.{Block}
use Rattle.hip_tree.specs.declared.instr.Instr.{Instr}
use Rattle.hip_tree.specs.declared.instr.Instr.TheVariants.{Store}
use Rattle.hip_tree.specs.declared.program.Extern.{Extern}
use Rattle.hip_tree.specs.declared.program.Function.{Function}
use Rattle.hip_tree.specs.declared.program.Program.{Program}
use Rattle.hip_tree.specs.declared.site.Site.{Site}
use Rattle.hip_externs.specs.Externs.{known_signature}
use Rattle.hip_names.specs.Names.{is_among}
use Rattle.hip_sound.specs.Places.{first_of, function_of, callee_of}
use Rattle.hip_sound.specs.Rules.{PassesVerifier}
use Rattle.hip_repairs.specs.declared.plan.Plan.{Plan}
use Rattle.hip_repairs.specs.Repaired.{Marked, Clone, Wanted, wanted_by, clwb_name, sfence_name, pmem_flush_name, flush_of, the_fence, inserted_after, repaired_body, instrs_of, is_call_of, inserts, inserts_in, inserts_from, inserts_cloned, needs, clones_of, cloned, added_externs, repaired}
use Rattle.hip_repairs.proofs.soundness.Declarations.{clwb_extern, sfence_extern, pmem_flush_extern, extern_names}
use Rattle.hip_repairs.proofs.soundness.CalleesAgain.{extern_signature, extern_there}
use Rattle.hip_repairs.proofs.soundness.HeadsAgain.{externs_again}
use Rattle.hip_repairs.proofs.soundness.Items.{map_at}
use Rattle.hip_repairs.proofs.functions.Origins.{Origin}

-- ---- what is inserted, is marked

fence_marked : (c : Bool) (k : ℕ) (m : Marked) → slice_get (cond c ((the_fence, true) ∷ []) []) k ≡ Some m → m.1 ≡ true
fence_marked true zero m e = ap (λ x. x.1) (sym (same_Some _ _ e))
fence_marked true (suc k) m e = cc
fence_marked false k m e = cc

store_marked : (i : Instr) (b c : Bool) (k : ℕ) (m : Marked) → slice_get (cond b ((i, true) ∷ []) [] ++ cond c ((the_fence, true) ∷ []) []) k ≡ Some m → m.1 ≡ true
store_marked i true c zero m e = ap (λ x. x.1) (sym (same_Some _ _ e))
store_marked i true c (suc k) m e = fence_marked c k m e
store_marked i false c k m e = fence_marked c k m e

inserted_marked : (w : Wanted) (clone : Bool) (s : Site) (i : Instr) (k : ℕ) (m : Marked) → slice_get (inserted_after w clone s i) k ≡ Some m → m.1 ≡ true
inserted_marked w clone s (Store ty value addr align) k m e = store_marked (flush_of ty addr align) _ _ k m e
inserted_marked w clone s i k m e = fence_marked _ k m e

abbrev calls_name : List ℕ → Marked → Bool
calls_name name m = m.1 && is_call_of name m.0

inserted_calls_name : (name : List ℕ) (w : Wanted) (clone : Bool) (s : Site) (i i' : Instr) (k : ℕ) → slice_get (instrs_of (inserted_after w clone s i)) k ≡ Some i' → is_call_of name i' ≡ true → list_any (calls_name name) (inserted_after w clone s i) ≡ true
inserted_calls_name name w clone s i i' k e c =
    let at = map_at (λ (m : Marked). m.0) (inserted_after w clone s i) k i' e in
    any_at (calls_name name) (inserted_after w clone s i) k at.0 at.1
    (ap (λ b. b && is_call_of name at.0.0) (inserted_marked w clone s i k at.0 at.1) ∙ ap (is_call_of name) (sym at.2) ∙ c)

-- ---- then the repair needs it

module _ (name : List ℕ) (clones : List Clone) (w : Wanted) (clone : Bool) where
  in_a_body : (f b place : ℕ) (is : List Instr) (j k : ℕ) (i i' : Instr) → slice_get is j ≡ Some i → slice_get (instrs_of (inserted_after w clone (record { function = f; block = b; index = place + j }) i)) k ≡ Some i' → is_call_of name i' ≡ true →
      inserts name (repaired_body clones w clone f b place is) ≡ true
  in_a_body f b place [] j k i i' e n c = cc
  in_a_body f b place (x ∷ is) zero k i i' e n c =
      let here : place + 0 ≡ place = omega arith in
      let there : slice_get (instrs_of (inserted_after w clone (record { function = f; block = b; index = place }) x)) k ≡ Some i' =
      ap₂ (λ p y. slice_get (instrs_of (inserted_after w clone (record { function = f; block = b; index = p }) y)) k) (sym here) (same_Some x i e) ∙ n in
      any_front (calls_name name) (inserted_after w clone (record { function = f; block = b; index = place }) x) (repaired_body clones w clone f b (suc place) is) (inserted_calls_name name w clone (record { function = f; block = b; index = place }) x i' k there c)
  in_a_body f b place (x ∷ is) (suc j) k i i' e n c =
      let shifted : place + suc j ≡ suc place + j = omega arith in
      any_back (calls_name name) (inserted_after w clone (record { function = f; block = b; index = place }) x) (repaired_body clones w clone f b (suc place) is)
      (in_a_body f b (suc place) is j k i i' e (subst (λ p. slice_get (instrs_of (inserted_after w clone (record { function = f; block = b; index = p }) i)) k ≡ Some i') shifted n) c)

  in_blocks : (f first : ℕ) (blocks : List Block) (b : ℕ) (block : Block) → slice_get blocks b ≡ Some block → inserts name (repaired_body clones w clone f (first + b) 0 block.body) ≡ true → inserts_in name clones w clone f first blocks ≡ true
  in_blocks f first [] b block e h = cc
  in_blocks f first (x ∷ xs) zero block e h =
      let here : first + 0 ≡ first = omega arith in
      or_first _ _ (ap₂ (λ n y. inserts name (repaired_body clones w clone f n 0 y.body)) (sym here) (same_Some x block e) ∙ h)
  in_blocks f first (x ∷ xs) (suc b) block e h =
      let shifted : first + suc b ≡ suc first + b = omega arith in
      or_second (inserts name (repaired_body clones w clone f first 0 x.body)) _ (in_blocks f (suc first) xs b block e (subst (λ n. inserts name (repaired_body clones w clone f n 0 block.body) ≡ true) shifted h))

in_functions : (name : List ℕ) (clones : List Clone) (w : Wanted) (first : ℕ) (fs : List Function) (f : ℕ) (fn : Function) → slice_get fs f ≡ Some fn → inserts_in name clones w false (first + f) 0 fn.blocks ≡ true → inserts_from name clones w first fs ≡ true
in_functions name clones w first [] f fn e h = cc
in_functions name clones w first (x ∷ xs) zero fn e h =
    let here : first + 0 ≡ first = omega arith in
    or_first _ _ (ap₂ (λ n y. inserts_in name clones w false n 0 y.blocks) (sym here) (same_Some x fn e) ∙ h)
in_functions name clones w first (x ∷ xs) (suc f) fn e h =
    let shifted : first + suc f ≡ suc first + f = omega arith in
    or_second (inserts_in name clones w false first 0 x.blocks) _ (in_functions name clones w (suc first) xs f fn e (subst (λ n. inserts_in name clones w false n 0 fn.blocks ≡ true) shifted h))

module _ (P : Program) (plan : Plan) (skip : Site → Bool) where
  abbrev w : Wanted
  w = wanted_by plan skip

  needed_by : (name : List ℕ) (f' : ℕ) (fn' : Function) (o : Origin P plan skip f' fn') (c : Bool) → o.clone ≡ c → inserts_in name (clones_of P plan) w c o.f 0 o.fn.blocks ≡ true → needs P plan w name ≡ true
  needed_by name f' fn' o false e h = or_first _ _ (in_functions name (clones_of P plan) w 0 P.functions o.f o.fn o.at (let same : 0 + o.f ≡ o.f = omega arith in ap (λ n. inserts_in name (clones_of P plan) w false n 0 o.fn.blocks) same ∙ h))
  needed_by name f' fn' o true e h =
      let high = o.high e in
      or_second (inserts_from name (clones_of P plan) w 0 P.functions) _
      (any_at (λ f. inserts_cloned name (clones_of P plan) w f (slice_get P.functions f)) (cloned P plan) high.0 o.f high.2
      (ap (inserts_cloned name (clones_of P plan) w o.f) o.at ∙ h))

  -- An inserted call is one that the repair needs.
  pub inserted_needed : (name : List ℕ) (f' : ℕ) (fn' : Function) (o : Origin P plan skip f' fn') (b : ℕ) (block : Block) (j k : ℕ) (i i' : Instr) → slice_get o.fn.blocks b ≡ Some block → slice_get block.body j ≡ Some i →
      slice_get (instrs_of (inserted_after w o.clone (record { function = o.f; block = b; index = 0 + j }) i)) k ≡ Some i' → is_call_of name i' ≡ true → needs P plan w name ≡ true
  inserted_needed name f' fn' o b block j k i i' e g n c =
      needed_by name f' fn' o o.clone refl
      (in_blocks name (clones_of P plan) w o.clone o.f 0 o.fn.blocks b block e
      (let same : 0 + b ≡ b = omega arith in
      subst (λ x. inserts name (repaired_body (clones_of P plan) w o.clone o.f x 0 block.body) ≡ true) (sym same) (in_a_body name (clones_of P plan) w o.clone o.f b 0 block.body j k i i' g n c)))

  -- ---- what is needed is declared

  one_added : (x : Extern) (n c : Bool) → n ≡ true → c ≡ false → is_among (map (λ e. e.name) (cond (n && not c) (x ∷ []) [])) x.name ≡ true
  one_added x true false e f = or_first _ _ (nat_list_eq_equiv.refl x.name)
  one_added x true true e f = cc
  one_added x false c e f = cc

  abbrev firsts : List Extern
  firsts = cond (needs P plan w clwb_name && not (is_among (extern_names P) clwb_name)) (clwb_extern ∷ []) []

  abbrev seconds : List Extern
  seconds = cond (needs P plan w sfence_name && not (is_among (extern_names P) sfence_name)) (sfence_extern ∷ []) []

  abbrev thirds : List Extern
  thirds = cond (needs P plan w pmem_flush_name && not (is_among (extern_names P) pmem_flush_name)) (pmem_flush_extern ∷ []) []

  front_added : (xs ys : List Extern) (name : List ℕ) → is_among (map (λ e. e.name) xs) name ≡ true → is_among (map (λ e. e.name) (xs ++ ys)) name ≡ true
  front_added xs ys name h = ap (λ ns. is_among ns name) (map-append (λ (e : Extern). e.name) xs ys) ∙ any_front (bytes_eq name) (map (λ e. e.name) xs) (map (λ e. e.name) ys) h

  back_added : (xs ys : List Extern) (name : List ℕ) → is_among (map (λ e. e.name) ys) name ≡ true → is_among (map (λ e. e.name) (xs ++ ys)) name ≡ true
  back_added xs ys name h = ap (λ ns. is_among ns name) (map-append (λ (e : Extern). e.name) xs ys) ∙ any_back (bytes_eq name) (map (λ e. e.name) xs) (map (λ e. e.name) ys) h

  declared_then : (name : List ℕ) → (is_among (extern_names P) name ≡ false → is_among (map (λ e. e.name) (added_externs P plan w)) name ≡ true) → is_among (extern_names (repaired P plan skip)) name ≡ true
  declared_then name h = by_test (is_among (extern_names P) name) refl
    where
      by_test : (b : Bool) → is_among (extern_names P) name ≡ b → is_among (extern_names (repaired P plan skip)) name ≡ true
      by_test true e = front_added P.externs (added_externs P plan w) name e
      by_test false e = back_added P.externs (added_externs P plan w) name (h e)

  module _ (sound : PassesVerifier P) where
    found_callee : (name : List ℕ) → is_among (extern_names (repaired P plan skip)) name ≡ true → callee_of (repaired P plan skip) name ≡ known_signature name
    found_callee name h =
        let there = extern_there (repaired P plan skip).externs name h in
        ap (λ o. first_of o (function_of (repaired P plan skip).functions name)) there.1
        ∙ sym (extern_signature (repaired P plan skip).externs name there.0 (externs_again P plan skip sound).1.0 there.1)

    pub clwb_callee : needs P plan w clwb_name ≡ true → callee_of (repaired P plan skip) clwb_name ≡ known_signature clwb_name
    clwb_callee n = found_callee clwb_name (declared_then clwb_name (λ f. front_added firsts (seconds ++ thirds) clwb_name (one_added clwb_extern (needs P plan w clwb_name) (is_among (extern_names P) clwb_name) n f)))

    pub sfence_callee : needs P plan w sfence_name ≡ true → callee_of (repaired P plan skip) sfence_name ≡ known_signature sfence_name
    sfence_callee n =
        found_callee sfence_name
        (declared_then sfence_name (λ f. back_added firsts (seconds ++ thirds) sfence_name (front_added seconds thirds sfence_name (one_added sfence_extern (needs P plan w sfence_name) (is_among (extern_names P) sfence_name) n f))))

    pub pmem_flush_callee : needs P plan w pmem_flush_name ≡ true → callee_of (repaired P plan skip) pmem_flush_name ≡ known_signature pmem_flush_name
    pmem_flush_callee n =
        found_callee pmem_flush_name
        (declared_then pmem_flush_name (λ f. back_added firsts (seconds ++ thirds) pmem_flush_name (back_added seconds thirds pmem_flush_name (one_added pmem_flush_extern (needs P plan w pmem_flush_name) (is_among (extern_names P) pmem_flush_name) n f))))
