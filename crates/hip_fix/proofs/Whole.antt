-- The program that one walk makes is the repaired program: the calls that the walk noted are those that inserted
-- calls need.
use Rattle.std.proofs.Common.{ℕ, suc, ◌≡◌, ◌||◌, ◌&&◌, Bool, true, false, List, [], ◌∷◌, ◌++◌, Option, Some, None, length, map, refl, ap, ◌∙◌}
use Rattle.std.specs.Prelude.{slice_get}
use Rattle.std.specs.List.{list_any}
use Rattle.std.proofs.lemmas.List.{length-map}
use Rattle.std.proofs.lemmas.List.Folds.{list_any-append}
use Rattle.hip_types.specs.declared.number.Scalar.{Scalar}
use Rattle.hip_types.specs.declared.number.Scalar.TheVariants.{Int, Ptr}
use Rattle.hip_types.specs.declared.number.Width.TheVariants.{W64}
use Rattle.hip_tree.specs.declared.block.Block.{Block}
use Rattle.hip_tree.specs.declared.program.Function.{Function}
use Rattle.hip_tree.specs.declared.program.Program.{Program}
use Rattle.hip_tree.specs.declared.site.Site.{Site}
use Rattle.hip_sound.specs.Sound.{top_names}
use Rattle.hip_calls.specs.Fresh.{fresh_names, name_of}
use Rattle.hip_calls.specs.Laws.FreshLaws.{length-fresh_for}
use Rattle.hip_repairs.specs.declared.plan.Plan.{Plan}
use Rattle.hip_repairs.specs.Repaired.{Marked, Clone, Wanted, is_call_of, inserts, inserts_in, inserts_from, inserts_cloned, needs, repaired_by, repaired_body, repaired_functions, clone_functions, clones_of, clones_from, cloned, repaired, wanted_by, clwb_name, sfence_name, pmem_flush_name, declared_if}
use Rattle.hip_fix.specs.Walk.{marked_blocks, marked_functions, marked_clone, marked_clones}
use Rattle.hip_fix.specs.Walked.{walked}

module _ (name : List ℕ) (clones : List Clone) (w : Wanted) where
  inserts-append : (xs ys : List Marked) → inserts name (xs ++ ys) ≡ (inserts name xs || inserts name ys)
  inserts-append xs ys = list_any-append (λ (m : Marked). m.1 && is_call_of name m.0) xs ys

  in_blocks : (clone : Bool) (f b : ℕ) (xs : List Block) → inserts name (marked_blocks clones w clone f b xs) ≡ inserts_in name clones w clone f b xs
  in_blocks clone f b [] = refl
  in_blocks clone f b (x ∷ xs) =
      inserts-append (repaired_body clones w clone f b 0 x.body) (marked_blocks clones w clone f (suc b) xs)
      ∙ ap (λ t. inserts name (repaired_body clones w clone f b 0 x.body) || t) (in_blocks clone f (suc b) xs)

  in_functions : (f : ℕ) (xs : List Function) → inserts name (marked_functions clones w f xs) ≡ inserts_from name clones w f xs
  in_functions f [] = refl
  in_functions f (x ∷ xs) =
      inserts-append (marked_blocks clones w false f 0 x.blocks) (marked_functions clones w (suc f) xs)
      ∙ ap (λ t. t || inserts name (marked_functions clones w (suc f) xs)) (in_blocks false f 0 x.blocks)
      ∙ ap (λ t. inserts_in name clones w false f 0 x.blocks || t) (in_functions (suc f) xs)

  in_clone : (f : ℕ) (o : Option Function) → inserts name (marked_clone clones w f o) ≡ inserts_cloned name clones w f o
  in_clone f None = refl
  in_clone f (Some x) = in_blocks true f 0 x.blocks

  in_clones : (P : Program) (fs : List ℕ) → inserts name (marked_clones P clones w fs) ≡ list_any (λ f. inserts_cloned name clones w f (slice_get P.functions f)) fs
  in_clones P [] = refl
  in_clones P (f ∷ fs) =
      inserts-append (marked_clone clones w f (slice_get P.functions f)) (marked_clones P clones w fs)
      ∙ ap (λ t. t || inserts name (marked_clones P clones w fs)) (in_clone f (slice_get P.functions f))
      ∙ ap (λ t. inserts_cloned name clones w f (slice_get P.functions f) || t) (in_clones P fs)

  pub in_program : (P : Program) (fs : List ℕ) → (inserts name (marked_functions clones w 0 P.functions) || inserts name (marked_clones P clones w fs))
      ≡ (inserts_from name clones w 0 P.functions || list_any (λ f. inserts_cloned name clones w f (slice_get P.functions f)) fs)
  in_program P fs = ap (λ t. t || inserts name (marked_clones P clones w fs)) (in_functions 0 P.functions) ∙ ap (λ t. inserts_from name clones w 0 P.functions || t) (in_clones P fs)

pub walked-repaired : (P : Program) (plan : Plan) (w : Wanted) → walked P (clones_of P plan) w (cloned P plan) (fresh_names P (cloned P plan)) ≡ repaired_by P plan w
walked-repaired P plan w =
    let clones = clones_of P plan in
    let one : (name : List ℕ) (params : List Scalar) →
    declared_if (inserts name (marked_functions clones w 0 P.functions) || inserts name (marked_clones P clones w (cloned P plan))) P.externs name params ≡ declared_if (needs P plan w name) P.externs name params
    = λ name params. ap (λ t. declared_if t P.externs name params) (in_program name clones w P (cloned P plan)) in
    let clwb = one clwb_name (Ptr ∷ []) in
    let sfence = one sfence_name [] in
    let pmem_flush = one pmem_flush_name (Ptr ∷ Int W64 ∷ []) in
    λ i. record {
      globals = P.globals;
      externs = P.externs ++ (clwb i ++ (sfence i ++ pmem_flush i));
      functions = repaired_functions clones w 0 P.functions ++ clone_functions P clones w (cloned P plan) (fresh_names P (cloned P plan));
    }

pub walked_is : (P : Program) (plan : Plan) (skip : Site → Bool) (fs : List ℕ) (names : List (List ℕ)) (clones : List Clone) (w : Wanted) →
    fs ≡ cloned P plan → names ≡ fresh_names P fs → clones ≡ clones_from P fs names → w ≡ wanted_by plan skip → walked P clones w fs names ≡ repaired P plan skip
walked_is P plan skip fs names clones w e_fs e_names e_clones e_w =
    let fresh : names ≡ fresh_names P (cloned P plan) = e_names ∙ ap (fresh_names P) e_fs in
    let same : clones ≡ clones_of P plan = e_clones ∙ (λ i. clones_from P (e_fs i) (fresh i)) in
    (λ i. walked P (same i) (e_w i) (e_fs i) (fresh i)) ∙ walked-repaired P plan (wanted_by plan skip)

pub names_as_long : (P : Program) (fs : List ℕ) (names : List (List ℕ)) → names ≡ fresh_names P fs → length names ≡ length fs
names_as_long P fs names e = ap length e ∙ length-fresh_for (top_names P) (map (name_of P) fs) ∙ length-map fs (name_of P)
