-- A loop that ends by a refusal or out of memory.
use Rattle.std.proofs.Common.{◌≡◌, ◌≤◌, Bool, true, List, [], length, Option, Ok, Err, refl}
use Rattle.hip_tokens.specs.Tokens.{Tok, At}
use Rattle.hip_grammar.specs.Reader.{Outcome, Reader, next, many_at, with_front, taken_up, leaders_at, with_leaders}
use Rattle.hip_grammar.specs.Laws.Loops.{TakesSome, fails, fails_up, leader_head_fails, leader_part_fails}
use Rattle.hip_grammar.specs.declared.fault.TextFault.{TextFault}
use Rattle.hip_parse.specs.declared.error.ReadError.{ReadError}
use Rattle.hip_parse.specs.declared.error.ReadError.TheVariants as errors
use Rattle.hip_parse.specs.Left.{Fails}

pub ends : (A : Type 0) (k : Tok → Bool) (r : Reader TextFault A) (some : TakesSome r) (e : ReadError) (front : List A) (ts after : List At) (total : Outcome TextFault (List A)) → next k ts ≡ true → Fails e (r ts) after → with_front front (many_at k r ts) ≡ total → Fails e total after
ends A k r some errors.Memory front ts after total e h so_far = tt
ends A k r some (errors.Refused why) front ts after total e h so_far = fails TextFault A k r some front ts (why, after) total e h so_far

pub nothing_before : (A : Type 0) (o : Outcome TextFault (List A)) → with_front [] o ≡ o
nothing_before A (Ok x) = refl
nothing_before A (Err e) = refl

-- ---- leading parts

module _ (X P : Type 0) (kh : Tok → Bool) (rh : Reader TextFault X) (kf : Tok → Bool) (rf : X → Reader TextFault P) (some : TakesSome rh) (within : (x : X) (ts : List At) (p : P × List At) → rf x ts ≡ Ok p → length p.1 ≤ length ts) where
  pub head_ends : (e : ReadError) (front : List P) (ts after : List At) (total : Outcome TextFault (List P × Option X)) → next kh ts ≡ true → Fails e (rh ts) after → with_leaders front (leaders_at kh rh kf rf ts) ≡ total → Fails e total after
  head_ends errors.Memory front ts after total e h so_far = tt
  head_ends (errors.Refused why) front ts after total e h so_far = leader_head_fails TextFault X P kh rh kf rf some within front ts (why, after) total e h so_far

  pub part_ends : (e : ReadError) (front : List P) (ts : List At) (x : X) (m after : List At) (total : Outcome TextFault (List P × Option X)) → next kh ts ≡ true → rh ts ≡ Ok (x, m) → next kf m ≡ true → Fails e (rf x m) after
      → with_leaders front (leaders_at kh rh kf rf ts) ≡ total → Fails e total after
  part_ends errors.Memory front ts x m after total e h g q so_far = tt
  part_ends (errors.Refused why) front ts x m after total e h g q so_far = leader_part_fails TextFault X P kh rh kf rf some within front ts x m (why, after) total e h g q so_far

-- The same for a loop that folds each part into a value.
pub ends_up : (A S : Type 0) (take_up : S → A → S) (k : Tok → Bool) (r : Reader TextFault A) (some : TakesSome r) (e : ReadError) (s : S) (ts after : List At) (total : Outcome TextFault S) → next k ts ≡ true → Fails e (r ts) after → taken_up take_up s (many_at k r ts) ≡ total → Fails e total after
ends_up A S take_up k r some errors.Memory s ts after total e h so_far = tt
ends_up A S take_up k r some (errors.Refused why) s ts after total e h so_far = fails_up TextFault A k r some S take_up s ts (why, after) total e h so_far
