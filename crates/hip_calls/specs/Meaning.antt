-- What reachable callees and fresh names are, apart from how they are found.
use Rattle.std.specs.Prelude.{◌≡◌, ◌<◌, ℕ, nat_eq, Bool, true, false, List, ◌++◌, length, take, Some, None, slice_get}
use Rattle.std.specs.List.{IsDistinct}
use Rattle.std.specs.Str.{bytes_eq}
use Rattle.hip_tree.specs.Sites.{instr_of, has_site}
use Rattle.hip_tree.specs.declared.program.Program.{Program}
use Rattle.hip_tree.specs.declared.site.Site.{Site}
use Rattle.hip_externs.specs.Externs.{call_of}
use Rattle.hip_names.specs.Names.{is_among}
use Rattle.hip_sound.specs.Sound.{top_names}
use Rattle.hip_calls.specs.Fresh.{name_of, fresh_names}
use Rattle.hip_calls.specs.Laws.FreshLaws.{IsFirstFree}
use Rattle.hip_calls.specs.Reach.{called_at, called_from, callees}
use Rattle.hip_calls.specs.Laws.ReachLaws.{Has}

-- Each callee of these calls passes the test, and so does each function that a passing function calls.
pub record PassesOn (P : Program) (sites : List Site) (test : ℕ → Bool) : Type 0 where
  pub first : (s : Site) (f : ℕ) → has_site sites s ≡ true → Has (called_at P (instr_of P s)) f
      → test f ≡ true
  pub onward : (f g : ℕ) → test f ≡ true → Has (called_from P f) g → test g ≡ true

-- The functions that calls reach from these calls. They are functions of the program, each once. The list has the
-- callees of the calls and each function that a function of the list calls, and no other function.
pub record AreReached (P : Program) (sites : List Site) (reached : List ℕ) : Type 0 where
  pub functions : (f : ℕ) → Has reached f → f < length P.functions
  pub distinct : IsDistinct nat_eq reached
  pub first : (s : Site) (f : ℕ) → has_site sites s ≡ true → Has (called_at P (instr_of P s)) f
      → Has reached f
  pub onward : (f g : ℕ) → Has reached f → Has (called_from P f) g → Has reached g
  pub least : (test : ℕ → Bool) → PassesOn P sites test → (f : ℕ) → Has reached f → test f ≡ true

-- For every program and any sites, `callees` gives the functions that calls reach from the calls at these sites.
abbrev pub CalleesAreReached : Type 0
CalleesAreReached = (P : Program) (sites : List Site) → AreReached P sites (callees P sites)

-- Fresh names for copies of functions, one for each copy. Each is the first of `f.pm`, `f.pm1`, `f.pm2` and so on that
-- is not a name of the program or of an earlier copy, and is not the name of an external function.
pub record AreFresh (P : Program) (functions : List ℕ) (names : List (List ℕ)) : Type 0 where
  pub each : length names ≡ length functions
  pub distinct : IsDistinct bytes_eq names
  pub free : (k : ℕ) (name : List ℕ) → slice_get names k ≡ Some name → is_among (top_names P) name ≡ false
  pub first : (k f : ℕ) (name : List ℕ) → slice_get names k ≡ Some name → slice_get functions k ≡ Some f
      → IsFirstFree (take k names ++ top_names P) (name_of P f) name
  pub no_extern : (k : ℕ) (name : List ℕ) → slice_get names k ≡ Some name → call_of name ≡ None

-- For every program and any numbers of functions, `fresh_names` gives fresh names for their copies.
abbrev pub FreshNamesAreFresh : Type 0
FreshNamesAreFresh = (P : Program) (functions : List ℕ) → AreFresh P functions (fresh_names P functions)
