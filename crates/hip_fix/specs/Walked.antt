-- The repaired program as it is made: its functions in one walk, and then the declarations that the walk noted.
use Rattle.std.specs.Prelude.{ℕ, List, ◌++◌}
use Rattle.hip_tree.specs.declared.program.Program.{Program}
use Rattle.hip_repairs.specs.Repaired.{Clone, Wanted, repaired_functions, clone_functions}
use Rattle.hip_fix.specs.Walk.{none_needed, noted, added, marked_functions, marked_clones}

-- The program with clones of the functions of these numbers after all functions, under these names.
abbrev pub walked : Program → List Clone → Wanted → List ℕ → List (List ℕ) → Program
walked P clones w fs names =
    record {
      globals = P.globals;
      externs =
          P.externs
          ++ added P.externs
          (noted (noted none_needed (marked_functions clones w 0 P.functions)) (marked_clones P clones w fs));
      functions = repaired_functions clones w 0 P.functions ++ clone_functions P clones w fs names;
    }
