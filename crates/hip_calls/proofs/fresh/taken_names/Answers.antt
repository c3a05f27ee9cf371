use Rattle.std.proofs.Common.{[], ◌++◌, map, sym, ◌∙◌}
use Rattle.std.specs.Str.{bytes_eq}
use Rattle.hip_names.specs.Laws.MetLaws.{met-append}
use Rattle.hip_calls.proofs.fresh.taken_names.Goals as goal

pub returns : goal.returns
returns c =
    let P = c.args.program.now in
    rw (c.in_ok-add_functions.ensures, c.as_slice-3.ensures, c.in_ok-add_externs.ensures, c.as_slice-2.ensures, c.in_ok-add_globals.ensures, c.as_slice.ensures, c.new-names.ensures)
    (sym (met-append bytes_eq [] (map (λ g. g.name) P.globals) (map (λ e. e.name) P.externs ++ map (λ f. f.name) P.functions)
    ∙ met-append bytes_eq _ (map (λ e. e.name) P.externs) (map (λ f. f.name) P.functions)))
