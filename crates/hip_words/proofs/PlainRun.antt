-- `run` and `record` with words that do not begin with `-`: the program, and then the numbers.
use Rattle.std.proofs.Common.{◌≡◌, ◌∙◌, true, false, List, [], ◌∷◌, ◌++◌, Option, Some, None, codes, refl, ap, option_map, is_some}
use Rattle.std.specs.Prelude.{fold, option_and_then}
use Rattle.std.specs.List.{list_all}
use Rattle.clap.specs.Simple.{Shape, built, entered}
use Rattle.clap.specs.Faults.{check_fault, defaults_fault, entered_fault, settle_fault, turn_fault, walk_fault}
use Rattle.clap.specs.Kinds.{or_else}
use Rattle.clap.specs.Walk.{Walk, finished, idle, nothing_held, positional, settled, walk, walk_from, walked}
use Rattle.clap.specs.Words.{Row, Text}
use Rattle.hip_runs.specs.declared.limits.TheConstants.{DEFAULT_LIMIT}
use Rattle.hip_types.specs.declared.limits.TheConstants.{LOWEST_BASE}
use Rattle.hip_words.specs.Commands.{reads, record_app, run_app, where_none}
use Rattle.hip_words.specs.Order.{numbers_of, order, record_in, run_in, verb_of}
use Rattle.hip_words.specs.declared.order.Order.{Order}
use Rattle.hip_words.specs.declared.order.Order.TheVariants.{Record, Run}
use Rattle.hip_words.proofs.Plain.{IsPlain, plain_word}
use Rattle.hip_words.proofs.PlainList.{TakesList, list_ends, list_passes, row}
use Rattle.hip_words.specs.Laws.{RecordsArePlain, RunsArePlain}
use Rattle.hip_words.specs.Plain.{is_plain}

-- The walk after the program, after the first number, and after more numbers.
abbrev after_program : Text → Walk
after_program p = record {
  held = record { rows = []; pending = Some (codes "program", p ∷ []); skip = 0 };
  waiting = idle;
  position = 2;
  is_trailing = false;
  stopped = None;
}

abbrev after_one : Text → Text → Walk
after_one p n = record {
  held = record { rows = row (codes "program") (p ∷ []) ∷ []; pending = Some (codes "numbers", n ∷ []); skip = 0 };
  waiting = positional;
  position = 2;
  is_trailing = false;
  stopped = None;
}

abbrev after_more : Text → List Text → Text → Walk
after_more p ns n = record {
  held = record {
    rows = row (codes "program") (p ∷ []) ∷ row (codes "numbers") ns ∷ [];
    pending = Some (codes "numbers", n ∷ []);
    skip = 0;
  };
  waiting = positional;
  position = 2;
  is_trailing = false;
  stopped = None;
}

-- ---- `run`

abbrev run_shape : Shape
run_shape = (built run_app).top

run_begins : (p : Text) → IsPlain p → walked run_shape.rules [] (walk_from nothing_held) p ≡ after_program p
unfolding walked
run_begins p a = let d = a.dashes in let l = a.long in let s = a.short in rw (d, l, s) refl

run_passes : (p : Text) → IsPlain p → turn_fault run_shape [] (walk_from nothing_held) p ≡ []
run_passes p a = let d = a.dashes in let l = a.long in let s = a.short in rw (d, l, s) refl

run_takes : (p : Text) → TakesList run_shape (after_program p) (after_one p) (after_more p)
unfolding walked
run_takes p = record {
  to_one = λ n a. let d = a.dashes in let l = a.long in let s = a.short in rw (d, l, s) refl;
  to_two = λ n m a. let d = a.dashes in let l = a.long in let s = a.short in rw (d, l, s) refl;
  to_more = λ ns n m a. let d = a.dashes in let l = a.long in let s = a.short in rw (d, l, s) refl;
  one_passes = λ n a. let d = a.dashes in let l = a.long in let s = a.short in rw (d, l, s) refl;
  two_passes = λ n m a. let d = a.dashes in let l = a.long in let s = a.short in rw (d, l, s) refl;
  more_passes = λ ns n m a. let d = a.dashes in let l = a.long in let s = a.short in rw (d, l, s) refl;
}

-- The rows that the walk of `run` ends with, if nothing fails after it.
abbrev run_rows : Walk → Option (List Row)
run_rows w =
    where_none
    (or_else (entered_fault (built run_app) w.stopped)
    (or_else (settle_fault run_shape.rules run_shape.args_override_self w.held)
    (or_else (defaults_fault (settled run_shape.rules w.held).rows run_shape.rules)
    (check_fault run_shape (finished run_shape.rules w.held) (is_some (entered (built run_app) w.stopped))))))
    (finished run_shape.rules w.held)

run_reads : (words : List Text) → walk_fault run_shape [] (walk_from nothing_held) words ≡ []
    → reads run_app (codes "run" ∷ words) ≡ run_rows (walk run_shape.rules [] nothing_held words)
unfolding reads
run_reads words passes =
    ap (λ kinds. where_none
    (or_else kinds
    (or_else (entered_fault (built run_app) (walk run_shape.rules [] nothing_held words).stopped)
    (or_else (settle_fault run_shape.rules run_shape.args_override_self (walk run_shape.rules [] nothing_held words).held)
    (or_else (defaults_fault (settled run_shape.rules (walk run_shape.rules [] nothing_held words).held).rows run_shape.rules)
    (check_fault run_shape (finished run_shape.rules (walk run_shape.rules [] nothing_held words).held)
    (is_some (entered (built run_app) (walk run_shape.rules [] nothing_held words).stopped)))))))
    (finished run_shape.rules (walk run_shape.rules [] nothing_held words).held)) passes

abbrev run_order : Text → List Text → Option Order
run_order p ns = option_map (λ numbers. Run p DEFAULT_LIMIT numbers) (numbers_of ns)

run_ends : (p : Text) (ns : List Text) → list_all is_plain ns ≡ true
    → option_and_then run_in (run_rows (fold (walked run_shape.rules []) (after_program p) ns)) ≡ run_order p ns
unfolding defaults_fault
run_ends p ns e =
    list_ends (run_takes p) (λ xs w. option_and_then run_in (run_rows w) ≡ run_order p xs) refl (λ n. refl)
    (λ ms n. refl) ns e

-- `run`, a program and numbers, with the limit that no option gives.
pub runs_plain : RunsArePlain
unfolding order verb_of walk_fault
runs_plain p ns a e =
    let is_p = plain_word p a in
    ap (option_and_then run_in)
    (run_reads (p ∷ ns)
    (ap (λ kinds. or_else kinds (walk_fault run_shape [] (walked run_shape.rules [] (walk_from nothing_held) p) ns)) (run_passes p is_p)
    ∙ ap (λ w. walk_fault run_shape [] w ns) (run_begins p is_p) ∙ list_passes (run_takes p) ns e))
    ∙ ap (λ w. option_and_then run_in (run_rows (fold (walked run_shape.rules []) w ns))) (run_begins p is_p)
    ∙ run_ends p ns e

-- ---- `record`

abbrev record_shape : Shape
record_shape = (built record_app).top

record_begins : (p : Text) → IsPlain p → walked record_shape.rules [] (walk_from nothing_held) p ≡ after_program p
unfolding walked
record_begins p a = let d = a.dashes in let l = a.long in let s = a.short in rw (d, l, s) refl

record_passes : (p : Text) → IsPlain p → turn_fault record_shape [] (walk_from nothing_held) p ≡ []
record_passes p a = let d = a.dashes in let l = a.long in let s = a.short in rw (d, l, s) refl

record_takes : (p : Text) → TakesList record_shape (after_program p) (after_one p) (after_more p)
unfolding walked
record_takes p = record {
  to_one = λ n a. let d = a.dashes in let l = a.long in let s = a.short in rw (d, l, s) refl;
  to_two = λ n m a. let d = a.dashes in let l = a.long in let s = a.short in rw (d, l, s) refl;
  to_more = λ ns n m a. let d = a.dashes in let l = a.long in let s = a.short in rw (d, l, s) refl;
  one_passes = λ n a. let d = a.dashes in let l = a.long in let s = a.short in rw (d, l, s) refl;
  two_passes = λ n m a. let d = a.dashes in let l = a.long in let s = a.short in rw (d, l, s) refl;
  more_passes = λ ns n m a. let d = a.dashes in let l = a.long in let s = a.short in rw (d, l, s) refl;
}

-- The rows that the walk of `record` ends with, if nothing fails after it.
abbrev record_rows : Walk → Option (List Row)
record_rows w =
    where_none
    (or_else (entered_fault (built record_app) w.stopped)
    (or_else (settle_fault record_shape.rules record_shape.args_override_self w.held)
    (or_else (defaults_fault (settled record_shape.rules w.held).rows record_shape.rules)
    (check_fault record_shape (finished record_shape.rules w.held) (is_some (entered (built record_app) w.stopped))))))
    (finished record_shape.rules w.held)

record_reads : (words : List Text) → walk_fault record_shape [] (walk_from nothing_held) words ≡ []
    → reads record_app (codes "record" ∷ words) ≡ record_rows (walk record_shape.rules [] nothing_held words)
unfolding reads
record_reads words passes =
    ap (λ kinds. where_none
    (or_else kinds
    (or_else (entered_fault (built record_app) (walk record_shape.rules [] nothing_held words).stopped)
    (or_else (settle_fault record_shape.rules record_shape.args_override_self (walk record_shape.rules [] nothing_held words).held)
    (or_else (defaults_fault (settled record_shape.rules (walk record_shape.rules [] nothing_held words).held).rows record_shape.rules)
    (check_fault record_shape (finished record_shape.rules (walk record_shape.rules [] nothing_held words).held)
    (is_some (entered (built record_app) (walk record_shape.rules [] nothing_held words).stopped)))))))
    (finished record_shape.rules (walk record_shape.rules [] nothing_held words).held)) passes

abbrev record_order : Text → List Text → Option Order
record_order p ns = option_map (λ numbers. Record p LOWEST_BASE DEFAULT_LIMIT numbers) (numbers_of ns)

record_ends : (p : Text) (ns : List Text) → list_all is_plain ns ≡ true
    → option_and_then record_in (record_rows (fold (walked record_shape.rules []) (after_program p) ns)) ≡ record_order p ns
unfolding defaults_fault
record_ends p ns e =
    list_ends (record_takes p) (λ xs w. option_and_then record_in (record_rows w) ≡ record_order p xs) refl (λ n. refl)
    (λ ms n. refl) ns e

-- `record`, a program and numbers, with the base and the limit that no option gives.
pub records_plain : RecordsArePlain
unfolding order verb_of walk_fault
records_plain p ns a e =
    let is_p = plain_word p a in
    ap (option_and_then record_in)
    (record_reads (p ∷ ns)
    (ap (λ kinds. or_else kinds (walk_fault record_shape [] (walked record_shape.rules [] (walk_from nothing_held) p) ns)) (record_passes p is_p)
    ∙ ap (λ w. walk_fault record_shape [] w ns) (record_begins p is_p) ∙ list_passes (record_takes p) ns e))
    ∙ ap (λ w. option_and_then record_in (record_rows (fold (walked record_shape.rules []) w ns))) (record_begins p is_p)
    ∙ record_ends p ns e
