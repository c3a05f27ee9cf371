-- `many` and `crash` with words that do not begin with `-`: the files, the entry, and then the traces or the picks.
use Rattle.std.proofs.Common.{◌≡◌, ◌∙◌, true, false, List, [], ◌∷◌, ◌++◌, Option, Some, None, codes, refl, ap, option_map, is_some}
use Rattle.std.specs.Prelude.{fold, option_and_then}
use Rattle.std.specs.List.{list_all}
use Rattle.clap.specs.Simple.{Shape, built, entered}
use Rattle.clap.specs.Faults.{check_fault, defaults_fault, entered_fault, settle_fault, turn_fault, walk_fault}
use Rattle.clap.specs.Kinds.{or_else}
use Rattle.clap.specs.Walk.{Walk, finished, idle, nothing_held, positional, settled, walk, walk_from, walked}
use Rattle.clap.specs.Words.{Row, Text}
use Rattle.hip_words.specs.Commands.{crash_app, many_app, reads, where_none}
use Rattle.hip_words.specs.Order.{crash_in, many_in, order, picks_of, traces_of, verb_of}
use Rattle.hip_num.specs.Texts.{decimal_of}
use Rattle.hip_words.specs.declared.order.Order.{Order}
use Rattle.hip_words.specs.declared.order.Order.TheVariants.{Crash, Many}
use Rattle.hip_words.proofs.Plain.{IsPlain, plain_word}
use Rattle.hip_words.proofs.PlainList.{TakesList, list_ends, list_passes, row}
use Rattle.hip_words.specs.Laws.{CrashesArePlain, ManyArePlain}
use Rattle.hip_words.specs.Plain.{is_plain}

-- ---- `many`

-- The walk after the words before the list, after the first word of the list, and after more.
abbrev many_first : Text → Walk
many_first p = record {
  held = record { rows = []; pending = Some (codes "program", p ∷ []); skip = 0 };
  waiting = idle;
  position = 2;
  is_trailing = false;
  stopped = None;
}

abbrev many_one : Text → Text → Walk
many_one p n = record {
  held = record { rows = row (codes "program") (p ∷ []) ∷ []; pending = Some (codes "traces", n ∷ []); skip = 0 };
  waiting = positional;
  position = 2;
  is_trailing = false;
  stopped = None;
}

abbrev many_more : Text → List Text → Text → Walk
many_more p ns n = record {
  held = record {
    rows = row (codes "program") (p ∷ []) ∷ row (codes "traces") ns ∷ [];
    pending = Some (codes "traces", n ∷ []);
    skip = 0;
  };
  waiting = positional;
  position = 2;
  is_trailing = false;
  stopped = None;
}

abbrev many_shape : Shape
many_shape = (built many_app).top

many_begins : (p : Text) → IsPlain p → walked many_shape.rules [] (walk_from nothing_held) p ≡ many_first p
unfolding walked
many_begins p a = let d = a.dashes in let l = a.long in let s = a.short in rw (d, l, s) refl

many_passes : (p : Text) → IsPlain p → turn_fault many_shape [] (walk_from nothing_held) p ≡ []
many_passes p a = let d = a.dashes in let l = a.long in let s = a.short in rw (d, l, s) refl

many_takes : (p : Text) → TakesList many_shape (many_first p) (many_one p) (many_more p)
unfolding walked
many_takes p = record {
  to_one = λ n a. let d = a.dashes in let l = a.long in let s = a.short in rw (d, l, s) refl;
  to_two = λ n m a. let d = a.dashes in let l = a.long in let s = a.short in rw (d, l, s) refl;
  to_more = λ ns n m a. let d = a.dashes in let l = a.long in let s = a.short in rw (d, l, s) refl;
  one_passes = λ n a. let d = a.dashes in let l = a.long in let s = a.short in rw (d, l, s) refl;
  two_passes = λ n m a. let d = a.dashes in let l = a.long in let s = a.short in rw (d, l, s) refl;
  more_passes = λ ns n m a. let d = a.dashes in let l = a.long in let s = a.short in rw (d, l, s) refl;
}

-- The rows that the walk of `many` ends with, if nothing fails after it.
abbrev many_rows : Walk → Option (List Row)
many_rows w =
    where_none
    (or_else (entered_fault (built many_app) w.stopped)
    (or_else (settle_fault many_shape.rules many_shape.args_override_self w.held)
    (or_else (defaults_fault (settled many_shape.rules w.held).rows many_shape.rules)
    (check_fault many_shape (finished many_shape.rules w.held) (is_some (entered (built many_app) w.stopped))))))
    (finished many_shape.rules w.held)

many_reads : (words : List Text) → walk_fault many_shape [] (walk_from nothing_held) words ≡ []
    → reads many_app (codes "many" ∷ words) ≡ many_rows (walk many_shape.rules [] nothing_held words)
unfolding reads
many_reads words passes =
    ap (λ kinds. where_none
    (or_else kinds
    (or_else (entered_fault (built many_app) (walk many_shape.rules [] nothing_held words).stopped)
    (or_else (settle_fault many_shape.rules many_shape.args_override_self (walk many_shape.rules [] nothing_held words).held)
    (or_else (defaults_fault (settled many_shape.rules (walk many_shape.rules [] nothing_held words).held).rows many_shape.rules)
    (check_fault many_shape (finished many_shape.rules (walk many_shape.rules [] nothing_held words).held)
    (is_some (entered (built many_app) (walk many_shape.rules [] nothing_held words).stopped)))))))
    (finished many_shape.rules (walk many_shape.rules [] nothing_held words).held)) passes

abbrev many_order : Text → List Text → Option Order
many_order p ns = option_map (λ traces. Many p traces) (traces_of ns)

many_ends : (p : Text) (ns : List Text) → list_all is_plain ns ≡ true
    → option_and_then many_in (many_rows (fold (walked many_shape.rules []) (many_first p) ns)) ≡ many_order p ns
unfolding defaults_fault
many_ends p ns e =
    list_ends (many_takes p) (λ xs w. option_and_then many_in (many_rows w) ≡ many_order p xs) refl (λ n. refl)
    (λ ms n. refl) ns e

-- `many`, a program and traces.
pub many_plain : ManyArePlain
unfolding order verb_of walk_fault
many_plain p ns a e =
    let is_p = plain_word p a in
    ap (option_and_then many_in)
    (many_reads (p ∷ ns)
    (ap (λ kinds. or_else kinds (walk_fault many_shape [] (walked many_shape.rules [] (walk_from nothing_held) p) ns)) (many_passes p is_p)
    ∙ ap (λ w. walk_fault many_shape [] w ns) (many_begins p is_p) ∙ list_passes (many_takes p) ns e))
    ∙ ap (λ w. option_and_then many_in (many_rows (fold (walked many_shape.rules []) w ns))) (many_begins p is_p)
    ∙ many_ends p ns e

-- ---- `crash`

-- The walk after the words before the list, after the first word of the list, and after more.
abbrev crash_first : Text → Text → Text → Walk
crash_first p t e = record {
  held = record { rows = row (codes "program") (p ∷ []) ∷ row (codes "trace") (t ∷ []) ∷ []; pending = Some (codes "entry", e ∷ []); skip = 0 };
  waiting = idle;
  position = 4;
  is_trailing = false;
  stopped = None;
}

abbrev crash_one : Text → Text → Text → Text → Walk
crash_one p t e n = record {
  held = record { rows = row (codes "program") (p ∷ []) ∷ row (codes "trace") (t ∷ []) ∷ row (codes "entry") (e ∷ []) ∷ []; pending = Some (codes "picks", n ∷ []); skip = 0 };
  waiting = positional;
  position = 4;
  is_trailing = false;
  stopped = None;
}

abbrev crash_more : Text → Text → Text → List Text → Text → Walk
crash_more p t e ns n = record {
  held = record {
    rows = row (codes "program") (p ∷ []) ∷ row (codes "trace") (t ∷ []) ∷ row (codes "entry") (e ∷ []) ∷ row (codes "picks") ns ∷ [];
    pending = Some (codes "picks", n ∷ []);
    skip = 0;
  };
  waiting = positional;
  position = 4;
  is_trailing = false;
  stopped = None;
}

abbrev crash_shape : Shape
crash_shape = (built crash_app).top

-- The walk after the program, and after the trace.
abbrev after_program : Text → Walk
after_program p = record {
  held = record { rows = []; pending = Some (codes "program", p ∷ []); skip = 0 };
  waiting = idle;
  position = 2;
  is_trailing = false;
  stopped = None;
}

abbrev after_trace : Text → Text → Walk
after_trace p t = record {
  held = record { rows = row (codes "program") (p ∷ []) ∷ []; pending = Some (codes "trace", t ∷ []); skip = 0 };
  waiting = idle;
  position = 3;
  is_trailing = false;
  stopped = None;
}

to_program : (p : Text) → IsPlain p → walked crash_shape.rules [] (walk_from nothing_held) p ≡ after_program p
unfolding walked
to_program p a = let d = a.dashes in let l = a.long in let s = a.short in rw (d, l, s) refl

to_trace : (p t : Text) → IsPlain t → walked crash_shape.rules [] (after_program p) t ≡ after_trace p t
unfolding walked
to_trace p t a = let d = a.dashes in let l = a.long in let s = a.short in rw (d, l, s) refl

to_entry : (p t e : Text) → IsPlain e → walked crash_shape.rules [] (after_trace p t) e ≡ crash_first p t e
unfolding walked
to_entry p t e a = let d = a.dashes in let l = a.long in let s = a.short in rw (d, l, s) refl

program_passes : (p : Text) → IsPlain p → turn_fault crash_shape [] (walk_from nothing_held) p ≡ []
program_passes p a = let d = a.dashes in let l = a.long in let s = a.short in rw (d, l, s) refl

trace_passes : (p t : Text) → IsPlain t → turn_fault crash_shape [] (after_program p) t ≡ []
trace_passes p t a = let d = a.dashes in let l = a.long in let s = a.short in rw (d, l, s) refl

entry_passes : (p t e : Text) → IsPlain e → turn_fault crash_shape [] (after_trace p t) e ≡ []
entry_passes p t e a = let d = a.dashes in let l = a.long in let s = a.short in rw (d, l, s) refl

-- The walk over the program, the trace and the entry, and then the picks.
crash_walk : (p t e : Text) (ns : List Text) → IsPlain p → IsPlain t → IsPlain e
    → walk crash_shape.rules [] nothing_held (p ∷ t ∷ e ∷ ns)
    ≡ fold (walked crash_shape.rules []) (crash_first p t e) ns
crash_walk p t e ns is_p is_t is_e =
    ap (λ w. fold (walked crash_shape.rules []) (walked crash_shape.rules [] (walked crash_shape.rules [] w t) e) ns) (to_program p is_p)
    ∙ ap (λ w. fold (walked crash_shape.rules []) (walked crash_shape.rules [] w e) ns) (to_trace p t is_t)
    ∙ ap (λ w. fold (walked crash_shape.rules []) w ns) (to_entry p t e is_e)

crash_takes : (p t e : Text) → TakesList crash_shape (crash_first p t e) (crash_one p t e) (crash_more p t e)
unfolding walked
crash_takes p t e = record {
  to_one = λ n a. let d = a.dashes in let l = a.long in let s = a.short in rw (d, l, s) refl;
  to_two = λ n m a. let d = a.dashes in let l = a.long in let s = a.short in rw (d, l, s) refl;
  to_more = λ ns n m a. let d = a.dashes in let l = a.long in let s = a.short in rw (d, l, s) refl;
  one_passes = λ n a. let d = a.dashes in let l = a.long in let s = a.short in rw (d, l, s) refl;
  two_passes = λ n m a. let d = a.dashes in let l = a.long in let s = a.short in rw (d, l, s) refl;
  more_passes = λ ns n m a. let d = a.dashes in let l = a.long in let s = a.short in rw (d, l, s) refl;
}

-- The rows that the walk of `crash` ends with, if nothing fails after it.
abbrev crash_rows : Walk → Option (List Row)
crash_rows w =
    where_none
    (or_else (entered_fault (built crash_app) w.stopped)
    (or_else (settle_fault crash_shape.rules crash_shape.args_override_self w.held)
    (or_else (defaults_fault (settled crash_shape.rules w.held).rows crash_shape.rules)
    (check_fault crash_shape (finished crash_shape.rules w.held) (is_some (entered (built crash_app) w.stopped))))))
    (finished crash_shape.rules w.held)

crash_reads : (words : List Text) → walk_fault crash_shape [] (walk_from nothing_held) words ≡ []
    → reads crash_app (codes "crash" ∷ words) ≡ crash_rows (walk crash_shape.rules [] nothing_held words)
unfolding reads
crash_reads words passes =
    ap (λ kinds. where_none
    (or_else kinds
    (or_else (entered_fault (built crash_app) (walk crash_shape.rules [] nothing_held words).stopped)
    (or_else (settle_fault crash_shape.rules crash_shape.args_override_self (walk crash_shape.rules [] nothing_held words).held)
    (or_else (defaults_fault (settled crash_shape.rules (walk crash_shape.rules [] nothing_held words).held).rows crash_shape.rules)
    (check_fault crash_shape (finished crash_shape.rules (walk crash_shape.rules [] nothing_held words).held)
    (is_some (entered (built crash_app) (walk crash_shape.rules [] nothing_held words).stopped)))))))
    (finished crash_shape.rules (walk crash_shape.rules [] nothing_held words).held)) passes

abbrev crash_order : Text → Text → Text → List Text → Option Order
crash_order p t e ns =
    option_and_then (λ entry. option_map (λ picks. Crash p t entry picks) (picks_of ns)) (decimal_of e)

crash_ends : (p t e : Text) (ns : List Text) → list_all is_plain ns ≡ true
    → option_and_then crash_in (crash_rows (fold (walked crash_shape.rules []) (crash_first p t e) ns)) ≡ crash_order p t e ns
unfolding defaults_fault
crash_ends p t e ns plain =
    list_ends (crash_takes p t e) (λ xs w. option_and_then crash_in (crash_rows w) ≡ crash_order p t e xs) refl (λ n. refl)
    (λ ms n. refl) ns plain

crash_passes : (p t e : Text) (ns : List Text) → IsPlain p → IsPlain t → IsPlain e → list_all is_plain ns ≡ true
    → walk_fault crash_shape [] (walk_from nothing_held) (p ∷ t ∷ e ∷ ns) ≡ []
unfolding walk_fault
crash_passes p t e ns is_p is_t is_e plain =
    ap (λ kinds. or_else kinds (walk_fault crash_shape [] (walked crash_shape.rules [] (walk_from nothing_held) p) (t ∷ e ∷ ns))) (program_passes p is_p)
    ∙ ap (λ w. walk_fault crash_shape [] w (t ∷ e ∷ ns)) (to_program p is_p)
    ∙ ap (λ kinds. or_else kinds (walk_fault crash_shape [] (walked crash_shape.rules [] (after_program p) t) (e ∷ ns))) (trace_passes p t is_t)
    ∙ ap (λ w. walk_fault crash_shape [] w (e ∷ ns)) (to_trace p t is_t)
    ∙ ap (λ kinds. or_else kinds (walk_fault crash_shape [] (walked crash_shape.rules [] (after_trace p t) e) ns)) (entry_passes p t e is_e)
    ∙ ap (λ w. walk_fault crash_shape [] w ns) (to_entry p t e is_e) ∙ list_passes (crash_takes p t e) ns plain

-- `crash`, a program, a trace, an entry and picks.
pub crashes_plain : CrashesArePlain
unfolding order verb_of
crashes_plain p t e ns a b c plain =
    let is_p = plain_word p a in
    let is_t = plain_word t b in
    let is_e = plain_word e c in
    ap (option_and_then crash_in) (crash_reads (p ∷ t ∷ e ∷ ns) (crash_passes p t e ns is_p is_t is_e plain))
    ∙ ap (λ w. option_and_then crash_in (crash_rows w)) (crash_walk p t e ns is_p is_t is_e) ∙ crash_ends p t e ns plain
