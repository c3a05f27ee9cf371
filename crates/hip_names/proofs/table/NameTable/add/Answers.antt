use Rattle.std.proofs.Common.{◌≡◌, ◌++◌, ◌∷◌, [], take, not, Bool, true, false, refl, sym, ap, ◌∙◌}
use Rattle.std.proofs.Math.Seq.{take-append_seam}
use Rattle.hip_names.specs.Names.{is_among}
use Rattle.hip_names.specs.Laws.TableLaws.{entry_added, entry_kept}
use Rattle.hip_names.proofs.table.NameTable.add.Goals as goal

is_there : (b : Bool) → not b ≡ false → b ≡ true
is_there true e = refl
is_there false e = cc

pub returns-in-Ok-true-clause-ok : goal.returns-in-Ok-true-clause-ok
returns-in-Ok-true-clause-ok g c = λ entries stands.
    rw (c.in-Ok-true.ensures.names, c.in-Ok-true.field-0-test, c.in_ok-push.ensures.ok)
    (entry_added c.args.self.now.names c.args.self.now.values entries c.args.name.now c.args.value stands)

pub returns-in-Ok-false-clause-ok : goal.returns-in-Ok-false-clause-ok
returns-in-Ok-false-clause-ok g c = λ entries stands.
    let there = is_there (is_among c.args.self.now.names c.args.name.now) (sym c.in-Ok-false.ensures.new ∙ c.in-Ok-false.field-0-test) in
    let kept : c.truncate.new.self ≡ c.args.self.now.values =
    c.truncate.ensures ∙ ap (take c.len-len.result) c.in_ok-push.ensures.ok
    ∙ ap (λ n. take n (c.args.self.now.values ++ c.args.value ∷ [])) c.len-len.ensures ∙ take-append_seam c.args.self.now.values (c.args.value ∷ []) in
    rw (c.in-Ok-false.ensures.names, c.in-Ok-false.field-0-test, kept)
    (entry_kept c.args.self.now.names c.args.self.now.values entries c.args.name.now c.args.value there stands)
