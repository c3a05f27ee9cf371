use Rattle.std.proofs.Common.{◌≡◌, List, ◌∷◌, [], ◌++◌, map, take, Bool, ap, ◌∙◌, subst, arith}
use Rattle.std.proofs.Math.Path.{fun_ext}
use Rattle.hip_tree.specs.declared.program.GlobalVar.{GlobalVar}
use Rattle.hip_names.specs.Tables.{Entry, TableStandsFor}
use Rattle.hip_vol.proofs.ConstantLevels.{entry_of, entries_next, take_whole, globals_stated}
use Rattle.hip_vol.proofs.constants.persistence_table.Goals as goal

pub each-preserved : goal.each-preserved
each-preserved c =
    let gs = c.args.globals.now in
    let g = c.global-item.result in
    let k = c.each.global-index in
    let added : Entry Bool = record { name = c.as_slice.result.now; value = g.persistent } in
    let same : added ≡ entry_of g = λ i. record { name = c.as_slice.ensures i; value = g.persistent } in
    subst (TableStandsFor c.add.new.self.names c.add.new.self.values) (ap (λ (e : Entry Bool). map entry_of (take k gs) ++ e ∷ []) same ∙ entries_next gs k g c.each-test.true c.global-item.is)
    (c.in_ok-add.ensures.ok (map entry_of (take k gs)) c.each.invariant)

pub returns : goal.returns
returns c =
    let gs = c.args.globals.now in
    let all : take c.each.global-index gs ≡ gs = take_whole gs c.each.global-index (omega arith) in
    fun_ext (λ name. globals_stated c.each.table.names c.each.table.values gs (subst (λ (xs : List GlobalVar). TableStandsFor c.each.table.names c.each.table.values (map entry_of xs)) all c.each.invariant) name)
