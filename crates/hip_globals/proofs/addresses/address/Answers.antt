use Rattle.std.proofs.Common.{ℕ, ◌≡◌, ◌+◌, ◌%◌, ◌<◌, ◌^◌, true, false, length, ap, arith, sym, subst, ◌∙◌, List}
use Rattle.std.specs.Prelude.{if◌then◌else◌}
use Rattle.hip_tree.specs.declared.program.GlobalVar.{GlobalVar}
use Rattle.hip_tree.specs.declared.program.Program.{Program}
use Rattle.hip_types.specs.Areas.{volatile_start}
use Rattle.hip_types.specs.declared.limits.TheConstants.{BASE_ALIGNMENT}
use Rattle.hip_globals.specs.Addresses.{AllDivide, start_of, end_of, is_persistent}
use Rattle.hip_globals.specs.Laws.AddressLaws.{start_of-from, end_of-from}
use Rattle.hip_globals.proofs.AddressLemmas.{is_persistent-at, start_of-le}
use Rattle.hip_globals.proofs.addresses.address.Goals as goal

moved_end : (P : Program) (base : ℕ) → base % BASE_ALIGNMENT ≡ 0 → AllDivide P.globals → end_of true base P.globals ≡ base + end_of true 0 P.globals
moved_end P base page aligned =
    let none : base + 0 ≡ base = omega arith in
    sym (ap (λ n. end_of true n P.globals) none) ∙ end_of-from true base 0 P.globals page aligned

pub start_of-requires-clause-fit : goal.start_of-requires-clause-fit
start_of-requires-clause-fit c = rw c.as_slice-globals.ensures c.requires.fit

pub start_of-requires-clause-one : goal.start_of-requires-clause-one
start_of-requires-clause-one c =
    let gs = c.as_slice-globals.result.now in
    let g = c.index-globals-number.result in
    let there : c.args.number < length gs = rw c.as_slice-globals.ensures c.requires.there in
    sym (is_persistent-at gs c.args.number g there c.index-globals-number.is ∙ ap (λ (x : GlobalVar). x.persistent) c.index-globals-number.is ∙ c.if-globals-number.true)

pub start_of-requires-clause-end : goal.start_of-requires-clause-end
start_of-requires-clause-end c =
    let moved = moved_end c.args.program.now c.args.base c.requires.base c.requires.aligned in
    rw c.as_slice-globals.ensures (omega (arith, moved, c.requires.persistent))

pub overflow_add-result : goal.overflow_add-result
overflow_add-result c =
    let gs = c.as_slice-globals.result.now in
    let g = c.index-globals-number.result in
    let there : c.args.number < length gs = rw c.as_slice-globals.ensures c.requires.there in
    let one = is_persistent-at gs c.args.number g there c.index-globals-number.is ∙ ap (λ (x : GlobalVar). x.persistent) c.index-globals-number.is ∙ c.if-globals-number.true in
    let before = start_of-le true 0 gs c.args.number there one in
    let moved : end_of true c.args.base gs ≡ c.args.base + end_of true 0 gs = rw c.as_slice-globals.ensures (moved_end c.args.program.now c.args.base c.requires.base c.requires.aligned) in
    let end : end_of true c.args.base gs < 2 ^ 64 = rw c.as_slice-globals.ensures c.requires.persistent in
    omega (arith, before, end, moved, c.start_of.ensures)

pub start_of-requires-else-globals-number-clause-fit : goal.start_of-requires-else-globals-number-clause-fit
start_of-requires-else-globals-number-clause-fit c = rw c.as_slice-globals.ensures c.requires.fit

pub start_of-requires-else-globals-number-clause-one : goal.start_of-requires-else-globals-number-clause-one
start_of-requires-else-globals-number-clause-one c =
    let gs = c.as_slice-globals.result.now in
    let g = c.index-globals-number.result in
    let there : c.args.number < length gs = rw c.as_slice-globals.ensures c.requires.there in
    sym (is_persistent-at gs c.args.number g there c.index-globals-number.is ∙ ap (λ (x : GlobalVar). x.persistent) c.index-globals-number.is ∙ c.if-globals-number.false)

pub returns-then-globals-number : goal.returns-then-globals-number
returns-then-globals-number c =
    let gs = c.as_slice-globals.result.now in
    let g = c.index-globals-number.result in
    let P = c.args.program.now in
    let there : c.args.number < length gs = rw c.as_slice-globals.ensures c.requires.there in
    let one = is_persistent-at gs c.args.number g there c.index-globals-number.is ∙ ap (λ (x : GlobalVar). x.persistent) c.index-globals-number.is ∙ c.if-globals-number.true in
    let persistent : is_persistent P.globals c.args.number ≡ true = subst (λ (xs : List GlobalVar). is_persistent xs c.args.number ≡ true) c.as_slice-globals.ensures one in
    let moved = start_of-from true c.args.base 0 P.globals c.args.number c.requires.base c.requires.aligned in
    let base : c.args.base + 0 ≡ c.args.base = omega arith in
    let started : c.start_of.result ≡ start_of true 0 P.globals c.args.number = c.start_of.ensures ∙ ap (λ (xs : List GlobalVar). start_of true 0 xs c.args.number) c.as_slice-globals.ensures in
    ap (λ n. c.args.base + n) started ∙ sym moved ∙ ap (λ n. start_of true n P.globals c.args.number) base
    ∙ sym (ap (λ b. if b then start_of true c.args.base P.globals c.args.number else start_of false volatile_start P.globals c.args.number) persistent)

pub returns-else-globals-number : goal.returns-else-globals-number
returns-else-globals-number c =
    let gs = c.as_slice-globals.result.now in
    let g = c.index-globals-number.result in
    let P = c.args.program.now in
    let there : c.args.number < length gs = rw c.as_slice-globals.ensures c.requires.there in
    let one = is_persistent-at gs c.args.number g there c.index-globals-number.is ∙ ap (λ (x : GlobalVar). x.persistent) c.index-globals-number.is ∙ c.if-globals-number.false in
    let persistent : is_persistent P.globals c.args.number ≡ false = subst (λ (xs : List GlobalVar). is_persistent xs c.args.number ≡ false) c.as_slice-globals.ensures one in
    let started : c.start_of-else-globals-number.result ≡ start_of false volatile_start P.globals c.args.number = c.start_of-else-globals-number.ensures ∙ ap (λ (xs : List GlobalVar). start_of false volatile_start xs c.args.number) c.as_slice-globals.ensures in
    started ∙ sym (ap (λ b. if b then start_of true c.args.base P.globals c.args.number else start_of false volatile_start P.globals c.args.number) persistent)
