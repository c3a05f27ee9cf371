use Rattle.std.proofs.Common.{◌≡◌, ◌+◌, ◌∙◌, ap, sym, take, length, arith}
use Rattle.hip_crash.specs.Values.{bytes_after}
use Rattle.hip_crash.specs.Views.{later_in}
use Rattle.hip_crash.specs.declared.values.StoredValue.{StoredValue}
use Rattle.hip_crash.proofs.Reading.{search-more, last-bytes, last-within, last-other}
use Rattle.hip_crash.proofs.views.LineView.find.Goals as goal

pub stores-preserved : goal.stores-preserved
stores-preserved c =
    let none : StoredValue = record { offset = 0; value = 0; size = 0 } in
    search-more c.args.self.now c.args.start c.stores.place c.args.wanted.now c.stores.bytes c.put_value.new.bytes none c.stores-test.true c.stores.invariant c.if-same_bytes.ensures c.put_value.ensures

pub returns-then-same_bytes-3 : goal.returns-then-same_bytes-3
returns-then-same_bytes-3 c =
    let all : c.stores.place ≡ length c.args.self.now.later.now = omega (arith, c.stores-test.false, c.stores.auto.place-end) in
    let same : c.put_value-in-Some.new.bytes ≡ c.args.wanted.now = c.if-same_bytes-3.ensures in (
      omega (arith, all, last-within c.args.self.now c.args.start c.args.wanted.now c.stores.bytes c.stores.place all c.stores.invariant c.if-same_bytes-2.ensures c.in-Some.stored c.in-Some.is c.put_value-in-Some.new.bytes c.put_value-in-Some.ensures),
      ap (λ n. bytes_after (take (n + 1) (later_in c.args.self.now)) c.args.start c.args.self.now.bytes) (sym all)
          ∙ last-bytes c.args.self.now c.args.start c.args.wanted.now c.stores.bytes c.stores.place all c.stores.invariant c.if-same_bytes-2.ensures c.in-Some.stored c.in-Some.is c.put_value-in-Some.new.bytes c.put_value-in-Some.ensures ∙ same,
    )

pub returns-else-same_bytes-3 : goal.returns-else-same_bytes-3
returns-else-same_bytes-3 c =
    let all : c.stores.place ≡ length c.args.self.now.later.now = omega (arith, c.stores-test.false, c.stores.auto.place-end) in
    last-other c.args.self.now c.args.start c.args.wanted.now c.stores.bytes c.stores.place all c.stores.invariant c.if-same_bytes-2.ensures c.in-Some.stored c.in-Some.is c.put_value-in-Some.new.bytes c.put_value-in-Some.ensures c.if-same_bytes-3.ensures
