use Rattle.std.proofs.Common.{ℕ, length, sym, ap, arith}
use Rattle.std.proofs.lemmas.List.{length-drop}
use Rattle.hip_trace.proofs.write.EntryLine.put_hexadecimal.Goals as goal

pub prefix_before-self-inside-requires-clause-room : goal.prefix_before-self-inside-requires-clause-room
prefix_before-self-inside-requires-clause-room c =
    let before = ap length (sym c.self.view_is) in
    omega (arith, before, c.requires, c.digits_before-at.ensures.few, length-drop {A = ℕ})

pub returns-clause-length : goal.returns-clause-length
returns-clause-length c =
    let before = ap length (sym c.self.view_is) in
    rw c.prefix_before-self-inside.ensures.text (omega (arith, before, c.digits_before-at.ensures.length))
