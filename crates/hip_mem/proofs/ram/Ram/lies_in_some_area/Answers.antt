use Rattle.std.proofs.Common.{◌≡◌, IsTrue, ◌↔◌, true, false, Bool, inl, inr, refl}
use Rattle.hip_mem.proofs.RamCalls.{valid_where, valid_last}
use Rattle.hip_mem.proofs.ram.Ram.lies_in_some_area.Goals as goal

holds : (b : Bool) (P : Type 0) → (IsTrue b ↔ P) → b ≡ true → P
holds true P t e = t.0 refl
holds false P t e = absurd (let z : ⊥ = cc in z)

fails : (b : Bool) (P : Type 0) → (IsTrue b ↔ P) → b ≡ false → P → ⊥
fails true P t e p = let z : ⊥ = cc in z
fails false P t e p = let y = t.1 p in let z : ⊥ = cc in z

pub returns-then-lies_in : goal.returns-then-lies_in
returns-then-lies_in c = valid_where c.self.inside c.args.self.now c.args.addr c.args.size c.self.view_is (inl (holds c.lies_in.result _ c.lies_in.ensures c.if-lies_in.true))

pub returns-then-lies_in-2 : goal.returns-then-lies_in-2
returns-then-lies_in-2 c = valid_where c.self.inside c.args.self.now c.args.addr c.args.size c.self.view_is (inr (inl (holds c.lies_in-2.result _ c.lies_in-2.ensures c.if-lies_in-2.true)))

pub returns : goal.returns
returns c = valid_last c.self.inside c.args.self.now c.args.addr c.args.size c.lies_in-3.result c.self.view_is c.self.invariant c.requires (fails c.lies_in.result _ c.lies_in.ensures c.if-lies_in.false) (fails c.lies_in-2.result _ c.lies_in-2.ensures c.if-lies_in-2.false) c.lies_in-3.ensures
