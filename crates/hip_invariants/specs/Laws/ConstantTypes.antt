-- A constant that has the shape of a scalar type has a value that fits the type; addresses of globals are below 2^64.
use Rattle.std.proofs.Common.{◌≡◌, ℕ, ◌+◌, ◌≤◌, ◌<◌, ◌^◌, Bool, true, false, List, map, Option, Some, None, option_map, refl, sym, ap, ◌∙◌, arith}
use Rattle.std.specs.Prelude.{unwrap_or, if◌then◌else◌}
use Rattle.std.proofs.Math.Nat.{mod-lt}
use Rattle.hip_types.specs.Laws.LayoutLaws.{next-le}
use Rattle.hip_types.specs.Numbers.{modulus, modulus_pos}
use Rattle.hip_types.specs.declared.number.Scalar.{Scalar}
use Rattle.hip_types.specs.declared.number.Scalar.TheVariants.{Int, Ptr}
use Rattle.hip_types.specs.declared.number.Width.{Width}
use Rattle.hip_types.specs.declared.ty.Ty.{Ty}
use Rattle.hip_types.specs.declared.ty.Ty.TheVariants as types
use Rattle.hip_tree.specs.Laws.Levels.{out-Ty-Int, out-Ty-Ptr}
use Rattle.hip_tree.specs.declared.constant.Const.{Const, out-Const, roll-Const, roll-out-Const}
use Rattle.hip_tree.specs.declared.constant.Const.TheOpen.{Const-F}
use Rattle.hip_tree.specs.declared.constant.Const.TheFolds.{fold-roll-Const, fold_out-ConstGep}
use Rattle.hip_tree.specs.declared.constant.ConstGep.{ConstGep}
use Rattle.hip_tree.specs.declared.constant.TypedConst.{TypedConst}
use Rattle.hip_tree.specs.declared.program.Program.{Program}
use Rattle.hip_types.specs.Areas.{volatile_start}
use Rattle.hip_names.specs.Names.{number_of}
use Rattle.hip_globals.specs.Addresses.{IsBase, end_of, start_of, is_persistent, address_in}
use Rattle.hip_sound.specs.Constants.{has_shape}
use Rattle.hip_globals.specs.Laws.AddressLaws.{end_of-from}
use Rattle.hip_sound.specs.Laws.SpelledLaws.{spelled-divide}
use Rattle.hip_sound.specs.Laws.TypeLaws.{same_width-equal}
use Rattle.hip_grammar.specs.Words.{type_of}
use Rattle.hip_sound.specs.Types.{same_width}
use Rattle.hip_sound.specs.Sound.{IsSound}
use Rattle.hip_globals.specs.Values.{Written, global_address, gep_address, const_value}
use Rattle.hip_types.specs.Scalars.{width_of}
use Rattle.hip_invariants.specs.Laws.GlobalAddresses.{start_before_end}

module _ (P : Program) (s : IsSound P) (base : ℕ) (is_base : IsBase base) where
  region_low : end_of true base P.globals ≤ 2 ^ 46 + 67108864
  region_low =
      let zero_end : base + 0 ≡ base = omega arith in
      let moved : end_of true base P.globals ≡ base + end_of true 0 P.globals =
      ap (λ n. end_of true n P.globals) (sym zero_end)
      ∙ end_of-from true base 0 P.globals is_base.page (spelled-divide P s.spelled) in
      omega (arith, moved, is_base.high, s.sizes.region, next-le (end_of true 0 P.globals) 64)

  in_low : (k : ℕ) (t : Bool) → is_persistent P.globals k ≡ t
      → (if t then start_of true base P.globals k else start_of false volatile_start P.globals k) < 2 ^ 64
  in_low k true e = omega (arith, start_before_end true base P.globals k e, region_low)
  in_low k false e = omega (arith, start_before_end false volatile_start P.globals k e, s.sizes.volatile)

  pub address_fits : (name : List ℕ) → global_address P.globals base name < 2 ^ 64
  address_fits name = go (number_of (map (λ g. g.name) P.globals) name)
    where
      go : (o : Option ℕ) → unwrap_or (option_map (address_in P.globals base) o) 0 < 2 ^ 64
      go None = omega arith
      go (Some k) = in_low k (is_persistent P.globals k) refl

  -- ---- constants

  value_is : (c : Const) (y : Const-F Const ConstGep TypedConst) → out-Const c ≡ y
      → const_value P.globals base c ≡ const_value P.globals base (roll-Const y)
  value_is c y q = ap (const_value P.globals base) (sym (roll-out-Const c) ∙ ap roll-Const q)

  shape_is : (c : Const) (y : Const-F Const ConstGep TypedConst) (t : Ty) → out-Const c ≡ y
      → has_shape c t ≡ has_shape (roll-Const y) t
  shape_is c y t q = ap (λ x. has_shape x t) (sym (roll-out-Const c) ∙ ap roll-Const q)

  none_below : (w : Width) (n : ℕ) → n ≡ 0 → n < modulus w
  none_below w n e = omega (arith, modulus_pos w, e)

  pub constant_fits : (c : Const) (ty : Scalar) → has_shape c (type_of ty) ≡ true
      → const_value P.globals base c < modulus (width_of ty)
  constant_fits c ty h = go (out-Const c) refl ty h
    where
      go : (y : Const-F Const ConstGep TypedConst) → out-Const c ≡ y → (ty : Scalar)
          → has_shape c (type_of ty) ≡ true → const_value P.globals base c < modulus (width_of ty)
      go (Const-F.Int b) q (Int w) h =
          let is : const_value P.globals base c ≡ b.value = value_is c (Const-F.Int b) q
          ∙ ap (λ (x : Written). x.value) (fold-roll-Const _ _ _ _ _ _ _) in
          let shaped : same_width b.width w ≡ true =
          rw (out-Ty-Int w) at (sym (shape_is c (Const-F.Int b) (types.Int w) q
          ∙ ap (λ (g : Ty → Bool). g (types.Int w)) (fold-roll-Const _ _ _ _ _ _ _)) ∙ h) in
          rw (is, ← same_width-equal b.width w shaped) b.in_range
      go (Const-F.Int b) q Ptr h =
          let shaped : false ≡ true = rw out-Ty-Ptr at
          (sym (shape_is c (Const-F.Int b) types.Ptr q
          ∙ ap (λ (g : Ty → Bool). g types.Ptr) (fold-roll-Const _ _ _ _ _ _ _)) ∙ h) in
          cc
      go (Const-F.Address name) q Ptr h =
          let is : const_value P.globals base c ≡ global_address P.globals base name =
          value_is c (Const-F.Address name) q ∙ ap (λ (x : Written). x.value) (fold-roll-Const _ _ _ _ _ _ _) in
          rw is (address_fits name)
      go (Const-F.Address name) q (Int w) h =
          let shaped : false ≡ true = rw (out-Ty-Int w) at
          (sym (shape_is c (Const-F.Address name) (types.Int w) q
          ∙ ap (λ (g : Ty → Bool). g (types.Int w)) (fold-roll-Const _ _ _ _ _ _ _)) ∙ h) in
          cc
      go Const-F.Null q ty h = none_below (width_of ty) _
          (value_is c Const-F.Null q ∙ ap (λ (x : Written). x.value) (fold-roll-Const _ _ _ _ _ _ _))
      go Const-F.Zero q ty h = none_below (width_of ty) _
          (value_is c Const-F.Zero q ∙ ap (λ (x : Written). x.value) (fold-roll-Const _ _ _ _ _ _ _))
      go (Const-F.Gep gep) q Ptr h =
          let is : const_value P.globals base c ≡ gep_address (global_address P.globals base) gep =
          value_is c (Const-F.Gep gep) q ∙ ap (λ (x : Written). x.value) (fold-roll-Const _ _ _ _ _ _ _) in
          rw (is, fold_out-ConstGep) (mod-lt _ (let k : 0 < 2 ^ 64 = omega arith in k))
      go (Const-F.Gep gep) q (Int w) h =
          let shaped : false ≡ true = rw (out-Ty-Int w) at
          (sym (shape_is c (Const-F.Gep gep) (types.Int w) q
          ∙ ap (λ (g : Ty → Bool). g (types.Int w)) (fold-roll-Const _ _ _ _ _ _ _)) ∙ h) in
          cc
      go (Const-F.Array items) q ty h = none_below (width_of ty) _
          (value_is c (Const-F.Array items) q ∙ ap (λ (x : Written). x.value) (fold-roll-Const _ _ _ _ _ _ _))
      go (Const-F.Struct items) q ty h = none_below (width_of ty) _
          (value_is c (Const-F.Struct items) q ∙ ap (λ (x : Written). x.value) (fold-roll-Const _ _ _ _ _ _ _))
