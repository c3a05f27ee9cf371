use Rattle.std.proofs.Common.{◌≡◌, ◌+◌, ◌%◌, ◌^◌, Some, None, slice_get, refl, sym, subst, ap, ◌∙◌}
use Rattle.std.specs.Option.{option_copied}
use Rattle.hip_types.specs.declared.ty.Ty.TheViews.{Array}
use Rattle.hip_instr_ops.specs.Fields.{IsField}
use Rattle.hip_instr_ops.proofs.Indices.{struct_field, enters_array, enters_field, field_there, struct_with, field_fits, entered_field}
use Rattle.hip_instr_ops.proofs.path.enter.Goals as goal

pub field_number-number-requires : goal.field_number-number-requires
field_number-number-requires c =
    subst (λ fs. IsField fs c.args.arg.now.value) (sym c.as_slice.ensures) (struct_field c.in-Struct.fields _ _ c.in-Struct.is c.requires.entered)

pub returns-in_ok-step_over-in-Array-clause-enters : goal.returns-in_ok-step_over-in-Array-clause-enters
returns-in_ok-step_over-in-Array-clause-enters c = enters_array _ _ _ c.in-Array.field-0 _ _ _ _ (c.in-Array.is ∙ ap (Array c.in-Array.field-0) (sym c.get-item.ensures)) c.small_size.ensures c.in_ok-step_over-in-Array.ensures

pub field_offset-requires-clause-field : goal.field_offset-requires-clause-field
field_offset-requires-clause-field c =
    let here : slice_get c.in-Struct.fields c.field_number-number.result ≡ Some c.in-Some.field.now = sym c.get.ensures ∙ ap option_copied c.in-Some.is in
    struct_with c.in-Struct.fields _ _ _ c.in-Struct.is here

pub unreachable-requires : goal.unreachable-requires
unreachable-requires c =
    let f = field_there c.in-Struct.fields c.args.arg.now.value c.field_number-number.result (struct_field c.in-Struct.fields _ _ c.in-Struct.is c.requires.entered) c.field_number-number.ensures in
    let none : slice_get c.in-Struct.fields c.field_number-number.result ≡ None = sym c.get.ensures ∙ ap option_copied c.in-None.is in
    let there = f.1 in
    cc (none, there)

pub returns-in-Some-clause-part : goal.returns-in-Some-clause-part
returns-in-Some-clause-part c =
    let f = field_there c.in-Struct.fields c.args.arg.now.value c.field_number-number.result (struct_field c.in-Struct.fields _ _ c.in-Struct.is c.requires.entered) c.field_number-number.ensures in
    let here : slice_get c.in-Struct.fields c.field_number-number.result ≡ Some c.in-Some.field.now = sym c.get.ensures ∙ ap option_copied c.in-Some.is in
    entered_field c.in-Struct.fields _ _ _ c.in-Struct.is (f.2 ∙ (sym f.1 ∙ here))

pub returns-in-Some-clause-fits : goal.returns-in-Some-clause-fits
returns-in-Some-clause-fits c =
    let here : slice_get c.in-Struct.fields c.field_number-number.result ≡ Some c.in-Some.field.now = sym c.get.ensures ∙ ap option_copied c.in-Some.is in
    field_fits c.in-Struct.fields _ _ _ c.in-Struct.is here c.requires.fits

pub returns-in-Some-clause-enters : goal.returns-in-Some-clause-enters
returns-in-Some-clause-enters c =
    let here : slice_get c.in-Struct.fields c.field_number-number.result ≡ Some c.in-Some.field.now = sym c.get.ensures ∙ ap option_copied c.in-Some.is in
    enters_field _ _ _ c.in-Struct.fields _ _ _ _ c.in-Struct.is c.field_number-number.ensures here c.requires.spelled
    (ap (λ z. (c.args.path.now.offset + z) % 2 ^ 64) c.field_offset.ensures) refl
