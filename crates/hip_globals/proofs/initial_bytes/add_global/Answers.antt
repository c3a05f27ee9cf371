use Rattle.std.proofs.Common.{◌≡◌, ap, ◌∙◌}
use Rattle.hip_types.specs.Layout.{size_of}
use Rattle.hip_globals.specs.Addresses.{global_align}
use Rattle.hip_globals.specs.AddressesSeen.{address_beside}
use Rattle.hip_globals.specs.Constants.{types_in}
use Rattle.hip_globals.specs.Values.{aligned, written}
use Rattle.hip_globals.proofs.ByteLists.{others_fit, sized_after, aligned_whole}
use Rattle.hip_globals.proofs.initial_bytes.add_global.Goals as goal

pub push_constant-requires : goal.push_constant-requires
push_constant-requires c = others_fit c.args.global.now.ty (types_in c.args.global.now.init) c.requires

pub returns : goal.returns
returns c =
    let a = address_beside c.args.addresses.now in
    let g = c.args.global.now in
    let first : c.set_align.new.bytes ≡ aligned c.args.start (global_align g) c.args.bytes.now =
    c.in_ok-set_align.ensures ∙ aligned_whole c.args.start c.alignment.result c.args.bytes.now ∙ ap (λ n. aligned c.args.start n c.args.bytes.now) c.alignment.ensures.value in
    rw (← first, ← sized_after c.set_align.new.bytes (written a g.init).bytes c.push_constant.new.bytes c.len-len.result c.size.result (size_of g.ty) c.in_ok-push_constant.ensures c.len-len.ensures c.size.ensures) c.set_size.ensures
