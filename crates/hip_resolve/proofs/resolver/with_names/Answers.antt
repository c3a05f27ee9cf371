use Rattle.std.proofs.Common.{List, length, subst, sym}
use Rattle.hip_code.specs.Entries.{entry}
use Rattle.hip_code.specs.Frames.{names_at}
use Rattle.hip_code.specs.Numbers.{Tables}
use Rattle.hip_code.specs.Whole.{IsCodeOf}
use Rattle.hip_code.specs.declared.op.Op.{Op}
use Rattle.hip_scope.specs.Grown.{grown}
use Rattle.hip_scope.specs.Scopes.{OfFunctions}
use Rattle.hip_resolve.proofs.Fronts.{front_whole}
use Rattle.hip_resolve.proofs.resolver.with_names.Goals as goal

pub returns : goal.returns
returns c = record {
  on = λ I e.
      let P = c.args.program.now in
      let made = c.in_ok-made.made in
      let whole = c.in_ok-made.ensures in
      record {
        ops = subst (λ (t : Tables). IsCodeOf P I c.code_of.result.ops.items t) (sym c.code_of.ensures.tables)
            (subst (λ (xs : List Op). IsCodeOf P I xs (grown made.tables)) (sym c.code_of.ensures.ops)
            (front_whole P c.args.base made.ops (grown made.tables) I whole.front whole.count e));
        functions = record {
          starts = (subst (λ xs. OfFunctions P xs (λ g. entry P g 0)) (sym c.code_of.ensures.starts) c.in_ok-starts.ensures).at;
          sizes = (subst (λ xs. OfFunctions P xs (λ g. length (names_at P g))) (sym c.code_of.ensures.sizes) c.in_ok-sizes.ensures).at;
        };
      };
}
