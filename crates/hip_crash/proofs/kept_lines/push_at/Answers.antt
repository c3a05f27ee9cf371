use Rattle.hip_crash.specs.Kept.{with_store}
use Rattle.hip_lines.specs.Laws.ItemLaws.{get-read, on_ok_map}
use Rattle.hip_crash.proofs.Placed.{changes-set, on_err_map}
use Rattle.hip_crash.proofs.kept_lines.push_at.Goals as goal

pub returns-clause-ok : goal.returns-clause-ok
returns-clause-ok c = on_ok_map c.push.result (λ e. changes-set (with_store c.args.stored) c.args.lines.now.items c.args.place c.index_mut-line.result.now c.push.new.self c.requires.within (get-read c.args.lines.now.items c.args.place c.index_mut-line.result.now c.requires.within c.index_mut-line.ensures.value) c.push.ensures.line e) c.push.ensures.ok

pub returns-clause-err : goal.returns-clause-err
returns-clause-err c = on_err_map c.push.result (λ e. changes-set (λ k. k) c.args.lines.now.items c.args.place c.index_mut-line.result.now c.push.new.self c.requires.within (get-read c.args.lines.now.items c.args.place c.index_mut-line.result.now c.requires.within c.index_mut-line.ensures.value) c.push.ensures.line e) c.push.ensures.err
