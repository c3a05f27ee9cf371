use Rattle.hip_tool.proofs.CheckedBytes as checks
use Rattle.hip_tool.proofs.Orders.{all_orders}
use Rattle.hip_tool.proofs.Repairs as repairs
use Rattle.hip_tool.proofs.answered.orders_are_answered.Goals as goal

pub returns : goal.returns
returns c = all_orders by bytes c.many_are_one.ensures c.many_are_answered.ensures
  where
    by : repairs.Cited
    by = record {
      local = c.repairs_are_local.ensures;
      harmless = c.repairs_do_no_harm.ensures;
      fenced = c.hoisted_calls_are_fenced.ensures;
      clean = c.repairs_are_clean.ensures;
      steps = c.repairs_take_the_same_steps.ensures;
      again = c.repaired_is_sound.ensures.sound;
      valid = c.inputs_stay_valid.ensures;
      covered = c.hoisted_calls_are_covered.ensures;
      calls = c.stores_under_hoisted_calls_survive.ensures;
      kept = c.chains_of_repairs_add_up.ensures.keep;
      checks = c.repairs_keep_checks.ensures;
      direct = c.direct_stores_stay_outside.ensures;
      low = c.low_stores_stay_outside.ensures;
      reported = c.plans_name_what_is_reported.ensures;
    }

    bytes : checks.Cited
    bytes = record {
      decided = c.checked_bytes_survive_or_are_reported.ensures.decided;
      lost = c.reports_are_of_bytes_that_may_be_lost.ensures;
    }
