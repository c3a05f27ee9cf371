-- Repaired texts that can be repaired again.
use Rattle.std.proofs.Common.{◌^◌, ◌<◌, length, arith}
use Rattle.hip_grammar.specs.Show.{show}
use Rattle.hip_repair_answers.specs.Laws.{SecondRepair}
use Rattle.hip_repairs.specs.Choice.{plan_for}
use Rattle.hip_repairs.specs.Direct.{direct}
use Rattle.hip_repair_laws.proofs.Sizes.{stays_small}
use Rattle.hip_repair_laws.specs.Again.{RepairsFit, RepairsTwice}

pub repairs_fit : RepairsFit
repairs_fit P plan skip small =
    let few : length (show P) < 10 ^ 8 = omega (arith, small) in
    let long = stays_small P plan skip few in
    omega (arith, small, long)

pub repairs_twice : SecondRepair → RepairsTwice
repairs_twice second P I found small sound input valid is_found files p t both old new told met =
    second P I found sound input valid is_found files p t
    (record {
      text = both.text;
      fits = repairs_fit P (plan_for P found) (direct P) small;
      trace = both.trace;
      is_trace = both.is_trace;
      lines = both.lines;
    })
    old new told met
