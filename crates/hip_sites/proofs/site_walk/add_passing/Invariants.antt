use Rattle.std.proofs.Common.{◌≡◌, ◌++◌, drop}
use Rattle.hip_sites.specs.SiteWalk.{passing_in_blocks}
use Rattle.hip_sites.proofs.site_walk.add_passing.Given as goal

abbrev pub invariant-each : goal.invariant-each
invariant-each g l =
    let test = g.T.InstrTest.test l.test in
    l.sites ++ passing_in_blocks test l.function l.block (drop l.block l.blocks)
    ≡ l.initial.sites ++ passing_in_blocks test l.function 0 l.blocks
