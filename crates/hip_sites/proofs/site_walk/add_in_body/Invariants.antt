use Rattle.std.proofs.Common.{◌≡◌, ◌++◌, drop}
use Rattle.hip_sites.specs.SiteWalk.{passing_in_body}
use Rattle.hip_sites.proofs.site_walk.add_in_body.Given as goal

abbrev pub invariant-each : goal.invariant-each
invariant-each g l =
    let test = g.T.InstrTest.test l.test in
    l.sites ++ passing_in_body test l.function l.block l.index (drop l.index l.body)
    ≡ l.initial.sites ++ passing_in_body test l.function l.block 0 l.body
