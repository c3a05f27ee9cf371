use Rattle.std.proofs.Common.{refl, inl}
use Rattle.hip_io.specs.declared.sink.Put.TheVariants.{Done}
use Rattle.hip_tool.proofs.call_end.close.Goals as goal

pub returns-in-Done : goal.returns-in-Done
returns-in-Done g c = record {
  closes = record {
    put = Done;
    sent = g.N.Sink.state c.deliver.new.self;
    tried = c.in-Done.ensures.nothing;
    ends = (refl, refl);
  };
  sent = inl (c.in-Done.ensures.all refl);
}
