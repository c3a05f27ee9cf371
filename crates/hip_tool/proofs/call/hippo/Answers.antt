use Rattle.hip_answers.specs.Answers.{sinks}
use Rattle.hip_command_io.specs.ResultLaws.{delivered_then, fetched_then}
use Rattle.hip_tool.proofs.SentOut.{closed, counts_on, sent_in_call, still_delivered, still_fetched}
use Rattle.hip_tool.proofs.call.hippo.Goals as goal

pub returns-clause-answered : goal.returns-clause-answered
returns-clause-answered g c =
    closed _ _ _ _ (g.S.Sink.state c.args.out.now) (g.S.Sink.state c.answer_words-given.new.out)
    (g.N.Sink.state c.args.notes.now) (g.N.Sink.state c.conclude-status.new.notes) c.conclude-status.result
    (g.N.Sink.state c.close.new.notes) c.close.result
    (c.answer_words-given.ensures.gives.answered _ _ c.conclude-status.result c.conclude-status.ensures) c.close.ensures.closes

pub returns-clause-delivered : goal.returns-clause-delivered
returns-clause-delivered g c = λ none.
    still_delivered c.conclude-status.result (g.N.Sink.state c.conclude-status.new.notes)
    (g.N.Sink.state c.close.new.notes) c.close.result (g.S.Sink.held c.answer_words-given.new.out)
    (delivered_then c.answer_words-given.result _ _ c.conclude-status.result _ (c.answer_words-given.ensures.delivered none)
    c.conclude-status.ensures) c.close.ensures.closes

pub returns-clause-sent : goal.returns-clause-sent
returns-clause-sent g c =
    sent_in_call (g.N.Sink.state c.args.notes.now) (g.N.Sink.state c.conclude-status.new.notes)
    (g.N.Sink.state c.close.new.notes) (g.N.Sink.held c.close.new.notes)
    (counts_on _ _ _ _
    (sinks (g.S.Sink.state c.args.out.now) (g.S.Sink.state c.answer_words-given.new.out)
    (g.N.Sink.state c.args.notes.now) (g.N.Sink.state c.conclude-status.new.notes))
    c.conclude-status.result (c.answer_words-given.ensures.gives.answered _ _ c.conclude-status.result c.conclude-status.ensures))
    c.close.ensures.sent

pub returns-clause-fetches : goal.returns-clause-fetches
returns-clause-fetches g c =
    still_fetched _ _ _ c.conclude-status.result (g.N.Sink.state c.conclude-status.new.notes)
    (g.N.Sink.state c.close.new.notes) c.close.result
    (fetched_then _ c.answer_words-given.result _ _ c.conclude-status.result c.answer_words-given.ensures.fetches
    c.conclude-status.ensures) c.close.ensures.closes
