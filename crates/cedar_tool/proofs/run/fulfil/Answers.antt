use Rattle.std.proofs.Common.{Ok, map}
use Rattle.cedar_tool.specs.declared.streams.WriterState.TheVariants as writer
use Rattle.cedar_tool.proofs.Stopping.{answered_ends, left_ok}
use Rattle.cedar_tool.proofs.run.fulfil.Goals as goal

pub returns-clause-ends : goal.returns-clause-ends
returns-clause-ends g c =
    answered_ends c.args.request.now _ (map (λ name. name.now) c.args.names.now) c.in_ok-verdict.verdict _ _ _ _ _ _ c.in_ok-verdict.ensures.treated c.flush.ensures.kept
    (left_ok writer.Flushed _ _ (Ok c.in_ok-flush.field-0) c.in_ok-flush.ensures.left) c.in_ok-verdict.ensures.said
