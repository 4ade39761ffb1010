use Rattle.std.proofs.Common.{refl, ap}
use Rattle.cedar_tool.specs.Streams.{output_writer}
use Rattle.cedar_tool.proofs.Stopping.{treated_input, treated_unread}
use Rattle.cedar_tool.proofs.Speaking.{failed_by}
use Rattle.cedar_tool.proofs.serve.serve_input.Goals as goal

pub returns-in-Ok-clause-treated : goal.returns-in-Ok-clause-treated
returns-in-Ok-clause-treated g c =
    treated_input c.args.request.now _ c.as_slice.result.now c.serve_bytes.result _ (rw c.as_slice.ensures.value c.in-Ok.ensures.bytes) c.serve_bytes.ensures.served

pub returns-in-Err-clause-treated : goal.returns-in-Err-clause-treated
returns-in-Err-clause-treated g c =
    treated_unread c.args.request.now _ c.in-Err.error c.fail.result _ _ c.in-Err.ensures.err refl (ap (λ o. g.O.Write.contents (output_writer o)) c.fail.ensures.output) c.fail.ensures.verdict

pub returns-in-Err-clause-said : goal.returns-in-Err-clause-said
returns-in-Err-clause-said g c =
    failed_by c.args.request.now.format c.args.console.now.errors c.fail.new.console.errors _ c.fail.result c.fail.ensures.verdict c.fail.ensures.said
