use Rattle.std.proofs.Common.{refl, ap}
use Rattle.cedar_tool.specs.Streams.{output_writer}
use Rattle.cedar_tool.proofs.Serving.{read_by, lacking_by}
use Rattle.cedar_tool.proofs.Speaking.{failed_by}
use Rattle.cedar_tool.proofs.serve.serve_file.Goals as goal

pub returns-in-Ok-clause-tried : goal.returns-in-Ok-clause-tried
returns-in-Ok-clause-tried g c =
    read_by g.D.Disk.files c.args.request.now c.args.name.now c.as_slice.result.now c.args.disk.now c.serve_bytes.new.disk c.serve_bytes.result _ (rw c.as_slice.ensures.value c.in-Ok.ensures.has)
    c.serve_bytes.ensures.served

pub returns-in-Err-clause-tried : goal.returns-in-Err-clause-tried
returns-in-Err-clause-tried g c =
    lacking_by g.D.Disk.files c.args.request.now c.args.name.now c.args.disk.now c.args.disk.now c.in-Err.error c.fail.result _ _ refl (ap (λ o. g.O.Write.contents (output_writer o)) c.fail.ensures.output)
    c.in-Err.ensures.lacks c.fail.ensures.verdict

pub returns-in-Err-clause-said : goal.returns-in-Err-clause-said
returns-in-Err-clause-said g c =
    failed_by c.args.request.now.format c.args.console.now.errors c.fail.new.console.errors _ c.fail.result c.fail.ensures.verdict c.fail.ensures.said
