use Rattle.std.proofs.Common.{[], refl}
use Rattle.cedar_tool.specs.Answers.{TriesAll}
use Rattle.cedar_tool.proofs.Bytes.{unchanged}
use Rattle.cedar_tool.proofs.Serving.{next_tried}
use Rattle.cedar_tool.proofs.Speaking.{one_more}
use Rattle.cedar_tool.proofs.serve.serve_files.Goals as goal

pub loop-name-init : goal.loop-name-init
loop-name-init g c = (([], TriesAll.none c.args.disk.now refl, unchanged _), refl)

pub loop-name-preserved : goal.loop-name-preserved
loop-name-preserved g c =
    let l = c.loop-name in (
      rw c.and-verdict.ensures
          (next_tried g.D.Disk.files c.args.request.now c.args.names.now l.name-index _ c.args.disk.now l.disk c.serve_file.new.disk l.verdict c.in_ok-last.last _ _ _ c.loop-name-test.true l.invariant.0
          c.in_ok-last.ensures.tried),
      rw c.and-verdict.ensures (one_more c.args.request.now.format l.verdict c.in_ok-last.last _ _ _ l.invariant.1 c.in_ok-last.ensures.said),
    )
