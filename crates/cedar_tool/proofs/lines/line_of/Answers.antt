use Rattle.serde_json.specs.View.{view}
use Rattle.cedar_tool.proofs.PolicyShape.{line_is}
use Rattle.cedar_tool.proofs.lines.line_of.Goals as goal

pub returns : goal.returns
unfolding lib.Utf8.encode
returns c =
    line_is (view c.in_ok-object.object) c.args.name.now c.args.lines.now.text.now c.args.kind.now c.args.policy.now _ _ c.in_ok-object.ensures c.in_ok-line.ensures.text c.in_ok-line.ensures.reads_back
    c.in_ok-push.ensures.bytes
