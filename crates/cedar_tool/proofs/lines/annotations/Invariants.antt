use Rattle.std.proofs.Common.{◌≡◌, ◌++◌, List}
use Rattle.std.specs.FinMap.{entries}
use Rattle.serde_json.specs.View.{members_view}
use Rattle.cedar_tool.specs.Listed.{annotation_members}
use Rattle.cedar_tool.proofs.Annotating.{Pair}
use Rattle.cedar_tool.proofs.lines.annotations.Given as goal

-- the annotations before the iterator's place are members
abbrev pub invariant-loop-key : goal.invariant-loop-key
invariant-loop-key l =
    (done : List Pair) × (entries l.policy.annotations ≡ done ++ l.key-iterator) × (members_view l.members.entries ≡ annotation_members done)
