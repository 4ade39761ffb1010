use Rattle.std.proofs.Common.{◌≡◌, ◌+◌, drop, nat_eq}
use Rattle.std.specs.List.{common_prefix_len}
use Rattle.cedar_tool.proofs.remark.common.Given as goal

-- so far they are the same
abbrev pub invariant-loop-index : goal.invariant-loop-index
invariant-loop-index l =
    l.index + common_prefix_len nat_eq (drop l.index l.text) (drop l.index l.other) ≡ common_prefix_len nat_eq l.text l.other
