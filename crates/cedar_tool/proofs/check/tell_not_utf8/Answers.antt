use Rattle.cedar_tool.proofs.Speaking.{none_said}
use Rattle.cedar_tool.proofs.check.tell_not_utf8.Goals as goal

pub unreachable-requires : goal.unreachable-requires
unreachable-requires g c = c.requires (none_said _ _ _ c.in-None.is c.in_ok-found.ensures.told)
