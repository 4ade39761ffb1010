-- What is written are the entities so far, each behind a comma.
use Rattle.std.proofs.Common.{take}
use Rattle.std.specs.Fmt.{HasWritten, IsPlainFormatter}
use Rattle.cedar_policy_store.specs.PolicyText.{more_entities_text}
use Rattle.cedar_policy_store.proofs.scope_text.MoreEntitiesDisplay.fmt.Given as goal

abbrev pub invariant-loop-entity : goal.invariant-loop-entity
invariant-loop-entity g l =
    IsPlainFormatter l.fn.f → HasWritten g.W.Write.write_str_gives l.fn.f (more_entities_text (take l.entity-index l.entity-items)) l.f
