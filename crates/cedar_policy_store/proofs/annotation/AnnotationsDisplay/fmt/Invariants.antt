-- All annotations but those that are left are shown.
use Rattle.std.specs.FinMap.{entries}
use Rattle.cedar_policy_store.specs.PolicyText.{annotation_text}
use Rattle.cedar_policy_store.proofs.PolicyShown.{ShownSoFar}
use Rattle.cedar_policy_store.proofs.annotation.AnnotationsDisplay.fmt.Given as goal

abbrev pub invariant-loop-key : goal.invariant-loop-key
invariant-loop-key g l = ShownSoFar g.W.Write.write_str_gives annotation_text l.fn.f l.f (entries l.self) l.key-iterator
