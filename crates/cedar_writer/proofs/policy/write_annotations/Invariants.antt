-- The annotations so far were written.
use Rattle.std.specs.FinMap.{entries}
use Rattle.cedar_writer.proofs.AnnotationsWritten.{Noted}
use Rattle.cedar_writer.proofs.policy.write_annotations.Given as goal

abbrev pub invariant-loop-key : goal.invariant-loop-key
invariant-loop-key l = Noted l.fn.out l.out (entries l.annotations) l.key-iterator
