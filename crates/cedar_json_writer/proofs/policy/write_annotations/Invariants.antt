-- The annotations so far were written.
use Rattle.std.specs.FinMap.{entries}
use Rattle.cedar_json_writer.proofs.Policies.{texts_tokens}
use Rattle.cedar_json_writer.proofs.Steps.{Wrote}
use Rattle.cedar_json_writer.proofs.policy.write_annotations.Given as goal

abbrev pub invariant-loop-key : goal.invariant-loop-key
invariant-loop-key l = Wrote l.fn.out l.out (texts_tokens (entries l.annotations)) (texts_tokens l.key-iterator)
