-- Those that were taken so far were written.
use Rattle.std.specs.Vec.Iter.{into_iter_items}
use Rattle.cedar_conversion.specs.strict.Table.{table_of}
use Rattle.cedar_syntax.specs.tokens.Signs.{sign_limit}
use Rattle.cedar_writer.specs.WrittenTexts.{templates_lent}
use Rattle.cedar_writer.proofs.PoliciesAdded.{Sofar}
use Rattle.cedar_writer.proofs.sets.write_policies.Given as goal

abbrev pub invariant-loop-policy : goal.invariant-loop-policy
invariant-loop-policy l =
    Sofar (table_of l.styles) sign_limit l.fn.out l.out
    (templates_lent (into_iter_items l.fn.policies))
    (templates_lent (into_iter_items l.policy-iterator))
