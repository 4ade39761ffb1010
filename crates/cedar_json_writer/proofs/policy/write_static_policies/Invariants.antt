-- Those that were taken so far were written.
use Rattle.std.specs.FinMap.{values}
use Rattle.cedar_json_writer.proofs.Policies.{Named}
use Rattle.cedar_json_writer.proofs.policy.write_static_policies.Given as goal

abbrev pub invariant-loop-policy : goal.invariant-loop-policy
invariant-loop-policy l = Named l.initial.out l.out (values l.set.policies) l.policy-iterator
