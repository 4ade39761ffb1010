-- Those that were taken so far were written.
use Rattle.std.specs.FinMap.{values}
use Rattle.cedar_json_writer.proofs.Policies.{Named}
use Rattle.cedar_json_writer.proofs.policy.write_templates.Given as goal

abbrev pub invariant-loop-template : goal.invariant-loop-template
invariant-loop-template l = Named l.initial.out l.out (values l.set.templates) l.template-iterator
