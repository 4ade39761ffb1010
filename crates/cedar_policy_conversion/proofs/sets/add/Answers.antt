use Rattle.cedar_policy_conversion.proofs.FreeNames.{refused_alone}
use Rattle.cedar_policy_conversion.proofs.sets.add.Goals as goal

pub returns-in-Left-clause-refused : goal.returns-in-Left-clause-refused
returns-in-Left-clause-refused c = refused_alone c.args.set.now c.in-Left.policy.id c.add_static.result (rw c.in-Left.is at c.requires) c.add_static.ensures.occupied c.add_static.ensures.refused

pub returns-in-Right-clause-refused : goal.returns-in-Right-clause-refused
returns-in-Right-clause-refused c = refused_alone c.args.set.now c.in-Right.template.id c.add_template.result (rw c.in-Right.is at c.requires) c.add_template.ensures.occupied c.add_template.ensures.refused
