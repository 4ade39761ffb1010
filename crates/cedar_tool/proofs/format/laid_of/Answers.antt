use Rattle.cedar_tool.proofs.format.laid_of.Goals as goal

pub returns-clause-only : goal.returns-clause-only
returns-clause-only c = λ has. c.layout_policies.ensures.lays_out.only has.0 has.1

pub returns-clause-refused : goal.returns-clause-refused
returns-clause-refused c = c.layout_policies.ensures.refused
