use Rattle.cedar_policy_parser.proofs.meaning.Formatting.{value_of, refusal_of}
use Rattle.cedar_policy_parser.proofs.formatter.convert.Goals as goal

pub returns-clause-value : goal.returns-clause-value
returns-clause-value c = value_of _ c.to_policyset.result c.and.result _ _ c.to_policyset.ensures.meant c.and.ensures

pub returns-clause-refused : goal.returns-clause-refused
returns-clause-refused c = refusal_of _ c.to_policyset.result c.and.result _ _ c.to_policyset.ensures.meant c.and.ensures
