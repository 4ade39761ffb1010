use Rattle.std.proofs.Common.{refl}
use Rattle.cedar_syntax.specs.declared.err.to_ast.ToASTErrorKind.TheVariants.{EmptyClause}
use Rattle.cedar_conversion.specs.outcome.Detail.{word_there}
use Rattle.cedar_conversion.specs.outcome.Outcome.{empty_clause}
use Rattle.cedar_conversion.proofs.Outcomes.{made_telling}
use Rattle.cedar_policy_conversion.proofs.conditions.empty_clause.Goals as goal

pub returns : goal.returns
returns c = c.refusal_with.ensures empty_clause (word_there c.args.word.now) (made_telling _ _ (λ x. EmptyClause x) c.args.word.now empty_clause (word_there c.args.word.now) c.try_clone.ensures (refl, refl) c.map-kind.ensures.cases)
