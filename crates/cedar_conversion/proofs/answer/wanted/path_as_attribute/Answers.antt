use Rattle.std.proofs.Common.{refl}
use Rattle.cedar_syntax.specs.declared.err.to_ast.ToASTErrorKind.TheVariants.{PathAsAttribute}
use Rattle.cedar_conversion.specs.outcome.Detail.{nothing}
use Rattle.cedar_conversion.specs.outcome.Outcome.{path_as_attribute}
use Rattle.cedar_conversion.proofs.Outcomes.{made_of_kind}
use Rattle.cedar_conversion.proofs.answer.wanted.path_as_attribute.Goals as goal

pub returns : goal.returns
returns c = c.refusal_with.ensures path_as_attribute nothing (made_of_kind _ _ (λ x. PathAsAttribute x) path_as_attribute (λ x. (refl, refl)) c.map-kind.ensures.cases)
