use Rattle.std.proofs.Common.{refl}
use Rattle.cedar_syntax.specs.declared.err.to_ast.ToASTErrorKind.TheVariants.{InvalidPattern}
use Rattle.cedar_conversion.specs.outcome.Detail.{nothing}
use Rattle.cedar_conversion.specs.outcome.Outcome.{invalid_pattern}
use Rattle.cedar_conversion.proofs.Outcomes.{made_of_kind}
use Rattle.cedar_conversion.proofs.answer.wanted.invalid_pattern.Goals as goal

pub returns : goal.returns
returns g c = c.refusal_with.ensures invalid_pattern nothing (made_of_kind _ _ (λ x. InvalidPattern x) invalid_pattern (λ x. (refl, refl)) c.map-kind.ensures.cases)
