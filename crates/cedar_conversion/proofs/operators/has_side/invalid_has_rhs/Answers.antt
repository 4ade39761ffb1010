use Rattle.std.proofs.Common.{refl}
use Rattle.cedar_syntax.specs.declared.err.to_ast.ToASTErrorKind.TheVariants.{InvalidHasRHS}
use Rattle.cedar_conversion.specs.outcome.Detail.{nothing}
use Rattle.cedar_conversion.specs.outcome.Outcome.{invalid_has_rhs}
use Rattle.cedar_conversion.proofs.Outcomes.{made_of_kind}
use Rattle.cedar_conversion.proofs.operators.has_side.invalid_has_rhs.Goals as goal

pub returns : goal.returns
returns c = c.refusal_with.ensures invalid_has_rhs nothing (made_of_kind _ _ (λ x. InvalidHasRHS x) invalid_has_rhs (λ x. (refl, refl)) c.map-kind.ensures.cases)
