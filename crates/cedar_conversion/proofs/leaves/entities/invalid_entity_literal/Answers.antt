use Rattle.std.proofs.Common.{refl}
use Rattle.cedar_syntax.specs.declared.err.to_ast.ToASTErrorKind.TheVariants.{InvalidEntityLiteral}
use Rattle.cedar_conversion.specs.outcome.Detail.{nothing}
use Rattle.cedar_conversion.specs.outcome.Outcome.{invalid_entity_literal}
use Rattle.cedar_conversion.proofs.Outcomes.{made_of_kind}
use Rattle.cedar_conversion.proofs.leaves.entities.invalid_entity_literal.Goals as goal

pub returns : goal.returns
returns c = c.refusal_with.ensures invalid_entity_literal nothing (made_of_kind _ _ (λ x. InvalidEntityLiteral x) invalid_entity_literal (λ x. (refl, refl)) c.map-kind.ensures.cases)
