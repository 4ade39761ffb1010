use Rattle.std.proofs.Common.{refl}
use Rattle.cedar_syntax.specs.declared.err.to_ast.ToASTErrorKind.TheVariants.{InvalidString}
use Rattle.cedar_conversion.specs.outcome.Detail.{nothing}
use Rattle.cedar_conversion.specs.outcome.Outcome.{invalid_string}
use Rattle.cedar_conversion.proofs.Outcomes.{made_of_kind}
use Rattle.cedar_conversion.proofs.answer.wanted.invalid_string_at.Goals as goal

pub returns : goal.returns
returns c = c.refusal_with.ensures invalid_string nothing (made_of_kind _ _ (λ x. InvalidString x) invalid_string (λ x. (refl, refl)) c.map-kind.ensures.cases)
