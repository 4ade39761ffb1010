use Rattle.std.proofs.Common.{refl}
use Rattle.cedar_syntax.specs.declared.err.to_ast.ToASTErrorKind.TheVariants.{InvalidIdentifier}
use Rattle.cedar_conversion.specs.outcome.Detail.{spelling}
use Rattle.cedar_conversion.specs.outcome.Outcome.{invalid_identifier}
use Rattle.cedar_conversion.proofs.Outcomes.{made_telling}
use Rattle.cedar_conversion.proofs.leaves.names.invalid_identifier.Goals as goal

pub returns : goal.returns
returns c = c.refusal_with.ensures invalid_identifier (spelling c.args.text.now) (made_telling _ _ (λ x. InvalidIdentifier x) c.args.text.now invalid_identifier (spelling c.args.text.now) c.from_str.ensures (refl, refl) c.map-kind.ensures.cases)
