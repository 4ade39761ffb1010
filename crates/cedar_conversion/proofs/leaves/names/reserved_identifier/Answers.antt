use Rattle.std.proofs.Common.{refl}
use Rattle.cedar_syntax.specs.declared.err.to_ast.ToASTErrorKind.TheVariants.{ReservedIdentifier}
use Rattle.cedar_conversion.specs.outcome.Detail.{word}
use Rattle.cedar_conversion.specs.outcome.Outcome.{reserved_identifier}
use Rattle.cedar_conversion.proofs.Outcomes.{made_telling}
use Rattle.cedar_conversion.proofs.leaves.names.reserved_identifier.Goals as goal

pub returns : goal.returns
returns c = c.refusal_with.ensures reserved_identifier (word c.args.word.now) (made_telling _ _ (λ x. ReservedIdentifier x) c.args.word.now reserved_identifier (word c.args.word.now) c.try_clone.ensures (refl, refl) c.map-kind.ensures.cases)
