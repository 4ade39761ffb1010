use Rattle.std.proofs.Common.{refl}
use Rattle.cedar_syntax.specs.declared.err.to_ast.ToASTErrorKind.TheVariants.{InvalidEffect}
use Rattle.cedar_conversion.specs.outcome.Detail.{word}
use Rattle.cedar_conversion.specs.outcome.Outcome.{invalid_effect}
use Rattle.cedar_conversion.proofs.Outcomes.{made_telling}
use Rattle.cedar_policy_conversion.proofs.templates.other_word.Goals as goal

pub returns : goal.returns
returns c = c.refusal_with.ensures invalid_effect (word c.args.word.now) (made_telling _ _ (λ x. InvalidEffect x) c.args.word.now invalid_effect (word c.args.word.now) c.try_clone.ensures (refl, refl) c.map-kind.ensures.cases)
