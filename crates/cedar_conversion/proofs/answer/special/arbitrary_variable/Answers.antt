use Rattle.std.proofs.Common.{refl}
use Rattle.cedar_expressions.specs.Path.{name_text}
use Rattle.cedar_syntax.specs.declared.err.to_ast.ToASTErrorKind.TheVariants.{ArbitraryVariable}
use Rattle.cedar_conversion.specs.outcome.Detail.{spelling}
use Rattle.cedar_conversion.specs.outcome.Outcome.{arbitrary_variable}
use Rattle.cedar_conversion.proofs.Outcomes.{made_telling}
use Rattle.cedar_conversion.proofs.answer.special.arbitrary_variable.Goals as goal

pub returns : goal.returns
returns c =
    let text = name_text c.args.name.now in
    c.refusal_with.ensures arbitrary_variable (spelling text) (made_telling _ _ (λ x. ArbitraryVariable x) text arbitrary_variable (spelling text) (c.to_text.ensures text refl) (refl, refl) c.map-kind.ensures.cases)
