use Rattle.std.proofs.Common.{ap}
use Rattle.std.proofs.lemmas.Result.{on_ok_weaker}
use Rattle.cedar_expressions.specs.Pieces.{pieces_weight}
use Rattle.cedar_expressions.proofs.ShownAt.{of_conditional}
use Rattle.cedar_expressions.proofs.show.open_conditional.Goals as goal

pub returns-clause-less : goal.returns-clause-less
returns-clause-less c = on_ok_weaker c.put.result (λ p. of_conditional c.args.parts.now.0 c.args.parts.now.1 c.args.parts.now.2 _ _ (ap pieces_weight p)) c.put.ensures
