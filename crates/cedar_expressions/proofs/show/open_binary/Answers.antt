use Rattle.std.proofs.Common.{ap}
use Rattle.std.proofs.lemmas.Result.{on_ok_weaker}
use Rattle.cedar_expressions.specs.Pieces.{pieces_weight}
use Rattle.cedar_expressions.proofs.ShownAt.{of_binary, of_is_in}
use Rattle.cedar_expressions.proofs.show.open_binary.Goals as goal

pub returns-in-Op-clause-less : goal.returns-in-Op-clause-less
returns-in-Op-clause-less c = on_ok_weaker c.put.result (λ p. of_binary c.args.parts.now.0 c.args.parts.now.1 _ _ (ap pieces_weight p)) c.put.ensures

pub returns-in-IsIn-clause-less : goal.returns-in-IsIn-clause-less
returns-in-IsIn-clause-less c = on_ok_weaker c.put-in-IsIn.result (λ p. of_is_in c.args.parts.now.0 c.args.parts.now.1 _ _ (ap pieces_weight p)) c.put-in-IsIn.ensures
