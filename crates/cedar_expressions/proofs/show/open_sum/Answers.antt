use Rattle.std.proofs.Common.{ap, map}
use Rattle.std.proofs.lemmas.Result.{on_ok_weaker}
use Rattle.cedar_expressions.specs.Pieces.{pieces_weight}
use Rattle.cedar_expressions.proofs.ShownAt.{of_list}
use Rattle.cedar_expressions.proofs.show.open_sum.Goals as goal

pub returns-clause-less : goal.returns-clause-less
returns-clause-less c = on_ok_weaker c.put.result (λ p. of_list c.args.first.now (map (λ t. t.1) c.args.terms.now) _ _ (ap pieces_weight p)) c.put.ensures
