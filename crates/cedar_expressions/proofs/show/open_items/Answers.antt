use Rattle.std.proofs.Common.{ap}
use Rattle.std.proofs.lemmas.Result.{on_ok_weaker}
use Rattle.cedar_expressions.specs.Pieces.{pieces_weight}
use Rattle.cedar_expressions.proofs.ShownAt.{of_items, with_list}
use Rattle.cedar_expressions.proofs.show.open_items.Goals as goal

pub returns-in-Some-clause-less : goal.returns-in-Some-clause-less
returns-in-Some-clause-less c = on_ok_weaker c.put.result (λ p. with_list 1 _ _ _ _ c.in-Some.ensures.cases.0 (of_items c.in-Some.first.now c.in-Some.more.now _ _ (ap pieces_weight p))) c.put.ensures
