use Rattle.std.proofs.Common.{ap, map}
use Rattle.std.proofs.lemmas.Result.{on_ok_weaker}
use Rattle.cedar_expressions.specs.Pieces.{pieces_weight}
use Rattle.cedar_expressions.proofs.ShownAt.{of_pairs, with_list}
use Rattle.cedar_expressions.proofs.show.open_terms.Goals as goal

pub returns-in-Some-clause-less : goal.returns-in-Some-clause-less
returns-in-Some-clause-less c = on_ok_weaker c.put.result (λ p. with_list 1 _ _ _ _ (ap (map (λ t. t.1)) c.in-Some.ensures.cases.0) (of_pairs c.in-Some.first.now.1 (map (λ t. t.1) c.in-Some.more.now) _ _ (ap pieces_weight p))) c.put.ensures
