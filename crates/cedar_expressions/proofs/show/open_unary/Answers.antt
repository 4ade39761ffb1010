use Rattle.std.proofs.Common.{ap}
use Rattle.std.proofs.lemmas.Result.{on_ok_weaker}
use Rattle.cedar_expressions.specs.Pieces.{pieces_weight}
use Rattle.cedar_expressions.proofs.ShownAt.{in_three, in_five, in_six}
use Rattle.cedar_expressions.proofs.show.open_unary.Goals as goal

pub returns-in-Op-Not-clause-less : goal.returns-in-Op-Not-clause-less
returns-in-Op-Not-clause-less c = on_ok_weaker c.put.result (λ p. in_three c.args.operand.now _ _ (ap pieces_weight p)) c.put.ensures

pub returns-in-Op-Neg-clause-less : goal.returns-in-Op-Neg-clause-less
returns-in-Op-Neg-clause-less c = on_ok_weaker c.put-in-Op-Neg.result (λ p. in_three c.args.operand.now _ _ (ap pieces_weight p)) c.put-in-Op-Neg.ensures

pub returns-in-IsEmpty-clause-less : goal.returns-in-IsEmpty-clause-less
returns-in-IsEmpty-clause-less c = on_ok_weaker c.put-in-IsEmpty.result (λ p. in_three c.args.operand.now _ _ (ap pieces_weight p)) c.put-in-IsEmpty.ensures

pub returns-in-Like-clause-less : goal.returns-in-Like-clause-less
returns-in-Like-clause-less c = on_ok_weaker c.put-in-Like.result (λ p. in_five c.args.operand.now _ _ (ap pieces_weight p)) c.put-in-Like.ensures

pub returns-in-Is-clause-less : goal.returns-in-Is-clause-less
returns-in-Is-clause-less c = on_ok_weaker c.put-in-Is.result (λ p. in_five c.args.operand.now _ _ (ap pieces_weight p)) c.put-in-Is.ensures

pub returns-in-GetAttr-clause-less : goal.returns-in-GetAttr-clause-less
returns-in-GetAttr-clause-less c = on_ok_weaker c.put-in-GetAttr.result (λ p. in_five c.args.operand.now _ _ (ap pieces_weight p)) c.put-in-GetAttr.ensures

pub returns-in-ExtendedHasAttr-clause-less : goal.returns-in-ExtendedHasAttr-clause-less
returns-in-ExtendedHasAttr-clause-less c = on_ok_weaker c.put-in-ExtendedHasAttr.result (λ p. in_six c.args.operand.now _ _ (ap pieces_weight p)) c.put-in-ExtendedHasAttr.ensures
