-- Which calls are no number, no negation and no joined conditions.
use Rattle.std.proofs.Common.{refl}
use Rattle.cedar_expressions.specs.declared.expr.NaryOp.{NaryOp}
use Rattle.cedar_expressions.specs.declared.expr.NaryOp.TheVariants as nary
use Rattle.cedar_expressions.specs.declared.expr.ListCall.{ListCall}
use Rattle.cedar_expressions.specs.declared.expr.ListCall.TheVariants as list
use Rattle.cedar_expressions.specs.Meaning.{nary_call, list_call}
use Rattle.cedar_expressions.specs.Value.{Value, Values}
use Rattle.cedar_writer.specs.declared.shape.Shape.TheVariants.{Other}
use Rattle.cedar_writer.specs.machines.Shapes.{IsShapeOf}

pub of_nary : (op : NaryOp) (a : Value) (bs : Values) → IsShapeOf (nary_call op a bs) Other
of_nary nary.Or a bs = (refl, refl, refl)
of_nary nary.And a bs = (refl, refl, refl)
of_nary nary.Mul a bs = (refl, refl, refl)

pub of_list : (call : ListCall) (bs : Values) → IsShapeOf (list_call call bs) Other
of_list list.Set bs = (refl, refl, refl)
of_list (list.Extension n) bs = (refl, refl, refl)
