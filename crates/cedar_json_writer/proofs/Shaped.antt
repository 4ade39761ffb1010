-- Which calls are no negation and no joined conditions.
use Rattle.std.proofs.Common.{◌≡◌, refl, subst}
use Rattle.cedar_expressions.specs.declared.expr.NaryOp.{NaryOp}
use Rattle.cedar_expressions.specs.declared.expr.NaryOp.TheVariants as nary
use Rattle.cedar_expressions.specs.declared.expr.ListCall.{ListCall}
use Rattle.cedar_expressions.specs.declared.expr.ListCall.TheVariants as list
use Rattle.cedar_expressions.specs.Meaning.{nary_call, list_call}
use Rattle.cedar_expressions.specs.Value.{Value, Values}
use Rattle.cedar_json_writer.specs.declared.shape.Shape.{Shape}
use Rattle.cedar_json_writer.specs.declared.shape.Shape.TheVariants.{Other}
use Rattle.cedar_json_writer.specs.machines.Shapes.{IsFormOf}

pub of_nary : (op : NaryOp) (a : Value) (bs : Values) → IsFormOf (nary_call op a bs) Other
of_nary nary.Or a bs = (refl, refl)
of_nary nary.And a bs = (refl, refl)
of_nary nary.Mul a bs = (refl, refl)

pub of_list : (call : ListCall) (bs : Values) → IsFormOf (list_call call bs) Other
of_list list.Set bs = (refl, refl)
of_list (list.Extension n) bs = (refl, refl)

-- what is said of a value, said of an equal one
pub shaped : {a b : Value} (s : Shape) → a ≡ b → IsFormOf a s → IsFormOf b s
shaped s e h = subst (λ (x : Value). IsFormOf x s) e h
