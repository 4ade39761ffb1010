-- The place of a node of an expression, and of the nodes that a builder makes.
use Rattle.std.specs.Prelude.{Option}
use Rattle.cedar_expressions.specs.declared.place.Place.{Place}
use Rattle.cedar_expressions.specs.declared.place.NodePlace.{NodePlace}
use Rattle.cedar_expressions.specs.declared.expr.Expr.{Expr}
use Rattle.cedar_expressions.specs.declared.expr_builder.ExprBuilder.{ExprBuilder}

abbrev pub marked_place : NodePlace → Option Place
marked_place mark = mark.place

-- where an expression stands
abbrev pub place_of : Expr → Option Place
place_of e = marked_place e.place

-- where the node will stand that a builder makes
abbrev pub builders_place : {T : Type 0} → ExprBuilder T → Option Place
builders_place b = b.place
