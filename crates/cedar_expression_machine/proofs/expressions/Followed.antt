-- What the plan of a comparison says of the relation that is begun.
use Rattle.std.proofs.Common.{◌≡◌, refl, ap, ◌∙◌, subst, Bool, true, false, ◌&&◌, IsTrue, List, ℕ, Option, Some, None}
use Rattle.cedar_syntax.specs.declared.cst.Add.{Add}
use Rattle.cedar_syntax.specs.declared.cst.RelOp.{RelOp}
use Rattle.cedar_syntax.specs.declared.cst.RelOp.TheVariants as rel
use Rattle.cedar_grammar.specs.declared.reading.class.FollowClass.TheVariants as operator
use Rattle.cedar_grammar.specs.declared.reading.extent.Extent.{Extent}
use Rattle.cedar_grammar.specs.grammar.Place.{joint_extent}
use Rattle.cedar_syntax.specs.trees.Trees.{Cell}
use Rattle.cedar_expression_machine.specs.declared.expression.state.Frame.{Frame}
use Rattle.cedar_expression_machine.specs.declared.expression.state.PendingRelation.{PendingRelation}
use Rattle.cedar_expression_machine.specs.declared.expression.state.PendingRelation.TheVariants as left
use Rattle.cedar_expression_machine.specs.declared.expression.state.PendingOperators.{PendingOperators}
use Rattle.cedar_expression_machine.specs.declared.expression.state.OperandMode.{OperandMode}
use Rattle.cedar_expression_machine.specs.declared.expression.state.OperandMode.TheVariants as mode
use Rattle.cedar_expression_machine.specs.declared.expression.state.Operand.{Operand}
use Rattle.cedar_expression_machine.specs.declared.expression.state.OperandPlace.TheVariants as place
use Rattle.cedar_expression_machine.specs.declared.expression.state.Spanned.{Spanned}
use Rattle.cedar_expression_machine.specs.declared.expression.state.State.{State}
use Rattle.cedar_expression_machine.specs.machines.Closing.{add_at, node_of}
use Rattle.cedar_expression_machine.specs.machines.ExpressionModes.{IsFollowed, followed, operand_followed}
use Rattle.cedar_expression_machine.specs.machines.ExpressionPlans.{has_relation, may_compare}
use Rattle.cedar_expression_machine.specs.machines.ExpressionShapes.{relation_shape, typed}
use Rattle.cedar_expression_machine.specs.machines.Having.{comparison_beginning, is_within, left_beginning}

both_right : (a b : Bool) → IsTrue (a && b) → IsTrue b
both_right true b h = h
both_right false b h = cc

-- a comparison may stand behind the left side that is begun
may_be_compared : (s : State) (o : RelOp) → IsFollowed s (operator.Compare o) →
    IsTrue (may_compare (relation_shape s.levels.relation) o)
may_be_compared s o f =
    both_right (has_relation f.2) (may_compare (relation_shape s.levels.relation) o) f.3

-- behind `is` and its type stands `in` alone
within_alone : (src : List ℕ) (st : List Frame) (lv : PendingOperators) (y : Spanned (Cell Add))
    (x : Spanned Add) (o : RelOp) (e : Extent) → IsTrue (may_compare typed o) →
    is_within src st lv y x o e ≡ Some (left_beginning st lv (left.IsIn y.tree (node_of src x)
    (joint_extent (joint_extent y.extent x.extent) (Some e))) place.Operand)
within_alone src st lv y x rel.Less e h = cc
within_alone src st lv y x rel.LessEq e h = cc
within_alone src st lv y x rel.GreaterEq e h = cc
within_alone src st lv y x rel.Greater e h = cc
within_alone src st lv y x rel.NotEq e h = cc
within_alone src st lv y x rel.Eq e h = cc
within_alone src st lv y x rel.In e h = refl
within_alone src st lv y x rel.InvalidSingleEq e h = cc

-- so a comparison that may stand there is this one
pub followed_within : (src : List ℕ) (s : State) (m : Operand) (y : Spanned (Cell Add)) (o : RelOp)
    (e : Extent) → IsFollowed s (operator.Compare o) → s.mode ≡ mode.Have m None →
    s.levels.relation ≡ Some (left.Is y) → followed src s (operator.Compare o) e
    ≡ Some (left_beginning s.stack s.levels
    (left.IsIn y.tree (node_of src (add_at src s.levels m))
    (joint_extent (joint_extent y.extent (add_at src s.levels m).extent) (Some e))) place.Operand)
followed_within src s m y o e f h r =
    ap (λ (q : OperandMode). operand_followed src s.stack s.levels q (operator.Compare o) e) h
    ∙ ap (λ (l : Option PendingRelation).
    comparison_beginning src s.stack s.levels l (add_at src s.levels m) o e) r
    ∙ within_alone src s.stack s.levels y (add_at src s.levels m) o e
    (subst (λ (l : Option PendingRelation). IsTrue (may_compare (relation_shape l) o)) r (may_be_compared s o f))
