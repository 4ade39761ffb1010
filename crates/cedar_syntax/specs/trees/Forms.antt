-- The `Located` tree of each syntax tree of an expression: a node with its place, and what stands
-- in it as a `Form`, whichever rule it is of.
use Rattle.std.specs.Prelude.{List, [], ◌∷◌, map, Option, Some, None, option_map}
use Rattle.cedar_expressions.specs.declared.operators.AddOp.{AddOp}
use Rattle.cedar_syntax.specs.declared.loc.Loc.{Loc}
use Rattle.cedar_syntax.specs.declared.node.Node.{Node}
use Rattle.cedar_syntax.specs.declared.cst.RelOp.{RelOp}
use Rattle.cedar_syntax.specs.declared.cst.MultOp.{MultOp}
use Rattle.cedar_syntax.specs.declared.cst.Expr.{Expr}
use Rattle.cedar_syntax.specs.declared.cst.ExprData.{ExprData}
use Rattle.cedar_syntax.specs.declared.cst.MemAccess.{MemAccess}
use Rattle.cedar_syntax.specs.declared.cst.Primary.{Primary}
use Rattle.cedar_syntax.specs.declared.cst.Relation.{Relation}
use Rattle.cedar_syntax.specs.declared.cst.Add.{Add}
use Rattle.cedar_syntax.specs.declared.cst.And.{And}
use Rattle.cedar_syntax.specs.declared.cst.ExprImpl.{ExprImpl}
use Rattle.cedar_syntax.specs.declared.cst.Linked.{Linked}
use Rattle.cedar_syntax.specs.declared.cst.Member.{Member}
use Rattle.cedar_syntax.specs.declared.cst.Mult.{Mult}
use Rattle.cedar_syntax.specs.declared.cst.Or.{Or}
use Rattle.cedar_syntax.specs.declared.cst.RecInit.{RecInit}
use Rattle.cedar_syntax.specs.declared.cst.Unary.{Unary}
use Rattle.cedar_syntax.specs.declared.cst.Expr.TheOpen.{Expr-F, ExprData-F, MemAccess-F, Primary-F, Relation-F, Add-F, And-F, ExprImpl-F, Linked-F, Member-F, Mult-F, Or-F, RecInit-F, Unary-F}
use Rattle.cedar_syntax.specs.declared.cst.Expr.TheFolds.{fold-Expr, fold-ExprData, fold-MemAccess, fold-Primary, fold-Relation, fold-Add, fold-And, fold-ExprImpl, fold-Linked, fold-Member, fold-Mult, fold-Or, fold-RecInit, fold-Unary}
use Rattle.cedar_syntax.specs.trees.Tree.{Operator, disjunction, conjunction, relation, sum, product, or_or, and_and, compare, add, multiply, beside}
use Rattle.cedar_syntax.specs.trees.Located.{Located, Form, Parts, missing, at, only, ite, chain, has, like, is, is_in, unary, member, field, call, index, literal, name, slot, reference, parens, set, record_of, init, none, more}

-- ---- nodes and lists

abbrev pub form_at : Option Loc → Option Form → Located
form_at place None = missing place
form_at place (Some f) = at place f

-- a node whose content is already a form
abbrev pub cell : Node (Option Form) → Located
cell n = form_at n.loc n.node

-- a node, by the forms of what it contains
abbrev pub located : {X : Type 0} → (X → Form) → Node (Option X) → Located
located f n = form_at n.loc (option_map f n.node)

abbrev pub parts_of : List (Operator × Located) → Parts
parts_of [] = none
parts_of (p ∷ ps) = more p.0 p.1 (parts_of ps)

-- ---- one level of an expression, its parts already forms: each part is a node with its place

abbrev pub F : Type 0
F = Form

abbrev pub expr_step : Expr-F F F F F F F F F F F F F F F → Form
expr_step (Expr-F.«Expr::Expr» e) = e

abbrev pub impl_step : ExprImpl-F F F F F F F F F F F F F F F → Form
impl_step e = e.expr

-- what waits behind an expression while trees are dropped is no part of it
abbrev pub linked_step : Linked-F F F F F F F F F F F F F F F → Form
linked_step l = l.content

abbrev pub data_step : ExprData-F F F F F F F F F F F F F F F → Form
data_step (ExprData-F.Or n) = only (cell n)
data_step (ExprData-F.If a b c) = ite (cell a) (cell b) (cell c)

abbrev pub or_step : Or-F F F F F F F F F F F F F F F → Form
or_step o = chain disjunction (cell o.initial) (parts_of (map (λ n. (or_or, cell n)) o.extended))

abbrev pub and_step : And-F F F F F F F F F F F F F F F → Form
and_step o =
    chain conjunction (cell o.initial) (parts_of (map (λ n. (and_and, cell n)) o.extended))

-- `is` alone, or with what stands behind `in`
abbrev pub type_relation_form : Located → Located → Option (Node (Option Form)) → Form
type_relation_form target entity_type None = is target entity_type
type_relation_form target entity_type (Some n) = is_in target entity_type (cell n)

abbrev pub relation_step : Relation-F F F F F F F F F F F F F F F → Form
relation_step (Relation-F.Common initial extended) =
    chain relation (cell initial) (parts_of (map (λ p. (compare p.0, cell p.1)) extended))
relation_step (Relation-F.Has target right) = has (cell target) (cell right)
relation_step (Relation-F.Like target pattern) = like (cell target) (cell pattern)
relation_step (Relation-F.IsIn target entity_type in_entity) =
    type_relation_form (cell target) (cell entity_type) in_entity

abbrev pub add_step : Add-F F F F F F F F F F F F F F F → Form
add_step o = chain sum (cell o.initial) (parts_of (map (λ p. (add p.0, cell p.1)) o.extended))

abbrev pub mult_step : Mult-F F F F F F F F F F F F F F F → Form
mult_step o =
    chain product (cell o.initial) (parts_of (map (λ p. (multiply p.0, cell p.1)) o.extended))

abbrev pub unary_step : Unary-F F F F F F F F F F F F F F F → Form
unary_step u = unary u.op (cell u.item)

abbrev pub member_step : Member-F F F F F F F F F F F F F F F → Form
member_step m = member (cell m.item) (parts_of (map (λ n. (beside, cell n)) m.access))

abbrev pub access_step : MemAccess-F F F F F F F F F F F F F F F → Form
access_step (MemAccess-F.Field n) = field n
access_step (MemAccess-F.Call ns) = call (parts_of (map (λ n. (beside, cell n)) ns))
access_step (MemAccess-F.Index n) = index (cell n)

abbrev pub primary_step : Primary-F F F F F F F F F F F F F F F → Form
primary_step (Primary-F.Literal n) = literal n
primary_step (Primary-F.Ref n) = reference n
primary_step (Primary-F.Name n) = name n
primary_step (Primary-F.Slot n) = slot n
primary_step (Primary-F.«Primary::Expr» n) = parens (cell n)
primary_step (Primary-F.EList ns) = set (parts_of (map (λ n. (beside, cell n)) ns))
primary_step (Primary-F.RInits ns) = record_of (parts_of (map (λ n. (beside, cell n)) ns))

abbrev pub init_step : RecInit-F F F F F F F F F F F F F F F → Form
init_step i = init (cell i.0) (cell i.1)

-- ---- expressions

unfoldable pub expr_form : Expr → Form
expr_form = fold-Expr F F F F F F F F F F F F F F expr_step data_step access_step primary_step
    relation_step add_step and_step impl_step linked_step member_step mult_step or_step init_step
    unary_step

unfoldable pub data_form : ExprData → Form
data_form = fold-ExprData F F F F F F F F F F F F F F expr_step data_step access_step primary_step
    relation_step add_step and_step impl_step linked_step member_step mult_step or_step init_step
    unary_step

unfoldable pub access_form : MemAccess → Form
access_form = fold-MemAccess F F F F F F F F F F F F F F expr_step data_step access_step
    primary_step relation_step add_step and_step impl_step linked_step member_step mult_step
    or_step init_step unary_step

unfoldable pub primary_form : Primary → Form
primary_form = fold-Primary F F F F F F F F F F F F F F expr_step data_step access_step
    primary_step relation_step add_step and_step impl_step linked_step member_step mult_step
    or_step init_step unary_step

unfoldable pub relation_form : Relation → Form
relation_form = fold-Relation F F F F F F F F F F F F F F expr_step data_step access_step
    primary_step relation_step add_step and_step impl_step linked_step member_step mult_step
    or_step init_step unary_step

unfoldable pub add_form : Add → Form
add_form = fold-Add F F F F F F F F F F F F F F expr_step data_step access_step primary_step
    relation_step add_step and_step impl_step linked_step member_step mult_step or_step init_step
    unary_step

unfoldable pub and_form : And → Form
and_form = fold-And F F F F F F F F F F F F F F expr_step data_step access_step primary_step
    relation_step add_step and_step impl_step linked_step member_step mult_step or_step init_step
    unary_step

unfoldable pub impl_form : ExprImpl → Form
impl_form = fold-ExprImpl F F F F F F F F F F F F F F expr_step data_step access_step primary_step
    relation_step add_step and_step impl_step linked_step member_step mult_step or_step init_step
    unary_step

unfoldable pub linked_form : Linked → Form
linked_form = fold-Linked F F F F F F F F F F F F F F expr_step data_step access_step primary_step
    relation_step add_step and_step impl_step linked_step member_step mult_step or_step init_step
    unary_step

unfoldable pub member_form : Member → Form
member_form = fold-Member F F F F F F F F F F F F F F expr_step data_step access_step primary_step
    relation_step add_step and_step impl_step linked_step member_step mult_step or_step init_step
    unary_step

unfoldable pub mult_form : Mult → Form
mult_form = fold-Mult F F F F F F F F F F F F F F expr_step data_step access_step primary_step
    relation_step add_step and_step impl_step linked_step member_step mult_step or_step init_step
    unary_step

unfoldable pub or_form : Or → Form
or_form = fold-Or F F F F F F F F F F F F F F expr_step data_step access_step primary_step
    relation_step add_step and_step impl_step linked_step member_step mult_step or_step init_step
    unary_step

unfoldable pub init_form : RecInit → Form
init_form = fold-RecInit F F F F F F F F F F F F F F expr_step data_step access_step primary_step
    relation_step add_step and_step impl_step linked_step member_step mult_step or_step init_step
    unary_step

unfoldable pub unary_form : Unary → Form
unary_form = fold-Unary F F F F F F F F F F F F F F expr_step data_step access_step primary_step
    relation_step add_step and_step impl_step linked_step member_step mult_step or_step init_step
    unary_step

-- ---- parts with what stands before them

abbrev pub or_operand : Node (Option And) → Operator × Located
or_operand n = (or_or, located and_form n)

abbrev pub and_operand : Node (Option Relation) → Operator × Located
and_operand n = (and_and, located relation_form n)

abbrev pub relation_operand : RelOp × Node (Option Add) → Operator × Located
relation_operand p = (compare p.0, located add_form p.1)

abbrev pub add_operand : AddOp × Node (Option Mult) → Operator × Located
add_operand p = (add p.0, located mult_form p.1)

abbrev pub mult_operand : MultOp × Node (Option Unary) → Operator × Located
mult_operand p = (multiply p.0, located unary_form p.1)

abbrev pub listed_access : Node (Option MemAccess) → Operator × Located
listed_access n = (beside, located access_form n)

abbrev pub listed_expr : Node (Option Expr) → Operator × Located
listed_expr n = (beside, located expr_form n)

abbrev pub listed_init : Node (Option RecInit) → Operator × Located
listed_init n = (beside, located init_form n)

-- `is` alone, or with what stands behind `in`
abbrev pub typed_form : Located → Located → Option (Node (Option Add)) → Form
typed_form target entity_type None = is target entity_type
typed_form target entity_type (Some n) = is_in target entity_type (located add_form n)
