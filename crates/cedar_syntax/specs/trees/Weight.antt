-- How many expressions stand in a tree: what is left to do until it is dropped.
use Rattle.std.specs.Prelude.{ℕ, suc, ◌+◌, Option, Some, None}
use Rattle.std.specs.List.{sum_by}
use Rattle.cedar_syntax.specs.declared.node.Node.{Node}
use Rattle.cedar_syntax.specs.declared.cst.Expr.{Expr}
use Rattle.cedar_syntax.specs.declared.cst.ExprData.{ExprData}
use Rattle.cedar_syntax.specs.declared.cst.MemAccess.{MemAccess}
use Rattle.cedar_syntax.specs.declared.cst.Primary.{Primary}
use Rattle.cedar_syntax.specs.declared.cst.Relation.{Relation}
use Rattle.cedar_syntax.specs.declared.cst.Add.{Add}
use Rattle.cedar_syntax.specs.declared.cst.And.{And}
use Rattle.cedar_syntax.specs.declared.cst.ExprImpl.{ExprImpl}
use Rattle.cedar_syntax.specs.declared.cst.Linked.{Linked}
use Rattle.cedar_syntax.specs.declared.cst.Member.{Member}
use Rattle.cedar_syntax.specs.declared.cst.Mult.{Mult}
use Rattle.cedar_syntax.specs.declared.cst.Or.{Or}
use Rattle.cedar_syntax.specs.declared.cst.RecInit.{RecInit}
use Rattle.cedar_syntax.specs.declared.cst.Unary.{Unary}
use Rattle.cedar_syntax.specs.declared.cst.Expr.TheOpen.{Expr-F, ExprData-F, MemAccess-F, Primary-F, Relation-F, Add-F, And-F, ExprImpl-F, Linked-F, Member-F, Mult-F, Or-F, RecInit-F, Unary-F}
use Rattle.cedar_syntax.specs.declared.cst.Expr.TheFolds.{fold-Expr, fold-ExprData, fold-MemAccess, fold-Primary, fold-Relation, fold-Add, fold-And, fold-ExprImpl, fold-Linked, fold-Member, fold-Mult, fold-Or, fold-RecInit, fold-Unary}

-- ---- one level, its parts already counted

-- a part that may be missing
abbrev pub option_weight : {T : Type 0} → (T → ℕ) → Option T → ℕ
option_weight f None = 0
option_weight f (Some x) = f x

abbrev pub counted : Option ℕ → ℕ
counted None = 0
counted (Some n) = n

abbrev pub in_cell : Node (Option ℕ) → ℕ
in_cell n = counted n.node

abbrev pub in_pair : {O : Type 0} → O × Node (Option ℕ) → ℕ
in_pair p = in_cell p.1

abbrev pub expr_step : Expr-F ℕ ℕ ℕ ℕ ℕ ℕ ℕ ℕ ℕ ℕ ℕ ℕ ℕ ℕ → ℕ
expr_step (Expr-F.«Expr::Expr» e) = e

abbrev pub data_step : ExprData-F ℕ ℕ ℕ ℕ ℕ ℕ ℕ ℕ ℕ ℕ ℕ ℕ ℕ ℕ → ℕ
data_step (ExprData-F.Or n) = in_cell n
data_step (ExprData-F.If a b c) = in_cell a + (in_cell b + in_cell c)

abbrev pub access_step : MemAccess-F ℕ ℕ ℕ ℕ ℕ ℕ ℕ ℕ ℕ ℕ ℕ ℕ ℕ ℕ → ℕ
access_step (MemAccess-F.Field n) = 0
access_step (MemAccess-F.Call ns) = sum_by in_cell ns
access_step (MemAccess-F.Index n) = in_cell n

abbrev pub primary_step : Primary-F ℕ ℕ ℕ ℕ ℕ ℕ ℕ ℕ ℕ ℕ ℕ ℕ ℕ ℕ → ℕ
primary_step (Primary-F.Literal n) = 0
primary_step (Primary-F.Ref n) = 0
primary_step (Primary-F.Name n) = 0
primary_step (Primary-F.Slot n) = 0
primary_step (Primary-F.«Primary::Expr» n) = in_cell n
primary_step (Primary-F.EList ns) = sum_by in_cell ns
primary_step (Primary-F.RInits ns) = sum_by in_cell ns

abbrev pub relation_step : Relation-F ℕ ℕ ℕ ℕ ℕ ℕ ℕ ℕ ℕ ℕ ℕ ℕ ℕ ℕ → ℕ
relation_step (Relation-F.Common initial extended) = in_cell initial + sum_by in_pair extended
relation_step (Relation-F.Has target right) = in_cell target + in_cell right
relation_step (Relation-F.Like target pattern) = in_cell target + in_cell pattern
relation_step (Relation-F.IsIn target entity_type in_entity) =
    in_cell target + (in_cell entity_type + option_weight in_cell in_entity)

abbrev pub add_step : Add-F ℕ ℕ ℕ ℕ ℕ ℕ ℕ ℕ ℕ ℕ ℕ ℕ ℕ ℕ → ℕ
add_step o = in_cell o.initial + sum_by in_pair o.extended

abbrev pub and_step : And-F ℕ ℕ ℕ ℕ ℕ ℕ ℕ ℕ ℕ ℕ ℕ ℕ ℕ ℕ → ℕ
and_step o = in_cell o.initial + sum_by in_cell o.extended

abbrev pub impl_step : ExprImpl-F ℕ ℕ ℕ ℕ ℕ ℕ ℕ ℕ ℕ ℕ ℕ ℕ ℕ ℕ → ℕ
impl_step e = e.expr

-- an expression, and what waits behind it while it is dropped
abbrev pub linked_step : Linked-F ℕ ℕ ℕ ℕ ℕ ℕ ℕ ℕ ℕ ℕ ℕ ℕ ℕ ℕ → ℕ
linked_step l = suc (l.content + counted l.next)

abbrev pub member_step : Member-F ℕ ℕ ℕ ℕ ℕ ℕ ℕ ℕ ℕ ℕ ℕ ℕ ℕ ℕ → ℕ
member_step m = in_cell m.item + sum_by in_cell m.access

abbrev pub mult_step : Mult-F ℕ ℕ ℕ ℕ ℕ ℕ ℕ ℕ ℕ ℕ ℕ ℕ ℕ ℕ → ℕ
mult_step o = in_cell o.initial + sum_by in_pair o.extended

abbrev pub or_step : Or-F ℕ ℕ ℕ ℕ ℕ ℕ ℕ ℕ ℕ ℕ ℕ ℕ ℕ ℕ → ℕ
or_step o = in_cell o.initial + sum_by in_cell o.extended

abbrev pub init_step : RecInit-F ℕ ℕ ℕ ℕ ℕ ℕ ℕ ℕ ℕ ℕ ℕ ℕ ℕ ℕ → ℕ
init_step i = in_cell i.0 + in_cell i.1

abbrev pub unary_step : Unary-F ℕ ℕ ℕ ℕ ℕ ℕ ℕ ℕ ℕ ℕ ℕ ℕ ℕ ℕ → ℕ
unary_step u = in_cell u.item

-- ---- trees

unfoldable pub expr_weight : Expr → ℕ
expr_weight = fold-Expr ℕ ℕ ℕ ℕ ℕ ℕ ℕ ℕ ℕ ℕ ℕ ℕ ℕ ℕ
    expr_step data_step access_step primary_step relation_step add_step and_step impl_step
    linked_step member_step mult_step or_step init_step unary_step

unfoldable pub data_weight : ExprData → ℕ
data_weight = fold-ExprData ℕ ℕ ℕ ℕ ℕ ℕ ℕ ℕ ℕ ℕ ℕ ℕ ℕ ℕ
    expr_step data_step access_step primary_step relation_step add_step and_step impl_step
    linked_step member_step mult_step or_step init_step unary_step

unfoldable pub access_weight : MemAccess → ℕ
access_weight = fold-MemAccess ℕ ℕ ℕ ℕ ℕ ℕ ℕ ℕ ℕ ℕ ℕ ℕ ℕ ℕ
    expr_step data_step access_step primary_step relation_step add_step and_step impl_step
    linked_step member_step mult_step or_step init_step unary_step

unfoldable pub primary_weight : Primary → ℕ
primary_weight = fold-Primary ℕ ℕ ℕ ℕ ℕ ℕ ℕ ℕ ℕ ℕ ℕ ℕ ℕ ℕ
    expr_step data_step access_step primary_step relation_step add_step and_step impl_step
    linked_step member_step mult_step or_step init_step unary_step

unfoldable pub relation_weight : Relation → ℕ
relation_weight = fold-Relation ℕ ℕ ℕ ℕ ℕ ℕ ℕ ℕ ℕ ℕ ℕ ℕ ℕ ℕ
    expr_step data_step access_step primary_step relation_step add_step and_step impl_step
    linked_step member_step mult_step or_step init_step unary_step

unfoldable pub add_weight : Add → ℕ
add_weight = fold-Add ℕ ℕ ℕ ℕ ℕ ℕ ℕ ℕ ℕ ℕ ℕ ℕ ℕ ℕ
    expr_step data_step access_step primary_step relation_step add_step and_step impl_step
    linked_step member_step mult_step or_step init_step unary_step

unfoldable pub and_weight : And → ℕ
and_weight = fold-And ℕ ℕ ℕ ℕ ℕ ℕ ℕ ℕ ℕ ℕ ℕ ℕ ℕ ℕ
    expr_step data_step access_step primary_step relation_step add_step and_step impl_step
    linked_step member_step mult_step or_step init_step unary_step

unfoldable pub impl_weight : ExprImpl → ℕ
impl_weight = fold-ExprImpl ℕ ℕ ℕ ℕ ℕ ℕ ℕ ℕ ℕ ℕ ℕ ℕ ℕ ℕ
    expr_step data_step access_step primary_step relation_step add_step and_step impl_step
    linked_step member_step mult_step or_step init_step unary_step

unfoldable pub linked_weight : Linked → ℕ
linked_weight = fold-Linked ℕ ℕ ℕ ℕ ℕ ℕ ℕ ℕ ℕ ℕ ℕ ℕ ℕ ℕ
    expr_step data_step access_step primary_step relation_step add_step and_step impl_step
    linked_step member_step mult_step or_step init_step unary_step

unfoldable pub member_weight : Member → ℕ
member_weight = fold-Member ℕ ℕ ℕ ℕ ℕ ℕ ℕ ℕ ℕ ℕ ℕ ℕ ℕ ℕ
    expr_step data_step access_step primary_step relation_step add_step and_step impl_step
    linked_step member_step mult_step or_step init_step unary_step

unfoldable pub mult_weight : Mult → ℕ
mult_weight = fold-Mult ℕ ℕ ℕ ℕ ℕ ℕ ℕ ℕ ℕ ℕ ℕ ℕ ℕ ℕ
    expr_step data_step access_step primary_step relation_step add_step and_step impl_step
    linked_step member_step mult_step or_step init_step unary_step

unfoldable pub or_weight : Or → ℕ
or_weight = fold-Or ℕ ℕ ℕ ℕ ℕ ℕ ℕ ℕ ℕ ℕ ℕ ℕ ℕ ℕ
    expr_step data_step access_step primary_step relation_step add_step and_step impl_step
    linked_step member_step mult_step or_step init_step unary_step

unfoldable pub init_weight : RecInit → ℕ
init_weight = fold-RecInit ℕ ℕ ℕ ℕ ℕ ℕ ℕ ℕ ℕ ℕ ℕ ℕ ℕ ℕ
    expr_step data_step access_step primary_step relation_step add_step and_step impl_step
    linked_step member_step mult_step or_step init_step unary_step

unfoldable pub unary_weight : Unary → ℕ
unary_weight = fold-Unary ℕ ℕ ℕ ℕ ℕ ℕ ℕ ℕ ℕ ℕ ℕ ℕ ℕ ℕ
    expr_step data_step access_step primary_step relation_step add_step and_step impl_step
    linked_step member_step mult_step or_step init_step unary_step

-- an expression that may be there, with those that wait behind it
abbrev pub waiting_weight : Option Expr → ℕ
waiting_weight = option_weight expr_weight
