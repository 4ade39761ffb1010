-- What form and what tree an expression has that is made of its parts.
use Rattle.std.proofs.Common.{◌≡◌, ap, ◌∙◌, None}
use Rattle.cedar_syntax.specs.declared.cst.Add.{Add}
use Rattle.cedar_syntax.specs.declared.cst.And.{And}
use Rattle.cedar_syntax.specs.declared.cst.Expr.{Expr}
use Rattle.cedar_syntax.specs.declared.cst.ExprData.{ExprData}
use Rattle.cedar_syntax.specs.declared.cst.ExprImpl.{ExprImpl}
use Rattle.cedar_syntax.specs.declared.cst.Linked.{Linked}
use Rattle.cedar_syntax.specs.declared.cst.MemAccess.{MemAccess}
use Rattle.cedar_syntax.specs.declared.cst.Member.{Member}
use Rattle.cedar_syntax.specs.declared.cst.Mult.{Mult}
use Rattle.cedar_syntax.specs.declared.cst.Or.{Or}
use Rattle.cedar_syntax.specs.declared.cst.Primary.{Primary}
use Rattle.cedar_syntax.specs.declared.cst.RecInit.{RecInit}
use Rattle.cedar_syntax.specs.declared.cst.Relation.{Relation}
use Rattle.cedar_syntax.specs.declared.cst.Unary.{Unary}
use Rattle.cedar_syntax.specs.declared.cst.Expr.TheOpen.{ExprImpl-F}
use Rattle.cedar_syntax.specs.declared.cst.Expr.TheViews.{out-roll-ExprImpl}
use Rattle.cedar_syntax.specs.trees.Forms.{data_form, expr_form, impl_form, located, or_form}
use Rattle.cedar_syntax.specs.trees.Located.{ite, only}
use Rattle.cedar_syntax.specs.trees.Tree as t
use Rattle.cedar_syntax.specs.trees.Trees.{Cell, expr_of, if_of, impl_of}
use Rattle.cedar_syntax.specs.trees.Unplaced.{data_tree, expr_tree, impl_tree, or_tree, tree_at, unplaced_tree_form}
use Rattle.cedar_syntax.proofs.FormLevels.{data_if, data_or, expr_out, impl_out}
use Rattle.cedar_syntax.proofs.Levels as tree

impl_made : (d : ExprData) → impl_form (impl_of d) ≡ data_form d
impl_made d =
    impl_out (impl_of d) ∙ ap (λ (o : ExprImpl-F Expr ExprData MemAccess Primary Relation Add And ExprImpl Linked Member Mult Or RecInit Unary). data_form o.expr.content) (out-roll-ExprImpl record { expr = record { content = d; depth = tt; next = None } })

pub expr_made : (x : Cell Or) → expr_form (expr_of x) ≡ only (located or_form x)
expr_made x = expr_out _ ∙ impl_made _ ∙ data_or x

pub if_made : (c x y : Cell Expr) → expr_form (if_of c x y) ≡ ite (located expr_form c) (located expr_form x) (located expr_form y)
if_made c x y = expr_out _ ∙ impl_made _ ∙ data_if c x y

-- ---- the same of trees without places

impl_tree_made : (d : ExprData) → impl_tree (impl_of d) ≡ data_tree d
unfolding impl_tree data_tree
impl_tree_made d = ap unplaced_tree_form (impl_made d)

pub expr_tree_made : (x : Cell Or) → expr_tree (expr_of x) ≡ tree_at or_tree x
expr_tree_made x = tree.expr_out _ ∙ impl_tree_made _ ∙ tree.data_or x

pub if_tree_made : (c x y : Cell Expr) → expr_tree (if_of c x y) ≡ t.ite (tree_at expr_tree c) (tree_at expr_tree x) (tree_at expr_tree y)
if_tree_made c x y = tree.expr_out _ ∙ impl_tree_made _ ∙ tree.data_if c x y
