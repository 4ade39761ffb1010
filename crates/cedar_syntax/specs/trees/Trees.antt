-- The syntax trees, made from their parts.
use Rattle.std.specs.Prelude.{ℕ, List, Option, None, nat_le, cond}
use Rattle.cedar_expressions.specs.declared.operators.AddOp.{AddOp}
use Rattle.cedar_syntax.specs.declared.node.Node.{Node}
use Rattle.cedar_syntax.specs.tokens.Signs.{sign_limit}
use Rattle.cedar_syntax.specs.declared.cst.Expr.{Expr}
use Rattle.cedar_syntax.specs.declared.cst.Expr.TheVariants as expr
use Rattle.cedar_syntax.specs.declared.cst.ExprData.{ExprData}
use Rattle.cedar_syntax.specs.declared.cst.ExprData.TheVariants as data_of
use Rattle.cedar_syntax.specs.declared.cst.ExprImpl.{ExprImpl, roll-ExprImpl}
use Rattle.cedar_syntax.specs.declared.cst.Or.{Or, roll-Or}
use Rattle.cedar_syntax.specs.declared.cst.And.{And, roll-And}
use Rattle.cedar_syntax.specs.declared.cst.RelOp.{RelOp}
use Rattle.cedar_syntax.specs.declared.cst.Relation.{Relation}
use Rattle.cedar_syntax.specs.declared.cst.Relation.TheVariants as relation
use Rattle.cedar_syntax.specs.declared.cst.Add.{Add, roll-Add}
use Rattle.cedar_syntax.specs.declared.cst.MultOp.{MultOp}
use Rattle.cedar_syntax.specs.declared.cst.Mult.{Mult, roll-Mult}
use Rattle.cedar_syntax.specs.declared.cst.NegOp.{NegOp}
use Rattle.cedar_syntax.specs.declared.cst.NegOp.TheVariants as neg
use Rattle.cedar_syntax.specs.declared.cst.Unary.{Unary, roll-Unary}
use Rattle.cedar_syntax.specs.declared.cst.Member.{Member, roll-Member}
use Rattle.cedar_syntax.specs.declared.cst.MemAccess.{MemAccess}
use Rattle.cedar_syntax.specs.declared.cst.Primary.{Primary}
use Rattle.cedar_syntax.specs.declared.cst.Ident.{Ident}
use Rattle.cedar_syntax.specs.declared.cst.Name.{Name}
use Rattle.cedar_syntax.specs.declared.cst.Literal.{Literal}
use Rattle.cedar_syntax.specs.declared.cst.RefInit.{RefInit}
use Rattle.cedar_syntax.specs.declared.cst.RecInit.{RecInit, roll-RecInit}
use Rattle.cedar_syntax.specs.declared.cst.Str.{Str}
use Rattle.cedar_syntax.specs.declared.cst.Annotation.{Annotation}
use Rattle.cedar_syntax.specs.declared.cst.VariableDef.{VariableDef}
use Rattle.cedar_syntax.specs.declared.cst.Cond.{Cond}
use Rattle.cedar_syntax.specs.declared.cst.Policy.{Policy}
use Rattle.cedar_syntax.specs.declared.cst.Policy.TheVariants as policy
use Rattle.cedar_syntax.specs.declared.cst.Policies.{Policies}

-- a node, which is empty where a fault was found
abbrev pub Cell : Type 0 → Type 0
Cell T = Node (Option T)

-- what an expression holds, in its memory; nothing waits behind it
abbrev pub impl_of : ExprData → ExprImpl
impl_of d = roll-ExprImpl record { expr = record { content = d; depth = tt; next = None } }

abbrev pub expr_of : Cell Or → Expr
expr_of x = expr.Expr (impl_of (data_of.Or x))

abbrev pub if_of : Cell Expr → Cell Expr → Cell Expr → Expr
if_of c x y = expr.Expr (impl_of (data_of.If c x y))

abbrev pub or_of : Cell And → List (Cell And) → Or
or_of x xs = roll-Or record { initial = x; extended = xs }

abbrev pub and_of : Cell Relation → List (Cell Relation) → And
and_of x xs = roll-And record { initial = x; extended = xs }

abbrev pub common_of : Cell Add → List (RelOp × Cell Add) → Relation
common_of x xs = relation.Common x xs

abbrev pub add_of : Cell Mult → List (AddOp × Cell Mult) → Add
add_of x xs = roll-Add record { initial = x; extended = xs }

abbrev pub mult_of : Cell Unary → List (MultOp × Cell Unary) → Mult
mult_of x xs = roll-Mult record { initial = x; extended = xs }

abbrev pub unary_of : Option NegOp → Cell Member → Unary
unary_of o x = roll-Unary record { op = o; item = x }

abbrev pub member_of : Cell Primary → List (Cell MemAccess) → Member
member_of x xs = roll-Member record { item = x; access = xs }

abbrev pub has_of : Cell Add → Cell Add → Relation
has_of x y = relation.Has x y

abbrev pub like_of : Cell Add → Cell Add → Relation
like_of x y = relation.Like x y

abbrev pub is_of : Cell Add → Cell Add → Option (Cell Add) → Relation
is_of x y z = relation.IsIn x y z

abbrev pub rec_init_of : Cell Expr → Cell Expr → RecInit
rec_init_of x y = roll-RecInit record { 0 = x; 1 = y }

-- identifiers before the last one, and the last one
abbrev pub name_of : List (Cell Ident) → Cell Ident → Name
name_of xs x = record { path = xs; name = x }

abbrev pub ref_init_of : Cell Ident → Cell Literal → RefInit
ref_init_of x y = record { 0 = x; 1 = y }

abbrev pub annotation_of : Cell Ident → Option (Cell Str) → Annotation
annotation_of x y = record { key = x; value = y }

abbrev pub variable_def_of : Cell Ident → Option (Cell Name) → Option (Cell Add)
    → Option (RelOp × Cell Expr) → VariableDef
variable_def_of x y z w = record { variable = x; unused_type_name = y; entity_type = z; ineq = w }

abbrev pub cond_of : Cell Ident → Option (Cell Expr) → Cond
cond_of x y = record { cond = x; expr = y }

abbrev pub policy_of : List (Cell Annotation) → Cell Ident → List (Cell VariableDef)
    → List (Cell Cond) → Policy
policy_of xs x ys zs = policy.Policy record {
  annotations = xs;
  effect = x;
  variables = ys;
  conds = zs;
}

abbrev pub policies_of : List (Cell Policy) → Policies
policies_of xs = record { 0 = xs }

-- n times `!`
abbrev pub bangs_of : ℕ → NegOp
bangs_of n = cond (nat_le n sign_limit) (neg.Bang n) neg.OverBang

-- n times `-`
abbrev pub dashes_of : ℕ → NegOp
dashes_of n = cond (nat_le n sign_limit) (neg.Dash n) neg.OverDash
