-- The expressions that stand straight in a tree, in order: those that are not within another one
-- of them.
use Rattle.std.specs.Prelude.{◌≡◌, List, [], ◌∷◌, ◌++◌, map, Option, Some, None}
use denote.Ref.{Bor}
use Rattle.cedar_syntax.specs.declared.node.Node.{Node}
use Rattle.cedar_syntax.specs.declared.cst.Expr.{Expr, out-Expr}
use Rattle.cedar_syntax.specs.declared.cst.ExprData.{ExprData, out-ExprData}
use Rattle.cedar_syntax.specs.declared.cst.MemAccess.{MemAccess, out-MemAccess}
use Rattle.cedar_syntax.specs.declared.cst.Primary.{Primary, out-Primary}
use Rattle.cedar_syntax.specs.declared.cst.Relation.{Relation, out-Relation}
use Rattle.cedar_syntax.specs.declared.cst.Add.{Add, out-Add}
use Rattle.cedar_syntax.specs.declared.cst.And.{And}
use Rattle.cedar_syntax.specs.declared.cst.ExprImpl.{ExprImpl, out-ExprImpl}
use Rattle.cedar_syntax.specs.declared.cst.Linked.{Linked}
use Rattle.cedar_syntax.specs.declared.cst.Member.{Member}
use Rattle.cedar_syntax.specs.declared.cst.Mult.{Mult, out-Mult}
use Rattle.cedar_syntax.specs.declared.cst.Or.{Or, out-Or}
use Rattle.cedar_syntax.specs.declared.cst.RecInit.{RecInit}
use Rattle.cedar_syntax.specs.declared.cst.Unary.{Unary, out-Unary}
use Rattle.cedar_syntax.specs.declared.cst.Expr.TheOpen.{Expr-F, ExprData-F, MemAccess-F, Primary-F, Relation-F}

abbrev pub option_inside : {T : Type 0} → (T → List Expr) → Option T → List Expr
option_inside f None = []
option_inside f (Some x) = f x

abbrev pub node_inside : {T : Type 0} → (T → List Expr) → Node (Option T) → List Expr
node_inside f n = option_inside f n.node

abbrev pub all_inside : {T : Type 0} → (T → List Expr) → List T → List Expr
all_inside f [] = []
all_inside f (x ∷ xs) = f x ++ all_inside f xs

-- an operand behind its operator
abbrev pub operand_inside : {O T : Type 0} → (T → List Expr) → O × Node (Option T) → List Expr
operand_inside f p = node_inside f p.1

-- an expression isn't gone into
abbrev pub expr_in : Node (Option Expr) → List Expr
expr_in n = node_inside (λ x. x ∷ []) n

-- ---- each level

abbrev pub init_inside : RecInit → List Expr
init_inside i = expr_in i.0 ++ expr_in i.1

abbrev pub in_primary : Primary-F Expr ExprData MemAccess Primary Relation Add And ExprImpl Linked
    Member Mult Or RecInit Unary → List Expr
in_primary (Primary-F.«Primary::Expr» n) = expr_in n
in_primary (Primary-F.EList ns) = all_inside expr_in ns
in_primary (Primary-F.RInits ns) = all_inside (node_inside init_inside) ns
in_primary other = []

abbrev pub primary_inside : Primary → List Expr
primary_inside p = in_primary (out-Primary p)

abbrev pub in_access : MemAccess-F Expr ExprData MemAccess Primary Relation Add And ExprImpl Linked
    Member Mult Or RecInit Unary → List Expr
in_access (MemAccess-F.Field n) = []
in_access (MemAccess-F.Call ns) = all_inside expr_in ns
in_access (MemAccess-F.Index n) = expr_in n

abbrev pub access_inside : MemAccess → List Expr
access_inside a = in_access (out-MemAccess a)

abbrev pub member_inside : Member → List Expr
member_inside m = node_inside primary_inside m.item
    ++ all_inside (node_inside access_inside) m.access

abbrev pub unary_inside : Unary → List Expr
unary_inside u = node_inside member_inside (out-Unary u).item

abbrev pub mult_inside : Mult → List Expr
mult_inside m = node_inside unary_inside (out-Mult m).initial
    ++ all_inside (operand_inside unary_inside) (out-Mult m).extended

abbrev pub add_inside : Add → List Expr
add_inside a = node_inside mult_inside (out-Add a).initial
    ++ all_inside (operand_inside mult_inside) (out-Add a).extended

abbrev pub in_relation : Relation-F Expr ExprData MemAccess Primary Relation Add And ExprImpl
    Linked Member Mult Or RecInit Unary → List Expr
in_relation (Relation-F.Common initial extended) =
    node_inside add_inside initial ++ all_inside (operand_inside add_inside) extended
in_relation (Relation-F.Has target right) =
    node_inside add_inside target ++ node_inside add_inside right
in_relation (Relation-F.Like target pattern) =
    node_inside add_inside target ++ node_inside add_inside pattern
in_relation (Relation-F.IsIn target entity_type in_entity) =
    node_inside add_inside target ++ (node_inside add_inside entity_type
    ++ option_inside (node_inside add_inside) in_entity)

abbrev pub relation_inside : Relation → List Expr
relation_inside r = in_relation (out-Relation r)

abbrev pub and_inside : And → List Expr
and_inside a = node_inside relation_inside a.initial
    ++ all_inside (node_inside relation_inside) a.extended

abbrev pub or_inside : Or → List Expr
or_inside o = node_inside and_inside (out-Or o).initial
    ++ all_inside (node_inside and_inside) (out-Or o).extended

abbrev pub in_data : ExprData-F Expr ExprData MemAccess Primary Relation Add And ExprImpl Linked
    Member Mult Or RecInit Unary → List Expr
in_data (ExprData-F.Or n) = node_inside or_inside n
in_data (ExprData-F.If a b c) = expr_in a ++ (expr_in b ++ expr_in c)

abbrev pub data_inside : ExprData → List Expr
data_inside d = in_data (out-ExprData d)

-- with what waits behind it
abbrev pub linked_inside : Linked → List Expr
linked_inside l = data_inside l.content
    ++ option_inside (λ x. x ∷ []) l.next

abbrev pub in_expr : Expr-F Expr ExprData MemAccess Primary Relation Add And ExprImpl Linked Member
    Mult Or RecInit Unary → List Expr
in_expr (Expr-F.«Expr::Expr» i) = linked_inside (out-ExprImpl i).expr

abbrev pub expr_inside : Expr → List Expr
expr_inside e = in_expr (out-Expr e)

-- ---- expressions that are lent

abbrev pub lent : List (Bor Expr) → List Expr
lent = map (λ e. e.now)

-- Copying these in order, each by the copies of those that stand straight in it, which are the
-- newest then, makes of the copies `xs` the copies `ys`.
abbrev pub Leads : List Expr → List Expr → List Expr → Type 0
Leads [] xs ys = xs ≡ ys
Leads (e ∷ es) xs ys =
    (rest : List Expr) × (xs ≡ expr_inside e ++ rest) × Leads es (e ∷ rest) ys
