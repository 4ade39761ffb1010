-- What is begun becomes a tree: each level and its last operand.
use Rattle.std.specs.Prelude.{ℕ, List, [], ◌∷◌, ◌++◌, Option, Some, None, Bool, true, false}
use Rattle.cedar_expressions.specs.declared.operators.AddOp.{AddOp}
use Rattle.cedar_syntax.specs.declared.cst.Expr.{Expr}
use Rattle.cedar_syntax.specs.declared.cst.Or.{Or}
use Rattle.cedar_syntax.specs.declared.cst.And.{And}
use Rattle.cedar_syntax.specs.declared.cst.RelOp.{RelOp}
use Rattle.cedar_syntax.specs.declared.cst.Relation.{Relation}
use Rattle.cedar_syntax.specs.declared.cst.Add.{Add}
use Rattle.cedar_syntax.specs.declared.cst.MultOp.{MultOp}
use Rattle.cedar_syntax.specs.declared.cst.Mult.{Mult}
use Rattle.cedar_syntax.specs.declared.cst.NegOp.{NegOp}
use Rattle.cedar_syntax.specs.declared.cst.Unary.{Unary}
use Rattle.cedar_syntax.specs.declared.cst.MemAccess.{MemAccess}
use Rattle.cedar_syntax.specs.declared.cst.Primary.{Primary}
use Rattle.cedar_syntax.specs.declared.cst.Primary.TheVariants as primary
use Rattle.cedar_syntax.specs.declared.cst.Ident.TheVariants as ident
use Rattle.cedar_expression_machine.specs.declared.expression.state.Spanned.{Spanned}
use Rattle.cedar_expression_machine.specs.declared.expression.state.Chain.{Chain}
use Rattle.cedar_expression_machine.specs.declared.expression.state.PendingChain.{PendingChain}
use Rattle.cedar_expression_machine.specs.declared.expression.state.Branch.{Branch}
use Rattle.cedar_expression_machine.specs.declared.expression.state.PendingRelation.{PendingRelation}
use Rattle.cedar_expression_machine.specs.declared.expression.state.PendingRelation.TheVariants as left
use Rattle.cedar_expression_machine.specs.declared.expression.state.PendingOperators.{PendingOperators}
use Rattle.cedar_expression_machine.specs.declared.expression.state.Signs.{Signs}
use Rattle.cedar_expression_machine.specs.declared.expression.state.Operand.{Operand}
use Rattle.cedar_syntax.specs.declared.loc.Loc.{Loc}
use Rattle.cedar_grammar.specs.declared.reading.extent.Extent.{Extent}
use Rattle.cedar_grammar.specs.grammar.Place.{joint_extent, loc_at, node_at}
use Rattle.cedar_syntax.specs.trees.Trees.{Cell, expr_of, if_of, or_of, and_of, common_of, has_of, like_of, is_of, add_of, mult_of, unary_of, member_of, name_of}

-- a tree and its bytes

abbrev pub spanned_tree : {T : Type 0} → Option Extent → T → Spanned T
spanned_tree e x = record { tree = x; extent = e }

abbrev pub node_of : {T : Type 0} → List ℕ → Spanned T → Cell T
node_of src x = node_at src x.extent x.tree

-- chains with and without operators that differ, and one more operand

abbrev pub Plain : Type 0 → Type 0
Plain T = Chain T (Cell T)

abbrev pub Marked : Type 0 → Type 0 → Type 0
Marked T O = Chain T (O × Cell T)

-- one operand alone, at this place
abbrev pub begun_at : {T I : Type 0} → Spanned T → Option Loc → Chain T I
begun_at x l =
    record { initial = record { node = Some x.tree; loc = l }; extended = []; extent = x.extent }

-- and at its bytes
abbrev pub begun_chain : {T I : Type 0} → List ℕ → Spanned T → Chain T I
begun_chain src x = begun_at x (loc_at src x.extent)

abbrev pub longer : {T I : Type 0} → Chain T I → I → Option Extent → Chain T I
longer c y e = record {
  initial = c.initial;
  extended = c.extended ++ y ∷ [];
  extent = joint_extent c.extent e;
}

abbrev pub plain_chain : {T : Type 0} → List ℕ → Option (Plain T) → Spanned T → Plain T
plain_chain src None x = begun_chain src x
plain_chain src (Some c) x = longer c (node_of src x) x.extent

abbrev pub marked_chain : {T O : Type 0} → List ℕ → Option (PendingChain T O) → Spanned T
    → Marked T O
marked_chain src None x = begun_chain src x
marked_chain src (Some p) x = longer p.chain (p.op, node_of src x) x.extent

-- a chain and an operator
abbrev pub onward : {T I : Type 0} → Chain T I → Extent → Chain T I
onward c e = record {
  initial = c.initial;
  extended = c.extended;
  extent = joint_extent c.extent
      (Some e);
}

abbrev pub pending : {T O : Type 0} → Marked T O → O → Extent → PendingChain T O
pending c o e = record { chain = onward c e; op = o }

-- one more operand that is a node already, with the operator behind it in its bytes

abbrev pub plain_with : {T : Type 0} → Option (Plain T) → Cell T → Option Extent → Plain T
plain_with None y e = record { initial = y; extended = []; extent = e }
plain_with (Some c) y e = longer c y e

abbrev pub pending_with : {T O : Type 0} → Option (PendingChain T O) → Cell T → Option Extent → O
    → PendingChain T O
pending_with None y e o =
    record { chain = record { initial = y; extended = []; extent = e }; op = o }
pending_with (Some p) y e o = record { chain = longer p.chain (p.op, y) e; op = o }

-- what a level and its last operand are

abbrev pub unary_at : List ℕ → Operand → Spanned Unary
unary_at src m = spanned_tree (joint_extent m.signs.extent m.extent)
    (unary_of m.signs.op (node_at src m.extent m.member))

abbrev pub made_mult : Marked Unary MultOp → Spanned Mult
made_mult c = spanned_tree c.extent (mult_of c.initial c.extended)

abbrev pub made_add : Marked Mult AddOp → Spanned Add
made_add c = spanned_tree c.extent (add_of c.initial c.extended)

abbrev pub made_common : Marked Add RelOp → Spanned Relation
made_common c = spanned_tree c.extent (common_of c.initial c.extended)

-- a relation that ends with this sum
abbrev pub relation_with_sum : List ℕ → Option PendingRelation → Spanned Add → Spanned Relation
relation_with_sum src None x = made_common (marked_chain src None x)
relation_with_sum src (Some (left.Common p)) x = made_common (marked_chain src (Some p) x)
relation_with_sum src (Some (left.Has y)) x =
    spanned_tree (joint_extent y.extent x.extent) (has_of y.tree (node_of src x))
relation_with_sum src (Some (left.Like y)) x =
    spanned_tree (joint_extent y.extent x.extent) (like_of y.tree (node_of src x))
relation_with_sum src (Some (left.Is y)) x =
    spanned_tree (joint_extent y.extent x.extent) (is_of y.tree (node_of src x) None)
relation_with_sum src (Some (left.IsIn y z e)) x =
    spanned_tree (joint_extent e x.extent) (is_of y z (Some (node_of src x)))

abbrev pub made_and : Plain Relation → Spanned And
made_and c = spanned_tree c.extent (and_of c.initial c.extended)

abbrev pub made_or : Plain And → Spanned Or
made_or c = spanned_tree c.extent (or_of c.initial c.extended)

abbrev pub made_expr : List ℕ → Spanned Or → Spanned Expr
made_expr src x = spanned_tree x.extent (expr_of (node_of src x))

-- the `if`s around an expression
abbrev pub with_branches : List ℕ → List Branch → Spanned Expr → Spanned Expr
with_branches src [] x = x
with_branches src (b ∷ bs) x =
    with_branches src bs (spanned_tree (joint_extent b.extent x.extent)
    (if_of b.guard b.yes (node_of src x)))

abbrev pub mult_at : List ℕ → PendingOperators → Operand → Spanned Mult
mult_at src lv m = made_mult (marked_chain src lv.mult (unary_at src m))

abbrev pub add_at : List ℕ → PendingOperators → Operand → Spanned Add
add_at src lv m = made_add (marked_chain src lv.add (mult_at src lv m))

abbrev pub relation_at : List ℕ → PendingOperators → Operand → Spanned Relation
relation_at src lv m = relation_with_sum src lv.relation (add_at src lv m)

abbrev pub and_at : List ℕ → PendingOperators → Operand → Spanned And
and_at src lv m = made_and (plain_chain src lv.and (relation_at src lv m))

abbrev pub or_at : List ℕ → PendingOperators → Operand → Spanned Or
or_at src lv m = made_or (plain_chain src lv.or (and_at src lv m))

-- the expression that the levels and a last operand are
abbrev pub whole : List ℕ → PendingOperators → Operand → Spanned Expr
whole src lv m = with_branches src lv.branches (made_expr src (or_at src lv m))

-- levels

abbrev pub levels_of : List Branch → Option (Plain And) → Option (Plain Relation)
    → Option PendingRelation
    → Option (PendingChain Mult AddOp) → Option (PendingChain Unary MultOp) → PendingOperators
levels_of bs o a r s m = record { branches = bs; or = o; and = a; relation = r; add = s; mult = m }

abbrev pub fresh : List Branch → PendingOperators
fresh bs = levels_of bs None None None None None

-- signs

abbrev pub signs_of : Option NegOp → Option Extent → Signs
signs_of o e = record { op = o; extent = e }

abbrev pub no_signs : Signs
no_signs = signs_of None None

-- operands

abbrev pub operand_with : Signs → Cell Primary → List (Cell MemAccess) → Option Extent → Bool
    → Operand
operand_with sg x xs e b =
    record { signs = sg; member = member_of x xs; extent = e; is_if = b }

-- an operand that has no accesses yet
abbrev pub operand_of : List ℕ → Signs → Spanned Primary → Operand
operand_of src sg x = operand_with sg (node_of src x) [] x.extent false

-- one access more
abbrev pub with_access : List ℕ → Operand → Spanned MemAccess → Operand
with_access src m x =
    operand_with m.signs m.member.item (m.member.access ++ node_of src x ∷ [])
    (joint_extent m.extent x.extent) m.is_if

-- the word `if` alone as a name
abbrev pub if_primary : List ℕ → Option Extent → Spanned Primary
if_primary src e =
    spanned_tree e (primary.Name (node_at src e (name_of [] (node_at src e ident.If))))

-- right of `has`
abbrev pub if_operand : List ℕ → Option Extent → Operand
if_operand src e = operand_with no_signs (node_of src (if_primary src e)) [] e true

-- as a key
abbrev pub if_key : List ℕ → Option Extent → Cell Expr
if_key src e = node_of src (whole src (fresh []) (operand_of src no_signs (if_primary src e)))
