-- The expressions that stand straight in each form.
use Rattle.std.proofs.Common.{◌≡◌, ap, sym, ◌∙◌, Option, List, [], ◌++◌}
use Rattle.cedar_syntax.specs.declared.node.Node.{Node}
use Rattle.cedar_syntax.specs.declared.cst.Ident.{Ident}
use Rattle.cedar_syntax.specs.declared.cst.Literal.{Literal}
use Rattle.cedar_syntax.specs.declared.cst.Ref.{Ref}
use Rattle.cedar_syntax.specs.declared.cst.Name.{Name}
use Rattle.cedar_syntax.specs.declared.cst.Slot.{Slot}
use Rattle.cedar_syntax.specs.declared.cst.RelOp.{RelOp}
use Rattle.cedar_syntax.specs.declared.cst.Add.{Add}
use Rattle.cedar_syntax.specs.declared.cst.Or.{Or}
use Rattle.cedar_syntax.specs.declared.cst.RecInit.{RecInit}
use Rattle.cedar_syntax.specs.declared.cst.Expr.{Expr, out-Expr}
use Rattle.cedar_syntax.specs.declared.cst.ExprImpl.{ExprImpl, out-ExprImpl}
use Rattle.cedar_syntax.specs.declared.cst.ExprData.{ExprData, out-ExprData}
use Rattle.cedar_syntax.specs.declared.cst.MemAccess.{MemAccess, out-MemAccess}
use Rattle.cedar_syntax.specs.declared.cst.Primary.{Primary, out-Primary}
use Rattle.cedar_syntax.specs.declared.cst.Relation.{Relation, out-Relation}
use Rattle.cedar_syntax.specs.declared.cst.Expr.TheOpen.{Expr-F, ExprData-F, MemAccess-F, Primary-F, Relation-F}
use Rattle.cedar_syntax.specs.declared.cst.Expr.TheViews.{out-roll-Expr, out-roll-ExprData, out-roll-MemAccess, out-roll-Primary, out-roll-Relation}
use Rattle.cedar_syntax.specs.declared.cst.Expr.TheVariants as EV
use Rattle.cedar_syntax.specs.declared.cst.ExprData as D
use Rattle.cedar_syntax.specs.declared.cst.ExprData.TheVariants as DV
use Rattle.cedar_syntax.specs.declared.cst.MemAccess as M
use Rattle.cedar_syntax.specs.declared.cst.MemAccess.TheVariants as MV
use Rattle.cedar_syntax.specs.declared.cst.Primary as P
use Rattle.cedar_syntax.specs.declared.cst.Primary.TheVariants as PV
use Rattle.cedar_syntax.specs.declared.cst.Relation as R
use Rattle.cedar_syntax.specs.declared.cst.Relation.TheVariants as RV
use Rattle.cedar_syntax.specs.trees.Inside.{option_inside, node_inside, all_inside, operand_inside, expr_in, in_primary, in_access, in_relation, in_data, in_expr, data_inside, access_inside, primary_inside, relation_inside, add_inside, or_inside, init_inside, linked_inside, expr_inside}

pub expr : (x : Expr) (i : ExprImpl) → x ≡ EV.Expr i → expr_inside x ≡ linked_inside (out-ExprImpl i).expr
expr x i e = ap expr_inside e ∙ ap in_expr (ap out-Expr (sym (EV.rolls-Expr i)) ∙ out-roll-Expr (Expr-F.«Expr::Expr» i))

pub data_or : (x : ExprData) (a : Node (Option Or)) → x ≡ D.Or a → data_inside x ≡ node_inside or_inside a
data_or x a e = ap data_inside e ∙ ap in_data (ap out-ExprData (sym (DV.rolls-Or a)) ∙ out-roll-ExprData (ExprData-F.Or a))

pub data_if : (x : ExprData) (a : Node (Option Expr)) (b : Node (Option Expr)) (c : Node (Option Expr)) → x ≡ D.If a b c → data_inside x ≡ expr_in a ++ (expr_in b ++ expr_in c)
data_if x a b c e = ap data_inside e ∙ ap in_data (ap out-ExprData (sym (DV.rolls-If a b c)) ∙ out-roll-ExprData (ExprData-F.If a b c))

pub relation_common : (x : Relation) (a : Node (Option Add)) (xs : List (RelOp × Node (Option Add))) → x ≡ R.Common a xs → relation_inside x ≡ node_inside add_inside a ++ all_inside (operand_inside add_inside) xs
relation_common x a xs e = ap relation_inside e ∙ ap in_relation (ap out-Relation (sym (RV.rolls-Common a xs)) ∙ out-roll-Relation (Relation-F.Common a xs))

pub relation_has : (x : Relation) (a : Node (Option Add)) (b : Node (Option Add)) → x ≡ R.Has a b → relation_inside x ≡ node_inside add_inside a ++ node_inside add_inside b
relation_has x a b e = ap relation_inside e ∙ ap in_relation (ap out-Relation (sym (RV.rolls-Has a b)) ∙ out-roll-Relation (Relation-F.Has a b))

pub relation_like : (x : Relation) (a : Node (Option Add)) (b : Node (Option Add)) → x ≡ R.Like a b → relation_inside x ≡ node_inside add_inside a ++ node_inside add_inside b
relation_like x a b e = ap relation_inside e ∙ ap in_relation (ap out-Relation (sym (RV.rolls-Like a b)) ∙ out-roll-Relation (Relation-F.Like a b))

pub relation_is : (x : Relation) (a : Node (Option Add)) (b : Node (Option Add)) (c : Option (Node (Option Add))) → x ≡ R.IsIn a b c → relation_inside x ≡ node_inside add_inside a ++ (node_inside add_inside b ++ option_inside (node_inside add_inside) c)
relation_is x a b c e = ap relation_inside e ∙ ap in_relation (ap out-Relation (sym (RV.rolls-IsIn a b c)) ∙ out-roll-Relation (Relation-F.IsIn a b c))

pub access_field : (x : MemAccess) (a : Node (Option Ident)) → x ≡ M.Field a → access_inside x ≡ []
access_field x a e = ap access_inside e ∙ ap in_access (ap out-MemAccess (sym (MV.rolls-Field a)) ∙ out-roll-MemAccess (MemAccess-F.Field a))

pub access_call : (x : MemAccess) (a : List (Node (Option Expr))) → x ≡ M.Call a → access_inside x ≡ all_inside expr_in a
access_call x a e = ap access_inside e ∙ ap in_access (ap out-MemAccess (sym (MV.rolls-Call a)) ∙ out-roll-MemAccess (MemAccess-F.Call a))

pub access_index : (x : MemAccess) (a : Node (Option Expr)) → x ≡ M.Index a → access_inside x ≡ expr_in a
access_index x a e = ap access_inside e ∙ ap in_access (ap out-MemAccess (sym (MV.rolls-Index a)) ∙ out-roll-MemAccess (MemAccess-F.Index a))

pub primary_literal : (x : Primary) (a : Node (Option Literal)) → x ≡ P.Literal a → primary_inside x ≡ []
primary_literal x a e = ap primary_inside e ∙ ap in_primary (ap out-Primary (sym (PV.rolls-Literal a)) ∙ out-roll-Primary (Primary-F.Literal a))

pub primary_ref : (x : Primary) (a : Node (Option Ref)) → x ≡ P.Ref a → primary_inside x ≡ []
primary_ref x a e = ap primary_inside e ∙ ap in_primary (ap out-Primary (sym (PV.rolls-Ref a)) ∙ out-roll-Primary (Primary-F.Ref a))

pub primary_name : (x : Primary) (a : Node (Option Name)) → x ≡ P.Name a → primary_inside x ≡ []
primary_name x a e = ap primary_inside e ∙ ap in_primary (ap out-Primary (sym (PV.rolls-Name a)) ∙ out-roll-Primary (Primary-F.Name a))

pub primary_slot : (x : Primary) (a : Node (Option Slot)) → x ≡ P.Slot a → primary_inside x ≡ []
primary_slot x a e = ap primary_inside e ∙ ap in_primary (ap out-Primary (sym (PV.rolls-Slot a)) ∙ out-roll-Primary (Primary-F.Slot a))

pub primary_expr : (x : Primary) (a : Node (Option Expr)) → x ≡ P.Expr a → primary_inside x ≡ expr_in a
primary_expr x a e = ap primary_inside e ∙ ap in_primary (ap out-Primary (sym (PV.rolls-Expr a)) ∙ out-roll-Primary (Primary-F.«Primary::Expr» a))

pub primary_list : (x : Primary) (a : List (Node (Option Expr))) → x ≡ P.EList a → primary_inside x ≡ all_inside expr_in a
primary_list x a e = ap primary_inside e ∙ ap in_primary (ap out-Primary (sym (PV.rolls-EList a)) ∙ out-roll-Primary (Primary-F.EList a))

pub primary_inits : (x : Primary) (a : List (Node (Option RecInit))) → x ≡ P.RInits a → primary_inside x ≡ all_inside (node_inside init_inside) a
primary_inits x a e = ap primary_inside e ∙ ap in_primary (ap out-Primary (sym (PV.rolls-RInits a)) ∙ out-roll-Primary (Primary-F.RInits a))
