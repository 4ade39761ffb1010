-- The primary that each tree is which the loose grammar makes, wherever it stands.
use Rattle.std.proofs.Common.{◌≡◌, ap, ◌∙◌, map, cond, List, Option, Some, None}
use Rattle.cedar_expressions.specs.declared.operators.AddOp.{AddOp}
use Rattle.cedar_syntax.specs.declared.loc.Loc.{Loc}
use Rattle.cedar_syntax.specs.declared.cst.MemAccess.{MemAccess}
use Rattle.cedar_syntax.specs.declared.cst.RelOp.{RelOp}
use Rattle.cedar_syntax.specs.declared.cst.MultOp.{MultOp}
use Rattle.cedar_syntax.specs.declared.cst.NegOp.{NegOp}
use Rattle.cedar_syntax.specs.declared.cst.Expr.{Expr}
use Rattle.cedar_syntax.specs.declared.cst.Or.{Or}
use Rattle.cedar_syntax.specs.declared.cst.And.{And}
use Rattle.cedar_syntax.specs.declared.cst.Relation.{Relation}
use Rattle.cedar_syntax.specs.declared.cst.Add.{Add}
use Rattle.cedar_syntax.specs.declared.cst.Mult.{Mult}
use Rattle.cedar_syntax.specs.declared.cst.Unary.{Unary}
use Rattle.cedar_syntax.specs.declared.cst.Member.{Member}
use Rattle.cedar_syntax.specs.declared.cst.Primary.{Primary}
use Rattle.cedar_syntax.specs.declared.cst.Primary as P
use Rattle.cedar_syntax.specs.declared.cst.Expr.TheViews.{out-roll-Or, out-roll-Add, out-roll-Mult, out-roll-Unary}
use Rattle.cedar_syntax.specs.trees.Forms.{located, parts_of, expr_form, or_form, and_form, relation_form, add_form, mult_form, unary_form, member_form, primary_form, or_operand, and_operand, relation_operand, add_operand, mult_operand, listed_access}
use Rattle.cedar_syntax.specs.trees.Located as f
use Rattle.cedar_syntax.specs.trees.Located.{Form, at}
use Rattle.cedar_syntax.specs.trees.Tree.{disjunction, conjunction, relation, sum, product}
use Rattle.cedar_syntax.proofs.FormLevels.{or_out, and_out, relation_common, add_out, mult_out, unary_out, member_out, relation_has, relation_like, relation_is, relation_is_in, primary_expr}
use Rattle.cedar_grammar.proofs.MadeExpressions.{expr_made, if_made}
use Rattle.cedar_syntax.specs.trees.Trees.{Cell, expr_of, if_of, or_of, and_of, common_of, add_of, mult_of, unary_of, member_of, has_of, like_of, is_of}
use Rattle.cedar_conversion.specs.parts.HasSide.{no_sign}
use Rattle.cedar_conversion.specs.outcome.Outcome.{fault_outcome, wrong_node}
use Rattle.cedar_policy_conversion.specs.References.{lone, lone_form}

pub lone_at : (p : Option Loc) (t u : Form) → t ≡ u → lone (at p t) ≡ lone_form p u
unfolding lone
lone_at p t u h = ap (lone_form p) h

pub lone_only : (p : Option Loc) (x : Cell Or) → lone (at p (expr_form (expr_of x))) ≡ lone (located or_form x)
unfolding lone_form
lone_only p x = lone_at p _ _ (expr_made x)

pub lone_if : (p : Option Loc) (c x y : Cell Expr) → lone (at p (expr_form (if_of c x y))) ≡ fault_outcome wrong_node p
unfolding lone_form
lone_if p c x y = lone_at p _ _ (if_made c x y)

pub lone_or : (p : Option Loc) (x : Cell And) (xs : List (Cell And)) → lone (at p (or_form (or_of x xs))) ≡ lone_form p (f.chain disjunction (located and_form x) (parts_of (map or_operand xs)))
lone_or p x xs = lone_at p _ _ (or_out (or_of x xs) ∙ ap (λ d. f.chain disjunction (located and_form d.initial) (parts_of (map or_operand d.extended))) (out-roll-Or record { initial = x; extended = xs }))

pub lone_and : (p : Option Loc) (x : Cell Relation) (xs : List (Cell Relation)) → lone (at p (and_form (and_of x xs))) ≡ lone_form p (f.chain conjunction (located relation_form x) (parts_of (map and_operand xs)))
lone_and p x xs = lone_at p _ _ (and_out (and_of x xs))

pub lone_common : (p : Option Loc) (x : Cell Add) (xs : List (RelOp × Cell Add)) → lone (at p (relation_form (common_of x xs))) ≡ lone_form p (f.chain relation (located add_form x) (parts_of (map relation_operand xs)))
lone_common p x xs = lone_at p _ _ (relation_common x xs)

pub lone_has : (p : Option Loc) (x y : Cell Add) → lone (at p (relation_form (has_of x y))) ≡ fault_outcome wrong_node p
unfolding lone_form
lone_has p x y = lone_at p _ _ (relation_has x y)

pub lone_like : (p : Option Loc) (x y : Cell Add) → lone (at p (relation_form (like_of x y))) ≡ fault_outcome wrong_node p
unfolding lone_form
lone_like p x y = lone_at p _ _ (relation_like x y)

pub lone_is : (p : Option Loc) (x y : Cell Add) → lone (at p (relation_form (is_of x y None))) ≡ fault_outcome wrong_node p
unfolding lone_form
lone_is p x y = lone_at p _ _ (relation_is x y)

pub lone_is_in : (p : Option Loc) (x y z : Cell Add) → lone (at p (relation_form (is_of x y (Some z)))) ≡ fault_outcome wrong_node p
unfolding lone_form
lone_is_in p x y z = lone_at p _ _ (relation_is_in x y z)

pub lone_add : (p : Option Loc) (x : Cell Mult) (xs : List (AddOp × Cell Mult)) → lone (at p (add_form (add_of x xs))) ≡ lone_form p (f.chain sum (located mult_form x) (parts_of (map add_operand xs)))
lone_add p x xs = lone_at p _ _ (add_out (add_of x xs) ∙ ap (λ d. f.chain sum (located mult_form d.initial) (parts_of (map add_operand d.extended))) (out-roll-Add record { initial = x; extended = xs }))

pub lone_mult : (p : Option Loc) (x : Cell Unary) (xs : List (MultOp × Cell Unary)) → lone (at p (mult_form (mult_of x xs))) ≡ lone_form p (f.chain product (located unary_form x) (parts_of (map mult_operand xs)))
lone_mult p x xs = lone_at p _ _ (mult_out (mult_of x xs) ∙ ap (λ d. f.chain product (located unary_form d.initial) (parts_of (map mult_operand d.extended))) (out-roll-Mult record { initial = x; extended = xs }))

pub lone_unary : (p : Option Loc) (o : Option NegOp) (x : Cell Member) → lone (at p (unary_form (unary_of o x))) ≡ cond (no_sign o) (lone (located member_form x)) (fault_outcome wrong_node p)
unfolding lone_form
lone_unary p o x = lone_at p _ _ (unary_out (unary_of o x) ∙ ap (λ d. f.unary d.op (located member_form d.item)) (out-roll-Unary record { op = o; item = x }))

pub lone_member : (p : Option Loc) (x : Cell Primary) (xs : List (Cell MemAccess)) → lone (at p (member_form (member_of x xs))) ≡ lone_form p (f.member (located primary_form x) (parts_of (map listed_access xs)))
lone_member p x xs = lone_at p _ _ (member_out (member_of x xs))

pub lone_paren : (p : Option Loc) (x : Cell Expr) → lone (at p (primary_form (P.Expr x))) ≡ lone (located expr_form x)
unfolding lone_form
lone_paren p x = lone_at p _ _ (primary_expr x)
