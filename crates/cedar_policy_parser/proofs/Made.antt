-- What the trees that the loose grammar makes give, wherever they stand.
use Rattle.std.proofs.Common.{◌≡◌, ap, ◌∙◌, map, List, [], ◌∷◌, Option, Some, None, Ok}
use Rattle.cedar_expressions.specs.declared.operators.AddOp.{AddOp}
use Rattle.cedar_syntax.specs.declared.loc.Loc.{Loc}
use Rattle.cedar_syntax.specs.declared.cst.Ident.{Ident}
use Rattle.cedar_syntax.specs.declared.cst.Name.{Name}
use Rattle.cedar_syntax.specs.declared.cst.Ref.{Ref}
use Rattle.cedar_syntax.specs.declared.cst.Slot.{Slot}
use Rattle.cedar_syntax.specs.declared.cst.MemAccess.{MemAccess}
use Rattle.cedar_syntax.specs.declared.cst.MemAccess as M
use Rattle.cedar_syntax.specs.declared.cst.RecInit.{RecInit}
use Rattle.cedar_syntax.specs.declared.cst.Literal.{Literal}
use Rattle.cedar_syntax.specs.declared.cst.RelOp.{RelOp}
use Rattle.cedar_syntax.specs.declared.cst.MultOp.{MultOp}
use Rattle.cedar_syntax.specs.declared.cst.NegOp.{NegOp}
use Rattle.cedar_syntax.specs.declared.cst.Expr.{Expr}
use Rattle.cedar_syntax.specs.declared.cst.Or.{Or}
use Rattle.cedar_syntax.specs.declared.cst.And.{And}
use Rattle.cedar_syntax.specs.declared.cst.Relation.{Relation}
use Rattle.cedar_syntax.specs.declared.cst.Add.{Add}
use Rattle.cedar_syntax.specs.declared.cst.Mult.{Mult}
use Rattle.cedar_syntax.specs.declared.cst.Unary.{Unary}
use Rattle.cedar_syntax.specs.declared.cst.Member.{Member}
use Rattle.cedar_syntax.specs.declared.cst.Primary.{Primary}
use Rattle.cedar_syntax.specs.declared.cst.Primary as P
use Rattle.cedar_syntax.specs.declared.cst.Expr.TheViews.{out-roll-Or, out-roll-Add, out-roll-Mult, out-roll-Unary}
use Rattle.cedar_syntax.specs.trees.Forms.{located, parts_of, expr_form, or_form, and_form, relation_form, add_form, mult_form, unary_form, member_form, primary_form, access_form, init_form, or_operand, and_operand, relation_operand, add_operand, mult_operand, listed_access, listed_expr, listed_init}
use Rattle.cedar_syntax.specs.trees.Located as f
use Rattle.cedar_syntax.specs.trees.Located.{Located, Form, at}
use Rattle.cedar_syntax.specs.trees.Tree.{disjunction, conjunction, relation, sum, product}
use Rattle.cedar_syntax.proofs.FormLevels.{or_out, and_out, relation_common, add_out, mult_out, unary_out, member_out, init_out, relation_has, relation_like, relation_is, relation_is_in, access_field, access_call, access_index, primary_literal, primary_ref, primary_name, primary_slot, primary_expr, primary_list, primary_inits}
use Rattle.cedar_grammar.proofs.MadeExpressions.{expr_made, if_made}
use Rattle.cedar_syntax.specs.trees.Trees.{Cell, expr_of, if_of, or_of, and_of, common_of, add_of, mult_of, unary_of, member_of, has_of, like_of, is_of, rec_init_of}
use Rattle.cedar_conversion.specs.outcome.Conversion.{outcome, form_outcome, operands, value_outcome, chain_outcome, conditional_outcome, signs_outcome, expression_at, tree_place, bodies, set_value_outcome, record_outcome, accesses_outcome, access_outcome, access_form_outcome, pairs_outcome, pair_outcome, pair_form_outcome, with_attributes, match_outcome, beside_type, type_test_outcome, type_within_outcome}
use Rattle.cedar_conversion.specs.parts.HasSide.{right_side}
use Rattle.cedar_conversion.specs.parts.Leaves.{name_leaf, slot_leaf, entity_leaf}
use Rattle.cedar_conversion.specs.parts.Literals.{number_in, lone_literal, literal_alone, literal_outcome}
use Rattle.cedar_conversion.specs.parts.Members.{field, call, index, member_outcome}
use Rattle.cedar_conversion.specs.parts.Names.{unreserved_ident}
use Rattle.cedar_conversion.specs.strict.Extensions.{Extensions}
use Rattle.cedar_conversion.specs.outcome.Held.{as_pattern, as_string, as_attribute}
use Rattle.cedar_conversion.specs.outcome.Outcome.{both, next}

at_form : (e : Extensions) (p : Option Loc) (t u : Form) → t ≡ u → outcome e (at p t) ≡ form_outcome e p u
unfolding outcome
at_form e p t u h = ap (form_outcome e p) h

pub gives_or_alone : (e : Extensions) (p : Option Loc) (x : Cell Or) → outcome e (at p (expr_form (expr_of x))) ≡ outcome e (located or_form x)
unfolding form_outcome
gives_or_alone e p x = at_form e p _ _ (expr_made x)

pub gives_if : (e : Extensions) (p : Option Loc) (c x y : Cell Expr)
    → outcome e (at p (expr_form (if_of c x y))) ≡ next (both (both (value_outcome e (located expr_form c)) (value_outcome e (located expr_form x))) (value_outcome e (located expr_form y))) (conditional_outcome p)
unfolding form_outcome
gives_if e p c x y = at_form e p _ _ (if_made c x y)

pub gives_or : (e : Extensions) (p : Option Loc) (x : Cell And) (xs : List (Cell And))
    → outcome e (at p (or_form (or_of x xs))) ≡ chain_outcome disjunction p (parts_of (map or_operand xs)) (outcome e (located and_form x)) (operands e p (parts_of (map or_operand xs)))
unfolding form_outcome
gives_or e p x xs = at_form e p _ _ (or_out (or_of x xs) ∙ ap (λ d. f.chain disjunction (located and_form d.initial) (parts_of (map or_operand d.extended))) (out-roll-Or record { initial = x; extended = xs }))

pub gives_and : (e : Extensions) (p : Option Loc) (x : Cell Relation) (xs : List (Cell Relation))
    → outcome e (at p (and_form (and_of x xs))) ≡ chain_outcome conjunction p (parts_of (map and_operand xs)) (outcome e (located relation_form x)) (operands e p (parts_of (map and_operand xs)))
unfolding form_outcome
gives_and e p x xs = at_form e p _ _ (and_out (and_of x xs))

pub gives_common : (e : Extensions) (p : Option Loc) (x : Cell Add) (xs : List (RelOp × Cell Add))
    → outcome e (at p (relation_form (common_of x xs))) ≡ chain_outcome relation p (parts_of (map relation_operand xs)) (outcome e (located add_form x)) (operands e p (parts_of (map relation_operand xs)))
unfolding form_outcome
gives_common e p x xs = at_form e p _ _ (relation_common x xs)

pub gives_add : (e : Extensions) (p : Option Loc) (x : Cell Mult) (xs : List (AddOp × Cell Mult))
    → outcome e (at p (add_form (add_of x xs))) ≡ chain_outcome sum p (parts_of (map add_operand xs)) (outcome e (located mult_form x)) (operands e p (parts_of (map add_operand xs)))
unfolding form_outcome
gives_add e p x xs = at_form e p _ _ (add_out (add_of x xs) ∙ ap (λ d. f.chain sum (located mult_form d.initial) (parts_of (map add_operand d.extended))) (out-roll-Add record { initial = x; extended = xs }))

pub gives_mult : (e : Extensions) (p : Option Loc) (x : Cell Unary) (xs : List (MultOp × Cell Unary))
    → outcome e (at p (mult_form (mult_of x xs))) ≡ chain_outcome product p (parts_of (map mult_operand xs)) (outcome e (located unary_form x)) (operands e p (parts_of (map mult_operand xs)))
unfolding form_outcome
gives_mult e p x xs = at_form e p _ _ (mult_out (mult_of x xs) ∙ ap (λ d. f.chain product (located unary_form d.initial) (parts_of (map mult_operand d.extended))) (out-roll-Mult record { initial = x; extended = xs }))

pub gives_unary : (e : Extensions) (p : Option Loc) (o : Option NegOp) (x : Cell Member)
    → outcome e (at p (unary_form (unary_of o x))) ≡ signs_outcome p o (number_in (lone_literal (located member_form x))) (outcome e (located member_form x))
unfolding form_outcome
gives_unary e p o x = at_form e p _ _ (unary_out (unary_of o x) ∙ ap (λ d. f.unary d.op (located member_form d.item)) (out-roll-Unary record { op = o; item = x }))

pub gives_has : (e : Extensions) (p : Option Loc) (x y : Cell Add)
    → outcome e (at p (relation_form (has_of x y))) ≡ next (right_side (tree_place (located add_form y)) (located add_form y)) (λ r. next (value_outcome e (located add_form x)) (with_attributes p r))
unfolding form_outcome
gives_has e p x y = at_form e p _ _ (relation_has x y)

pub gives_like : (e : Extensions) (p : Option Loc) (x y : Cell Add)
    → outcome e (at p (relation_form (like_of x y))) ≡ next (outcome e (located add_form y)) (λ h. next (both (value_outcome e (located add_form x)) (as_pattern h)) (match_outcome p))
unfolding form_outcome
gives_like e p x y = at_form e p _ _ (relation_like x y)

pub gives_is : (e : Extensions) (p : Option Loc) (x y : Cell Add)
    → outcome e (at p (relation_form (is_of x y None))) ≡ next (next (outcome e (located add_form y)) (beside_type (value_outcome e (located add_form x)))) (type_test_outcome p)
unfolding form_outcome
gives_is e p x y = at_form e p _ _ (relation_is x y)

pub gives_is_in : (e : Extensions) (p : Option Loc) (x y z : Cell Add)
    → outcome e (at p (relation_form (is_of x y (Some z)))) ≡ next (next (outcome e (located add_form y)) (beside_type (value_outcome e (located add_form x)))) (λ q. next (value_outcome e (located add_form z)) (type_within_outcome p q))
unfolding form_outcome
gives_is_in e p x y z = at_form e p _ _ (relation_is_in x y z)

-- ---- members

pub gives_member : (e : Extensions) (p : Option Loc) (x : Cell Primary) (xs : List (Cell MemAccess))
    → outcome e (at p (member_form (member_of x xs))) ≡ next (both (outcome e (located primary_form x)) (accesses_outcome e (parts_of (map listed_access xs)))) (λ q. member_outcome e p q.0 q.1)
unfolding form_outcome
gives_member e p x xs = at_form e p _ _ (member_out (member_of x xs))

pub lone_member : (p : Option Loc) (x : Cell Primary) → lone_literal (at p (member_form (member_of x []))) ≡ literal_alone (located primary_form x)
lone_member p x = ap (λ t. lone_literal (at p t)) (member_out (member_of x []))

pub lone_accessed : (p : Option Loc) (x : Cell Primary) (y : Cell MemAccess) (xs : List (Cell MemAccess)) → lone_literal (at p (member_form (member_of x (y ∷ xs)))) ≡ None
lone_accessed p x y xs = ap (λ t. lone_literal (at p t)) (member_out (member_of x (y ∷ xs)))

access_at : (e : Extensions) (p : Option Loc) (t u : Form) → t ≡ u → access_outcome e (at p t) ≡ access_form_outcome e p u
unfolding access_outcome
access_at e p t u h = ap (access_form_outcome e p) h

pub gives_field : (e : Extensions) (p : Option Loc) (x : Cell Ident) → access_outcome e (at p (access_form (M.Field x))) ≡ next (unreserved_ident x) (λ id. Ok (field id))
unfolding access_form_outcome
gives_field e p x = access_at e p _ _ (access_field x)

pub gives_call : (e : Extensions) (p : Option Loc) (xs : List (Cell Expr)) → access_outcome e (at p (access_form (M.Call xs))) ≡ next (operands e p (parts_of (map listed_expr xs))) (λ ps. Ok (call (bodies ps)))
unfolding access_form_outcome
gives_call e p xs = access_at e p _ _ (access_call xs)

pub gives_index : (e : Extensions) (p : Option Loc) (x : Cell Expr) → access_outcome e (at p (access_form (M.Index x))) ≡ next (next (outcome e (located expr_form x)) as_string) (λ text. Ok (index text))
unfolding access_form_outcome
gives_index e p x = access_at e p _ _ (access_index x)

-- ---- primaries

pub gives_literally : (e : Extensions) (p : Option Loc) (x : Cell Literal) → outcome e (at p (primary_form (P.Literal x))) ≡ literal_outcome x.loc x.node
unfolding form_outcome
gives_literally e p x = at_form e p _ _ (primary_literal x)

pub lone_literally : (p : Option Loc) (x : Cell Literal) → literal_alone (at p (primary_form (P.Literal x))) ≡ x.node
lone_literally p x = ap (λ t. literal_alone (at p t)) (primary_literal x)

pub gives_named : (e : Extensions) (p : Option Loc) (x : Cell Name) → outcome e (at p (primary_form (P.Name x))) ≡ name_leaf p x
unfolding form_outcome
gives_named e p x = at_form e p _ _ (primary_name x)

pub lone_named : (p : Option Loc) (x : Cell Name) → literal_alone (at p (primary_form (P.Name x))) ≡ None
lone_named p x = ap (λ t. literal_alone (at p t)) (primary_name x)

pub gives_slot : (e : Extensions) (p : Option Loc) (x : Cell Slot) → outcome e (at p (primary_form (P.Slot x))) ≡ slot_leaf x
unfolding form_outcome
gives_slot e p x = at_form e p _ _ (primary_slot x)

pub lone_slot : (p : Option Loc) (x : Cell Slot) → literal_alone (at p (primary_form (P.Slot x))) ≡ None
lone_slot p x = ap (λ t. literal_alone (at p t)) (primary_slot x)

pub gives_referred : (e : Extensions) (p : Option Loc) (x : Cell Ref) → outcome e (at p (primary_form (P.Ref x))) ≡ entity_leaf x
unfolding form_outcome
gives_referred e p x = at_form e p _ _ (primary_ref x)

pub lone_referred : (p : Option Loc) (x : Cell Ref) → literal_alone (at p (primary_form (P.Ref x))) ≡ None
lone_referred p x = ap (λ t. literal_alone (at p t)) (primary_ref x)

pub gives_paren : (e : Extensions) (p : Option Loc) (x : Cell Expr) → outcome e (at p (primary_form (P.Expr x))) ≡ next (value_outcome e (located expr_form x)) (expression_at (tree_place (located expr_form x)))
unfolding form_outcome
gives_paren e p x = at_form e p _ _ (primary_expr x)

pub lone_paren : (p : Option Loc) (x : Cell Expr) → literal_alone (at p (primary_form (P.Expr x))) ≡ None
lone_paren p x = ap (λ t. literal_alone (at p t)) (primary_expr x)

pub gives_set : (e : Extensions) (p : Option Loc) (xs : List (Cell Expr)) → outcome e (at p (primary_form (P.EList xs))) ≡ next (operands e p (parts_of (map listed_expr xs))) (set_value_outcome p)
unfolding form_outcome
gives_set e p xs = at_form e p _ _ (primary_list xs)

pub lone_set : (p : Option Loc) (xs : List (Cell Expr)) → literal_alone (at p (primary_form (P.EList xs))) ≡ None
lone_set p xs = ap (λ t. literal_alone (at p t)) (primary_list xs)

pub gives_braces : (e : Extensions) (p : Option Loc) (xs : List (Cell RecInit)) → outcome e (at p (primary_form (P.RInits xs))) ≡ next (pairs_outcome e (parts_of (map listed_init xs))) (record_outcome p)
unfolding form_outcome
gives_braces e p xs = at_form e p _ _ (primary_inits xs)

pub lone_braces : (p : Option Loc) (xs : List (Cell RecInit)) → literal_alone (at p (primary_form (P.RInits xs))) ≡ None
lone_braces p xs = ap (λ t. literal_alone (at p t)) (primary_inits xs)

entry_at : (e : Extensions) (p : Option Loc) (t u : Form) → t ≡ u → pair_outcome e (at p t) ≡ pair_form_outcome e p u
unfolding pair_outcome
entry_at e p t u h = ap (pair_form_outcome e p) h

pub gives_entry : (e : Extensions) (p : Option Loc) (k x : Cell Expr) → pair_outcome e (at p (init_form (rec_init_of k x))) ≡ next (outcome e (located expr_form k)) (λ h. both (as_attribute h) (value_outcome e (located expr_form x)))
unfolding pair_form_outcome
gives_entry e p k x = entry_at e p _ _ (init_out (rec_init_of k x))
