-- What each node gives, of what its parts give.
use Rattle.std.proofs.Common.{◌≡◌, zero, suc, List, [], map, Option, Some, None, if◌then◌else◌, refl, ap, ◌∙◌, Ok, Err}
use Rattle.cedar_syntax.specs.declared.loc.Loc.{Loc}
use Rattle.cedar_syntax.specs.declared.node.Node.{Node}
use Rattle.cedar_syntax.specs.declared.cst.RelOp.{RelOp}
use Rattle.cedar_syntax.specs.declared.cst.Expr.{Expr}
use Rattle.cedar_syntax.specs.declared.cst.ExprData.{ExprData}
use Rattle.cedar_syntax.specs.declared.cst.ExprData.TheVariants as datas
use Rattle.cedar_syntax.specs.declared.cst.NegOp.{NegOp}
use Rattle.cedar_syntax.specs.declared.cst.NegOp.TheVariants as sign
use Rattle.cedar_syntax.specs.declared.cst.Or.{Or, out-Or}
use Rattle.cedar_syntax.specs.declared.cst.And.{And}
use Rattle.cedar_syntax.specs.declared.cst.Relation.{Relation}
use Rattle.cedar_syntax.specs.declared.cst.Relation.TheVariants as relations
use Rattle.cedar_syntax.specs.declared.cst.Add.{Add, out-Add}
use Rattle.cedar_syntax.specs.declared.cst.Mult.{Mult, out-Mult}
use Rattle.cedar_syntax.specs.declared.cst.Unary.{Unary, out-Unary}
use Rattle.cedar_syntax.specs.declared.cst.Member.{Member}
use Rattle.cedar_syntax.specs.declared.cst.MemAccess.{MemAccess}
use Rattle.cedar_syntax.specs.declared.cst.MemAccess.TheVariants as accesses
use Rattle.cedar_syntax.specs.declared.cst.Ident.{Ident}
use Rattle.cedar_syntax.specs.declared.cst.Primary.{Primary}
use Rattle.cedar_syntax.specs.declared.cst.Primary.TheVariants as primaries
use Rattle.cedar_syntax.specs.declared.cst.Literal.{Literal}
use Rattle.cedar_syntax.specs.declared.cst.Name.{Name}
use Rattle.cedar_syntax.specs.declared.cst.Slot.{Slot}
use Rattle.cedar_syntax.specs.declared.cst.Ref.{Ref}
use Rattle.cedar_syntax.specs.declared.cst.RecInit.{RecInit}
use Rattle.cedar_syntax.specs.trees.Forms.{located, parts_of, expr_form, data_form, or_form, and_form, relation_form, add_form, mult_form, unary_form, member_form, primary_form, access_form, init_form, or_operand, and_operand, relation_operand, add_operand, mult_operand, listed_access, listed_expr, listed_init, typed_form}
use Rattle.cedar_syntax.specs.trees.Located as f
use Rattle.cedar_syntax.specs.trees.Located.{Located, Form}
use Rattle.cedar_syntax.specs.trees.Tree.{disjunction, conjunction, relation, sum, product}
use Rattle.cedar_syntax.proofs.FormLevels.{data_or, data_if, or_out, and_out, relation_common, relation_has, relation_like, relation_typed, add_out, mult_out, unary_out, member_out, primary_literal, primary_ref, primary_name, primary_slot, primary_expr, primary_list, primary_inits, access_field, access_call, access_index, init_out}
use Rattle.cedar_conversion.specs.outcome.Conversion.{outcome, form_outcome, operands, chain_outcome, conditional_outcome, signs_outcome, number_in, lone_literal, literal_outcome, expression_at, tree_place, accesses_outcome, pairs_outcome, with_attributes, beside_type, match_outcome, type_test_outcome, type_within_outcome, set_value_outcome, record_outcome, access_outcome, access_form_outcome, pair_outcome, pair_form_outcome, value_outcome, bodies}
use Rattle.cedar_conversion.specs.machines.Views.{alike_outcome}
use Rattle.cedar_conversion.proofs.Parts.{alike_chain}
use Rattle.cedar_conversion.specs.parts.HasSide.{right_side}
use Rattle.cedar_conversion.specs.parts.Leaves.{name_leaf, slot_leaf, entity_leaf}
use Rattle.cedar_conversion.specs.outcome.LonePart.{lone_part, no_sign}
use Rattle.cedar_conversion.specs.parts.Members as member
use Rattle.cedar_conversion.specs.parts.Members.{member_outcome}
use Rattle.cedar_conversion.specs.parts.Names.{unreserved_ident}
use Rattle.cedar_conversion.specs.strict.Extensions.{Extensions}
use Rattle.cedar_conversion.specs.outcome.Held.{Held, as_expression, as_pattern, as_string, as_attribute}
use Rattle.cedar_conversion.specs.outcome.Outcome.{Outcome, fault_outcome, both, next, empty_node}
use Rattle.cedar_conversion.specs.machines.Applied.{type_relation_outcome}
use Rattle.cedar_conversion.proofs.LoneParts.{through, to_part}
use Rattle.cedar_conversion.proofs.Parts.{alone}

pub empty : {X : Type 0} (e : Extensions) (g : X → Form) (n : Node (Option X)) → n.node ≡ None → outcome e (located g n) ≡ fault_outcome empty_node n.loc
unfolding outcome
empty e g n h = rw h refl

filled_with : {X : Type 0} (e : Extensions) (g : X → Form) (n : Node (Option X)) (x : X) (t : Form) → n.node ≡ Some x → g x ≡ t → outcome e (located g n) ≡ form_outcome e n.loc t
unfolding outcome
filled_with e g n x t h k = rw h (ap (λ u. form_outcome e n.loc u) k)

-- ---- expressions

pub or_expr_node : (e : Extensions) (n : Node (Option Expr)) (d : Expr) (x : ExprData) (a : Node (Option Or)) → n.node ≡ Some d → expr_form d ≡ data_form x → x ≡ datas.Or a
    → outcome e (located expr_form n) ≡ outcome e (located or_form a)
unfolding form_outcome
or_expr_node e n d x a h k l = filled_with e expr_form n d _ h (k ∙ ap data_form l ∙ data_or a)

pub data_node : (e : Extensions) (n : Node (Option Expr)) (d : Expr) (x : ExprData) → n.node ≡ Some d → expr_form d ≡ data_form x
    → outcome e (located expr_form n) ≡ form_outcome e n.loc (data_form x)
data_node e n d x h k = filled_with e expr_form n d _ h k

pub if_data : (e : Extensions) (place : Option Loc) (x : ExprData) (a b c : Node (Option Expr)) → x ≡ datas.If a b c
    → form_outcome e place (data_form x) ≡ next (both (both (next (outcome e (located expr_form a)) as_expression) (next (outcome e (located expr_form b)) as_expression)) (next (outcome e (located expr_form c)) as_expression)) (conditional_outcome place)
unfolding form_outcome
if_data e place x a b c h = ap (λ t. form_outcome e place t) (ap data_form h ∙ data_if a b c)

-- ---- levels

-- what a level gives, opened
pub level_node : {X : Type 0} (e : Extensions) (g : X → Form) (n : Node (Option X)) (d : X) → n.node ≡ Some d → outcome e (located g n) ≡ form_outcome e n.loc (g d)
level_node e g n d h = filled_with e g n d (g d) h refl

-- a level that is one part alone gives what this part gives
by_sign : (e : Extensions) (place : Option Loc) (op : Option NegOp) (n : Located) → form_outcome e place (f.unary op n) ≡ through (outcome e) (form_outcome e place (f.unary op n)) (if no_sign op then Some n else None)
unfolding form_outcome
by_sign e place None n = refl
by_sign e place (Some (sign.Bang zero)) n = refl
by_sign e place (Some (sign.Bang (suc m))) n = refl
by_sign e place (Some sign.OverBang) n = refl
by_sign e place (Some (sign.Dash zero)) n = refl
by_sign e place (Some (sign.Dash (suc m))) n = refl
by_sign e place (Some sign.OverDash) n = refl

pub alone_member : (e : Extensions) (place : Option Loc) (o : Outcome Held) → next (both o (Ok [])) (λ p. member_outcome e place p.0 p.1) ≡ o
alone_member e place (Ok h) = refl
alone_member e place (Err fs) = refl

by_part : (e : Extensions) (place : Option Loc) (t : Form) → form_outcome e place t ≡ through (outcome e) (form_outcome e place t) (lone_part t)
unfolding form_outcome operands accesses_outcome
by_part e place (f.only n) = refl
by_part e place (f.chain level n f.none) = alone level place (outcome e n)
by_part e place (f.unary op n) = by_sign e place op n
by_part e place (f.member n f.none) = alone_member e place (outcome e n)
by_part e place t = refl

pub part_node : {X Y : Type 0} (e : Extensions) (g : X → Form) (h : Y → Form) (n : Node (Option X)) (d : X) (a : Node (Option Y)) → n.node ≡ Some d → Some (located h a) ≡ lone_part (g d) → outcome e (located g n) ≡ outcome e (located h a)
part_node e g h n d a k l = to_part (outcome e) (form_outcome e n.loc (g d)) _ (lone_part (g d)) (located h a) (level_node e g n d k ∙ by_part e n.loc (g d)) l

pub or_node : (e : Extensions) (place : Option Loc) (d : Or)
    → form_outcome e place (or_form d) ≡ chain_outcome disjunction place (parts_of (map or_operand (out-Or d).extended)) (outcome e (located and_form (out-Or d).initial)) (operands e place (parts_of (map or_operand (out-Or d).extended)))
unfolding form_outcome
or_node e place d = ap (λ t. form_outcome e place t) (or_out d)

-- the same, since only relations are limited
pub or_alike : (e : Extensions) (place : Option Loc) (d : Or)
    → form_outcome e place (or_form d) ≡ next (both (outcome e (located and_form (out-Or d).initial)) (operands e place (parts_of (map or_operand (out-Or d).extended)))) (alike_outcome disjunction place)
or_alike e place d = or_node e place d ∙ alike_chain disjunction place (parts_of (map or_operand (out-Or d).extended)) (outcome e (located and_form (out-Or d).initial)) (operands e place (parts_of (map or_operand (out-Or d).extended))) refl

pub and_node : (e : Extensions) (place : Option Loc) (d : And)
    → form_outcome e place (and_form d) ≡ chain_outcome conjunction place (parts_of (map and_operand d.extended)) (outcome e (located relation_form d.initial)) (operands e place (parts_of (map and_operand d.extended)))
unfolding form_outcome
and_node e place d = ap (λ t. form_outcome e place t) (and_out d)

pub and_alike : (e : Extensions) (place : Option Loc) (d : And)
    → form_outcome e place (and_form d) ≡ next (both (outcome e (located relation_form d.initial)) (operands e place (parts_of (map and_operand d.extended)))) (alike_outcome conjunction place)
and_alike e place d = and_node e place d ∙ alike_chain conjunction place (parts_of (map and_operand d.extended)) (outcome e (located relation_form d.initial)) (operands e place (parts_of (map and_operand d.extended))) refl

pub common_node : (e : Extensions) (place : Option Loc) (d : Relation) (a : Node (Option Add)) (xs : List (RelOp × Node (Option Add))) → d ≡ relations.Common a xs
    → form_outcome e place (relation_form d) ≡ chain_outcome relation place (parts_of (map relation_operand xs)) (outcome e (located add_form a)) (operands e place (parts_of (map relation_operand xs)))
unfolding form_outcome
common_node e place d a xs k = ap (λ t. form_outcome e place t) (ap relation_form k ∙ relation_common a xs)

pub has_node : (e : Extensions) (place : Option Loc) (d : Relation) (a b : Node (Option Add)) → d ≡ relations.Has a b
    → form_outcome e place (relation_form d) ≡ next (right_side (tree_place (located add_form b)) (located add_form b)) (λ r. next (value_outcome e (located add_form a)) (with_attributes place r))
unfolding form_outcome
has_node e place d a b k = ap (λ t. form_outcome e place t) (ap relation_form k ∙ relation_has a b)

pub like_node : (e : Extensions) (place : Option Loc) (d : Relation) (a b : Node (Option Add)) → d ≡ relations.Like a b
    → form_outcome e place (relation_form d) ≡ next (outcome e (located add_form b)) (λ h. next (both (value_outcome e (located add_form a)) (as_pattern h)) (match_outcome place))
unfolding form_outcome
like_node e place d a b k = ap (λ t. form_outcome e place t) (ap relation_form k ∙ relation_like a b)

pub is_node : (e : Extensions) (place : Option Loc) (d : Relation) (a b : Node (Option Add)) (c : Option (Node (Option Add))) → d ≡ relations.IsIn a b c
    → form_outcome e place (relation_form d) ≡ type_relation_outcome e place (next (outcome e (located add_form b)) (beside_type (value_outcome e (located add_form a)))) c
unfolding form_outcome
is_node e place d a b c k = ap (λ t. form_outcome e place t) (ap relation_form k ∙ relation_typed a b c) ∙ go c
  where
    go : (c : Option (Node (Option Add))) → form_outcome e place (typed_form (located add_form a) (located add_form b) c) ≡ type_relation_outcome e place (next (outcome e (located add_form b)) (beside_type (value_outcome e (located add_form a)))) c
    go None = refl
    go (Some x) = refl

-- `is` alone
pub is_alone_node : (e : Extensions) (place : Option Loc) (d : Relation) (a b : Node (Option Add)) (c : Option (Node (Option Add))) → d ≡ relations.IsIn a b c → c ≡ None
    → form_outcome e place (relation_form d) ≡ next (next (outcome e (located add_form b)) (beside_type (value_outcome e (located add_form a)))) (type_test_outcome place)
is_alone_node e place d a b c k none =
    is_node e place d a b c k ∙ ap (λ o. type_relation_outcome e place (next (outcome e (located add_form b)) (beside_type (value_outcome e (located add_form a)))) o) none

-- `is` with `in`
pub is_within_node : (e : Extensions) (place : Option Loc) (d : Relation) (a b : Node (Option Add)) (c : Option (Node (Option Add))) (w : Node (Option Add)) → d ≡ relations.IsIn a b c → c ≡ Some w
    → form_outcome e place (relation_form d) ≡ next (next (outcome e (located add_form b)) (beside_type (value_outcome e (located add_form a)))) (λ q. next (value_outcome e (located add_form w)) (type_within_outcome place q))
is_within_node e place d a b c w k within =
    is_node e place d a b c k ∙ ap (λ o. type_relation_outcome e place (next (outcome e (located add_form b)) (beside_type (value_outcome e (located add_form a)))) o) within

pub add_node : (e : Extensions) (place : Option Loc) (d : Add)
    → form_outcome e place (add_form d) ≡ chain_outcome sum place (parts_of (map add_operand (out-Add d).extended)) (outcome e (located mult_form (out-Add d).initial)) (operands e place (parts_of (map add_operand (out-Add d).extended)))
unfolding form_outcome
add_node e place d = ap (λ t. form_outcome e place t) (add_out d)

pub mult_node : (e : Extensions) (place : Option Loc) (d : Mult)
    → form_outcome e place (mult_form d) ≡ chain_outcome product place (parts_of (map mult_operand (out-Mult d).extended)) (outcome e (located unary_form (out-Mult d).initial)) (operands e place (parts_of (map mult_operand (out-Mult d).extended)))
unfolding form_outcome
mult_node e place d = ap (λ t. form_outcome e place t) (mult_out d)

pub unary_node : (e : Extensions) (place : Option Loc) (d : Unary)
    → form_outcome e place (unary_form d) ≡ signs_outcome place (out-Unary d).op (number_in (lone_literal (located member_form (out-Unary d).item))) (outcome e (located member_form (out-Unary d).item))
unfolding form_outcome
unary_node e place d = ap (λ t. form_outcome e place t) (unary_out d)

pub member_node : (e : Extensions) (place : Option Loc) (d : Member)
    → form_outcome e place (member_form d) ≡ next (both (outcome e (located primary_form d.item)) (accesses_outcome e (parts_of (map listed_access d.access)))) (λ p. member_outcome e place p.0 p.1)
unfolding form_outcome
member_node e place d = ap (λ t. form_outcome e place t) (member_out d)

-- ---- primaries

pub literal_node : (e : Extensions) (n : Node (Option Primary)) (d : Primary) (a : Node (Option Literal)) → n.node ≡ Some d → d ≡ primaries.Literal a
    → outcome e (located primary_form n) ≡ literal_outcome a.loc a.node
unfolding form_outcome
literal_node e n d a h k = filled_with e primary_form n d _ h (ap primary_form k ∙ primary_literal a)

pub name_node : (e : Extensions) (n : Node (Option Primary)) (d : Primary) (a : Node (Option Name)) → n.node ≡ Some d → d ≡ primaries.Name a
    → outcome e (located primary_form n) ≡ name_leaf n.loc a
unfolding form_outcome
name_node e n d a h k = filled_with e primary_form n d _ h (ap primary_form k ∙ primary_name a)

pub ref_node : (e : Extensions) (n : Node (Option Primary)) (d : Primary) (a : Node (Option Ref)) → n.node ≡ Some d → d ≡ primaries.Ref a
    → outcome e (located primary_form n) ≡ entity_leaf a
unfolding form_outcome
ref_node e n d a h k = filled_with e primary_form n d _ h (ap primary_form k ∙ primary_ref a)

pub slot_node : (e : Extensions) (n : Node (Option Primary)) (d : Primary) (a : Node (Option Slot)) → n.node ≡ Some d → d ≡ primaries.Slot a
    → outcome e (located primary_form n) ≡ slot_leaf a
unfolding form_outcome
slot_node e n d a h k = filled_with e primary_form n d _ h (ap primary_form k ∙ primary_slot a)

placed_in : {X : Type 0} (g : X → Form) (place : Option Loc) (o : Option X) → tree_place (located g record { node = o; loc = place }) ≡ place
placed_in g place None = refl
placed_in g place (Some x) = refl

pub parens_node : (e : Extensions) (n : Node (Option Primary)) (d : Primary) (a : Node (Option Expr)) → n.node ≡ Some d → d ≡ primaries.Expr a
    → outcome e (located primary_form n) ≡ next (next (outcome e (located expr_form a)) as_expression) (expression_at a.loc)
unfolding form_outcome
parens_node e n d a h k =
    filled_with e primary_form n d _ h (ap primary_form k ∙ primary_expr a)
    ∙ ap (λ p. next (next (outcome e (located expr_form a)) as_expression) (expression_at p)) (placed_in expr_form a.loc a.node)

pub list_node : (e : Extensions) (n : Node (Option Primary)) (d : Primary) (a : List (Node (Option Expr))) → n.node ≡ Some d → d ≡ primaries.EList a
    → outcome e (located primary_form n) ≡ next (operands e n.loc (parts_of (map listed_expr a))) (set_value_outcome n.loc)
unfolding form_outcome
list_node e n d a h k = filled_with e primary_form n d _ h (ap primary_form k ∙ primary_list a)

pub inits_node : (e : Extensions) (n : Node (Option Primary)) (d : Primary) (a : List (Node (Option RecInit))) → n.node ≡ Some d → d ≡ primaries.RInits a
    → outcome e (located primary_form n) ≡ next (pairs_outcome e (parts_of (map listed_init a))) (record_outcome n.loc)
unfolding form_outcome
inits_node e n d a h k = filled_with e primary_form n d _ h (ap primary_form k ∙ primary_inits a)

-- ---- accesses and pairs

access_is : (e : Extensions) (n : Node (Option MemAccess)) (x : MemAccess) (t : Form) → n.node ≡ Some x → access_form x ≡ t → access_outcome e (located access_form n) ≡ access_form_outcome e n.loc t
unfolding access_outcome
access_is e n x t h k = rw h (ap (λ u. access_form_outcome e n.loc u) k)

pub no_access_node : (e : Extensions) (n : Node (Option MemAccess)) → n.node ≡ None → access_outcome e (located access_form n) ≡ fault_outcome empty_node n.loc
unfolding access_outcome
no_access_node e n h = rw h refl

pub field_node : (e : Extensions) (n : Node (Option MemAccess)) (d : MemAccess) (a : Node (Option Ident)) → n.node ≡ Some d → d ≡ accesses.Field a
    → access_outcome e (located access_form n) ≡ next (unreserved_ident a) (λ id. Ok (member.field id))
unfolding access_form_outcome
field_node e n d a h k = access_is e n d _ h (ap access_form k ∙ access_field a)

pub call_node : (e : Extensions) (n : Node (Option MemAccess)) (d : MemAccess) (a : List (Node (Option Expr))) → n.node ≡ Some d → d ≡ accesses.Call a
    → access_outcome e (located access_form n) ≡ next (operands e n.loc (parts_of (map listed_expr a))) (λ ps. Ok (member.call (bodies ps)))
unfolding access_form_outcome
call_node e n d a h k = access_is e n d _ h (ap access_form k ∙ access_call a)

pub index_node : (e : Extensions) (n : Node (Option MemAccess)) (d : MemAccess) (a : Node (Option Expr)) → n.node ≡ Some d → d ≡ accesses.Index a
    → access_outcome e (located access_form n) ≡ next (next (outcome e (located expr_form a)) as_string) (λ text. Ok (member.index text))
unfolding access_form_outcome
index_node e n d a h k = access_is e n d _ h (ap access_form k ∙ access_index a)

pub no_init_node : (e : Extensions) (n : Node (Option RecInit)) → n.node ≡ None → pair_outcome e (located init_form n) ≡ fault_outcome empty_node n.loc
unfolding pair_outcome
no_init_node e n h = rw h refl

pub init_node : (e : Extensions) (n : Node (Option RecInit)) (d : RecInit) → n.node ≡ Some d
    → pair_outcome e (located init_form n) ≡ next (outcome e (located expr_form d.0)) (λ h. both (as_attribute h) (value_outcome e (located expr_form d.1)))
unfolding pair_outcome pair_form_outcome
init_node e n d h = rw h (ap (λ u. pair_form_outcome e n.loc u) (init_out d))
