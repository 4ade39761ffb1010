-- What the right side of `has` gives, level by level.
use Rattle.std.proofs.Common.{◌≡◌, Bool, true, false, List, map, Option, Some, None, if◌then◌else◌, refl, ap, ◌∙◌}
use Rattle.std.specs.Option.{option_map}
use Rattle.cedar_syntax.specs.declared.loc.Loc.{Loc}
use Rattle.cedar_syntax.specs.declared.node.Node.{Node}
use Rattle.cedar_syntax.specs.declared.cst.Add.{Add}
use Rattle.cedar_syntax.specs.declared.cst.Mult.{Mult}
use Rattle.cedar_syntax.specs.declared.cst.NegOp.{NegOp}
use Rattle.cedar_syntax.specs.declared.cst.Unary.{Unary}
use Rattle.cedar_syntax.specs.declared.cst.Member.{Member}
use Rattle.cedar_syntax.specs.declared.cst.Primary.{Primary}
use Rattle.cedar_syntax.specs.declared.cst.Primary.TheVariants as primaries
use Rattle.cedar_syntax.specs.declared.cst.Expr.{Expr}
use Rattle.cedar_syntax.specs.declared.cst.Literal.{Literal}
use Rattle.cedar_syntax.specs.declared.cst.Name.{Name}
use Rattle.cedar_syntax.specs.declared.cst.Slot.{Slot}
use Rattle.cedar_syntax.specs.declared.cst.Ref.{Ref}
use Rattle.cedar_syntax.specs.declared.cst.RecInit.{RecInit}
use Rattle.cedar_syntax.specs.trees.Forms.{located, form_at, parts_of, add_form, mult_form, unary_form, member_form, primary_form, listed_access}
use Rattle.cedar_syntax.specs.trees.Located as f
use Rattle.cedar_syntax.specs.trees.Located.{Located, Form, Parts}
use Rattle.cedar_syntax.specs.trees.Tree.{Level, sum, product}
use Rattle.cedar_syntax.proofs.FormLevels.{add_out, mult_out, unary_out, member_out, primary_literal, primary_ref, primary_name, primary_slot, primary_expr, primary_list, primary_inits}
use Rattle.cedar_conversion.specs.outcome.Conversion.{tree_place}
use Rattle.cedar_conversion.specs.parts.HasSide.{Attributes, attributes_of, begins_with, beginning_outcome, right_form, right_side}
use Rattle.cedar_conversion.specs.parts.Leaves.{name_leaf}
use Rattle.cedar_conversion.specs.parts.Literals.{literal_outcome}
use Rattle.cedar_conversion.specs.parts.Names.{content_outcome}
use Rattle.cedar_conversion.specs.machines.SideChild.{part_or_refused, side_child}
use Rattle.cedar_conversion.specs.outcome.LonePart.{lone_part, no_sign}
use Rattle.cedar_conversion.specs.outcome.Outcome.{Outcome, fault_outcome, next, empty_node, invalid_has_rhs}
use Rattle.cedar_conversion.proofs.LoneParts.{through, to_none, to_part}

-- ---- the primary that begins it

begun_at : (w : Option Loc) (ps : Parts) (n : Node (Option Primary)) (d : Primary) (t : Form) → n.node ≡ Some d → primary_form d ≡ t → begins_with w ps (located primary_form n) ≡ beginning_outcome w ps n.loc t
begun_at w ps n d t h k = rw h (ap (λ u. beginning_outcome w ps n.loc u) k)

pub no_primary : (w : Option Loc) (ps : Parts) (n : Node (Option Primary)) → n.node ≡ None → begins_with w ps (located primary_form n) ≡ fault_outcome empty_node n.loc
no_primary w ps n h = rw h refl

pub literal_begins : (w : Option Loc) (ps : Parts) (n : Node (Option Primary)) (d : Primary) (a : Node (Option Literal)) → n.node ≡ Some d → d ≡ primaries.Literal a
    → begins_with w ps (located primary_form n) ≡ next (literal_outcome a.loc a.node) (attributes_of w ps)
literal_begins w ps n d a h k = begun_at w ps n d _ h (ap primary_form k ∙ primary_literal a)

pub name_begins : (w : Option Loc) (ps : Parts) (n : Node (Option Primary)) (d : Primary) (a : Node (Option Name)) → n.node ≡ Some d → d ≡ primaries.Name a
    → begins_with w ps (located primary_form n) ≡ next (name_leaf n.loc a) (attributes_of w ps)
name_begins w ps n d a h k = begun_at w ps n d _ h (ap primary_form k ∙ primary_name a)

pub ref_begins : (w : Option Loc) (ps : Parts) (n : Node (Option Primary)) (d : Primary) (a : Node (Option Ref)) → n.node ≡ Some d → d ≡ primaries.Ref a → begins_with w ps (located primary_form n) ≡ fault_outcome invalid_has_rhs n.loc
ref_begins w ps n d a h k = begun_at w ps n d _ h (ap primary_form k ∙ primary_ref a)

pub slot_begins : (w : Option Loc) (ps : Parts) (n : Node (Option Primary)) (d : Primary) (a : Node (Option Slot)) → n.node ≡ Some d → d ≡ primaries.Slot a → begins_with w ps (located primary_form n) ≡ fault_outcome invalid_has_rhs n.loc
slot_begins w ps n d a h k = begun_at w ps n d _ h (ap primary_form k ∙ primary_slot a)

pub parens_begin : (w : Option Loc) (ps : Parts) (n : Node (Option Primary)) (d : Primary) (a : Node (Option Expr)) → n.node ≡ Some d → d ≡ primaries.Expr a → begins_with w ps (located primary_form n) ≡ fault_outcome invalid_has_rhs n.loc
parens_begin w ps n d a h k = begun_at w ps n d _ h (ap primary_form k ∙ primary_expr a)

pub list_begins : (w : Option Loc) (ps : Parts) (n : Node (Option Primary)) (d : Primary) (a : List (Node (Option Expr))) → n.node ≡ Some d → d ≡ primaries.EList a → begins_with w ps (located primary_form n) ≡ fault_outcome invalid_has_rhs n.loc
list_begins w ps n d a h k = begun_at w ps n d _ h (ap primary_form k ∙ primary_list a)

pub inits_begin : (w : Option Loc) (ps : Parts) (n : Node (Option Primary)) (d : Primary) (a : List (Node (Option RecInit))) → n.node ≡ Some d → d ≡ primaries.RInits a → begins_with w ps (located primary_form n) ≡ fault_outcome invalid_has_rhs n.loc
inits_begin w ps n d a h k = begun_at w ps n d _ h (ap primary_form k ∙ primary_inits a)

-- ---- the levels above it

side_is : {X : Type 0} (w : Option Loc) (g : X → Form) (n : Node (Option X)) (x : X) (t : Form) → n.node ≡ Some x → g x ≡ t → right_side w (located g n) ≡ right_form w t
unfolding right_side
side_is w g n x t h k = rw h (ap (λ u. right_form w u) k)

pub no_side : {X : Type 0} (w : Option Loc) (g : X → Form) (n : Node (Option X)) → n.node ≡ None → right_side w (located g n) ≡ fault_outcome empty_node n.loc
unfolding right_side
no_side w g n h = rw h refl

pub below_member : (w : Option Loc) (n : Node (Option Member)) → right_side w (located member_form n) ≡ next (content_outcome n.loc n.node) (λ d. begins_with w (parts_of (map listed_access d.access)) (located primary_form d.item))
unfolding right_form
below_member w n = go n.node refl
  where
    go : (o : Option Member) → n.node ≡ o → right_side w (located member_form n) ≡ next (content_outcome n.loc o) (λ d. begins_with w (parts_of (map listed_access d.access)) (located primary_form d.item))
    go None h = no_side w member_form n h
    go (Some d) h = side_is w member_form n d _ h (member_out d)

-- operators and signs: one part alone is gone on to, anything else is refused at the whole side
abbrev sided : Option Loc → Option Located → Outcome Attributes
sided w p = through (right_side w) (fault_outcome invalid_has_rhs w) p

by_chain : (w : Option Loc) (level : Level) (a : Located) (ps : Parts) → right_form w (f.chain level a ps) ≡ sided w (lone_part (f.chain level a ps))
unfolding right_form
by_chain w level a f.none = refl
by_chain w level a (f.more op n others) = refl

by_sign : (w : Option Loc) (n : Located) (b : Bool) → (if b then right_side w n else fault_outcome invalid_has_rhs w) ≡ sided w (if b then Some n else None)
by_sign w n true = refl
by_sign w n false = refl

by_unary : (w : Option Loc) (op : Option NegOp) (n : Located) → right_form w (f.unary op n) ≡ sided w (lone_part (f.unary op n))
unfolding right_form
by_unary w op n = by_sign w n (no_sign op)

by_form : (w : Option Loc) (t u : Form) → t ≡ u → right_form w u ≡ sided w (lone_part u) → right_form w t ≡ sided w (lone_part t)
by_form w t u h k = rw h k

pub add_side : (w : Option Loc) (d : Add) → right_form w (add_form d) ≡ sided w (lone_part (add_form d))
add_side w d = by_form w _ _ (add_out d) (by_chain w sum _ _)

-- so is a node below a sum
child_next : (w : Option Loc) (p : Option Located) → sided w p ≡ next (part_or_refused w p) (right_side w)
child_next w (Some a) = refl
child_next w None = refl

below : {X : Type 0} (w : Option Loc) (g : X → Form) → ((d : X) → right_form w (g d) ≡ sided w (lone_part (g d))) → (n : Node (Option X)) → right_side w (located g n) ≡ next (side_child w (located g n)) (right_side w)
below {X} w g sides n = go n.node refl
  where
    go : (o : Option X) → n.node ≡ o → right_side w (located g n) ≡ next (side_child w (form_at n.loc (option_map g o))) (right_side w)
    go None h = no_side w g n h
    go (Some d) h = side_is w g n d _ h refl ∙ sides d ∙ child_next w (lone_part (g d))

pub below_mult : (w : Option Loc) (n : Node (Option Mult)) → right_side w (located mult_form n) ≡ next (side_child w (located mult_form n)) (right_side w)
below_mult w n = below w mult_form (λ d. by_form w _ _ (mult_out d) (by_chain w product _ _)) n

pub below_unary : (w : Option Loc) (n : Node (Option Unary)) → right_side w (located unary_form n) ≡ next (side_child w (located unary_form n)) (right_side w)
below_unary w n = below w unary_form (λ d. by_form w _ _ (unary_out d) (by_unary w _ _)) n

pub on_part : (w : Option Loc) (o : Outcome Attributes) (p : Option Located) (a : Located) → o ≡ sided w p → Some a ≡ p → o ≡ right_side w a
on_part w o p a h k = to_part (right_side w) (fault_outcome invalid_has_rhs w) o p a h k

pub on_none : (w : Option Loc) (o : Outcome Attributes) (p : Option Located) → o ≡ sided w p → None ≡ p → o ≡ fault_outcome invalid_has_rhs w
on_none w o p h k = to_none (right_side w) (fault_outcome invalid_has_rhs w) o p h k

pub whole_side : (n : Node (Option Add)) (d : Add) → n.node ≡ Some d → right_side (tree_place (located add_form n)) (located add_form n) ≡ right_form n.loc (add_form d)
unfolding right_side
whole_side n d h = rw h refl

pub no_whole_side : (n : Node (Option Add)) → n.node ≡ None → right_side (tree_place (located add_form n)) (located add_form n) ≡ fault_outcome empty_node n.loc
unfolding right_side
no_whole_side n h = rw h refl
