-- Where the faults of a policy's scope stand.
use Rattle.std.proofs.Common.{ℕ, zero, suc, List, [], ◌∷◌, map, drop, slice_get, Option, Some, None, option_map, arith}
use Rattle.std.specs.List.{All}
use Rattle.cedar_expressions.specs.declared.entity.EntityUID.{EntityUID}
use Rattle.cedar_expressions.specs.declared.atoms.Var.{Var}
use Rattle.cedar_expressions.specs.declared.atoms.Var.TheVariants as vars
use Rattle.cedar_policy_store.specs.Actions.{but_actions, named_entities}
use Rattle.cedar_policy_store.specs.declared.constraints.ActionConstraint.{ActionConstraint}
use Rattle.cedar_policy_store.specs.declared.constraints.EntityReference.{EntityReference}
use Rattle.cedar_policy_store.specs.declared.constraints.PrincipalOrResourceConstraint.{PrincipalOrResourceConstraint}
use Rattle.cedar_syntax.specs.declared.loc.Loc.{Loc}
use Rattle.cedar_syntax.specs.declared.node.Node.{Node}
use Rattle.cedar_syntax.specs.declared.cst.Add.{Add}
use Rattle.cedar_syntax.specs.declared.cst.Expr.{Expr}
use Rattle.cedar_syntax.specs.declared.cst.Ident.{Ident}
use Rattle.cedar_syntax.specs.declared.cst.Ident.TheVariants as words
use Rattle.cedar_syntax.specs.declared.cst.Literal.{Literal}
use Rattle.cedar_syntax.specs.declared.cst.Name.{Name}
use Rattle.cedar_syntax.specs.declared.cst.PolicyImpl.{PolicyImpl}
use Rattle.cedar_syntax.specs.declared.cst.RelOp.{RelOp}
use Rattle.cedar_syntax.specs.declared.cst.RelOp.TheVariants as rel
use Rattle.cedar_syntax.specs.declared.cst.Slot.{Slot}
use Rattle.cedar_syntax.specs.declared.cst.VariableDef.{VariableDef}
use Rattle.cedar_syntax.specs.trees.Forms as forms
use Rattle.cedar_syntax.specs.trees.Forms.{located, expr_form, add_form}
use Rattle.cedar_syntax.specs.trees.Located as f
use Rattle.cedar_syntax.specs.trees.Located.{Located, Form, Parts}
use Rattle.cedar_syntax.specs.trees.Slots.{matches}
use Rattle.cedar_conversion.specs.outcome.Conversion.{outcome}
use Rattle.cedar_conversion.specs.parts.Entities.{entity_outcome}
use Rattle.cedar_conversion.specs.strict.Extensions.{Extensions}
use Rattle.cedar_conversion.specs.parts.HasSide.{no_sign}
use Rattle.cedar_conversion.specs.outcome.Held.{as_entity_type}
use Rattle.cedar_conversion.specs.outcome.Detail.{ExpectedRef}
use Rattle.cedar_conversion.specs.outcome.Outcome.{NamedFault, Outcome, empty_node, invalid_scope_variable, type_constraints, inverted_is_in, is_with_eq, invalid_single_eq, invalid_scope_operator, incorrect_variable, is_in_action_scope, invalid_action_scope_operator, invalid_action_type, missing_scope_variable, extra_scope_element, wrong_node, wrong_entity_argument, faults_outcome}
use Rattle.cedar_policy_conversion.specs.References.{RefKind, single_entity, entity_or_slot, one_or_multiple, lone, lone_form, literal_fault, form_fault, entity_form, entity_at, lone_entity, entities, of_variable, several_outcome, referred_form, referent_at, referent_outcome}
use Rattle.cedar_policy_conversion.specs.Scope.{scope_variable_of, scope_variable, type_name, no_type_name, element_variable, is_inverted, type_outcome, operator_outcome, asked_type, constraint_outcome, stands_there, in_its_place, element_of, element_outcome, principal_outcome, resource_outcome, action_alone, no_entity_type, action_in, action_by, unless_others, asked_action, action_variable, action_of, action_outcome, or_before, place_behind, end_place, if_there, extra_element_fault, no_extra, scope_of, scope_outcome}
use Rattle.cedar_policy_parser.specs.faults.Standing.{LiesWithin}
use Rattle.cedar_policy_parser.proofs.standing.Standing.{Origin, by_hand, parsed, LiesIn, anywhere, IsPlain, IsTold, KindWithin, weaker, Stands, Anything, alone, one_before, some_faults, no_faults, both_any, next_stands, then_stands, if_stands}
use Rattle.cedar_policy_parser.proofs.standing.StandingLeaves.{HeldWithin, filled_then, type_held, entity_stands}
use Rattle.cedar_policy_parser.proofs.standing.StandingTrees.{outcome_stands}
use Rattle.cedar_policy_parser.proofs.tidy.Tidy.{Holding, NodeTidy, Each, IdentHeld, IdentTidy, NameTidy, LiteralTidy, Tidy, FormTidy, PartsTidy}
use Rattle.cedar_policy_parser.proofs.tidy.TidyPolicies.{IfThere, ExprTidy, AddTidy, ConstraintTidy, ElementTidy}

-- ---- what a primary refers to

mutual
  unfolding lone lone_form

  lone_stands : (w : Origin) (n : Located) → Tidy w n → Stands IsPlain w (Tidy w) (lone n)
  lone_stands w (f.missing p) h = alone IsPlain w empty_node p h (anywhere w p h)
  lone_stands w (f.at p u) h = lone_form_stands w p u h.0 h.1

  lone_form_stands : (w : Origin) (p : Option Loc) (u : Form) → LiesIn w p → FormTidy w u → Stands IsPlain w (Tidy w) (lone_form p u)
  lone_form_stands w p (f.only n) k h = lone_stands w n h
  lone_form_stands w p (f.chain level n f.none) k h = lone_stands w n h.0
  lone_form_stands w p (f.unary op n) k h = if_stands IsPlain w (Tidy w) (no_sign op) _ _ (lone_stands w n h) (alone IsPlain w wrong_node p tt k)
  lone_form_stands w p (f.member n f.none) k h = lone_stands w n h.0
  lone_form_stands w p (f.parens n) k h = lone_stands w n h
  lone_form_stands w p (f.literal n) k h = (k, h)
  lone_form_stands w p (f.name n) k h = (k, h)
  lone_form_stands w p (f.slot n) k h = (k, h)
  lone_form_stands w p (f.reference n) k h = (k, h)
  lone_form_stands w p (f.set items) k h = (k, h)
  lone_form_stands w p (f.record_of inits) k h = (k, h)
  lone_form_stands w p u k h = alone IsPlain w wrong_node p tt k

literal_within : (w : Origin) (p q : Option Loc) (c : Option Literal) → LiesIn w p → Holding w (LiteralTidy w) c → All (KindWithin IsPlain w) (literal_fault p q c ∷ [])
literal_within w p q None k h = one_before IsPlain w empty_node q _ [] h (anywhere w q h) (no_faults IsPlain w)
literal_within w p q (Some x) k h = one_before IsPlain w wrong_node p _ [] tt k (no_faults IsPlain w)

form_within : (w : Origin) (p : Option Loc) (u : Form) → LiesIn w p → FormTidy w u → All (KindWithin IsPlain w) (form_fault p u ∷ [])
form_within w p (f.literal n) k h = literal_within w p n.loc n.node k h.1
form_within w p u k h = one_before IsPlain w wrong_node p _ [] tt k (no_faults IsPlain w)

entity_form_stands : (w : Origin) (p : Option Loc) (u : Form) → LiesIn w p → FormTidy w u → Stands IsPlain w Anything (entity_form p u)
entity_form_stands w p (f.reference n) k h = entity_stands w n h
entity_form_stands w p (f.slot n) k h = alone IsPlain w wrong_entity_argument p tt k
entity_form_stands w p (f.set items) k h = alone IsPlain w wrong_entity_argument p tt k
entity_form_stands w p u k h = some_faults IsPlain w (form_fault p u) [] (form_within w p u k h)

entity_at_stands : (w : Origin) (n : Located) → Tidy w n → Stands IsPlain w Anything (entity_at n)
entity_at_stands w (f.missing p) h = alone IsPlain w empty_node p h (anywhere w p h)
entity_at_stands w (f.at p u) h = entity_form_stands w p u h.0 h.1

entities_stand : (w : Origin) (ps : Parts) → PartsTidy w ps → Stands IsPlain w Anything (entities ps)
entities_stand w f.none h = tt
entities_stand w (f.more op n ps) h =
    then_stands IsPlain w Anything _ _ (both_any IsPlain w (lone_entity n) (entities ps) (next_stands IsPlain w (Tidy w) Anything (lone n) entity_at (lone_stands w n h.0) (entity_at_stands w)) (entities_stand w ps h.1)) (λ p. tt)

-- a kind refuses a slot at its place, if it does
abbrev pub RefusesThere : {T : Type 0} → Origin → RefKind T → Type 0
RefusesThere w k = (p : Option Loc) → LiesIn w p → Stands IsPlain w Anything (k.slot p)

of_variable_stands : {T : Type 0} (w : Origin) (p : Option Loc) (x : Var) (made : T) (s : Slot) → LiesIn w p → Stands IsPlain w Anything (of_variable p x made s)
of_variable_stands w p x made s h = if_stands IsPlain w Anything (matches s x) _ _ tt (alone IsPlain w wrong_node p tt h)

set_stands : {T : Type 0} (w : Origin) (p : Option Loc) (takes : ExpectedRef) (several : Option (List EntityUID → T)) (uids : Outcome (List EntityUID)) → LiesIn w p → Stands IsPlain w Anything uids → Stands IsPlain w Anything (several_outcome p takes several uids)
set_stands w p takes (Some make) uids k h = then_stands IsPlain w Anything uids _ h (λ all. tt)
set_stands w p takes None uids k h = alone IsPlain w wrong_entity_argument p tt k

referred_form_stands : {T : Type 0} (w : Origin) (k : RefKind T) (x : Var) (p : Option Loc) (u : Form) → RefusesThere w k → LiesIn w p → FormTidy w u → Stands IsPlain w Anything (referred_form k x p u)
referred_form_stands w k x p (f.reference n) r i h = then_stands IsPlain w Anything (entity_outcome n) _ (entity_stands w n h) (λ uid. tt)
referred_form_stands w k x p (f.slot n) r i h =
    then_stands IsPlain w Anything (k.slot p) _ (r p i) (λ made. filled_then IsPlain w n.loc Anything Anything n.node (of_variable p x made) h (λ e. e) (λ s _. of_variable_stands w p x made s i))
referred_form_stands w k x p (f.set items) r i h = set_stands w p k.takes k.several (entities items) i (entities_stand w items h)
referred_form_stands w k x p u r i h = some_faults IsPlain w (form_fault p u) [] (form_within w p u i h)

referred_at_stands : {T : Type 0} (w : Origin) (k : RefKind T) (x : Var) (n : Located) → RefusesThere w k → Tidy w n → Stands IsPlain w Anything (referent_at k x n)
referred_at_stands w k x (f.missing p) r h = alone IsPlain w empty_node p h (anywhere w p h)
referred_at_stands w k x (f.at p u) r h = referred_form_stands w k x p u r h.0 h.1

pub referred_stands : {T : Type 0} (w : Origin) (k : RefKind T) (x : Var) (n : Node (Option Expr)) → RefusesThere w k → ExprTidy w n → Stands IsPlain w Anything (referent_outcome k x n)
referred_stands w k x n r h = next_stands IsPlain w (Tidy w) Anything (lone (located expr_form n)) (referent_at k x) (lone_stands w (located expr_form n) h) (λ m i. referred_at_stands w k x m r i)

pub single_refuses : (w : Origin) → RefusesThere w single_entity
single_refuses w p h = alone IsPlain w wrong_entity_argument p tt h

pub slot_refuses : (w : Origin) → RefusesThere w entity_or_slot
slot_refuses w p h = tt

pub multiple_refuses : (w : Origin) → RefusesThere w one_or_multiple
multiple_refuses w p h = alone IsPlain w wrong_entity_argument p tt h

-- ---- an element's variable

variable_of_stands : (w : Origin) (p : Option Loc) (i : Ident) → LiesIn w p → Stands IsPlain w Anything (scope_variable_of p i)
variable_of_stands w p words.Principal h = tt
variable_of_stands w p words.Action h = tt
variable_of_stands w p words.Resource h = tt
variable_of_stands w p i h = alone IsPlain w invalid_scope_variable p tt h

variable_stands : (w : Origin) (n : Node (Option Ident)) → IdentTidy w n → Stands IsPlain w Anything (scope_variable n)
variable_stands w n h = filled_then IsPlain w n.loc (IdentHeld w) Anything n.node (scope_variable_of n.loc) h (λ e. e) (λ i _. variable_of_stands w n.loc i h.0)

type_name_stands : (w : Origin) (p : Option Loc) (c : Option Name) → LiesIn w p → Stands IsPlain w Anything (type_name p c)
type_name_stands w p (Some name) h = alone IsPlain w type_constraints p tt h
type_name_stands w p None h = tt

no_type_stands : (w : Origin) (c : Option (Node (Option Name))) → IfThere (NodeTidy w (NameTidy w)) c → Stands IsPlain w Anything (no_type_name c)
no_type_stands w (Some n) h = type_name_stands w n.loc n.node h.0
no_type_stands w None h = tt

element_variable_stands : (w : Origin) (d : VariableDef) → ElementTidy w d → Stands IsPlain w Anything (element_variable d)
element_variable_stands w d h =
    then_stands IsPlain w Anything (scope_variable d.variable) _ (variable_stands w d.variable h.0) (λ x. then_stands IsPlain w Anything (no_type_name d.unused_type_name) _ (no_type_stands w d.unused_type_name h.1) (λ _. tt))

-- ---- principal and resource

type_stands : (e : Extensions) (w : Origin) (n : Node (Option Add)) → AddTidy w n → Stands IsPlain w Anything (type_outcome e n)
type_stands e w n h = next_stands IsPlain w (HeldWithin w) Anything (outcome e (located add_form n)) as_entity_type (outcome_stands e w (located add_form n) h) (type_held w)

asked_by_stands : (e : Extensions) (w : Origin) (p : Option Loc) (op : RelOp) (c : Option (Node (Option Add))) (r : EntityReference) → LiesIn w p → IfThere (AddTidy w) c → Stands IsPlain w Anything (operator_outcome e p op c r)
asked_by_stands e w p rel.Eq None r k h = tt
asked_by_stands e w p rel.Eq (Some n) r k h = alone IsPlain w is_with_eq p tt k
asked_by_stands e w p rel.In None r k h = tt
asked_by_stands e w p rel.In (Some n) r k h = then_stands IsPlain w Anything (type_outcome e n) _ (type_stands e w n h) (λ t. tt)
asked_by_stands e w p rel.InvalidSingleEq c r k h = alone IsPlain w invalid_single_eq p tt k
asked_by_stands e w p rel.Less c r k h = alone IsPlain w invalid_scope_operator p tt k
asked_by_stands e w p rel.LessEq c r k h = alone IsPlain w invalid_scope_operator p tt k
asked_by_stands e w p rel.GreaterEq c r k h = alone IsPlain w invalid_scope_operator p tt k
asked_by_stands e w p rel.Greater c r k h = alone IsPlain w invalid_scope_operator p tt k
asked_by_stands e w p rel.NotEq c r k h = alone IsPlain w invalid_scope_operator p tt k

asked_type_stands : (e : Extensions) (w : Origin) (c : Option (Node (Option Add))) → IfThere (AddTidy w) c → Stands IsPlain w Anything (asked_type e c)
asked_type_stands e w (Some n) h = then_stands IsPlain w Anything (type_outcome e n) _ (type_stands e w n h) (λ t. tt)
asked_type_stands e w None h = tt

asked_stands : (e : Extensions) (w : Origin) (p : Option Loc) (x : Var) (c : Option (Node (Option Add))) (d : Option (RelOp × Node (Option Expr))) → LiesIn w p → IfThere (AddTidy w) c → IfThere (ConstraintTidy w) d → Stands IsPlain w Anything (constraint_outcome e p x c d)
asked_stands e w p x c (Some q) k h i =
    if_stands IsPlain w Anything (is_inverted e q.0 q.1) _ _ (alone IsPlain w inverted_is_in p tt k)
    (then_stands IsPlain w Anything (referent_outcome entity_or_slot x q.1) _ (referred_stands w entity_or_slot x q.1 (slot_refuses w) i) (λ r. asked_by_stands e w p q.0 c r k h))
asked_stands e w p x c None k h i = asked_type_stands e w c h

its_place_stands : (w : Origin) (p : Option Loc) (expected x : Var) (c : PrincipalOrResourceConstraint) → LiesIn w p → Stands IsPlain w Anything (in_its_place p expected x c)
its_place_stands w p expected x c k = if_stands IsPlain w Anything (stands_there expected x) _ _ tt (alone IsPlain w incorrect_variable p tt k)

element_of_stands : (e : Extensions) (w : Origin) (expected : Var) (p : Option Loc) (d : VariableDef) → LiesIn w p → ElementTidy w d → Stands IsPlain w Anything (element_of e expected p d)
element_of_stands e w expected p d k h =
    then_stands IsPlain w Anything (element_variable d) _ (element_variable_stands w d h)
    (λ x. then_stands IsPlain w Anything (constraint_outcome e p x d.entity_type d.ineq) _ (asked_stands e w p x d.entity_type d.ineq k h.2 h.3) (λ c. its_place_stands w p expected x c k))

element_stands : (e : Extensions) (w : Origin) (expected : Var) (n : Node (Option VariableDef)) → NodeTidy w (ElementTidy w) n → Stands IsPlain w Anything (element_outcome e expected n)
element_stands e w expected n h = filled_then IsPlain w n.loc (ElementTidy w) Anything n.node (element_of e expected n.loc) h (λ e. e) (λ d i. element_of_stands e w expected n.loc d h.0 i)

pub principal_stands : (e : Extensions) (w : Origin) (n : Node (Option VariableDef)) → NodeTidy w (ElementTidy w) n → Stands IsPlain w Anything (principal_outcome e n)
principal_stands e w n h = then_stands IsPlain w Anything (element_outcome e vars.Principal n) _ (element_stands e w vars.Principal n h) (λ c. tt)

pub resource_stands : (e : Extensions) (w : Origin) (n : Node (Option VariableDef)) → NodeTidy w (ElementTidy w) n → Stands IsPlain w Anything (resource_outcome e n)
resource_stands e w n h = then_stands IsPlain w Anything (element_outcome e vars.Resource n) _ (element_stands e w vars.Resource n h) (λ c. tt)

-- ---- action

alone_stands : (w : Origin) (p : Option Loc) (x : Var) → LiesIn w p → Stands IsPlain w Anything (action_alone p x)
alone_stands w p vars.Action h = tt
alone_stands w p x h = alone IsPlain w incorrect_variable p tt h

no_entity_stands : (w : Origin) (p : Option Loc) (c : Option (Node (Option Add))) → LiesIn w p → Stands IsPlain w Anything (no_entity_type p c)
no_entity_stands w p (Some n) h = alone IsPlain w is_in_action_scope p tt h
no_entity_stands w p None h = tt

action_in_stands : (e : Extensions) (w : Origin) (p : Option Loc) (n : Node (Option Expr)) → LiesIn w p → ExprTidy w n → Stands IsPlain w Anything (action_in e p n)
action_in_stands e w p n k h =
    if_stands IsPlain w Anything (is_inverted e rel.In n) _ _ (alone IsPlain w is_in_action_scope p tt k) (then_stands IsPlain w Anything (referent_outcome one_or_multiple vars.Action n) _ (referred_stands w one_or_multiple vars.Action n (multiple_refuses w) h) (λ all. tt))

action_by_stands : (e : Extensions) (w : Origin) (p : Option Loc) (op : RelOp) (n : Node (Option Expr)) → LiesIn w p → ExprTidy w n → Stands IsPlain w Anything (action_by e p op n)
action_by_stands e w p rel.In n k h = action_in_stands e w p n k h
action_by_stands e w p rel.Eq n k h = then_stands IsPlain w Anything (referent_outcome single_entity vars.Action n) _ (referred_stands w single_entity vars.Action n (single_refuses w) h) (λ one. tt)
action_by_stands e w p rel.InvalidSingleEq n k h = alone IsPlain w invalid_single_eq p tt k
action_by_stands e w p op n k h = alone IsPlain w invalid_action_scope_operator p tt k

others_stand : (w : Origin) (p : Option Loc) (c : ActionConstraint) (uids : List EntityUID) → LiesIn w p → Stands IsPlain w Anything (unless_others p c uids)
others_stand w p c [] h = tt
others_stand w p c (uid ∷ uids) h = alone IsPlain w invalid_action_type p tt h

filled_lies : (w : Origin) (p : Option Loc) (c : Option Form) → Tidy w (forms.form_at p c) → LiesIn w p
filled_lies w p None h = anywhere w p h
filled_lies w p (Some u) h = h.0

action_asked_stands : (e : Extensions) (w : Origin) (p : Option Loc) (d : Option (RelOp × Node (Option Expr))) → LiesIn w p → IfThere (ConstraintTidy w) d → Stands IsPlain w Anything (asked_action e p d)
action_asked_stands e w p (Some q) k h =
    then_stands IsPlain w Anything (action_by e p q.0 q.1) _ (action_by_stands e w p q.0 q.1 k h) (λ c. others_stand w q.1.loc c (but_actions (named_entities c)) (filled_lies w q.1.loc (option_map expr_form q.1.node) h))
action_asked_stands e w p None k h = tt

action_begun_stands : (w : Origin) (p : Option Loc) (d : VariableDef) → LiesIn w p → ElementTidy w d → Stands IsPlain w Anything (action_variable p d)
action_begun_stands w p d k h =
    then_stands IsPlain w Anything (scope_variable d.variable) _ (variable_stands w d.variable h.0)
    (λ x. then_stands IsPlain w Anything (action_alone p x) _ (alone_stands w p x k)
    (λ _. then_stands IsPlain w Anything (no_type_name d.unused_type_name) _ (no_type_stands w d.unused_type_name h.1) (λ _. no_entity_stands w p d.entity_type k)))

action_of_stands : (e : Extensions) (w : Origin) (p : Option Loc) (d : VariableDef) → LiesIn w p → ElementTidy w d → Stands IsPlain w Anything (action_of e p d)
action_of_stands e w p d k h = then_stands IsPlain w Anything (action_variable p d) _ (action_begun_stands w p d k h) (λ _. action_asked_stands e w p d.ineq k h.3)

pub action_stands : (e : Extensions) (w : Origin) (n : Node (Option VariableDef)) → NodeTidy w (ElementTidy w) n → Stands IsPlain w Anything (action_outcome e n)
action_stands e w n h = filled_then IsPlain w n.loc (ElementTidy w) Anything n.node (action_of e n.loc) h (λ e. e) (λ d i. action_of_stands e w n.loc d h.0 i)

-- ---- the whole scope

end_within : (outer p : Option Loc) → LiesWithin outer p → LiesWithin outer (end_place p)
end_within None None h = h
end_within None (Some loc) h = h
end_within (Some outer) None h = h
end_within (Some outer) (Some loc) h = let a = h.1 in let b = h.2 in (h.0, omega arith, omega arith)

end_in : (w : Origin) (p : Option Loc) → LiesIn w p → LiesIn w (end_place p)
end_in by_hand p h = tt
end_in (parsed outer) p h = end_within outer p h

or_within : (w : Origin) (before p : Option Loc) → LiesIn w before → LiesIn w p → LiesIn w (or_before before p)
or_within w before (Some loc) h k = k
or_within w before None h k = h

behind_within : (w : Origin) (before : Option Loc) (c : Option (Node (Option VariableDef))) → LiesIn w before → IfThere (NodeTidy w (ElementTidy w)) c → LiesIn w (place_behind before c)
behind_within w before (Some n) h k = or_within w before n.loc h k.0
behind_within w before None h k = h

there_stands : {X : Type 0} (w : Origin) (v : Var) (g : Node (Option VariableDef) → Outcome X) (before : Option Loc) (c : Option (Node (Option VariableDef))) → LiesIn w before → IfThere (NodeTidy w (ElementTidy w)) c
    → ((n : Node (Option VariableDef)) → NodeTidy w (ElementTidy w) n → Stands IsPlain w Anything (g n)) → Stands IsTold w Anything (if_there v g before c)
there_stands w v g before (Some n) h k s = weaker w Anything (g n) (s n k)
there_stands w v g before None h k s = alone IsTold w missing_scope_variable (end_place before) tt (end_in w before h)

extra_within : (w : Origin) (p : Option Loc) (c : Option VariableDef) (fs : List NamedFault) → LiesIn w p → Holding w (ElementTidy w) c → All (KindWithin IsTold w) fs → All (KindWithin IsTold w) (extra_element_fault p c ∷ fs)
extra_within w p (Some d) fs k h all = one_before IsTold w extra_scope_element p _ fs tt k all
extra_within w p None fs k h all = one_before IsTold w empty_node p _ fs h k all

extras_within : (w : Origin) (ns : List (Node (Option VariableDef))) → Each (NodeTidy w (ElementTidy w)) ns → All (KindWithin IsTold w) (map (λ n. extra_element_fault n.loc n.node) ns)
extras_within w [] h = no_faults IsTold w
extras_within w (n ∷ ns) h = extra_within w n.loc n.node _ h.0.0 h.0.1 (extras_within w ns h.1)

pub unless_told_stands : (w : Origin) (fs : List NamedFault) → All (KindWithin IsTold w) fs → Stands IsTold w Anything (faults_outcome fs)
unless_told_stands w [] h = tt
unless_told_stands w (g ∷ fs) h = some_faults IsTold w g fs h

get_each : {X : Type 0} (P : X → Type 0) (xs : List X) (i : ℕ) → Each P xs → IfThere P (slice_get xs i)
get_each P [] i h = tt
get_each P (x ∷ xs) zero h = h.0
get_each P (x ∷ xs) (suc i) h = get_each P xs i h.1

drop_each : {X : Type 0} (P : X → Type 0) (i : ℕ) (xs : List X) → Each P xs → Each P (drop i xs)
drop_each P zero xs h = h
drop_each P (suc i) [] h = tt
drop_each P (suc i) (x ∷ xs) h = drop_each P i xs h.1

scope_of_stands : (e : Extensions) (w : Origin) (before : Option Loc) (a b c : Option (Node (Option VariableDef))) (ns : List (Node (Option VariableDef))) → LiesIn w before → IfThere (NodeTidy w (ElementTidy w)) a → IfThere (NodeTidy w (ElementTidy w)) b
    → IfThere (NodeTidy w (ElementTidy w)) c → Each (NodeTidy w (ElementTidy w)) ns → Stands IsTold w Anything (scope_of e before a b c ns)
scope_of_stands e w before a b c ns k h i j all =
    let p = behind_within w before a k h in
    then_stands IsTold w Anything _ _
    (both_any IsTold w _ _
    (both_any IsTold w (if_there vars.Principal (principal_outcome e) before a) (if_there vars.Action (action_outcome e) (place_behind before a) b) (there_stands w vars.Principal (principal_outcome e) before a k h (principal_stands e w)) (there_stands w vars.Action (action_outcome e) (place_behind before a) b p i (action_stands e w)))
    (both_any IsTold w (if_there vars.Resource (resource_outcome e) (place_behind (place_behind before a) b) c) (no_extra ns) (there_stands w vars.Resource (resource_outcome e) (place_behind (place_behind before a) b) c (behind_within w (place_behind before a) b p i) j (resource_stands e w))
    (unless_told_stands w _ (extras_within w ns all)))) (λ q. tt)

pub scope_stands : (e : Extensions) (w : Origin) (p : PolicyImpl) → LiesIn w p.effect.loc → Each (NodeTidy w (ElementTidy w)) p.variables → Stands IsTold w Anything (scope_outcome e p)
scope_stands e w p k h =
    scope_of_stands e w p.effect.loc (slice_get p.variables 0) (slice_get p.variables 1) (slice_get p.variables 2) (drop 3 p.variables) k (get_each _ p.variables 0 h) (get_each _ p.variables 1 h) (get_each _ p.variables 2 h) (drop_each _ 3 p.variables h)
