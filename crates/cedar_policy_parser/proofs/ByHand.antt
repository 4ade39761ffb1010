-- Any tree is tidy by hand, where nothing is asked of it; so its faults are of the kinds of a
-- policy, and there are some.
use Rattle.std.proofs.Common.{ℕ, List, [], ◌∷◌, Option, Some, None}
use Rattle.cedar_expressions.specs.declared.atoms.Var.{Var}
use Rattle.cedar_syntax.specs.declared.node.Node.{Node}
use Rattle.cedar_syntax.specs.declared.cst.Annotation.{Annotation}
use Rattle.cedar_syntax.specs.declared.cst.Cond.{Cond}
use Rattle.cedar_syntax.specs.declared.cst.Expr.{Expr}
use Rattle.cedar_syntax.specs.declared.cst.Ident.{Ident}
use Rattle.cedar_syntax.specs.declared.cst.Ident.TheVariants as words
use Rattle.cedar_syntax.specs.declared.cst.Literal.{Literal}
use Rattle.cedar_syntax.specs.declared.cst.Literal.TheVariants as lit
use Rattle.cedar_syntax.specs.declared.cst.Name.{Name}
use Rattle.cedar_syntax.specs.declared.cst.Policies.{Policies}
use Rattle.cedar_syntax.specs.declared.cst.Policy.{Policy}
use Rattle.cedar_syntax.specs.declared.cst.Policy.TheVariants as trees
use Rattle.cedar_syntax.specs.declared.cst.PolicyImpl.{PolicyImpl}
use Rattle.cedar_syntax.specs.declared.cst.Ref.{Ref}
use Rattle.cedar_syntax.specs.declared.cst.Ref.TheVariants as refs
use Rattle.cedar_syntax.specs.declared.cst.VariableDef.{VariableDef}
use Rattle.cedar_syntax.specs.trees.Forms.{located, add_form, expr_form}
use Rattle.cedar_syntax.specs.trees.Located.{Located, Form, Parts, missing, at, only, ite, chain, has, like, is, is_in, unary, member, field, call, index, literal, name, slot, reference, parens, set, record_of, init, none, more}
use Rattle.cedar_policy_conversion.specs.AnnotationKeys.{annotation_outcome, annotations_outcome, with_new_key}
use Rattle.cedar_policy_conversion.specs.Conditions.{condition_outcome}
use Rattle.cedar_conversion.specs.strict.Extensions.{Extensions}
use Rattle.cedar_conversion.specs.outcome.Conversion.{value_outcome}
use Rattle.cedar_conversion.specs.outcome.Outcome.{next}
use Rattle.cedar_conversion.specs.parts.Entities.{entity_outcome}
use Rattle.cedar_conversion.specs.parts.Literals.{string_outcome}
use Rattle.cedar_conversion.specs.parts.Names.{valid_ident, any_ident as any_outcome}
use Rattle.cedar_policy_conversion.specs.Policies.{effect_outcome, template_outcome, policies_outcome}
use Rattle.cedar_policy_conversion.specs.References.{referent_outcome, single_entity, entity_or_slot, one_or_multiple}
use Rattle.cedar_policy_conversion.specs.Scope.{scope_outcome}
use Rattle.cedar_policy_parser.proofs.standing.Standing.{by_hand, IsTold, Stands, Anything, weaker}
use Rattle.cedar_policy_parser.proofs.standing.StandingAlone.{string_stands}
use Rattle.cedar_policy_parser.proofs.standing.StandingLeaves.{entity_stands, valid_stands, any_stands}
use Rattle.cedar_policy_parser.proofs.standing.StandingPolicies.{annotations_stand, condition_stands, effect_stands, new_annotation_stands, template_stands, policies_stand}
use Rattle.cedar_policy_parser.proofs.standing.StandingScopes.{referred_stands, single_refuses, slot_refuses, multiple_refuses, scope_stands}
use Rattle.cedar_policy_parser.proofs.standing.StandingTrees.{expression_stands}
use Rattle.cedar_policy_parser.proofs.tidy.Tidy.{Holding, NodeTidy, Each, IdentHeld, IdentTidy, NameTidy, LiteralTidy, RefTidy, Tidy, FormTidy, PartsTidy, AccessesTidy, AccessTidy, AccessFormTidy, PairsTidy, PairTidy, PairFormTidy}
use Rattle.cedar_policy_parser.proofs.tidy.TidyPolicies.{IfThere, AddTidy, ConstraintTidy, ExprTidy, AnnotationTidy, ElementTidy, CondTidy, PolicyTidy, PoliciesTidy}

-- ---- nodes

any_held : {X : Type 0} (P : X → Type 0) → ((x : X) → P x) → (c : Option X) → Holding by_hand P c
any_held P k None = tt
any_held P k (Some x) = k x

any_node : {X : Type 0} (P : X → Type 0) → ((x : X) → P x) → (n : Node (Option X)) → NodeTidy by_hand P n
any_node P k n = (tt, any_held P k n.node)

any_each : {X : Type 0} (P : X → Type 0) → ((x : X) → P x) → (xs : List X) → Each P xs
any_each P k [] = tt
any_each P k (x ∷ xs) = (k x, any_each P k xs)

any_there : {X : Type 0} (P : X → Type 0) → ((x : X) → P x) → (c : Option X) → IfThere P c
any_there P k None = tt
any_there P k (Some x) = k x

-- ---- leaves

any_ident_held : (i : Ident) → IdentHeld by_hand i
any_ident_held (words.Ident text) = tt
any_ident_held (words.Invalid text) = tt
any_ident_held i = tt

any_ident : (n : Node (Option Ident)) → IdentTidy by_hand n
any_ident n = any_node (IdentHeld by_hand) any_ident_held n

any_name : (m : Name) → NameTidy by_hand m
any_name m = (any_each (IdentTidy by_hand) any_ident m.path, any_ident m.name)

any_literal : (x : Literal) → LiteralTidy by_hand x
any_literal lit.True = tt
any_literal lit.False = tt
any_literal (lit.Num n) = tt
any_literal (lit.Str s) = any_node Anything (λ x. tt) s

any_ref : (r : Ref) → RefTidy by_hand r
any_ref (refs.Uid path eid) = (any_node (NameTidy by_hand) any_name path, any_node Anything (λ x. tt) eid)
any_ref (refs.Ref path inits) = tt

-- ---- expressions

mutual
  any_tree : (n : Located) → Tidy by_hand n
  any_tree (missing place) = tt
  any_tree (at place form) = (tt, any_form form)

  any_form : (u : Form) → FormTidy by_hand u
  any_form (only n) = any_tree n
  any_form (ite a b c) = (any_tree a, any_tree b, any_tree c)
  any_form (chain level first others) = (any_tree first, any_parts others)
  any_form (has target right) = (any_tree target, any_tree right)
  any_form (like target pattern) = (any_tree target, any_tree pattern)
  any_form (is target type) = (any_tree target, any_tree type)
  any_form (is_in target type within) = (any_tree target, any_tree type, any_tree within)
  any_form (unary op item) = any_tree item
  any_form (member item accesses) = (any_tree item, any_accesses accesses)
  any_form (field n) = tt
  any_form (call items) = tt
  any_form (index n) = tt
  any_form (literal n) = any_node (LiteralTidy by_hand) any_literal n
  any_form (name n) = any_node (NameTidy by_hand) any_name n
  any_form (slot n) = any_node Anything (λ x. tt) n
  any_form (reference n) = any_node (RefTidy by_hand) any_ref n
  any_form (parens n) = any_tree n
  any_form (set items) = any_parts items
  any_form (record_of items) = any_pairs items
  any_form (init key value) = tt

  any_parts : (ps : Parts) → PartsTidy by_hand ps
  any_parts none = tt
  any_parts (more op n others) = (any_tree n, any_parts others)

  any_accesses : (ps : Parts) → AccessesTidy by_hand ps
  any_accesses none = tt
  any_accesses (more op n others) = (any_access n, any_accesses others)

  any_access : (n : Located) → AccessTidy by_hand n
  any_access (missing place) = tt
  any_access (at place form) = (tt, any_access_form form)

  any_access_form : (u : Form) → AccessFormTidy by_hand u
  any_access_form (field n) = any_ident n
  any_access_form (call items) = any_parts items
  any_access_form (index n) = any_tree n
  any_access_form u = tt

  any_pairs : (ps : Parts) → PairsTidy by_hand ps
  any_pairs none = tt
  any_pairs (more op n others) = (any_pair n, any_pairs others)

  any_pair : (n : Located) → PairTidy by_hand n
  any_pair (missing place) = tt
  any_pair (at place form) = (tt, any_pair_form form)

  any_pair_form : (u : Form) → PairFormTidy by_hand u
  any_pair_form (init key value) = (any_tree key, any_tree value)
  any_pair_form u = tt

-- ---- policies

any_annotation : (a : Annotation) → AnnotationTidy by_hand a
any_annotation a = (any_ident a.key, any_there (NodeTidy by_hand Anything) (any_node Anything (λ x. tt)) a.value)

any_element : (d : VariableDef) → ElementTidy by_hand d
any_element d = (
  any_ident d.variable,
  any_there (NodeTidy by_hand (NameTidy by_hand)) (any_node (NameTidy by_hand) any_name) d.unused_type_name,
  any_there (AddTidy by_hand) (λ n. any_tree (located add_form n)) d.entity_type,
  any_there (ConstraintTidy by_hand) (λ p. any_tree (located expr_form p.1)) d.ineq,
)

any_cond : (c : Cond) → CondTidy by_hand c
any_cond c = (any_ident c.cond, any_there (ExprTidy by_hand) (λ n. any_tree (located expr_form n)) c.expr)

any_policy : (x : Policy) → PolicyTidy by_hand x
any_policy (trees.Policy p) = (
  any_each (NodeTidy by_hand (AnnotationTidy by_hand)) (any_node (AnnotationTidy by_hand) any_annotation) p.annotations,
  any_ident p.effect,
  any_each (NodeTidy by_hand (ElementTidy by_hand)) (any_node (ElementTidy by_hand) any_element) p.variables,
  any_each (NodeTidy by_hand (CondTidy by_hand)) (any_node (CondTidy by_hand) any_cond) p.conds,
)

pub any_value_stands : (e : Extensions) (n : Located) → Stands IsTold by_hand Anything (value_outcome e n)
any_value_stands e n = expression_stands e by_hand n (any_tree n)

pub any_string_stands : (n : Located) → Stands IsTold by_hand Anything (string_outcome n)
any_string_stands n = weaker by_hand Anything (string_outcome n) (string_stands by_hand n (any_tree n))

pub any_entity_stands : (n : Node (Option Ref)) → Stands IsTold by_hand Anything (entity_outcome n)
any_entity_stands n = weaker by_hand Anything (entity_outcome n) (entity_stands by_hand n (any_node (RefTidy by_hand) any_ref n))

pub any_identifier_stands : (n : Node (Option Ident)) → Stands IsTold by_hand Anything (valid_ident n)
any_identifier_stands n = weaker by_hand Anything (valid_ident n) (valid_stands by_hand n (any_ident n))

pub any_word_stands : (n : Node (Option Ident)) → Stands IsTold by_hand Anything (any_outcome n)
any_word_stands n = weaker by_hand Anything (any_outcome n) (any_stands by_hand n (any_ident n))

pub any_single_stands : (x : Var) (n : Node (Option Expr)) → Stands IsTold by_hand Anything (referent_outcome single_entity x n)
any_single_stands x n = weaker by_hand Anything (referent_outcome single_entity x n) (referred_stands by_hand single_entity x n (single_refuses by_hand) (any_tree (located expr_form n)))

pub any_reference_stands : (x : Var) (n : Node (Option Expr)) → Stands IsTold by_hand Anything (referent_outcome entity_or_slot x n)
any_reference_stands x n = weaker by_hand Anything (referent_outcome entity_or_slot x n) (referred_stands by_hand entity_or_slot x n (slot_refuses by_hand) (any_tree (located expr_form n)))

pub any_multiple_stands : (x : Var) (n : Node (Option Expr)) → Stands IsTold by_hand Anything (referent_outcome one_or_multiple x n)
any_multiple_stands x n = weaker by_hand Anything (referent_outcome one_or_multiple x n) (referred_stands by_hand one_or_multiple x n (multiple_refuses by_hand) (any_tree (located expr_form n)))

pub any_effect_stands : (n : Node (Option Ident)) → Stands IsTold by_hand Anything (effect_outcome n)
any_effect_stands n = effect_stands by_hand n (any_ident n)

pub any_annotation_stands : (keys : List (List ℕ)) (n : Node (Option Annotation)) → Stands IsTold by_hand Anything (next (annotation_outcome n) (with_new_key keys))
any_annotation_stands keys n = new_annotation_stands by_hand keys n (any_node (AnnotationTidy by_hand) any_annotation n)

pub any_annotations_stand : (ns : List (Node (Option Annotation))) → Stands IsTold by_hand Anything (annotations_outcome ns)
any_annotations_stand ns = annotations_stand by_hand ns (any_each (NodeTidy by_hand (AnnotationTidy by_hand)) (any_node (AnnotationTidy by_hand) any_annotation) ns)

pub any_scope_stands : (e : Extensions) (p : PolicyImpl) → Stands IsTold by_hand Anything (scope_outcome e p)
any_scope_stands e p = let h = any_policy (trees.Policy p) in scope_stands e by_hand p h.1.0 h.2

pub any_condition_stands : (e : Extensions) (n : Node (Option Cond)) → Stands IsTold by_hand Anything (condition_outcome e n)
any_condition_stands e n = condition_stands e by_hand n (any_node (CondTidy by_hand) any_cond n)

any_policies : (ps : Policies) → PoliciesTidy by_hand ps
any_policies ps = any_each (NodeTidy by_hand (PolicyTidy by_hand)) (any_node (PolicyTidy by_hand) any_policy) ps.0

pub any_policy_stands : (e : Extensions) (id : List ℕ) (n : Node (Option Policy)) → Stands IsTold by_hand Anything (template_outcome e id n)
any_policy_stands e id n = template_stands e by_hand id n (any_node (PolicyTidy by_hand) any_policy n)

pub any_set_stands : (e : Extensions) (n : Node (Option Policies)) → Stands IsTold by_hand Anything (policies_outcome e n)
any_set_stands e n = policies_stand e by_hand n (any_node (PoliciesTidy by_hand) any_policies n)
