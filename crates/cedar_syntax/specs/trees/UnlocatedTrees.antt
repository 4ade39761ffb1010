-- The trees of each rule without their places; a node's emptiness stays.
use Rattle.std.specs.Prelude.{List, map, Option, Some, None, option_map}
use Rattle.cedar_syntax.specs.declared.cst.Add.{Add}
use Rattle.cedar_syntax.specs.declared.cst.Annotation.{Annotation}
use Rattle.cedar_syntax.specs.declared.cst.Cond.{Cond}
use Rattle.cedar_syntax.specs.declared.cst.Expr.{Expr}
use Rattle.cedar_syntax.specs.declared.cst.Ident.{Ident}
use Rattle.cedar_syntax.specs.declared.cst.Name.{Name}
use Rattle.cedar_syntax.specs.declared.cst.Policies.{Policies}
use Rattle.cedar_syntax.specs.declared.cst.Policy.{Policy}
use Rattle.cedar_syntax.specs.declared.cst.Policy.TheVariants as policies
use Rattle.cedar_syntax.specs.declared.cst.Primary.{Primary}
use Rattle.cedar_syntax.specs.declared.cst.RelOp.{RelOp}
use Rattle.cedar_syntax.specs.declared.cst.VariableDef.{VariableDef}
use Rattle.cedar_syntax.specs.trees.Forms.{add_form, expr_form, primary_form}
use Rattle.cedar_syntax.specs.trees.Located.{Form}
use Rattle.cedar_syntax.specs.trees.Tree.{Tree, Rest, variable_def, condition, empty_condition, policy, compare, more, none, beside}
use Rattle.cedar_syntax.specs.trees.Trees.{Cell}
use Rattle.cedar_syntax.specs.trees.Unlocated.{unlocated_node, unlocated_name, unlocated_form}
use Rattle.cedar_syntax.specs.trees.Unplaced.{annotation_tree, optional, tree_at, name_tree, unplaced_tree_form, unplaced_node, rest_behind}

-- a node without its place, and what it holds without places
abbrev pub bare_cell : {X F : Type 0} → (X → F) → Cell X → Cell F
bare_cell bare c = record { node = option_map bare c.node; loc = None }

abbrev pub bare_cells : {X F : Type 0} → (X → F) → List (Cell X) → List (Cell F)
bare_cells bare xs = map (bare_cell bare) xs

abbrev pub unlocated_expr : Expr → Form
unlocated_expr x = unlocated_form (expr_form x)

abbrev pub unlocated_primary : Primary → Form
unlocated_primary x = unlocated_form (primary_form x)

-- an identifier has no places
abbrev pub unlocated_ident : Ident → Ident
unlocated_ident i = i

abbrev pub unlocated_add : Add → Form
unlocated_add x = unlocated_form (add_form x)

abbrev pub unlocated_annotation : Annotation → Annotation
unlocated_annotation a = record {
  key = unlocated_node a.key;
  value = option_map (λ v. unlocated_node v) a.value;
}

-- an element of the scope
pub record BareElement : Type 0 where
  pub variable : Cell Ident
  pub type_name : Option (Cell Name)
  pub entity_type : Option (Cell Form)
  pub constraint : Option (RelOp × Cell Form)

abbrev pub unlocated_constraint : RelOp × Cell Expr → RelOp × Cell Form
unlocated_constraint p = (p.0, bare_cell unlocated_expr p.1)

abbrev pub unlocated_element : VariableDef → BareElement
unlocated_element v = record {
  variable = unlocated_node v.variable;
  type_name = option_map (λ c. bare_cell unlocated_name c) v.unused_type_name;
  entity_type = option_map (λ c. bare_cell unlocated_add c) v.entity_type;
  constraint = option_map unlocated_constraint v.ineq;
}

pub record BareCondition : Type 0 where
  pub word : Cell Ident
  pub body : Option (Cell Form)

abbrev pub unlocated_clause : Cond → BareCondition
unlocated_clause c = record {
  word = unlocated_node c.cond;
  body = option_map (λ n. bare_cell unlocated_expr n) c.expr;
}

pub record BarePolicy : Type 0 where
  pub annotations : List (Cell Annotation)
  pub effect : Cell Ident
  pub elements : List (Cell BareElement)
  pub clauses : List (Cell BareCondition)

abbrev pub unlocated_policy : Policy → BarePolicy
unlocated_policy (policies.Policy p) = record {
  annotations = bare_cells unlocated_annotation p.annotations;
  effect = unlocated_node p.effect;
  elements = bare_cells unlocated_element p.variables;
  clauses = bare_cells unlocated_clause p.conds;
}

abbrev pub unlocated_policies : Policies → List (Cell BarePolicy)
unlocated_policies ps = bare_cells unlocated_policy ps.0

-- ---- as they are printed

abbrev pub comparison_of : Option (RelOp × Cell Form) → Rest
comparison_of None = none
comparison_of (Some p) = more (compare p.0) (tree_at unplaced_tree_form p.1) none

abbrev pub element_tree : BareElement → Tree
element_tree e = variable_def e.variable.node
    (optional (option_map (λ c. tree_at name_tree c) e.type_name))
    (optional (option_map (λ c. tree_at unplaced_tree_form c) e.entity_type))
    (comparison_of e.constraint)

abbrev pub clause_with : Option Ident → Option (Cell Form) → Tree
clause_with i None = empty_condition i
clause_with i (Some c) = condition i (tree_at unplaced_tree_form c)

abbrev pub clause_tree : BareCondition → Tree
clause_tree c = clause_with c.word.node c.body

abbrev pub rest_cells : {F : Type 0} → (F → Tree) → List (Cell F) → Rest
rest_cells tree cs = rest_behind beside (map (unplaced_node tree) cs)

abbrev pub bare_tree : BarePolicy → Tree
bare_tree b = policy (rest_cells annotation_tree b.annotations) b.effect.node
    (rest_cells element_tree b.elements) (rest_cells clause_tree b.clauses)
