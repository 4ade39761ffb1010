-- The `Tree` of each syntax tree, which has no places. That of an expression is its `Form`
-- (`Forms`), the one with places, after these are taken out.
use Rattle.std.specs.Prelude.{List, [], ◌∷◌, map, Option, Some, None, option_map}
use Rattle.cedar_expressions.specs.declared.operators.AddOp.{AddOp}
use Rattle.cedar_syntax.specs.declared.node.Node.{Node}
use Rattle.cedar_syntax.specs.declared.cst.Ident.{Ident}
use Rattle.cedar_syntax.specs.declared.cst.Str.{Str}
use Rattle.cedar_syntax.specs.declared.cst.Slot.{Slot}
use Rattle.cedar_syntax.specs.declared.cst.Name.{Name}
use Rattle.cedar_syntax.specs.declared.cst.RefInit.{RefInit}
use Rattle.cedar_syntax.specs.declared.cst.RelOp.{RelOp}
use Rattle.cedar_syntax.specs.declared.cst.MultOp.{MultOp}
use Rattle.cedar_syntax.specs.declared.cst.Annotation.{Annotation}
use Rattle.cedar_syntax.specs.declared.cst.Cond.{Cond}
use Rattle.cedar_syntax.specs.declared.cst.VariableDef.{VariableDef}
use Rattle.cedar_syntax.specs.declared.cst.PolicyImpl.{PolicyImpl}
use Rattle.cedar_syntax.specs.declared.cst.Policies.{Policies}
use Rattle.cedar_syntax.specs.declared.cst.Literal.{Literal}
use Rattle.cedar_syntax.specs.declared.cst.Literal.TheVariants as lit
use Rattle.cedar_syntax.specs.declared.cst.Ref.{Ref}
use Rattle.cedar_syntax.specs.declared.cst.Ref.TheVariants as refs
use Rattle.cedar_syntax.specs.declared.cst.Policy.{Policy}
use Rattle.cedar_syntax.specs.declared.cst.Policy.TheVariants as pol
use Rattle.cedar_syntax.specs.declared.cst.Expr.{Expr}
use Rattle.cedar_syntax.specs.declared.cst.ExprData.{ExprData}
use Rattle.cedar_syntax.specs.declared.cst.MemAccess.{MemAccess}
use Rattle.cedar_syntax.specs.declared.cst.Primary.{Primary}
use Rattle.cedar_syntax.specs.declared.cst.Relation.{Relation}
use Rattle.cedar_syntax.specs.declared.cst.Add.{Add}
use Rattle.cedar_syntax.specs.declared.cst.And.{And}
use Rattle.cedar_syntax.specs.declared.cst.ExprImpl.{ExprImpl}
use Rattle.cedar_syntax.specs.declared.cst.Member.{Member}
use Rattle.cedar_syntax.specs.declared.cst.Mult.{Mult}
use Rattle.cedar_syntax.specs.declared.cst.Or.{Or}
use Rattle.cedar_syntax.specs.declared.cst.RecInit.{RecInit}
use Rattle.cedar_syntax.specs.declared.cst.Unary.{Unary}
use Rattle.cedar_syntax.specs.trees.Forms.{expr_form, data_form, access_form, primary_form, relation_form, add_form, and_form, impl_form, member_form, mult_form, or_form, init_form, unary_form}
use Rattle.cedar_syntax.specs.trees.Located as p
use Rattle.cedar_syntax.specs.trees.Located.{Located, Form, Parts}
use Rattle.cedar_syntax.specs.trees.Tree.{Tree, Rest, Operator, missing, ite, chain, has, like, is, is_in, unary, member, field, call, index, number, truth, falsity, string, name, slot, entity, reference, ref_init, parens, set, record_of, init, word, annotation, variable_def, condition, empty_condition, policy, policies, none, more, compare, add, multiply, beside}

-- ---- nodes and lists

abbrev pub or_missing : Option Tree → Tree
or_missing (Some t) = t
or_missing None = missing

-- what a node contains
abbrev pub content : Node (Option Tree) → Tree
content n = or_missing n.node

-- a node with what it contains changed
abbrev pub node_by : {X Y : Type 0} → (Option X → Option Y) → Node (Option X) → Node (Option Y)
node_by g n = record { node = g n.node; loc = n.loc }

abbrev pub unplaced_node : {X : Type 0} → (X → Tree) → Node (Option X) → Node (Option Tree)
unplaced_node f n = node_by (option_map f) n

-- the tree of a node
abbrev pub tree_at : {X : Type 0} → (X → Tree) → Node (Option X) → Tree
tree_at f n = content (unplaced_node f n)

abbrev pub rest_of : List (Operator × Tree) → Rest
rest_of [] = none
rest_of (t ∷ ts) = more t.0 t.1 (rest_of ts)

abbrev pub rest_behind : Operator → List (Node (Option Tree)) → Rest
rest_behind op ns = rest_of (map (λ n. (op, content n)) ns)

-- what is there, or not
abbrev pub optional : Option Tree → Rest
optional None = none
optional (Some t) = more beside t none

-- parts with their operators
abbrev pub rel_part : RelOp × Node (Option Tree) → Operator × Tree
rel_part p = (compare p.0, content p.1)

abbrev pub add_part : AddOp × Node (Option Tree) → Operator × Tree
add_part p = (add p.0, content p.1)

abbrev pub mult_part : MultOp × Node (Option Tree) → Operator × Tree
mult_part p = (multiply p.0, content p.1)

-- ---- the types that hold no expression

abbrev pub ident_tree : Ident → Tree
ident_tree i = word i

abbrev pub str_tree : Str → Tree
str_tree s = string (Some s)

abbrev pub literal_tree : Literal → Tree
literal_tree lit.True = truth
literal_tree lit.False = falsity
literal_tree (lit.Num n) = number n
literal_tree (lit.Str s) = string s.node

abbrev pub literal_in : Option Literal → Tree
literal_in l = or_missing (option_map literal_tree l)

abbrev pub name_tree : Name → Tree
name_tree n = name (map (λ i. i.node) n.path) n.name.node

abbrev pub name_in : Option Name → Tree
name_in n = or_missing (option_map name_tree n)

abbrev pub slot_tree : Slot → Tree
slot_tree s = slot s

abbrev pub slot_in : Option Slot → Tree
slot_in s = or_missing (option_map slot_tree s)

abbrev pub ref_init_tree : RefInit → Tree
ref_init_tree i = ref_init i.0.node (literal_in i.1.node)

abbrev pub ref_tree : Ref → Tree
ref_tree (refs.Uid path eid) = entity (name_in path.node) eid.node
ref_tree (refs.Ref path inits) =
    reference (name_in path.node) (rest_behind beside (map (unplaced_node ref_init_tree) inits))

abbrev pub ref_in : Option Ref → Tree
ref_in r = or_missing (option_map ref_tree r)

abbrev pub annotation_tree : Annotation → Tree
annotation_tree a = annotation a.key.node (option_map (λ (v : Node (Option Str)). v.node) a.value)

-- ---- an expression without its places

-- `is` alone, or with what stands behind `in`
abbrev pub type_relation_tree : Tree → Tree → Option (Node (Option Tree)) → Tree
type_relation_tree target entity_type None = is target entity_type
type_relation_tree target entity_type (Some n) = is_in target entity_type (content n)

unfoldable mutual
  pub unplaced_tree : Located → Tree
  unplaced_tree (p.missing place) = missing
  unplaced_tree (p.at place f) = unplaced_tree_form f

  pub unplaced_tree_form : Form → Tree
  unplaced_tree_form (p.only n) = unplaced_tree n
  unplaced_tree_form (p.ite a b c) = ite (unplaced_tree a) (unplaced_tree b) (unplaced_tree c)
  unplaced_tree_form (p.chain level first others) = chain level (unplaced_tree first)
      (unplaced_tree_parts others)
  unplaced_tree_form (p.has target right) = has (unplaced_tree target) (unplaced_tree right)
  unplaced_tree_form (p.like target pattern) = like (unplaced_tree target) (unplaced_tree pattern)
  unplaced_tree_form (p.is target entity_type) = is (unplaced_tree target)
      (unplaced_tree entity_type)
  unplaced_tree_form (p.is_in target entity_type within) =
      is_in (unplaced_tree target) (unplaced_tree entity_type) (unplaced_tree within)
  unplaced_tree_form (p.unary op item) = unary op (unplaced_tree item)
  unplaced_tree_form (p.member item accesses) = member (unplaced_tree item)
      (unplaced_tree_parts accesses)
  unplaced_tree_form (p.field n) = field n.node
  unplaced_tree_form (p.call items) = call (unplaced_tree_parts items)
  unplaced_tree_form (p.index n) = index (unplaced_tree n)
  unplaced_tree_form (p.literal n) = literal_in n.node
  unplaced_tree_form (p.name n) = name_in n.node
  unplaced_tree_form (p.slot n) = slot_in n.node
  unplaced_tree_form (p.reference n) = ref_in n.node
  unplaced_tree_form (p.parens n) = parens (unplaced_tree n)
  unplaced_tree_form (p.set items) = set (unplaced_tree_parts items)
  unplaced_tree_form (p.record_of items) = record_of (unplaced_tree_parts items)
  unplaced_tree_form (p.init key value) = init (unplaced_tree key) (unplaced_tree value)

  pub unplaced_tree_parts : Parts → Rest
  unplaced_tree_parts p.none = none
  unplaced_tree_parts (p.more op n others) = more op (unplaced_tree n) (unplaced_tree_parts others)

unfoldable pub expr_tree : Expr → Tree
expr_tree d = unplaced_tree_form (expr_form d)

unfoldable pub data_tree : ExprData → Tree
data_tree d = unplaced_tree_form (data_form d)

unfoldable pub access_tree : MemAccess → Tree
access_tree d = unplaced_tree_form (access_form d)

unfoldable pub primary_tree : Primary → Tree
primary_tree d = unplaced_tree_form (primary_form d)

unfoldable pub relation_tree : Relation → Tree
relation_tree d = unplaced_tree_form (relation_form d)

unfoldable pub add_tree : Add → Tree
add_tree d = unplaced_tree_form (add_form d)

unfoldable pub and_tree : And → Tree
and_tree d = unplaced_tree_form (and_form d)

unfoldable pub impl_tree : ExprImpl → Tree
impl_tree d = unplaced_tree_form (impl_form d)

unfoldable pub member_tree : Member → Tree
member_tree d = unplaced_tree_form (member_form d)

unfoldable pub mult_tree : Mult → Tree
mult_tree d = unplaced_tree_form (mult_form d)

unfoldable pub or_tree : Or → Tree
or_tree d = unplaced_tree_form (or_form d)

unfoldable pub init_tree : RecInit → Tree
init_tree d = unplaced_tree_form (init_form d)

unfoldable pub unary_tree : Unary → Tree
unary_tree d = unplaced_tree_form (unary_form d)

-- ---- parts of an expression with their operators

abbrev pub unplaced_relation_part : RelOp × Node (Option Add) → RelOp × Node (Option Tree)
unplaced_relation_part p = (p.0, unplaced_node add_tree p.1)

abbrev pub unplaced_sum_part : AddOp × Node (Option Mult) → AddOp × Node (Option Tree)
unplaced_sum_part p = (p.0, unplaced_node mult_tree p.1)

abbrev pub unplaced_product_part : MultOp × Node (Option Unary) → MultOp × Node (Option Tree)
unplaced_product_part p = (p.0, unplaced_node unary_tree p.1)

-- ---- policies

abbrev pub comparison_rest : Option (RelOp × Node (Option Expr)) → Rest
comparison_rest None = none
comparison_rest (Some p) = more (compare p.0) (tree_at expr_tree p.1) none

abbrev pub variable_def_tree : VariableDef → Tree
variable_def_tree v = variable_def v.variable.node
    (optional (option_map (tree_at name_tree) v.unused_type_name))
    (optional (option_map (tree_at add_tree) v.entity_type)) (comparison_rest v.ineq)

abbrev pub condition_tree : Option Ident → Option (Node (Option Expr)) → Tree
condition_tree i None = empty_condition i
condition_tree i (Some n) = condition i (tree_at expr_tree n)

abbrev pub cond_tree : Cond → Tree
cond_tree c = condition_tree c.cond.node c.expr

abbrev pub policy_impl_tree : PolicyImpl → Tree
policy_impl_tree p =
    policy (rest_behind beside (map (unplaced_node annotation_tree) p.annotations)) p.effect.node
    (rest_behind beside (map (unplaced_node variable_def_tree) p.variables))
    (rest_behind beside (map (unplaced_node cond_tree) p.conds))

abbrev pub policy_tree : Policy → Tree
policy_tree (pol.Policy p) = policy_impl_tree p

abbrev pub policies_tree : Policies → Tree
policies_tree ps = policies (rest_behind beside (map (unplaced_node policy_tree) ps.0))
