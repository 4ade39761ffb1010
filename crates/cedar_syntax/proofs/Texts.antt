-- The printed tokens of each tree, by the tokens of its parts.
use Rattle.std.proofs.Common.{◌≡◌, ℕ, refl, ap, sym, ◌∙◌, map, Option, Some, None, option_map, List, [], ◌∷◌, ◌++◌, append_assoc, codes}
use Rattle.std.proofs.lemmas.List.{append-nil}
use Rattle.cedar_syntax.specs.declared.node.Node.{Node}
use Rattle.cedar_syntax.specs.declared.cst.Ident.{Ident}
use Rattle.cedar_syntax.specs.declared.cst.Str.{Str}
use Rattle.cedar_syntax.specs.declared.cst.Literal.{Literal}
use Rattle.cedar_syntax.specs.declared.cst.Ref.{Ref}
use Rattle.cedar_syntax.specs.declared.cst.Name.{Name}
use Rattle.cedar_syntax.specs.declared.cst.Slot.{Slot}
use Rattle.cedar_syntax.specs.declared.cst.RefInit.{RefInit}
use Rattle.cedar_syntax.specs.declared.cst.RelOp.{RelOp}
use Rattle.cedar_syntax.specs.declared.cst.Policy.{Policy}
use Rattle.cedar_syntax.specs.declared.cst.PolicyImpl.{PolicyImpl}
use Rattle.cedar_syntax.specs.declared.cst.Policies.{Policies}
use Rattle.cedar_syntax.specs.declared.cst.Annotation.{Annotation}
use Rattle.cedar_syntax.specs.declared.cst.VariableDef.{VariableDef}
use Rattle.cedar_syntax.specs.declared.cst.Cond.{Cond}
use Rattle.cedar_syntax.specs.declared.cst.Expr.{Expr}
use Rattle.cedar_syntax.specs.declared.cst.ExprData.{ExprData, out-ExprData}
use Rattle.cedar_syntax.specs.declared.cst.MemAccess.{MemAccess, out-MemAccess}
use Rattle.cedar_syntax.specs.declared.cst.Primary.{Primary, out-Primary}
use Rattle.cedar_syntax.specs.declared.cst.Relation.{Relation, out-Relation}
use Rattle.cedar_syntax.specs.declared.cst.Add.{Add, out-Add}
use Rattle.cedar_syntax.specs.declared.cst.And.{And}
use Rattle.cedar_syntax.specs.declared.cst.ExprImpl.{ExprImpl, out-ExprImpl}
use Rattle.cedar_syntax.specs.declared.cst.Member.{Member}
use Rattle.cedar_syntax.specs.declared.cst.Mult.{Mult, out-Mult}
use Rattle.cedar_syntax.specs.declared.cst.Or.{Or, out-Or}
use Rattle.cedar_syntax.specs.declared.cst.RecInit.{RecInit}
use Rattle.cedar_syntax.specs.declared.cst.Unary.{Unary, out-Unary}
use Rattle.cedar_syntax.specs.declared.cst.Expr.TheVariants as EV
use Rattle.cedar_syntax.specs.declared.cst.ExprData as D
use Rattle.cedar_syntax.specs.declared.cst.MemAccess as M
use Rattle.cedar_syntax.specs.declared.cst.Primary as P
use Rattle.cedar_syntax.specs.declared.cst.Relation as R
use Rattle.cedar_syntax.specs.declared.cst.Ref.TheVariants as F
use Rattle.cedar_syntax.specs.declared.cst.Policy.TheVariants as Q
use Rattle.cedar_syntax.specs.trees.Tree.{Tree, Operator, or_or, and_and, compare, add, multiply, beside}
use Rattle.cedar_syntax.specs.trees.Unplaced.{expr_tree, data_tree, access_tree, primary_tree, relation_tree, add_tree, and_tree, impl_tree, member_tree, mult_tree, or_tree, init_tree, unary_tree, ident_tree, str_tree, literal_tree, name_tree, slot_tree, ref_tree, ref_init_tree, annotation_tree, variable_def_tree, cond_tree, policy_impl_tree, policy_tree, policies_tree, or_missing, unplaced_node, tree_at, content, rest_behind, rest_of, optional, comparison_rest, condition_tree}
use Rattle.cedar_syntax.specs.printing.Printed.{Texts, printed, in_order, item_texts, each_behind, option_texts, operator_texts, rel_op_texts, add_op_texts, mult_op_texts, neg_op_texts, ident_texts, str_texts, path_texts, value_texts}
use Rattle.cedar_syntax.specs.printing.Printing.{texts_behind_mark, in_row, between, option_behind_mark, texts_before_mark, node_texts, pair_texts}
use Rattle.cedar_syntax.proofs.Levels.{or_out, and_out, add_out, mult_out, unary_out, member_out, init_out, impl_out, expr_out, data_or, data_if, relation_common, relation_has, relation_like, relation_is, relation_is_in, access_field, access_call, access_index, primary_literal, primary_ref, primary_name, primary_slot, primary_expr, primary_list, primary_inits}

-- ---- lists and nodes

module _ {X : Type 0} (f : X → Tree) where
  abbrev pub texts : X → Texts
  texts x = printed (f x)

  -- the tokens of a node
  pub at : (o : Option X) → option_texts texts o ≡ printed (or_missing (option_map f o))
  unfolding printed
  at None = refl
  at (Some x) = refl

  pub row : (xs : List (Node (Option X))) → in_row (node_texts (option_texts texts)) xs ≡ in_order (rest_behind beside (map (unplaced_node f) xs))
  unfolding in_order
  row [] = refl
  row (x ∷ xs) = λ i. at x.node i ++ row xs i

  pub chained : (op : Operator) (mark : List ℕ) → mark ∷ [] ≡ operator_texts op → (xs : List (Node (Option X))) → texts_behind_mark mark (node_texts (option_texts texts)) xs ≡ in_order (rest_behind op (map (unplaced_node f) xs))
  unfolding in_order
  chained op mark e [] = refl
  chained op mark e (x ∷ xs) = λ i. e i ++ (at x.node i ++ chained op mark e xs i)

  pub behind_mark : (mark : List ℕ) (xs : List (Node (Option X))) → texts_behind_mark mark (node_texts (option_texts texts)) xs ≡ each_behind mark (rest_behind beside (map (unplaced_node f) xs))
  unfolding each_behind
  behind_mark mark [] = refl
  behind_mark mark (x ∷ xs) = λ i. mark ∷ (at x.node i ++ behind_mark mark xs i)

  pub with_commas : (xs : List (Node (Option X))) → between (codes ",") (node_texts (option_texts texts)) xs ≡ item_texts (rest_behind beside (map (unplaced_node f) xs))
  unfolding item_texts
  with_commas [] = refl
  with_commas (x ∷ xs) = λ i. at x.node i ++ behind_mark (codes ",") xs i

  pub optionally : (mark : List ℕ) (o : Option (Node (Option X))) → option_behind_mark mark (node_texts (option_texts texts)) o ≡ each_behind mark (optional (option_map (tree_at f) o))
  unfolding each_behind
  optionally mark None = refl
  optionally mark (Some n) = λ i. mark ∷ (at n.node ∙ sym (append-nil (printed (tree_at f n)))) i

  -- parts with their operators
  pub parts : {O : Type 0} (operator : O → Operator) (xs : List (O × Node (Option X)))
      → in_row (pair_texts (λ o. operator_texts (operator o)) (node_texts (option_texts texts))) xs
      ≡ in_order (rest_of (map (λ (q : O × Node (Option Tree)). (operator q.0, content q.1)) (map (λ (p : O × Node (Option X)). (p.0, unplaced_node f p.1)) xs)))
  unfolding in_order
  parts operator [] = refl
  parts operator (x ∷ xs) = append_assoc (operator_texts (operator x.0)) (option_texts texts x.1.node) _ ∙ (λ i. operator_texts (operator x.0) ++ (at x.1.node i ++ parts operator xs i))

-- an identifier, a string by itself
word_at : (o : Option Ident) → option_texts (texts ident_tree) o ≡ option_texts ident_texts o
unfolding printed
word_at None = refl
word_at (Some x) = refl

str_at : (o : Option Str) → option_texts (texts str_tree) o ≡ option_texts str_texts o
unfolding printed
str_at None = refl
str_at (Some (x)) = refl

-- ---- expressions

pub or_texts : (d : Or) → node_texts (option_texts (texts and_tree)) (out-Or d).initial ++ texts_behind_mark (codes "||") (node_texts (option_texts (texts and_tree))) (out-Or d).extended ≡ printed (or_tree d)
unfolding printed
or_texts d = (λ i. at and_tree (out-Or d).initial.node i ++ chained and_tree or_or (codes "||") refl (out-Or d).extended i) ∙ ap printed (sym (or_out d))

pub and_texts : (d : And) → node_texts (option_texts (texts relation_tree)) d.initial ++ texts_behind_mark (codes "&&") (node_texts (option_texts (texts relation_tree))) d.extended ≡ printed (and_tree d)
unfolding printed
and_texts d = (λ i. at relation_tree d.initial.node i ++ chained relation_tree and_and (codes "&&") refl d.extended i) ∙ ap printed (sym (and_out d))

pub add_texts : (d : Add) → node_texts (option_texts (texts mult_tree)) (out-Add d).initial ++ in_row (pair_texts add_op_texts (node_texts (option_texts (texts mult_tree)))) (out-Add d).extended ≡ printed (add_tree d)
unfolding printed
add_texts d = (λ i. at mult_tree (out-Add d).initial.node i ++ parts mult_tree add (out-Add d).extended i) ∙ ap printed (sym (add_out d))

pub mult_texts : (d : Mult) → node_texts (option_texts (texts unary_tree)) (out-Mult d).initial ++ in_row (pair_texts mult_op_texts (node_texts (option_texts (texts unary_tree)))) (out-Mult d).extended ≡ printed (mult_tree d)
unfolding printed
mult_texts d = (λ i. at unary_tree (out-Mult d).initial.node i ++ parts unary_tree multiply (out-Mult d).extended i) ∙ ap printed (sym (mult_out d))

pub unary_texts : (d : Unary) → option_texts neg_op_texts (out-Unary d).op ++ node_texts (option_texts (texts member_tree)) (out-Unary d).item ≡ printed (unary_tree d)
unfolding printed
unary_texts d = (λ i. option_texts neg_op_texts (out-Unary d).op ++ at member_tree (out-Unary d).item.node i) ∙ ap printed (sym (unary_out d))

pub member_texts : (d : Member) → node_texts (option_texts (texts primary_tree)) d.item ++ in_row (node_texts (option_texts (texts access_tree))) d.access ≡ printed (member_tree d)
unfolding printed
member_texts d = (λ i. at primary_tree d.item.node i ++ row access_tree d.access i) ∙ ap printed (sym (member_out d))

pub init_texts : (d : RecInit) → node_texts (option_texts (texts expr_tree)) d.0 ++ ((codes ":" ∷ []) ++ node_texts (option_texts (texts expr_tree)) d.1) ≡ printed (init_tree d)
unfolding printed
init_texts d = (λ i. at expr_tree d.0.node i ++ (codes ":" ∷ at expr_tree d.1.node i)) ∙ ap printed (sym (init_out d))

pub impl_texts : (d : ExprImpl) → printed (data_tree (out-ExprImpl d).expr.content) ≡ printed (impl_tree d)
impl_texts d = ap printed (sym (impl_out d))

pub expr_texts : (x : Expr) (e : ExprImpl) → x ≡ EV.Expr e → printed (impl_tree e) ≡ printed (expr_tree x)
expr_texts x e h = ap printed (sym (ap expr_tree h ∙ expr_out e))

pub data_or_texts : (x : ExprData) (a : Node (Option Or)) → x ≡ D.Or a → node_texts (option_texts (texts or_tree)) a ≡ printed (data_tree x)
unfolding printed
data_or_texts x a h = (λ i. at or_tree a.node i) ∙ ap printed (sym (ap data_tree h ∙ data_or a))

pub data_if_texts : (x : ExprData) (a : Node (Option Expr)) (b : Node (Option Expr)) (c : Node (Option Expr)) → x ≡ D.If a b c → (codes "if" ∷ []) ++ (node_texts (option_texts (texts expr_tree)) a ++ ((codes "then" ∷ []) ++ (node_texts (option_texts (texts expr_tree)) b ++ ((codes "else" ∷ []) ++ node_texts (option_texts (texts expr_tree)) c)))) ≡ printed (data_tree x)
unfolding printed
data_if_texts x a b c h = (λ i. codes "if" ∷ (at expr_tree a.node i ++ (codes "then" ∷ (at expr_tree b.node i ++ (codes "else" ∷ at expr_tree c.node i))))) ∙ ap printed (sym (ap data_tree h ∙ data_if a b c))

pub relation_common_texts : (x : Relation) (a : Node (Option Add)) (xs : List (RelOp × Node (Option Add))) → x ≡ R.Common a xs → node_texts (option_texts (texts add_tree)) a ++ in_row (pair_texts rel_op_texts (node_texts (option_texts (texts add_tree)))) xs ≡ printed (relation_tree x)
unfolding printed
relation_common_texts x a xs h = (λ i. at add_tree a.node i ++ parts add_tree compare xs i) ∙ ap printed (sym (ap relation_tree h ∙ relation_common a xs))

pub relation_has_texts : (x : Relation) (a : Node (Option Add)) (b : Node (Option Add)) → x ≡ R.Has a b → node_texts (option_texts (texts add_tree)) a ++ ((codes "has" ∷ []) ++ node_texts (option_texts (texts add_tree)) b) ≡ printed (relation_tree x)
unfolding printed
relation_has_texts x a b h = (λ i. at add_tree a.node i ++ (codes "has" ∷ at add_tree b.node i)) ∙ ap printed (sym (ap relation_tree h ∙ relation_has a b))

pub relation_like_texts : (x : Relation) (a : Node (Option Add)) (b : Node (Option Add)) → x ≡ R.Like a b → node_texts (option_texts (texts add_tree)) a ++ ((codes "like" ∷ []) ++ node_texts (option_texts (texts add_tree)) b) ≡ printed (relation_tree x)
unfolding printed
relation_like_texts x a b h = (λ i. at add_tree a.node i ++ (codes "like" ∷ at add_tree b.node i)) ∙ ap printed (sym (ap relation_tree h ∙ relation_like a b))

pub relation_is_texts : (x : Relation) (a b : Node (Option Add)) (c : Option (Node (Option Add))) → x ≡ R.IsIn a b c → node_texts (option_texts (texts add_tree)) a ++ ((codes "is" ∷ []) ++ (node_texts (option_texts (texts add_tree)) b ++ option_behind_mark (codes "in") (node_texts (option_texts (texts add_tree))) c)) ≡ printed (relation_tree x)
unfolding printed
relation_is_texts x a b None h = (λ i. at add_tree a.node i ++ (codes "is" ∷ (append-nil (node_texts (option_texts (texts add_tree)) b) ∙ at add_tree b.node) i)) ∙ ap printed (sym (ap relation_tree h ∙ relation_is a b))
relation_is_texts x a b (Some c) h = (λ i. at add_tree a.node i ++ (codes "is" ∷ (at add_tree b.node i ++ (codes "in" ∷ at add_tree c.node i)))) ∙ ap printed (sym (ap relation_tree h ∙ relation_is_in a b c))

pub access_field_texts : (x : MemAccess) (a : Node (Option Ident)) → x ≡ M.Field a → (codes "." ∷ []) ++ node_texts (option_texts (texts ident_tree)) a ≡ printed (access_tree x)
unfolding printed
access_field_texts x a h = (λ i. codes "." ∷ word_at a.node i) ∙ ap printed (sym (ap access_tree h ∙ access_field a))

pub access_call_texts : (x : MemAccess) (a : List (Node (Option Expr))) → x ≡ M.Call a → (codes "(" ∷ []) ++ (between (codes ",") (node_texts (option_texts (texts expr_tree))) a ++ (codes ")" ∷ [])) ≡ printed (access_tree x)
unfolding printed
access_call_texts x a h = (λ i. codes "(" ∷ (with_commas expr_tree a i ++ (codes ")" ∷ []))) ∙ ap printed (sym (ap access_tree h ∙ access_call a))

pub access_index_texts : (x : MemAccess) (a : Node (Option Expr)) → x ≡ M.Index a → (codes "[" ∷ []) ++ (node_texts (option_texts (texts expr_tree)) a ++ (codes "]" ∷ [])) ≡ printed (access_tree x)
unfolding printed
access_index_texts x a h = (λ i. codes "[" ∷ (at expr_tree a.node i ++ (codes "]" ∷ []))) ∙ ap printed (sym (ap access_tree h ∙ access_index a))

pub primary_literal_texts : (x : Primary) (a : Node (Option Literal)) → x ≡ P.Literal a → node_texts (option_texts (texts literal_tree)) a ≡ printed (primary_tree x)
unfolding printed
primary_literal_texts x a h = (λ i. at literal_tree a.node i) ∙ ap printed (sym (ap primary_tree h ∙ primary_literal a))

pub primary_ref_texts : (x : Primary) (a : Node (Option Ref)) → x ≡ P.Ref a → node_texts (option_texts (texts ref_tree)) a ≡ printed (primary_tree x)
unfolding printed
primary_ref_texts x a h = (λ i. at ref_tree a.node i) ∙ ap printed (sym (ap primary_tree h ∙ primary_ref a))

pub primary_name_texts : (x : Primary) (a : Node (Option Name)) → x ≡ P.Name a → node_texts (option_texts (texts name_tree)) a ≡ printed (primary_tree x)
unfolding printed
primary_name_texts x a h = (λ i. at name_tree a.node i) ∙ ap printed (sym (ap primary_tree h ∙ primary_name a))

pub primary_slot_texts : (x : Primary) (a : Node (Option Slot)) → x ≡ P.Slot a → node_texts (option_texts (texts slot_tree)) a ≡ printed (primary_tree x)
unfolding printed
primary_slot_texts x a h = (λ i. at slot_tree a.node i) ∙ ap printed (sym (ap primary_tree h ∙ primary_slot a))

pub primary_expr_texts : (x : Primary) (a : Node (Option Expr)) → x ≡ P.Expr a → (codes "(" ∷ []) ++ (node_texts (option_texts (texts expr_tree)) a ++ (codes ")" ∷ [])) ≡ printed (primary_tree x)
unfolding printed
primary_expr_texts x a h = (λ i. codes "(" ∷ (at expr_tree a.node i ++ (codes ")" ∷ []))) ∙ ap printed (sym (ap primary_tree h ∙ primary_expr a))

pub primary_list_texts : (x : Primary) (a : List (Node (Option Expr))) → x ≡ P.EList a → (codes "[" ∷ []) ++ (between (codes ",") (node_texts (option_texts (texts expr_tree))) a ++ (codes "]" ∷ [])) ≡ printed (primary_tree x)
unfolding printed
primary_list_texts x a h = (λ i. codes "[" ∷ (with_commas expr_tree a i ++ (codes "]" ∷ []))) ∙ ap printed (sym (ap primary_tree h ∙ primary_list a))

pub primary_inits_texts : (x : Primary) (a : List (Node (Option RecInit))) → x ≡ P.RInits a → (codes "{" ∷ []) ++ (between (codes ",") (node_texts (option_texts (texts init_tree))) a ++ (codes "}" ∷ [])) ≡ printed (primary_tree x)
unfolding printed
primary_inits_texts x a h = (λ i. codes "{" ∷ (with_commas init_tree a i ++ (codes "}" ∷ []))) ∙ ap printed (sym (ap primary_tree h ∙ primary_inits a))

-- ---- the types that hold no expression

words : (xs : List (Node (Option Ident))) → texts_before_mark (codes "::") (node_texts (option_texts (texts ident_tree))) xs ≡ path_texts (map (λ i. i.node) xs)
unfolding printed
words [] = refl
words (x ∷ xs) = λ i. (word_at x.node i ++ (codes "::" ∷ [])) ++ words xs i

pub name_texts : (n : Name) → texts_before_mark (codes "::") (node_texts (option_texts (texts ident_tree))) n.path ++ node_texts (option_texts (texts ident_tree)) n.name ≡ printed (name_tree n)
unfolding printed
name_texts n = λ i. words n.path i ++ word_at n.name.node i

pub ref_init_texts : (r : RefInit) → node_texts (option_texts (texts ident_tree)) r.0 ++ ((codes ":" ∷ []) ++ node_texts (option_texts (texts literal_tree)) r.1) ≡ printed (ref_init_tree r)
unfolding printed
ref_init_texts r = λ i. word_at r.0.node i ++ (codes ":" ∷ at literal_tree r.1.node i)

pub uid_texts : (r : Ref) (path : Node (Option Name)) (id : Node (Option Str)) → r ≡ F.Uid path id → node_texts (option_texts (texts name_tree)) path ++ ((codes "::" ∷ []) ++ node_texts (option_texts (texts str_tree)) id) ≡ printed (ref_tree r)
unfolding printed
uid_texts r path id h = (λ i. at name_tree path.node i ++ (codes "::" ∷ str_at id.node i)) ∙ ap printed (sym (ap ref_tree h))

pub reference_texts : (r : Ref) (path : Node (Option Name)) (fields : List (Node (Option RefInit))) → r ≡ F.Ref path fields
    → node_texts (option_texts (texts name_tree)) path ++ ((codes "::" ∷ []) ++ ((codes "{" ∷ []) ++ (between (codes ",") (node_texts (option_texts (texts ref_init_tree))) fields ++ (codes "}" ∷ [])))) ≡ printed (ref_tree r)
unfolding printed
reference_texts r path fields h = (λ i. at name_tree path.node i ++ (codes "::" ∷ (codes "{" ∷ (with_commas ref_init_tree fields i ++ (codes "}" ∷ []))))) ∙ ap printed (sym (ap ref_tree h))

-- ---- policies

pub variable_def_texts : (v : VariableDef) → node_texts (option_texts (texts ident_tree)) v.variable ++ (option_behind_mark (codes ":") (node_texts (option_texts (texts name_tree))) v.unused_type_name ++ (option_behind_mark (codes "is") (node_texts (option_texts (texts add_tree))) v.entity_type ++ option_texts (pair_texts rel_op_texts (node_texts (option_texts (texts expr_tree)))) v.ineq)) ≡ printed (variable_def_tree v)
unfolding printed
variable_def_texts v = λ i. word_at v.variable.node i ++ (optionally name_tree (codes ":") v.unused_type_name i ++ (optionally add_tree (codes "is") v.entity_type i ++ against v.ineq i))
  where
    against : (o : Option (RelOp × Node (Option Expr))) → option_texts (pair_texts rel_op_texts (node_texts (option_texts (texts expr_tree)))) o ≡ in_order (comparison_rest o)
    against None = refl
    against (Some p) = λ i. rel_op_texts p.0 ++ (at expr_tree p.1.node ∙ sym (append-nil (printed (tree_at expr_tree p.1)))) i

pub cond_texts : (c : Cond) → node_texts (option_texts (texts ident_tree)) c.cond ++ ((codes "{" ∷ []) ++ (option_texts (node_texts (option_texts (texts expr_tree))) c.expr ++ (codes "}" ∷ []))) ≡ printed (cond_tree c)
unfolding printed
cond_texts c = with c.expr
  where
    with : (o : Option (Node (Option Expr))) → node_texts (option_texts (texts ident_tree)) c.cond ++ ((codes "{" ∷ []) ++ (option_texts (node_texts (option_texts (texts expr_tree))) o ++ (codes "}" ∷ []))) ≡ printed (condition_tree c.cond.node o)
    with None = λ i. word_at c.cond.node i ++ (codes "{" ∷ (codes "}" ∷ []))
    with (Some n) = λ i. word_at c.cond.node i ++ (codes "{" ∷ (at expr_tree n.node i ++ (codes "}" ∷ [])))

pub policy_impl_texts : (q : PolicyImpl) → in_row (node_texts (option_texts (texts annotation_tree))) q.annotations ++ (node_texts (option_texts (texts ident_tree)) q.effect ++ ((codes "(" ∷ []) ++ (between (codes ",") (node_texts (option_texts (texts variable_def_tree))) q.variables ++ ((codes ")" ∷ []) ++ (in_row (node_texts (option_texts (texts cond_tree))) q.conds ++ (codes ";" ∷ [])))))) ≡ printed (policy_impl_tree q)
unfolding printed
policy_impl_texts q = λ i. row annotation_tree q.annotations i ++ (word_at q.effect.node i ++ (codes "(" ∷ (with_commas variable_def_tree q.variables i ++ (codes ")" ∷ (row cond_tree q.conds i ++ (codes ";" ∷ []))))))

pub policy_texts : (x : Policy) (e : PolicyImpl) → x ≡ Q.Policy e → printed (policy_impl_tree e) ≡ printed (policy_tree x)
policy_texts x e h = ap printed (sym (ap policy_tree h))

pub policies_texts : (x : Policies) → in_row (node_texts (option_texts (texts policy_tree))) x.0 ≡ printed (policies_tree x)
unfolding printed
policies_texts x = row policy_tree x.0

pub key_texts : (a : Annotation) → a.value ≡ None → (codes "@" ∷ []) ++ node_texts (option_texts (texts ident_tree)) a.key ≡ printed (annotation_tree a)
unfolding printed
key_texts a h = (λ i. codes "@" ∷ (word_at a.key.node ∙ sym (append-nil (option_texts ident_texts a.key.node))) i) ∙ (λ i. codes "@" ∷ (option_texts ident_texts a.key.node ++ value_texts (option_map (λ (v : Node (Option Str)). v.node) (sym h i))))

pub key_value_texts : (a : Annotation) (v : Node (Option Str)) → a.value ≡ Some v → (codes "@" ∷ []) ++ (node_texts (option_texts (texts ident_tree)) a.key ++ ((codes "(" ∷ []) ++ (node_texts (option_texts (texts str_tree)) v ++ (codes ")" ∷ [])))) ≡ printed (annotation_tree a)
unfolding printed
key_value_texts a v h = (λ i. codes "@" ∷ (word_at a.key.node i ++ (codes "(" ∷ (str_at v.node i ++ (codes ")" ∷ []))))) ∙ (λ i. codes "@" ∷ (option_texts ident_texts a.key.node ++ value_texts (option_map (λ (v : Node (Option Str)). v.node) (sym h i))))
