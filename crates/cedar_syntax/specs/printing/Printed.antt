-- The printed text of a tree: its tokens' texts in the order of the grammar, with one space
-- between two.
use Rattle.std.specs.Prelude.{ℕ, ◌+◌, List, [], ◌∷◌, ◌++◌, Option, Some, None, codes, decimal, replicate}
use Rattle.cedar_expressions.specs.declared.operators.AddOp.{AddOp}
use Rattle.cedar_expressions.specs.declared.operators.AddOp.TheVariants as add_op
use Rattle.cedar_syntax.specs.declared.cst.Ident.{Ident}
use Rattle.cedar_syntax.specs.declared.cst.Ident.TheVariants as ident
use Rattle.cedar_syntax.specs.declared.cst.Str.{Str}
use Rattle.cedar_syntax.specs.declared.cst.Str.TheVariants as str
use Rattle.cedar_syntax.specs.declared.cst.Slot.{Slot}
use Rattle.cedar_syntax.specs.declared.cst.Slot.TheVariants as slots
use Rattle.cedar_syntax.specs.declared.cst.RelOp.{RelOp}
use Rattle.cedar_syntax.specs.declared.cst.RelOp.TheVariants as rel_op
use Rattle.cedar_syntax.specs.declared.cst.MultOp.{MultOp}
use Rattle.cedar_syntax.specs.declared.cst.MultOp.TheVariants as mult_op
use Rattle.cedar_syntax.specs.declared.cst.NegOp.{NegOp}
use Rattle.cedar_syntax.specs.declared.cst.NegOp.TheVariants as neg_op
use Rattle.cedar_syntax.specs.tokens.Signs.{sign_limit}
pub use Rattle.cedar_lexer.specs.Words.{spaced_tokens, tokens_text}
use Rattle.cedar_syntax.specs.trees.Tree.{Tree, Rest, Operator, missing, ite, chain, has, like, is, is_in, unary, member, field, call, index, number, truth, falsity, string, name, slot, entity, reference, ref_init, parens, set, record_of, init, word, annotation, variable_def, condition, empty_condition, policy, policies, none, more, or_or, and_and, compare, add, multiply, beside}

-- the texts of tokens, in order
abbrev pub Texts : Type 0
Texts = List (List ℕ)

-- ---- tokens that are no trees

abbrev pub rel_op_texts : RelOp → Texts
rel_op_texts rel_op.Less = codes "<" ∷ []
rel_op_texts rel_op.LessEq = codes "<=" ∷ []
rel_op_texts rel_op.GreaterEq = codes ">=" ∷ []
rel_op_texts rel_op.Greater = codes ">" ∷ []
rel_op_texts rel_op.NotEq = codes "!=" ∷ []
rel_op_texts rel_op.Eq = codes "==" ∷ []
rel_op_texts rel_op.In = codes "in" ∷ []
rel_op_texts rel_op.InvalidSingleEq = codes "=" ∷ []

abbrev pub add_op_texts : AddOp → Texts
add_op_texts add_op.Plus = codes "+" ∷ []
add_op_texts add_op.Minus = codes "-" ∷ []

abbrev pub mult_op_texts : MultOp → Texts
mult_op_texts mult_op.Times = codes "*" ∷ []
mult_op_texts mult_op.Divide = codes "/" ∷ []
mult_op_texts mult_op.Mod = codes "%" ∷ []

-- more signs than are counted are one more than the limit
abbrev pub neg_op_texts : NegOp → Texts
neg_op_texts (neg_op.Bang n) = replicate n (codes "!")
neg_op_texts neg_op.OverBang = replicate (sign_limit + 1) (codes "!")
neg_op_texts (neg_op.Dash n) = replicate n (codes "-")
neg_op_texts neg_op.OverDash = replicate (sign_limit + 1) (codes "-")

-- words are themselves
abbrev pub ident_texts : Ident → Texts
ident_texts ident.Principal = codes "principal" ∷ []
ident_texts ident.Action = codes "action" ∷ []
ident_texts ident.Resource = codes "resource" ∷ []
ident_texts ident.Context = codes "context" ∷ []
ident_texts ident.True = codes "true" ∷ []
ident_texts ident.False = codes "false" ∷ []
ident_texts ident.Permit = codes "permit" ∷ []
ident_texts ident.Forbid = codes "forbid" ∷ []
ident_texts ident.When = codes "when" ∷ []
ident_texts ident.Unless = codes "unless" ∷ []
ident_texts ident.In = codes "in" ∷ []
ident_texts ident.Has = codes "has" ∷ []
ident_texts ident.Like = codes "like" ∷ []
ident_texts ident.Is = codes "is" ∷ []
ident_texts ident.If = codes "if" ∷ []
ident_texts ident.Then = codes "then" ∷ []
ident_texts ident.Else = codes "else" ∷ []
ident_texts (ident.Ident t) = t ∷ []
ident_texts (ident.Invalid t) = t ∷ []

-- a raw text in double quotes
abbrev pub quoted_text : List ℕ → List ℕ
quoted_text t = 34 ∷ (t ++ 34 ∷ [])

abbrev pub str_texts : Str → Texts
str_texts (str.String t) = quoted_text t ∷ []
str_texts (str.Invalid t) = quoted_text t ∷ []

abbrev pub slot_texts : Slot → Texts
slot_texts slots.Principal = codes "?principal" ∷ []
slot_texts slots.Resource = codes "?resource" ∷ []
slot_texts (slots.Other t) = t ∷ []

-- an empty node prints no token
abbrev pub option_texts : {T : Type 0} → (T → Texts) → Option T → Texts
option_texts f None = []
option_texts f (Some x) = f x

abbrev pub operator_texts : Operator → Texts
operator_texts or_or = codes "||" ∷ []
operator_texts and_and = codes "&&" ∷ []
operator_texts (compare op) = rel_op_texts op
operator_texts (add op) = add_op_texts op
operator_texts (multiply op) = mult_op_texts op
operator_texts beside = []

-- identifiers, each before `::`
abbrev pub path_texts : List (Option Ident) → Texts
path_texts [] = []
path_texts (i ∷ rest) = (option_texts ident_texts i ++ (codes "::" ∷ [])) ++ path_texts rest

-- the value of an annotation
abbrev pub value_texts : Option (Option Str) → Texts
value_texts None = []
value_texts (Some s) = codes "(" ∷ (option_texts str_texts s ++ (codes ")" ∷ []))

-- ---- trees

unfoldable mutual
  -- the tokens of a tree
  pub printed : Tree → Texts
  printed missing = []
  printed (ite a b c) =
      codes "if" ∷ (printed a ++ (codes "then" ∷ (printed b ++ (codes "else" ∷ printed c))))
  printed (chain level first rest) = printed first ++ in_order rest
  printed (has a b) = printed a ++ (codes "has" ∷ printed b)
  printed (like a b) = printed a ++ (codes "like" ∷ printed b)
  printed (is a b) = printed a ++ (codes "is" ∷ printed b)
  printed (is_in a b c) = printed a ++ (codes "is" ∷ (printed b ++ (codes "in" ∷ printed c)))
  printed (unary op t) = option_texts neg_op_texts op ++ printed t
  printed (member t accesses) = printed t ++ in_order accesses
  printed (field i) = codes "." ∷ option_texts ident_texts i
  printed (call arguments) = codes "(" ∷ (item_texts arguments ++ (codes ")" ∷ []))
  printed (index t) = codes "[" ∷ (printed t ++ (codes "]" ∷ []))
  printed (number n) = decimal n ∷ []
  printed truth = codes "true" ∷ []
  printed falsity = codes "false" ∷ []
  printed (string s) = option_texts str_texts s
  printed (name path last) = path_texts path ++ option_texts ident_texts last
  printed (slot s) = slot_texts s
  printed (entity path id) = printed path ++ (codes "::" ∷ option_texts str_texts id)
  printed (reference path fields) =
      printed path ++ (codes "::" ∷ (codes "{" ∷ (item_texts fields ++ (codes "}" ∷ []))))
  printed (ref_init i t) = option_texts ident_texts i ++ (codes ":" ∷ printed t)
  printed (parens t) = codes "(" ∷ (printed t ++ (codes ")" ∷ []))
  printed (set elements) = codes "[" ∷ (item_texts elements ++ (codes "]" ∷ []))
  printed (record_of fields) = codes "{" ∷ (item_texts fields ++ (codes "}" ∷ []))
  printed (init a b) = printed a ++ (codes ":" ∷ printed b)
  printed (word i) = ident_texts i
  printed (annotation key value) = codes "@" ∷ (option_texts ident_texts key ++ value_texts value)
  printed (variable_def i n t c) = option_texts ident_texts i
      ++ (each_behind (codes ":") n ++ (each_behind (codes "is") t ++ in_order c))
  printed (condition i t) =
      option_texts ident_texts i ++ (codes "{" ∷ (printed t ++ (codes "}" ∷ [])))
  printed (empty_condition i) = option_texts ident_texts i ++ (codes "{" ∷ (codes "}" ∷ []))
  printed (policy annotations effect variables conditions) =
      in_order annotations ++ (option_texts ident_texts effect
      ++ (codes "(" ∷ (item_texts variables
      ++ (codes ")" ∷ (in_order conditions ++ (codes ";" ∷ []))))))
  printed (policies ps) = in_order ps

  -- further parts, each behind its operator
  pub in_order : Rest → Texts
  in_order none = []
  in_order (more op t ts) = operator_texts op ++ (printed t ++ in_order ts)

  -- items with a comma between two and none last
  pub item_texts : Rest → Texts
  item_texts none = []
  item_texts (more op t ts) = printed t ++ each_behind (codes ",") ts

  -- items, each behind a mark
  pub each_behind : List ℕ → Rest → Texts
  each_behind mark none = []
  each_behind mark (more op t ts) = mark ∷ (printed t ++ each_behind mark ts)
