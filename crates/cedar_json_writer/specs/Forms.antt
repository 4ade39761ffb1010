-- Which JSON a value is. The table is that of Cedar's documentation, "JSON policy format": an
-- expression is an object of one member, whose key is the operator and whose value its operands.
-- That `has` of several attributes is spread, and that operands of any number are joined from the
-- left, is how the original's values have both.
use Rattle.std.specs.Prelude.{ℕ, List, [], ◌∷◌, ◌++◌, codes}
use Rattle.std.specs.Fmt.{signed_decimal}
use Rattle.std.specs.Char.{encode_utf8}
use Rattle.json.specs.Json.{Json, boolean, number, string, array, object, Items, no_items, item, Members, no_members, member}
use Rattle.cedar_expressions.specs.declared.atoms.Literal.{Literal}
use Rattle.cedar_expressions.specs.declared.atoms.Literal.TheVariants as literals
use Rattle.cedar_expressions.specs.declared.atoms.PatternElem.{PatternElem}
use Rattle.cedar_expressions.specs.declared.atoms.PatternElem.TheVariants.{Char, Wildcard}
use Rattle.cedar_expressions.specs.declared.entity.EntityUID.{EntityUID}
use Rattle.cedar_expressions.specs.declared.operators.AddOp.{AddOp}
use Rattle.cedar_expressions.specs.declared.operators.AddOp.TheVariants as op
use Rattle.cedar_expressions.specs.declared.expr.BinaryOp.{BinaryOp}
use Rattle.cedar_expressions.specs.declared.expr.BinaryOp.TheVariants as between
use Rattle.cedar_expressions.specs.declared.expr.NaryOp.{NaryOp}
use Rattle.cedar_expressions.specs.declared.expr.NaryOp.TheVariants as nary
use Rattle.cedar_expressions.specs.Path.{name_text}
use Rattle.cedar_expressions.specs.Value as v
use Rattle.cedar_expressions.specs.Value.{Value, Values, Terms, Fields}
use Rattle.cedar_expressions.specs.Written.{var_text, slot_text}

-- ---- the objects of operators

-- an object of one member
abbrev pub wrapped : List ℕ → Json → Json
wrapped key j = object (member key j no_members)

abbrev pub arg : List ℕ → Json → Json
arg key a = wrapped key (object (member (codes "arg") a no_members))

-- an operand, and something beside it
abbrev pub beside : List ℕ → Json → List ℕ → Json → Json
beside key a other j =
    wrapped key (object (member (codes "left") a (member other j no_members)))

abbrev pub two : List ℕ → Json → Json → Json
two key a b = beside key a (codes "right") b

-- ---- leaves

abbrev pub entity_json : EntityUID → Json
entity_json uid = object (member (codes "type") (string (name_text uid.entity_type.name))
    (member (codes "id") (string uid.eid.text) no_members))

abbrev pub literal_json : Literal → Json
literal_json (literals.Bool b) = boolean b
literal_json (literals.Long n) = number (signed_decimal n)
literal_json (literals.String text) = string text
literal_json (literals.EntityUID uid) = wrapped (codes "__entity") (entity_json uid)

-- characters that stand together, if there are any
abbrev pub run_items : List ℕ → Items → Items
run_items [] rest = rest
run_items (c ∷ cs) rest = item (wrapped (codes "Literal") (string (c ∷ cs))) rest

-- the parts of a pattern behind the characters that stand before them
abbrev pub pattern_items : List ℕ → List PatternElem → Items
pattern_items run [] = run_items run no_items
pattern_items run (Char c ∷ ps) = pattern_items (run ++ encode_utf8 c) ps
pattern_items run (Wildcard ∷ ps) =
    run_items run (item (string (codes "Wildcard")) (pattern_items [] ps))

abbrev pub sum_key : AddOp → List ℕ
sum_key op.Plus = codes "+"
sum_key op.Minus = codes "-"

abbrev pub between_key : BinaryOp → List ℕ
between_key between.And = codes "&&"
between_key between.Less = codes "<"
between_key between.LessEq = codes "<="
between_key between.Greater = codes ">"
between_key between.GreaterEq = codes ">="
between_key between.Eq = codes "=="
between_key between.NotEq = codes "!="
between_key between.In = codes "in"
between_key between.Contains = codes "contains"
between_key between.ContainsAll = codes "containsAll"
between_key between.ContainsAny = codes "containsAny"
between_key between.GetTag = codes "getTag"
between_key between.HasTag = codes "hasTag"

abbrev pub chain_key : NaryOp → List ℕ
chain_key nary.Or = codes "||"
chain_key nary.And = codes "&&"
chain_key nary.Mul = codes "*"

-- ---- attributes

abbrev pub get_json : Json → List ℕ → Json
get_json a attr = beside (codes ".") a (codes "attr") (string attr)

abbrev pub has_json : Json → List ℕ → Json
has_json a attr = beside (codes "has") a (codes "attr") (string attr)

-- `a has b.c` is `a has b && a.b has c`: what was asked so far, the value whose attributes come
-- next, and these
abbrev pub sought_json : Json → Json → List (List ℕ) → Json
sought_json asked a [] = asked
sought_json asked a (attr ∷ attrs) =
    sought_json (two (codes "&&") asked (has_json a attr)) (get_json a attr) attrs

-- ---- values

unfoldable mutual
  pub value_json : Value → Json
  value_json (v.val literal) = wrapped (codes "Value") (literal_json literal)
  value_json (v.var x) = wrapped (codes "Var") (string (var_text x))
  value_json (v.slot x) = wrapped (codes "Slot") (string (slot_text x.id))
  value_json (v.ite a b c) =
      wrapped (codes "if-then-else") (object (member (codes "if") (value_json a)
      (member (codes "then") (value_json b) (member (codes "else") (value_json c) no_members))))
  value_json (v.not a) = arg (codes "!") (value_json a)
  value_json (v.neg a) = arg (codes "neg") (value_json a)
  value_json (v.and a b) = two (codes "&&") (value_json a) (value_json b)
  value_json (v.or_nary a bs) = chain (codes "||") (value_json a) bs
  value_json (v.and_naryl a bs) = chain (codes "&&") (value_json a) bs
  value_json (v.add_nary a ts) = sum (value_json a) ts
  value_json (v.mul_nary a bs) = chain (codes "*") (value_json a) bs
  value_json (v.less a b) = two (codes "<") (value_json a) (value_json b)
  value_json (v.lesseq a b) = two (codes "<=") (value_json a) (value_json b)
  value_json (v.greater a b) = two (codes ">") (value_json a) (value_json b)
  value_json (v.greatereq a b) = two (codes ">=") (value_json a) (value_json b)
  value_json (v.is_eq a b) = two (codes "==") (value_json a) (value_json b)
  value_json (v.noteq a b) = two (codes "!=") (value_json a) (value_json b)
  value_json (v.is_in a b) = two (codes "in") (value_json a) (value_json b)
  value_json (v.like a pattern) =
      beside (codes "like") (value_json a) (codes "pattern") (array (pattern_items [] pattern))
  value_json (v.is_entity_type a t) =
      beside (codes "is") (value_json a) (codes "entity_type") (string (name_text t.name))
  value_json (v.is_in_entity_type a t b) =
      wrapped (codes "is") (object (member (codes "left") (value_json a)
      (member (codes "entity_type") (string (name_text t.name))
      (member (codes "in") (value_json b) no_members))))
  value_json (v.extended_has_attr a first rest) =
      sought_json (has_json (value_json a) first) (get_json (value_json a) first) rest
  value_json (v.get_attr a attr) = get_json (value_json a) attr
  value_json (v.contains a b) = two (codes "contains") (value_json a) (value_json b)
  value_json (v.contains_all a b) = two (codes "containsAll") (value_json a) (value_json b)
  value_json (v.contains_any a b) = two (codes "containsAny") (value_json a) (value_json b)
  value_json (v.is_empty a) = arg (codes "isEmpty") (value_json a)
  value_json (v.get_tag a b) = two (codes "getTag") (value_json a) (value_json b)
  value_json (v.has_tag a b) = two (codes "hasTag") (value_json a) (value_json b)
  value_json (v.call_extension_fn name args) = wrapped (name_text name) (array (items_json args))
  value_json (v.set items) = wrapped (codes "Set") (array (items_json items))
  value_json (v.«record» pairs) = wrapped (codes "Record") (object (members_json pairs))

  -- operands joined to what stands before them
  pub chain : List ℕ → Json → Values → Json
  chain key a v.none = a
  chain key a (v.more b bs) = chain key (two key a (value_json b)) bs

  pub sum : Json → Terms → Json
  sum a v.no_terms = a
  sum a (v.term o b ts) = sum (two (sum_key o) a (value_json b)) ts

  pub items_json : Values → Items
  items_json v.none = no_items
  items_json (v.more a bs) = item (value_json a) (items_json bs)

  pub members_json : Fields → Members
  members_json v.no_fields = no_members
  members_json (v.field key a fs) = member key (value_json a) (members_json fs)
