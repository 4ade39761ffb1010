-- The conversion of an expression's tree: what each node gives, a value or the faults in their
-- order. A line for each form, of what its parts give. The rules and the kinds of faults are those
-- of Cedar's `cst_to_ast`; that the values are what the tokens mean (`Strict`) is a law.
use Rattle.std.specs.Prelude.{◌≡◌, ℕ, zero, suc, nat_le, List, [], ◌∷◌, ◌++◌, map, Option, Some, None, Ok, if◌then◌else◌, pos, neg_ℤ}
use Rattle.std.specs.List.{list_any}
use Rattle.std.specs.Map.{keys_of}
use Rattle.std.specs.Str.{bytes_eq}
use Rattle.cedar_syntax.specs.declared.loc.Loc.{Loc}
use Rattle.cedar_syntax.specs.declared.cst.NegOp.{NegOp}
use Rattle.cedar_syntax.specs.declared.cst.NegOp.TheVariants as sign
use Rattle.cedar_syntax.specs.declared.cst.RelOp.{RelOp}
use Rattle.cedar_syntax.specs.declared.cst.RelOp.TheVariants as rel
use Rattle.cedar_syntax.specs.declared.cst.MultOp.TheVariants as mul
use Rattle.cedar_expressions.specs.declared.operators.AddOp.{AddOp}
use Rattle.cedar_expressions.specs.declared.operators.AddOp.TheVariants as adding
use Rattle.cedar_expressions.specs.declared.operators.UnaryOp.TheVariants as signs
use Rattle.cedar_expressions.specs.declared.entity.EntityType.{EntityType}
use Rattle.cedar_expressions.specs.declared.atoms.Literal.TheVariants as literals
use Rattle.cedar_expressions.specs.declared.atoms.PatternElem.{PatternElem}
use Rattle.cedar_expressions.specs.Keys.{repeats_key}
use Rattle.cedar_expressions.specs.Value as v
use Rattle.cedar_expressions.specs.Value.{Value, values, terms, fields}
use Rattle.cedar_syntax.specs.trees.Tree as t
use Rattle.cedar_syntax.specs.trees.Tree.{Level, Operator, disjunction, conjunction, relation, sum, product}
use Rattle.cedar_syntax.specs.trees.Located as f
use Rattle.cedar_syntax.specs.trees.Located.{Located, Form, Parts}
use Rattle.cedar_conversion.specs.strict.Extensions.{Extensions}
use Rattle.cedar_conversion.specs.parts.HasSide.{Attributes, right_side}
use Rattle.cedar_conversion.specs.outcome.Held.{Held, expression, as_expression, as_pattern, as_entity_type, as_string, as_attribute}
use Rattle.cedar_conversion.specs.parts.Leaves.{name_leaf, slot_leaf, entity_leaf}
pub use Rattle.cedar_conversion.specs.parts.Literals.{number_in, literal_alone, lone_literal, number_outcome, raw_string_outcome, held_string, literal_outcome}
use Rattle.cedar_conversion.specs.parts.Members.{Access, field, call, index, member_outcome}
use Rattle.cedar_conversion.specs.parts.Names.{unreserved_ident}
use Rattle.cedar_conversion.specs.outcome.Detail as detail
use Rattle.cedar_conversion.specs.outcome.Outcome.{Outcome, fault_outcome, detailed_outcome, both, next, empty_node, ambiguous_operators, invalid_single_eq, unary_op_limit, integer_literal_too_large, unsupported_division, unsupported_modulo, expression_construction_error}
use Rattle.cedar_conversion.specs.strict.Strict.{iteration, largest}

-- an expression at a place
abbrev pub expression_at : Option Loc → Value → Outcome Held
expression_at place x = Ok (expression place x)

-- ---- a first part and those behind operators

-- a value behind its operator
abbrev pub Part : Type 0
Part = Operator × Value

abbrev pub bodies : List Part → List Value
bodies ps = map (λ p. p.1) ps

-- the sum's operators are plus and minus
abbrev pub add_op : Operator → AddOp
add_op (t.add op) = op
add_op _ = adding.Plus

abbrev pub sum_terms : List Part → List (AddOp × Value)
sum_terms ps = map (λ p. (add_op p.0, p.1)) ps

-- a single `=` is refused, but only where both its sides are given without a fault
abbrev pub comparison_outcome : Option Loc → RelOp → Value → Value → Outcome Held
comparison_outcome place rel.Less a b = expression_at place (v.less a b)
comparison_outcome place rel.LessEq a b = expression_at place (v.lesseq a b)
comparison_outcome place rel.GreaterEq a b = expression_at place (v.greatereq a b)
comparison_outcome place rel.Greater a b = expression_at place (v.greater a b)
comparison_outcome place rel.NotEq a b = expression_at place (v.noteq a b)
comparison_outcome place rel.Eq a b = expression_at place (v.is_eq a b)
comparison_outcome place rel.In a b = expression_at place (v.is_in a b)
comparison_outcome place rel.InvalidSingleEq a b = fault_outcome invalid_single_eq place

-- no other operator stands in a relation
abbrev pub relation_outcome : Option Loc → Operator → Value → Value → Outcome Held
relation_outcome place (t.compare op) a b = comparison_outcome place op a b
relation_outcome place _ a b = fault_outcome invalid_single_eq place

-- a value and the one behind its operator
abbrev pub beside_last : Option Loc → List Part → Value → Outcome Held
beside_last place [] a = expression_at place a
beside_last place (p ∷ ps) a = relation_outcome place p.0 a p.1

abbrev pub level_outcome : Level → Option Loc → List Part → Value → Outcome Held
level_outcome disjunction place ps a = expression_at place (v.or_nary a (values (bodies ps)))
level_outcome conjunction place ps a = expression_at place (v.and_naryl a (values (bodies ps)))
level_outcome relation place ps a = beside_last place ps a
level_outcome sum place ps a = expression_at place (v.add_nary a (terms (sum_terms ps)))
level_outcome product place ps a = expression_at place (v.mul_nary a (values (bodies ps)))

-- one part alone is itself; more than one are joined, the first as an expression
abbrev pub joint_outcome : Level → Option Loc → Held → List Part → Outcome Held
joint_outcome level place s [] = Ok s
joint_outcome level place s (p ∷ ps) = next (as_expression s) (level_outcome level place (p ∷ ps))

-- a relation has one operator at most: more are refused beside the operands' faults
abbrev pub operator_limit : Level → Option Loc → Parts → Outcome (Unit {0})
operator_limit relation place (f.more op n (f.more op2 n2 others)) =
    fault_outcome ambiguous_operators place
operator_limit _ place others = Ok tt

-- the operands, once the limit is kept
abbrev pub operands_outcome : Level → Option Loc → (Held × List Part) × Unit {0} → Outcome Held
operands_outcome level place ((first, rest), kept) = joint_outcome level place first rest

abbrev pub chain_outcome : Level → Option Loc → Parts → Outcome Held → Outcome (List Part)
    → Outcome Held
chain_outcome level place others first rest =
    next (both (both first rest) (operator_limit level place others))
    (operands_outcome level place)

-- a division or a remainder is refused in its operand's turn, once that is given, at the product's
-- place
abbrev pub factor : Option Loc → Operator → Value → Outcome Value
factor place (t.multiply mul.Divide) x = fault_outcome unsupported_division place
factor place (t.multiply mul.Mod) x = fault_outcome unsupported_modulo place
factor place _ x = Ok x

abbrev pub with_part : Operator → Value × List Part → Outcome (List Part)
with_part op p = Ok ((op, p.0) ∷ p.1)

-- ---- signs

-- the last `-` and a number are one literal, n more `-` stand before it
abbrev pub negative : Option Loc → ℕ → ℕ → Outcome Held
negative place n k =
    if nat_le k largest then expression_at place
    (iteration n v.neg (v.val (literals.Long (neg_ℤ (pos k)))))
    else detailed_outcome integer_literal_too_large place (detail.number k)

abbrev pub application_outcome : Option Loc → ℕ → (Value → Value) → Outcome Held → Outcome Held
application_outcome place zero g x = x
application_outcome place (suc n) g x =
    next (next x as_expression) (λ a. expression_at place (iteration (suc n) g a))

abbrev pub dashes_outcome : Option Loc → ℕ → Option ℕ → Outcome Held → Outcome Held
dashes_outcome place zero bare x = x
dashes_outcome place (suc n) (Some k) x = negative place n k
dashes_outcome place (suc n) None x = application_outcome place (suc n) v.neg x

-- signs above the limit are the only fault, even where the operand has faults too; a number alone
-- is one literal with its sign behind `-`, never behind `!`
abbrev pub signs_outcome : Option Loc → Option NegOp → Option ℕ → Outcome Held → Outcome Held
signs_outcome place None bare x = x
signs_outcome place (Some (sign.Bang n)) bare x = application_outcome place n v.not x
signs_outcome place (Some sign.OverBang) bare x =
    detailed_outcome unary_op_limit place (detail.sign signs.Not)
signs_outcome place (Some (sign.Dash n)) bare x = dashes_outcome place n bare x
signs_outcome place (Some sign.OverDash) bare x =
    detailed_outcome unary_op_limit place (detail.sign signs.Neg)

-- ---- trees

abbrev pub conditional_outcome : Option Loc → (Value × Value) × Value → Outcome Held
conditional_outcome place ((guard, if_so), if_not) =
    expression_at place (v.ite guard if_so if_not)

-- `has`, `like`, `is` and `is .. in`, of what their sides give
abbrev pub with_attributes : Option Loc → Attributes → Value → Outcome Held
with_attributes place r x = expression_at place (v.extended_has_attr x r.0 r.1)

abbrev pub match_outcome : Option Loc → Value × List PatternElem → Outcome Held
match_outcome place p = expression_at place (v.like p.0 p.1)

-- a value and the type right of its `is`
abbrev pub ValueAndType : Type 0
ValueAndType = Value × EntityType

-- both joined, once the right side is converted
abbrev pub beside_type : Outcome Value → Held → Outcome ValueAndType
beside_type x h = both x (as_entity_type h)

abbrev pub type_test_outcome : Option Loc → ValueAndType → Outcome Held
type_test_outcome place p = expression_at place (v.is_entity_type p.0 p.1)

abbrev pub type_within_outcome : Option Loc → ValueAndType → Value → Outcome Held
type_within_outcome place p x = expression_at place (v.is_in_entity_type p.0 p.1 x)

abbrev pub set_value_outcome : Option Loc → List Part → Outcome Held
set_value_outcome place ps = expression_at place (v.set (values (bodies ps)))

-- the first key that is one of those before it
abbrev pub key_again : List (List ℕ) → List (List ℕ) → Option (List ℕ)
key_again before [] = None
key_again before (key ∷ keys) =
    if list_any (bytes_eq key) before then Some key else key_again (before ++ key ∷ []) keys

-- a record has no key twice
abbrev pub repeated_key_outcome : Option Loc → List (List ℕ) → Outcome Held
repeated_key_outcome place keys =
    detailed_outcome expression_construction_error place (detail.spelling_there (key_again [] keys))

abbrev pub record_outcome : Option Loc → List (List ℕ × Value) → Outcome Held
record_outcome place fs =
    if repeats_key (keys_of fs) then repeated_key_outcome place (keys_of fs)
    else expression_at place (v.«record» (fields fs))

abbrev pub with_first : {X : Type 0} → X × List X → Outcome (List X)
with_first p = Ok (p.0 ∷ p.1)

-- the place of a node
abbrev pub tree_place : Located → Option Loc
tree_place (f.missing place) = place
tree_place (f.at place form) = place

unfoldable mutual
  pub outcome : Extensions → Located → Outcome Held
  outcome e (f.missing place) = fault_outcome empty_node place
  outcome e (f.at place form) = form_outcome e place form

  -- a form at a place
  pub form_outcome : Extensions → Option Loc → Form → Outcome Held
  form_outcome e place (f.only n) = outcome e n
  form_outcome e place (f.ite a b c) =
      next (both (both (next (outcome e a) as_expression) (next (outcome e b) as_expression))
      (next (outcome e c) as_expression)) (conditional_outcome place)
  form_outcome e place (f.chain level first others) =
      chain_outcome level place others (outcome e first) (operands e place others)
  -- a fault of the right side of `has` is told alone, without the faults of the left side
  form_outcome e place (f.has target right) =
      next (right_side (tree_place right) right)
      (λ r. next (next (outcome e target) as_expression) (with_attributes place r))
  -- a fault inside the pattern or the type is told alone too; that it is no pattern or no type is
  -- told behind the faults of the left side
  form_outcome e place (f.like target pattern) =
      next (outcome e pattern)
      (λ h. next (both (next (outcome e target) as_expression) (as_pattern h))
      (match_outcome place))
  form_outcome e place (f.is target entity_type) =
      next (next (outcome e entity_type) (beside_type (next (outcome e target) as_expression)))
      (type_test_outcome place)
  form_outcome e place (f.is_in target entity_type within) =
      next (next (outcome e entity_type) (beside_type (next (outcome e target) as_expression)))
      (λ p. next (next (outcome e within) as_expression) (type_within_outcome place p))
  form_outcome e place (f.unary op item) =
      signs_outcome place op (number_in (lone_literal item)) (outcome e item)
  form_outcome e place (f.member item accesses) =
      next (both (outcome e item) (accesses_outcome e accesses))
      (λ p. member_outcome e place p.0 p.1)
  form_outcome e place (f.literal n) = literal_outcome n.loc n.node
  form_outcome e place (f.name n) = name_leaf place n
  form_outcome e place (f.slot n) = slot_leaf n
  form_outcome e place (f.reference n) = entity_leaf n
  -- what stands in parentheses is an expression and nothing else, at its own place
  form_outcome e place (f.parens n) =
      next (next (outcome e n) as_expression) (expression_at (tree_place n))
  form_outcome e place (f.set items) = next (operands e place items) (set_value_outcome place)
  form_outcome e place (f.record_of inits) = next (pairs_outcome e inits) (record_outcome place)
  -- an access and a record's pair are no expressions
  form_outcome e place (f.field n) = fault_outcome empty_node place
  form_outcome e place (f.call items) = fault_outcome empty_node place
  form_outcome e place (f.index n) = fault_outcome empty_node place
  form_outcome e place (f.init key value) = fault_outcome empty_node place

  -- the values behind operators, or of a list
  pub operands : Extensions → Option Loc → Parts → Outcome (List Part)
  operands e place f.none = Ok []
  operands e place (f.more op n others) =
      next (both (next (next (outcome e n) as_expression) (factor place op))
      (operands e place others)) (with_part op)

  -- the accesses of a member, joined
  pub accesses_outcome : Extensions → Parts → Outcome (List Access)
  accesses_outcome e f.none = Ok []
  accesses_outcome e (f.more op n others) =
      next (both (access_outcome e n) (accesses_outcome e others)) with_first

  pub access_outcome : Extensions → Located → Outcome Access
  access_outcome e (f.missing place) = fault_outcome empty_node place
  access_outcome e (f.at place form) = access_form_outcome e place form

  pub access_form_outcome : Extensions → Option Loc → Form → Outcome Access
  access_form_outcome e place (f.field n) = next (unreserved_ident n) (λ id. Ok (field id))
  access_form_outcome e place (f.call items) =
      next (operands e place items) (λ ps. Ok (call (bodies ps)))
  access_form_outcome e place (f.index n) =
      next (next (outcome e n) as_string) (λ text. Ok (index text))
  access_form_outcome e place _ = fault_outcome empty_node place

  -- the pairs of a record, joined
  pub pairs_outcome : Extensions → Parts → Outcome (List (List ℕ × Value))
  pairs_outcome e f.none = Ok []
  pairs_outcome e (f.more op n others) =
      next (both (pair_outcome e n) (pairs_outcome e others)) with_first

  pub pair_outcome : Extensions → Located → Outcome (List ℕ × Value)
  pair_outcome e (f.missing place) = fault_outcome empty_node place
  pair_outcome e (f.at place form) = pair_form_outcome e place form

  -- a fault inside the key is told alone; that it is no key is told before the faults of the value
  pub pair_form_outcome : Extensions → Option Loc → Form → Outcome (List ℕ × Value)
  pair_form_outcome e place (f.init key value) =
      next (outcome e key) (λ h. both (as_attribute h) (next (outcome e value) as_expression))
  pair_form_outcome e place _ = fault_outcome empty_node place

-- where an expression is wanted
abbrev pub value_outcome : Extensions → Located → Outcome Value
value_outcome e n = next (outcome e n) as_expression

-- A tree is converted to a value.
abbrev pub Converts : Extensions → Located → Value → Type 0
Converts e n x = value_outcome e n ≡ Ok x
