-- What an expression that comes to one primary gives: a value that `is` doesn't make. So a right
-- side that refers to something isn't inverted.
use Rattle.std.proofs.Common.{◌≡◌, ℕ, zero, pos, Bool, true, false, nat_le, List, Option, Some, None, Ok, Err, IfOk, if◌then◌else◌, refl, ap, ◌∙◌}
use Rattle.cedar_expressions.specs.declared.atoms.Var.{Var}
use Rattle.cedar_expressions.specs.declared.entity.EntityUID.{EntityUID}
use Rattle.cedar_expressions.specs.declared.atoms.Literal.TheVariants as literals
use Rattle.cedar_expressions.specs.declared.atoms.SlotId.{SlotId}
use Rattle.cedar_expressions.specs.Keys.{repeats_key}
use Rattle.cedar_expressions.specs.Path.{Path}
use Rattle.cedar_expressions.specs.Value as v
use Rattle.cedar_expressions.specs.Value.{Value}
use Rattle.std.specs.Map.{keys_of}
use Rattle.cedar_syntax.specs.declared.cst.Expr.{Expr}
use Rattle.cedar_syntax.specs.declared.cst.Literal.{Literal}
use Rattle.cedar_syntax.specs.declared.cst.Literal.TheVariants as lit
use Rattle.cedar_syntax.specs.declared.cst.Name.{Name}
use Rattle.cedar_syntax.specs.declared.cst.NegOp.TheVariants as sign
use Rattle.cedar_syntax.specs.declared.cst.RelOp.{RelOp}
use Rattle.cedar_syntax.specs.declared.cst.RelOp.TheVariants as rel
use Rattle.cedar_syntax.specs.declared.cst.Str.{Str}
use Rattle.cedar_syntax.specs.declared.cst.Str.TheVariants as str
use Rattle.cedar_syntax.specs.declared.err.faults.Failure.{Failure}
use Rattle.cedar_syntax.specs.declared.loc.Loc.{Loc}
use Rattle.cedar_syntax.specs.declared.node.Node.{Node}
use Rattle.cedar_syntax.specs.trees.Forms.{located, expr_form}
use Rattle.cedar_syntax.specs.trees.Located as f
use Rattle.cedar_syntax.specs.trees.Located.{Located, Form}
use Rattle.cedar_conversion.specs.outcome.Conversion.{Part, accesses_outcome, expression_at, form_outcome, held_string, literal_outcome, number_outcome, operands, outcome, pairs_outcome, record_outcome, repeated_key_outcome, set_value_outcome, tree_place, value_outcome}
use Rattle.cedar_conversion.specs.parts.Entities.{entity_outcome, slot_outcome}
use Rattle.cedar_conversion.specs.strict.Extensions.{Extensions}
use Rattle.cedar_conversion.specs.outcome.Held.{Held, as_expression, bare_name, expression, text_value}
use Rattle.cedar_conversion.specs.parts.Leaves.{slot_value, variable_or_name}
use Rattle.cedar_conversion.specs.parts.Names.{name_outcome, named_variable}
use Rattle.cedar_conversion.specs.outcome.Detail as detail
use Rattle.cedar_conversion.specs.outcome.Outcome.{Outcome, detailed_outcome, integer_literal_too_large, next}
use Rattle.cedar_conversion.specs.outcome.Seen.{Refuses}
use Rattle.cedar_conversion.specs.strict.Strict.{largest}
use Rattle.cedar_conversion.specs.parts.Strings.{text_outcome}
use Rattle.cedar_conversion.proofs.Nodes.{alone_member}
use Rattle.cedar_conversion.proofs.Outcomes.{refused_next}
use Rattle.cedar_conversion.proofs.Parts.{alone}
use Rattle.cedar_policy_conversion.specs.References.{RefKind, lone, lone_form, referent_at, referent_outcome}
use Rattle.cedar_policy_conversion.specs.Scope.{is_inverted, is_made_by_is}

-- ---- primaries

-- `is` doesn't make what is given
abbrev IsOther : Outcome Held → Type 0
IsOther o = is_made_by_is (next o as_expression) ≡ false

from_text : (o : Outcome (List ℕ)) → is_made_by_is (next o text_value) ≡ false
from_text (Ok text) = refl
from_text (Err fs) = refl

from_number : (place : Option Loc) (n : ℕ) → IsOther (number_outcome place n)
from_number place n = go (nat_le largest n)
  where
    go : (b : Bool) → IsOther (if b then detailed_outcome integer_literal_too_large place (detail.number n) else Ok (expression place (v.val (literals.Long (pos n)))))
    go true = refl
    go false = refl

from_literal : (place : Option Loc) (x : Option Literal) → IsOther (literal_outcome place x)
from_literal place None = refl
from_literal place (Some lit.True) = refl
from_literal place (Some lit.False) = refl
from_literal place (Some (lit.Num n)) = from_number place n
from_literal place (Some (lit.Str s)) = go s.node
  where
    go : (x : Option Str) → IsOther (held_string place s.loc x)
    go None = refl
    go (Some (str.String raw)) = from_text (text_outcome place raw)
    go (Some (str.Invalid raw)) = refl

from_name : (place : Option Loc) (x : Option Var) (n : Node (Option Name)) → IsOther (variable_or_name place x n)
from_name place (Some x) n = refl
from_name place None n = go (name_outcome n)
  where
    go : (o : Outcome Path) → IsOther (next o (λ name. Ok (bare_name place name)))
    go (Ok name) = refl
    go (Err fs) = refl

from_slot : (place : Option Loc) (o : Outcome SlotId) → IsOther (next o (λ id. Ok (expression place (slot_value place id))))
from_slot place (Ok id) = refl
from_slot place (Err fs) = refl

from_entity : (place : Option Loc) (o : Outcome EntityUID) → IsOther (next o (λ uid. Ok (expression place (v.val (literals.EntityUID uid)))))
from_entity place (Ok uid) = refl
from_entity place (Err fs) = refl

from_set : (place : Option Loc) (o : Outcome (List Part)) → IsOther (next o (set_value_outcome place))
from_set place (Ok ps) = refl
from_set place (Err fs) = refl

from_record : (place : Option Loc) (o : Outcome (List (List ℕ × Value))) → IsOther (next o (record_outcome place))
from_record place (Err fs) = refl
from_record place (Ok fields) = go (repeats_key (keys_of fields))
  where
    go : (b : Bool) → IsOther (if b then repeated_key_outcome place (keys_of fields) else expression_at place (v.«record» (v.fields fields)))
    go true = refl
    go false = refl

through_parens : (place : Option Loc) (o : Outcome Value) → next (next o (expression_at place)) as_expression ≡ o
through_parens place (Ok x) = refl
through_parens place (Err fs) = refl

-- ---- levels

mutual
  unfolding lone lone_form outcome form_outcome operands accesses_outcome

  lone_value : (e : Extensions) (n : Located) → IfOk (lone n) (λ p. is_made_by_is (value_outcome e n) ≡ false)
  lone_value e (f.missing place) = tt
  lone_value e (f.at place form) = form_value e place form

  form_value : (e : Extensions) (place : Option Loc) (t : Form) → IfOk (lone_form place t) (λ p. is_made_by_is (next (form_outcome e place t) as_expression) ≡ false)
  form_value e place (f.only n) = lone_value e n
  form_value e place (f.chain level n f.none) = rw (alone level place (outcome e n)) (lone_value e n)
  form_value e place (f.unary None n) = lone_value e n
  form_value e place (f.unary (Some (sign.Bang zero)) n) = lone_value e n
  form_value e place (f.unary (Some (sign.Dash zero)) n) = lone_value e n
  form_value e place (f.member n f.none) = rw (alone_member e place (outcome e n)) (lone_value e n)
  form_value e place (f.parens n) = rw (through_parens (tree_place n) (next (outcome e n) as_expression)) (lone_value e n)
  form_value e place (f.literal n) = from_literal n.loc n.node
  form_value e place (f.name n) = from_name place (named_variable n.node) n
  form_value e place (f.slot n) = from_slot n.loc (slot_outcome n)
  form_value e place (f.reference n) = from_entity n.loc (entity_outcome n)
  form_value e place (f.set items) = from_set place (operands e place items)
  form_value e place (f.record_of inits) = from_record place (pairs_outcome e inits)
  form_value e place t = tt

-- a right side that refers to something isn't inverted
pub not_inverted : {T : Type 0} (e : Extensions) (k : RefKind T) (x : Var) (op : RelOp) (n : Node (Option Expr)) (r : T) → referent_outcome k x n ≡ Ok r → is_inverted e op n ≡ false
not_inverted e k x rel.Less n r h = refl
not_inverted e k x rel.LessEq n r h = refl
not_inverted e k x rel.GreaterEq n r h = refl
not_inverted e k x rel.Greater n r h = refl
not_inverted e k x rel.NotEq n r h = refl
not_inverted e k x rel.Eq n r h = refl
not_inverted e k x rel.InvalidSingleEq n r h = refl
not_inverted e k x rel.In n r h = go (lone (located expr_form n)) (lone_value e (located expr_form n)) h
  where
    go : (o : Outcome Located) → IfOk o (λ p. is_made_by_is (value_outcome e (located expr_form n)) ≡ false) → next o (referent_at k x) ≡ Ok r → is_made_by_is (value_outcome e (located expr_form n)) ≡ false
    go (Ok p) j l = j
    go (Err fs) j l = cc

-- ---- a right side, and then what comes next

abbrev unless_inverted : {X : Type 0} → Bool → Outcome X → Outcome X → Outcome X
unless_inverted b w o = if b then w else o

pub made_right : {T X : Type 0} (e : Extensions) (k : RefKind T) (x : Var) (op : RelOp) (n : Node (Option Expr)) (r : T) (w : Outcome X) (g : T → Outcome X) → referent_outcome k x n ≡ Ok r
    → unless_inverted (is_inverted e op n) w (next (referent_outcome k x n) g) ≡ g r
made_right e k x op n r w g h = ap (λ b. unless_inverted b w (next (referent_outcome k x n) g)) (not_inverted e k x op n r h) ∙ ap (λ o. next o g) h

pub inverted_right : {X : Type 0} (b : Bool) (w o : Outcome X) → b ≡ true → unless_inverted b w o ≡ w
inverted_right b w o h = ap (λ c. unless_inverted c w o) h

pub refused_right : {T X : Type 0} (b : Bool) (w : Outcome X) (o : Outcome T) (g : T → Outcome X) (f : Failure) → b ≡ false → Refuses f o → Refuses f (unless_inverted b w (next o g))
refused_right b w o g f h k = rw h (refused_next f o g k)
