-- The slots of an expression, from the left, each with the place of its node: those of what it
-- means.
use Rattle.std.specs.Prelude.{List, [], ◌∷◌, ◌++◌, Option}
use Rattle.std.specs.List.{flat_map}
use Rattle.cedar_expressions.specs.declared.operators.AddOp.{AddOp}
use Rattle.cedar_expressions.specs.declared.place.Place.{Place}
use Rattle.cedar_expressions.specs.declared.place.Slot.{Slot}
use Rattle.cedar_expressions.specs.declared.text.Text.{Text}
use Rattle.cedar_expressions.specs.declared.expr.Expr.{Expr}
use Rattle.cedar_expressions.specs.declared.expr.ExprKind.{ExprKind}
use Rattle.cedar_expressions.specs.Meaning.{expr_meaning, kind_meaning}
use Rattle.cedar_expressions.specs.Value as v
use Rattle.cedar_expressions.specs.Value.{Value, Values, Terms, Fields}

abbrev pub Slots : Type 0
Slots = List Slot

unfoldable mutual
  pub slots_of : Value → Slots
  slots_of (v.val literal) = []
  slots_of (v.var x) = []
  slots_of (v.slot s) = s ∷ []
  slots_of (v.ite a b c) = (slots_of a ++ slots_of b) ++ slots_of c
  slots_of (v.not a) = slots_of a
  slots_of (v.neg a) = slots_of a
  slots_of (v.and a b) = slots_of a ++ slots_of b
  slots_of (v.or_nary a bs) = slots_of a ++ slots_of_all bs
  slots_of (v.and_naryl a bs) = slots_of a ++ slots_of_all bs
  slots_of (v.add_nary a ts) = slots_of a ++ slots_of_terms ts
  slots_of (v.mul_nary a bs) = slots_of a ++ slots_of_all bs
  slots_of (v.less a b) = slots_of a ++ slots_of b
  slots_of (v.lesseq a b) = slots_of a ++ slots_of b
  slots_of (v.greater a b) = slots_of a ++ slots_of b
  slots_of (v.greatereq a b) = slots_of a ++ slots_of b
  slots_of (v.is_eq a b) = slots_of a ++ slots_of b
  slots_of (v.noteq a b) = slots_of a ++ slots_of b
  slots_of (v.is_in a b) = slots_of a ++ slots_of b
  slots_of (v.like a pattern) = slots_of a
  slots_of (v.is_entity_type a entity_type) = slots_of a
  slots_of (v.is_in_entity_type a entity_type b) = slots_of a ++ slots_of b
  slots_of (v.extended_has_attr a first rest) = slots_of a
  slots_of (v.get_attr a attr) = slots_of a
  slots_of (v.contains a b) = slots_of a ++ slots_of b
  slots_of (v.contains_all a b) = slots_of a ++ slots_of b
  slots_of (v.contains_any a b) = slots_of a ++ slots_of b
  slots_of (v.is_empty a) = slots_of a
  slots_of (v.get_tag a b) = slots_of a ++ slots_of b
  slots_of (v.has_tag a b) = slots_of a ++ slots_of b
  slots_of (v.call_extension_fn name args) = slots_of_all args
  slots_of (v.set items) = slots_of_all items
  slots_of (v.«record» pairs) = slots_of_fields pairs

  pub slots_of_all : Values → Slots
  slots_of_all v.none = []
  slots_of_all (v.more a bs) = slots_of a ++ slots_of_all bs

  pub slots_of_terms : Terms → Slots
  slots_of_terms v.no_terms = []
  slots_of_terms (v.term op a ts) = slots_of a ++ slots_of_terms ts

  pub slots_of_fields : Fields → Slots
  slots_of_fields v.no_fields = []
  slots_of_fields (v.field key a fs) = slots_of a ++ slots_of_fields fs

unfoldable pub slots_in : Expr → Slots
slots_in e = slots_of (expr_meaning e)

-- the slots of a node of a kind at a place
unfoldable pub slots_of_kind : ExprKind → Option Place → Slots
slots_of_kind k place = slots_of (kind_meaning k place)

-- the slots of each item, one behind another
abbrev pub slots_in_row : {T : Type 0} → (T → Slots) → List T → Slots
slots_in_row = flat_map

-- the slots of an expression behind an operator, and behind a key
abbrev pub term_slots : AddOp × Expr → Slots
term_slots term = slots_in term.1

abbrev pub pair_slots : Text × Expr → Slots
pair_slots pair = slots_in pair.1
