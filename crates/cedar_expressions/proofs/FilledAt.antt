-- A copy with entities in the place of slots means what the expression does with them there, and
-- one without an entity is the expression.
use Rattle.std.proofs.Common.{◌≡◌, ℕ, List, [], ◌∷◌, ◌++◌, Option, Some, None, is_some, not, cond, map, refl, ap, sym, ◌∙◌, subst}
use Rattle.std.proofs.lemmas.List.Elements.{filter-append}
use Rattle.cedar_expressions.specs.declared.atoms.SlotId.{SlotId}
use Rattle.cedar_expressions.specs.declared.atoms.SlotId.TheVariants.{Principal, Resource}
use Rattle.cedar_expressions.specs.declared.atoms.Literal.TheVariants as literal
use Rattle.cedar_expressions.specs.declared.operators.AddOp.{AddOp}
use Rattle.cedar_expressions.specs.declared.operators.UnaryOp.TheVariants as operator
use Rattle.cedar_expressions.specs.declared.place.Place.{Place}
use Rattle.cedar_expressions.specs.declared.place.Slot.{Slot}
use Rattle.cedar_expressions.specs.declared.entity.EntityUID.{EntityUID}
use Rattle.cedar_expressions.specs.declared.expr.UnaryCall.{UnaryCall}
use Rattle.cedar_expressions.specs.declared.expr.UnaryCall.TheVariants as unary
use Rattle.cedar_expressions.specs.declared.expr.BinaryCall.{BinaryCall}
use Rattle.cedar_expressions.specs.declared.expr.BinaryCall.TheVariants as binary
use Rattle.cedar_expressions.specs.declared.expr.BinaryOp.TheVariants as between
use Rattle.cedar_expressions.specs.declared.expr.NaryOp.{NaryOp}
use Rattle.cedar_expressions.specs.declared.expr.NaryOp.TheVariants as nary
use Rattle.cedar_expressions.specs.declared.expr.ListCall.{ListCall}
use Rattle.cedar_expressions.specs.declared.expr.ListCall.TheVariants as list
use Rattle.cedar_expressions.specs.declared.expr.Expr.{Expr}
use Rattle.cedar_expressions.specs.declared.expr.ExprKind.{ExprKind}
use Rattle.cedar_expressions.specs.declared.expr.ExprKind.TheOpen.{ExprKind-F, Expr-F}
use Rattle.cedar_expressions.specs.declared.expr.ExprKind.TheViews.{roll-ExprKind, roll-Expr}
use Rattle.cedar_expressions.specs.declared.expr.ExprKind.TheFolds.{map-ExprKind, map-Expr, fold_out-Expr, fold-roll-ExprKind, ind-Expr}
use Rattle.cedar_expressions.specs.declared.expr.ExprKind.TheVariants as kind
use Rattle.cedar_expressions.specs.declared.slot_entities.SlotEntities.{SlotEntities}
use Rattle.cedar_expressions.specs.Copies.{kind_copy, expr_copy, slot_copy, copied, kind_copied}
use Rattle.cedar_expressions.specs.Filled.{entity_for, filled, filled_slot, all_filled, terms_filled, fields_filled, stays, slots_left}
use Rattle.cedar_expressions.specs.Meaning.{AtPlace, kind_call, expr_call, unary_call, binary_call, nary_call, list_call, expr_meaning, kind_meaning}
use Rattle.cedar_expressions.specs.Slots.{Slots, slots_of, slots_of_all, slots_of_terms, slots_of_fields, slots_in}
use Rattle.cedar_expressions.specs.Value as v
use Rattle.cedar_expressions.specs.Value.{Value, Values, Terms, Fields, values, terms, fields}

-- the form of a kind's copy
abbrev slot_form : Option EntityUID → SlotId → ExprKind-F ExprKind Expr
slot_form None id = ExprKind-F.Slot id
slot_form (Some entity) id = ExprKind-F.Val (literal.EntityUID entity)

abbrev form_copy : SlotEntities → ExprKind-F ExprKind Expr → ExprKind-F ExprKind Expr
form_copy es (ExprKind-F.Val l) = ExprKind-F.Val l
form_copy es (ExprKind-F.Var x) = ExprKind-F.Var x
form_copy es (ExprKind-F.Slot id) = slot_form (entity_for es id) id
form_copy es (ExprKind-F.Ite parts) = ExprKind-F.Ite parts
form_copy es (ExprKind-F.Unary call a) = ExprKind-F.Unary call a
form_copy es (ExprKind-F.Binary call parts) = ExprKind-F.Binary call parts
form_copy es (ExprKind-F.Nary op a rest) = ExprKind-F.Nary op a rest
form_copy es (ExprKind-F.Sum a rest) = ExprKind-F.Sum a rest
form_copy es (ExprKind-F.List call items) = ExprKind-F.List call items
form_copy es (ExprKind-F.Record pairs) = ExprKind-F.Record pairs

slot_rolls : (entity : Option EntityUID) (id : SlotId) → slot_copy entity id ≡ roll-ExprKind (slot_form entity id)
slot_rolls None id = sym (kind.rolls-Slot id)
slot_rolls (Some entity) id = sym (kind.rolls-Val (literal.EntityUID entity))

copy_rolls : (es : SlotEntities) (x : ExprKind-F ExprKind Expr) → kind_copy es x ≡ roll-ExprKind (form_copy es x)
copy_rolls es (ExprKind-F.Val l) = sym (kind.rolls-Val l)
copy_rolls es (ExprKind-F.Var x) = sym (kind.rolls-Var x)
copy_rolls es (ExprKind-F.Slot id) = slot_rolls (entity_for es id) id
copy_rolls es (ExprKind-F.Ite parts) = sym (kind.rolls-Ite parts)
copy_rolls es (ExprKind-F.Unary call a) = sym (kind.rolls-Unary call a)
copy_rolls es (ExprKind-F.Binary call parts) = sym (kind.rolls-Binary call parts)
copy_rolls es (ExprKind-F.Nary op a rest) = sym (kind.rolls-Nary op a rest)
copy_rolls es (ExprKind-F.Sum a rest) = sym (kind.rolls-Sum a rest)
copy_rolls es (ExprKind-F.List call items) = sym (kind.rolls-List call items)
copy_rolls es (ExprKind-F.Record pairs) = sym (kind.rolls-Record pairs)

-- ---- a copy without an entity

abbrev no_entities : SlotEntities
no_entities = record { principal = None; resource = None }

no_entity : (id : SlotId) → entity_for no_entities id ≡ None
no_entity Principal = refl
no_entity Resource = refl

same_form : (x : ExprKind-F ExprKind Expr) → form_copy no_entities x ≡ x
same_form (ExprKind-F.Val l) = refl
same_form (ExprKind-F.Var x) = refl
same_form (ExprKind-F.Slot id) = ap (λ entity. slot_form entity id) (no_entity id)
same_form (ExprKind-F.Ite parts) = refl
same_form (ExprKind-F.Unary call a) = refl
same_form (ExprKind-F.Binary call parts) = refl
same_form (ExprKind-F.Nary op a rest) = refl
same_form (ExprKind-F.Sum a rest) = refl
same_form (ExprKind-F.List call items) = refl
same_form (ExprKind-F.Record pairs) = refl

abbrev Same : Expr → Type 0
Same e = copied no_entities e ≡ e

abbrev SameKind : ExprKind → Type 0
SameKind k = kind_copied no_entities k ≡ k

abbrev Alike : Type 0
Alike = (e : Expr) × Same e

abbrev AlikeKind : Type 0
AlikeKind = (k : ExprKind) × SameKind k

same_row : (xs : List Alike) → map (copied no_entities) (map (λ p. p.0) xs) ≡ map (λ p. p.0) xs
same_row [] = refl
same_row (x ∷ xs) = λ i. x.1 i ∷ same_row xs i

same_pairs : {A : Type 0} (xs : List (A × Alike)) → map {B = A × Expr} (λ t. (t.0, copied no_entities t.1)) (map {B = A × Expr} (λ t. (t.0, t.1.0)) xs) ≡ map {B = A × Expr} (λ t. (t.0, t.1.0)) xs
same_pairs [] = refl
same_pairs {A} (x ∷ xs) = λ i. (let pair : A × Expr = (x.0, x.1.1 i) in pair ∷ same_pairs xs i)

abbrev SameParts : ExprKind-F ExprKind Expr → Type 0
SameParts x = map-ExprKind ExprKind Expr ExprKind Expr (kind_copied no_entities) (copied no_entities) x ≡ x

same_parts : (y : ExprKind-F AlikeKind Alike) → SameParts (map-ExprKind AlikeKind Alike ExprKind Expr (λ p. p.0) (λ p. p.0) y)
same_parts (ExprKind-F.Val l) = refl
same_parts (ExprKind-F.Var x) = refl
same_parts (ExprKind-F.Slot s) = refl
same_parts (ExprKind-F.Ite p) = λ i. ExprKind-F.Ite (p.0.1 i, p.1.1 i, p.2.1 i)
same_parts (ExprKind-F.Unary call a) = ap (ExprKind-F.Unary call) a.1
same_parts (ExprKind-F.Binary call p) = λ i. ExprKind-F.Binary call (p.0.1 i, p.1.1 i)
same_parts (ExprKind-F.Nary op a rest) = λ i. ExprKind-F.Nary op (a.1 i) (same_row rest i)
same_parts (ExprKind-F.Sum a rest) = λ i. ExprKind-F.Sum (a.1 i) (same_pairs rest i)
same_parts (ExprKind-F.List call items) = ap (ExprKind-F.List call) (same_row items)
same_parts (ExprKind-F.Record pairs) = ap ExprKind-F.Record (same_pairs pairs)

same_kind : (x : ExprKind-F ExprKind Expr) (y : ExprKind-F AlikeKind Alike) → map-ExprKind AlikeKind Alike ExprKind Expr (λ p. p.0) (λ p. p.0) y ≡ x → SameKind (roll-ExprKind x)
unfolding kind_copied copied
same_kind x y is =
    fold-roll-ExprKind ExprKind Expr (kind_copy no_entities) expr_copy x
    ∙ ap (kind_copy no_entities) (subst SameParts is (same_parts y))
    ∙ copy_rolls no_entities x
    ∙ ap roll-ExprKind (same_form x)

same_expr : (x : Expr-F ExprKind Expr) (y : Expr-F AlikeKind Alike) → map-Expr AlikeKind Alike ExprKind Expr (λ p. p.0) (λ p. p.0) y ≡ x → Same (roll-Expr x)
unfolding kind_copied copied
same_expr x y is =
    let of_kind : SameKind x.kind = subst (λ (z : Expr-F ExprKind Expr). SameKind z.kind) is y.kind.1 in
    fold_out-Expr ExprKind Expr (kind_copy no_entities) expr_copy (roll-Expr x)
    ∙ (λ i. record { kind = of_kind i; place = x.place })

pub unfilled : (e : Expr) → copied no_entities e ≡ e
unfilled = ind-Expr SameKind Same same_kind same_expr

-- ---- what a copy means

module _ (es : SlotEntities) where
  abbrev Means : Expr → Type 0
  Means e = expr_meaning (copied es e) ≡ filled es (expr_meaning e)

  abbrev KindMeans : ExprKind → Type 0
  KindMeans k = (place : Option Place) → kind_meaning (kind_copied es k) place ≡ filled es (kind_meaning k place)

  abbrev Known : Type 0
  Known = (e : Expr) × Means e

  abbrev KnownKind : Type 0
  KnownKind = (k : ExprKind) × KindMeans k

  -- calls

  of_unary : (call : UnaryCall) (a : Value) → filled es (unary_call call a) ≡ unary_call call (filled es a)
  unfolding filled
  of_unary (unary.Op operator.Not) a = refl
  of_unary (unary.Op operator.Neg) a = refl
  of_unary unary.IsEmpty a = refl
  of_unary (unary.Like pattern) a = refl
  of_unary (unary.Is entity_type) a = refl
  of_unary (unary.GetAttr attr) a = refl
  of_unary (unary.ExtendedHasAttr first rest) a = refl

  of_binary : (call : BinaryCall) (a b : Value) → filled es (binary_call call a b) ≡ binary_call call (filled es a) (filled es b)
  unfolding filled
  of_binary (binary.Op between.And) a b = refl
  of_binary (binary.Op between.Less) a b = refl
  of_binary (binary.Op between.LessEq) a b = refl
  of_binary (binary.Op between.Greater) a b = refl
  of_binary (binary.Op between.GreaterEq) a b = refl
  of_binary (binary.Op between.Eq) a b = refl
  of_binary (binary.Op between.NotEq) a b = refl
  of_binary (binary.Op between.In) a b = refl
  of_binary (binary.Op between.Contains) a b = refl
  of_binary (binary.Op between.ContainsAll) a b = refl
  of_binary (binary.Op between.ContainsAny) a b = refl
  of_binary (binary.Op between.GetTag) a b = refl
  of_binary (binary.Op between.HasTag) a b = refl
  of_binary (binary.IsIn entity_type) a b = refl

  of_nary : (op : NaryOp) (a : Value) (bs : List Value) → filled es (nary_call op a (values bs)) ≡ nary_call op (filled es a) (all_filled es (values bs))
  unfolding filled
  of_nary nary.Or a bs = refl
  of_nary nary.And a bs = refl
  of_nary nary.Mul a bs = refl

  of_list : (call : ListCall) (bs : List Value) → filled es (list_call call (values bs)) ≡ list_call call (all_filled es (values bs))
  unfolding filled
  of_list list.Set bs = refl
  of_list (list.Extension function) bs = refl

  -- a slot

  of_slot : (entity : Option EntityUID) (s : SlotId) (place : Option Place) → kind_call AtPlace (map-ExprKind ExprKind Expr AtPlace Value kind_meaning expr_meaning (slot_form entity s)) place ≡ filled_slot entity (v.slot (record { id = s; place = place }))
  of_slot None s place = refl
  of_slot (Some entity) s place = refl

  -- rows

  of_row : (xs : List Known) → values (map expr_meaning (map (copied es) (map (λ p. p.0) xs))) ≡ all_filled es (values (map expr_meaning (map (λ p. p.0) xs)))
  unfolding all_filled
  of_row [] = refl
  of_row (x ∷ xs) = λ i. v.more (x.1 i) (of_row xs i)

  of_terms : (xs : List (AddOp × Known)) → terms (map (λ (t : AddOp × Expr). (t.0, expr_meaning t.1)) (map (λ (t : AddOp × Expr). (t.0, copied es t.1)) (map (λ (t : AddOp × Known). (t.0, t.1.0)) xs))) ≡ terms_filled es (terms (map (λ (t : AddOp × Expr). (t.0, expr_meaning t.1)) (map (λ (t : AddOp × Known). (t.0, t.1.0)) xs)))
  unfolding terms_filled
  of_terms [] = refl
  of_terms (x ∷ xs) = λ i. v.term x.0 (x.1.1 i) (of_terms xs i)

  of_fields : (xs : List (List ℕ × Known)) → fields (map (λ (t : List ℕ × Expr). (t.0, expr_meaning t.1)) (map (λ (t : List ℕ × Expr). (t.0, copied es t.1)) (map (λ (t : List ℕ × Known). (t.0, t.1.0)) xs))) ≡ fields_filled es (fields (map (λ (t : List ℕ × Expr). (t.0, expr_meaning t.1)) (map (λ (t : List ℕ × Known). (t.0, t.1.0)) xs)))
  unfolding fields_filled
  of_fields [] = refl
  of_fields (x ∷ xs) = λ i. v.field x.0 (x.1.1 i) (of_fields xs i)

  -- nodes

  abbrev meant : Option Place → ExprKind-F ExprKind Expr → Value
  meant place x = kind_call AtPlace (map-ExprKind ExprKind Expr AtPlace Value kind_meaning expr_meaning x) place

  abbrev Shows : Option Place → ExprKind-F ExprKind Expr → Type 0
  Shows place x =
      meant place (form_copy es (map-ExprKind ExprKind Expr ExprKind Expr (kind_copied es) (copied es) x)) ≡ filled es (meant place x)

  sides : (place : Option Place) (y : ExprKind-F KnownKind Known) → Shows place (map-ExprKind KnownKind Known ExprKind Expr (λ p. p.0) (λ p. p.0) y)
  unfolding filled
  sides place (ExprKind-F.Val l) = refl
  sides place (ExprKind-F.Var x) = refl
  sides place (ExprKind-F.Slot s) = of_slot (entity_for es s) s place
  sides place (ExprKind-F.Ite p) = λ i. v.ite (p.0.1 i) (p.1.1 i) (p.2.1 i)
  sides place (ExprKind-F.Unary call a) = ap (unary_call call) a.1 ∙ sym (of_unary call (expr_meaning a.0))
  sides place (ExprKind-F.Binary call p) = (λ i. binary_call call (p.0.1 i) (p.1.1 i)) ∙ sym (of_binary call (expr_meaning p.0.0) (expr_meaning p.1.0))
  sides place (ExprKind-F.Nary op a rest) = (λ i. nary_call op (a.1 i) (of_row rest i)) ∙ sym (of_nary op (expr_meaning a.0) (map expr_meaning (map (λ p. p.0) rest)))
  sides place (ExprKind-F.Sum a rest) = λ i. v.add_nary (a.1 i) (of_terms rest i)
  sides place (ExprKind-F.List call items) = ap (list_call call) (of_row items) ∙ sym (of_list call (map expr_meaning (map (λ p. p.0) items)))
  sides place (ExprKind-F.Record pairs) = ap v.«record» (of_fields pairs)

  kind_step : (x : ExprKind-F ExprKind Expr) (y : ExprKind-F KnownKind Known) → map-ExprKind KnownKind Known ExprKind Expr (λ p. p.0) (λ p. p.0) y ≡ x → KindMeans (roll-ExprKind x)
  unfolding kind_copied copied kind_meaning expr_meaning
  kind_step x y is place =
      ap (λ k. kind_meaning k place) (fold-roll-ExprKind ExprKind Expr (kind_copy es) expr_copy x ∙ copy_rolls es (map-ExprKind ExprKind Expr ExprKind Expr (kind_copied es) (copied es) x))
      ∙ ap (λ (h : Option Place → Value). h place) (fold-roll-ExprKind AtPlace Value (kind_call AtPlace) expr_call (form_copy es (map-ExprKind ExprKind Expr ExprKind Expr (kind_copied es) (copied es) x)))
      ∙ subst (Shows place) is (sides place y)
      ∙ sym (ap (λ (h : Option Place → Value). filled es (h place)) (fold-roll-ExprKind AtPlace Value (kind_call AtPlace) expr_call x))

  expr_step : (x : Expr-F ExprKind Expr) (y : Expr-F KnownKind Known) → map-Expr KnownKind Known ExprKind Expr (λ p. p.0) (λ p. p.0) y ≡ x → Means (roll-Expr x)
  unfolding kind_copied copied kind_meaning expr_meaning
  expr_step x y is =
      let at = subst (λ (z : Expr-F ExprKind Expr). KindMeans z.kind) is y.kind.1 in
      ap expr_meaning (fold_out-Expr ExprKind Expr (kind_copy es) expr_copy (roll-Expr x))
      ∙ fold_out-Expr AtPlace Value (kind_call AtPlace) expr_call (record { kind = kind_copied es x.kind; place = x.place })
      ∙ at x.place.place
      ∙ sym (ap (filled es) (fold_out-Expr AtPlace Value (kind_call AtPlace) expr_call (roll-Expr x)))

  pub filled_copy : (e : Expr) → expr_meaning (copied es e) ≡ filled es (expr_meaning e)
  filled_copy = ind-Expr KindMeans Means kind_step expr_step

-- ---- the slots that stay

more_left : (es : SlotEntities) (xs ys : Slots) → slots_left es (xs ++ ys) ≡ slots_left es xs ++ slots_left es ys
more_left es xs ys = filter-append (stays es) xs ys

-- those of parts are those of the whole
both_left : (es : SlotEntities) (xs ys vs ws : Slots) → vs ≡ slots_left es xs → ws ≡ slots_left es ys → vs ++ ws ≡ slots_left es (xs ++ ys)
both_left es xs ys vs ws first second = (λ i. first i ++ second i) ∙ sym (more_left es xs ys)

slot_left : (entity : Option EntityUID) (s : Slot) → slots_of (filled_slot entity (v.slot s)) ≡ cond (not (is_some entity)) (s ∷ []) []
unfolding slots_of
slot_left None s = refl
slot_left (Some entity) s = refl

mutual
  unfolding slots_of slots_of_all slots_of_terms slots_of_fields filled all_filled terms_filled fields_filled

  left : (es : SlotEntities) (a : Value) → slots_of (filled es a) ≡ slots_left es (slots_of a)
  left es (v.val l) = refl
  left es (v.var x) = refl
  left es (v.slot s) = slot_left (entity_for es s.id) s
  left es (v.ite a b c) = both_left es (slots_of a ++ slots_of b) (slots_of c) (slots_of (filled es a) ++ slots_of (filled es b)) (slots_of (filled es c)) (both_left es (slots_of a) (slots_of b) (slots_of (filled es a)) (slots_of (filled es b)) (left es a) (left es b)) (left es c)
  left es (v.not a) = left es a
  left es (v.neg a) = left es a
  left es (v.and a b) = both_left es (slots_of a) (slots_of b) (slots_of (filled es a)) (slots_of (filled es b)) (left es a) (left es b)
  left es (v.or_nary a bs) = both_left es (slots_of a) (slots_of_all bs) (slots_of (filled es a)) (slots_of_all (all_filled es bs)) (left es a) (all_left es bs)
  left es (v.and_naryl a bs) = both_left es (slots_of a) (slots_of_all bs) (slots_of (filled es a)) (slots_of_all (all_filled es bs)) (left es a) (all_left es bs)
  left es (v.add_nary a ts) = both_left es (slots_of a) (slots_of_terms ts) (slots_of (filled es a)) (slots_of_terms (terms_filled es ts)) (left es a) (terms_left es ts)
  left es (v.mul_nary a bs) = both_left es (slots_of a) (slots_of_all bs) (slots_of (filled es a)) (slots_of_all (all_filled es bs)) (left es a) (all_left es bs)
  left es (v.less a b) = both_left es (slots_of a) (slots_of b) (slots_of (filled es a)) (slots_of (filled es b)) (left es a) (left es b)
  left es (v.lesseq a b) = both_left es (slots_of a) (slots_of b) (slots_of (filled es a)) (slots_of (filled es b)) (left es a) (left es b)
  left es (v.greater a b) = both_left es (slots_of a) (slots_of b) (slots_of (filled es a)) (slots_of (filled es b)) (left es a) (left es b)
  left es (v.greatereq a b) = both_left es (slots_of a) (slots_of b) (slots_of (filled es a)) (slots_of (filled es b)) (left es a) (left es b)
  left es (v.is_eq a b) = both_left es (slots_of a) (slots_of b) (slots_of (filled es a)) (slots_of (filled es b)) (left es a) (left es b)
  left es (v.noteq a b) = both_left es (slots_of a) (slots_of b) (slots_of (filled es a)) (slots_of (filled es b)) (left es a) (left es b)
  left es (v.is_in a b) = both_left es (slots_of a) (slots_of b) (slots_of (filled es a)) (slots_of (filled es b)) (left es a) (left es b)
  left es (v.like a pattern) = left es a
  left es (v.is_entity_type a t) = left es a
  left es (v.is_in_entity_type a t b) = both_left es (slots_of a) (slots_of b) (slots_of (filled es a)) (slots_of (filled es b)) (left es a) (left es b)
  left es (v.extended_has_attr a first rest) = left es a
  left es (v.get_attr a attr) = left es a
  left es (v.contains a b) = both_left es (slots_of a) (slots_of b) (slots_of (filled es a)) (slots_of (filled es b)) (left es a) (left es b)
  left es (v.contains_all a b) = both_left es (slots_of a) (slots_of b) (slots_of (filled es a)) (slots_of (filled es b)) (left es a) (left es b)
  left es (v.contains_any a b) = both_left es (slots_of a) (slots_of b) (slots_of (filled es a)) (slots_of (filled es b)) (left es a) (left es b)
  left es (v.is_empty a) = left es a
  left es (v.get_tag a b) = both_left es (slots_of a) (slots_of b) (slots_of (filled es a)) (slots_of (filled es b)) (left es a) (left es b)
  left es (v.has_tag a b) = both_left es (slots_of a) (slots_of b) (slots_of (filled es a)) (slots_of (filled es b)) (left es a) (left es b)
  left es (v.call_extension_fn name args) = all_left es args
  left es (v.set items) = all_left es items
  left es (v.«record» pairs) = fields_left es pairs

  all_left : (es : SlotEntities) (bs : Values) → slots_of_all (all_filled es bs) ≡ slots_left es (slots_of_all bs)
  all_left es v.none = refl
  all_left es (v.more a bs) = both_left es (slots_of a) (slots_of_all bs) (slots_of (filled es a)) (slots_of_all (all_filled es bs)) (left es a) (all_left es bs)

  terms_left : (es : SlotEntities) (ts : Terms) → slots_of_terms (terms_filled es ts) ≡ slots_left es (slots_of_terms ts)
  terms_left es v.no_terms = refl
  terms_left es (v.term op a ts) = both_left es (slots_of a) (slots_of_terms ts) (slots_of (filled es a)) (slots_of_terms (terms_filled es ts)) (left es a) (terms_left es ts)

  fields_left : (es : SlotEntities) (fs : Fields) → slots_of_fields (fields_filled es fs) ≡ slots_left es (slots_of_fields fs)
  fields_left es v.no_fields = refl
  fields_left es (v.field key a fs) = both_left es (slots_of a) (slots_of_fields fs) (slots_of (filled es a)) (slots_of_fields (fields_filled es fs)) (left es a) (fields_left es fs)

pub copy_slots : (es : SlotEntities) (copy e : Expr) → copy ≡ copied es e → slots_in copy ≡ slots_left es (slots_in e)
unfolding slots_in
copy_slots es copy e is = ap (λ c. slots_of (expr_meaning c)) is ∙ ap slots_of (filled_copy es e) ∙ left es (expr_meaning e)

pub copy_means : (es : SlotEntities) (copy e : Expr) → copy ≡ copied es e → expr_meaning copy ≡ filled es (expr_meaning e)
copy_means es copy e is = ap expr_meaning is ∙ filled_copy es e

pub copy_same : (copy e : Expr) → copy ≡ copied (record { principal = None; resource = None }) e → copy ≡ e
copy_same copy e is = is ∙ unfilled e
