-- The values in a value.
use Rattle.std.specs.Prelude.{◌≡◌, List, [], ◌∷◌, ◌⊎◌}
use Rattle.cedar_expressions.specs.Value as v
use Rattle.cedar_expressions.specs.Value.{Value, Values, Terms, Fields}

abbrev pub values_in : Values → List Value
values_in v.none = []
values_in (v.more a bs) = a ∷ values_in bs

abbrev pub terms_of : Terms → List Value
terms_of v.no_terms = []
terms_of (v.term o a ts) = a ∷ terms_of ts

abbrev pub field_values : Fields → List Value
field_values v.no_fields = []
field_values (v.field key a fs) = a ∷ field_values fs

-- those that stand straight in it
abbrev pub parts_in : Value → List Value
parts_in (v.val literal) = []
parts_in (v.var x) = []
parts_in (v.slot x) = []
parts_in (v.ite a b c) = a ∷ b ∷ c ∷ []
parts_in (v.not a) = a ∷ []
parts_in (v.neg a) = a ∷ []
parts_in (v.and a b) = a ∷ b ∷ []
parts_in (v.or_nary a bs) = a ∷ values_in bs
parts_in (v.and_naryl a bs) = a ∷ values_in bs
parts_in (v.add_nary a ts) = a ∷ terms_of ts
parts_in (v.mul_nary a bs) = a ∷ values_in bs
parts_in (v.less a b) = a ∷ b ∷ []
parts_in (v.lesseq a b) = a ∷ b ∷ []
parts_in (v.greater a b) = a ∷ b ∷ []
parts_in (v.greatereq a b) = a ∷ b ∷ []
parts_in (v.is_eq a b) = a ∷ b ∷ []
parts_in (v.noteq a b) = a ∷ b ∷ []
parts_in (v.is_in a b) = a ∷ b ∷ []
parts_in (v.like a pattern) = a ∷ []
parts_in (v.is_entity_type a t) = a ∷ []
parts_in (v.is_in_entity_type a t b) = a ∷ b ∷ []
parts_in (v.extended_has_attr a first rest) = a ∷ []
parts_in (v.get_attr a attr) = a ∷ []
parts_in (v.contains a b) = a ∷ b ∷ []
parts_in (v.contains_all a b) = a ∷ b ∷ []
parts_in (v.contains_any a b) = a ∷ b ∷ []
parts_in (v.is_empty a) = a ∷ []
parts_in (v.get_tag a b) = a ∷ b ∷ []
parts_in (v.has_tag a b) = a ∷ b ∷ []
parts_in (v.call_extension_fn name args) = values_in args
parts_in (v.set items) = values_in items
parts_in (v.«record» fs) = field_values fs

abbrev pub StandsAmong : Value → List Value → Type 0
StandsAmong b [] = ⊥
StandsAmong b (x ∷ xs) = (b ≡ x) ⊎ StandsAmong b xs

-- the value itself, or one that stands in one of it
pub data IsPartOf (whole : Value) : Value → Type 0 where
  itself : IsPartOf whole whole
  inside : {a b : Value} → IsPartOf whole a → StandsAmong b (parts_in a) → IsPartOf whole b
