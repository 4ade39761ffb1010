-- What an expression means, places aside: its slots stand nowhere.
use Rattle.std.specs.Prelude.{None}
use Rattle.cedar_expressions.specs.Value as v
use Rattle.cedar_expressions.specs.Value.{Value, Values, Terms, Fields}

unfoldable mutual
  pub without_places : Value → Value
  without_places (v.val literal) = v.val literal
  without_places (v.var x) = v.var x
  without_places (v.slot s) = v.slot (record { id = s.id; place = None })
  without_places (v.ite a b c) = v.ite (without_places a) (without_places b) (without_places c)
  without_places (v.not a) = v.not (without_places a)
  without_places (v.neg a) = v.neg (without_places a)
  without_places (v.and a b) = v.and (without_places a) (without_places b)
  without_places (v.or_nary a bs) = v.or_nary (without_places a) (all_without_places bs)
  without_places (v.and_naryl a bs) = v.and_naryl (without_places a) (all_without_places bs)
  without_places (v.add_nary a ts) = v.add_nary (without_places a) (terms_without_places ts)
  without_places (v.mul_nary a bs) = v.mul_nary (without_places a) (all_without_places bs)
  without_places (v.less a b) = v.less (without_places a) (without_places b)
  without_places (v.lesseq a b) = v.lesseq (without_places a) (without_places b)
  without_places (v.greater a b) = v.greater (without_places a) (without_places b)
  without_places (v.greatereq a b) = v.greatereq (without_places a) (without_places b)
  without_places (v.is_eq a b) = v.is_eq (without_places a) (without_places b)
  without_places (v.noteq a b) = v.noteq (without_places a) (without_places b)
  without_places (v.is_in a b) = v.is_in (without_places a) (without_places b)
  without_places (v.like a pattern) = v.like (without_places a) pattern
  without_places (v.is_entity_type a entity_type) =
      v.is_entity_type (without_places a) entity_type
  without_places (v.is_in_entity_type a entity_type b) =
      v.is_in_entity_type (without_places a) entity_type (without_places b)
  without_places (v.extended_has_attr a first rest) =
      v.extended_has_attr (without_places a) first rest
  without_places (v.get_attr a attr) = v.get_attr (without_places a) attr
  without_places (v.contains a b) = v.contains (without_places a) (without_places b)
  without_places (v.contains_all a b) = v.contains_all (without_places a) (without_places b)
  without_places (v.contains_any a b) = v.contains_any (without_places a) (without_places b)
  without_places (v.is_empty a) = v.is_empty (without_places a)
  without_places (v.get_tag a b) = v.get_tag (without_places a) (without_places b)
  without_places (v.has_tag a b) = v.has_tag (without_places a) (without_places b)
  without_places (v.call_extension_fn name args) =
      v.call_extension_fn name (all_without_places args)
  without_places (v.set items) = v.set (all_without_places items)
  without_places (v.«record» pairs) = v.«record» (fields_without_places pairs)

  pub all_without_places : Values → Values
  all_without_places v.none = v.none
  all_without_places (v.more a bs) = v.more (without_places a) (all_without_places bs)

  pub terms_without_places : Terms → Terms
  terms_without_places v.no_terms = v.no_terms
  terms_without_places (v.term op a ts) = v.term op (without_places a) (terms_without_places ts)

  pub fields_without_places : Fields → Fields
  fields_without_places v.no_fields = v.no_fields
  fields_without_places (v.field key a fs) =
      v.field key (without_places a) (fields_without_places fs)
