-- An expression with entities in the place of its slots; a slot without an entity stays as it is.
use Rattle.std.specs.Prelude.{List, Option, Some, None, Bool, not, is_some}
use Rattle.std.specs.List.{filter}
use Rattle.cedar_expressions.specs.declared.atoms.SlotId.{SlotId}
use Rattle.cedar_expressions.specs.declared.atoms.SlotId.TheVariants.{Principal, Resource}
use Rattle.cedar_expressions.specs.declared.atoms.Literal.TheVariants as literal
use Rattle.cedar_expressions.specs.declared.place.Slot.{Slot}
use Rattle.cedar_expressions.specs.declared.entity.EntityUID.{EntityUID}
use Rattle.cedar_expressions.specs.declared.slot_entities.SlotEntities.{SlotEntities}
use Rattle.cedar_expressions.specs.Value as v
use Rattle.cedar_expressions.specs.Value.{Value, Values, Terms, Fields}

-- the entity for a slot
abbrev pub entity_for : SlotEntities → SlotId → Option EntityUID
entity_for entities Principal = entities.principal
entity_for entities Resource = entities.resource

-- the slots that stay
abbrev pub stays : SlotEntities → Slot → Bool
stays entities slot = not (is_some (entity_for entities slot.id))

abbrev pub slots_left : SlotEntities → List Slot → List Slot
slots_left entities = filter (stays entities)

-- what a slot means then
abbrev pub filled_slot : Option EntityUID → Value → Value
filled_slot None own = own
filled_slot (Some entity) own = v.val (literal.EntityUID entity)

-- what an expression means then
unfoldable mutual
  pub filled : SlotEntities → Value → Value
  filled es (v.val literal) = v.val literal
  filled es (v.var x) = v.var x
  filled es (v.slot s) = filled_slot (entity_for es s.id) (v.slot s)
  filled es (v.ite a b c) = v.ite (filled es a) (filled es b) (filled es c)
  filled es (v.not a) = v.not (filled es a)
  filled es (v.neg a) = v.neg (filled es a)
  filled es (v.and a b) = v.and (filled es a) (filled es b)
  filled es (v.or_nary a bs) = v.or_nary (filled es a) (all_filled es bs)
  filled es (v.and_naryl a bs) = v.and_naryl (filled es a) (all_filled es bs)
  filled es (v.add_nary a ts) = v.add_nary (filled es a) (terms_filled es ts)
  filled es (v.mul_nary a bs) = v.mul_nary (filled es a) (all_filled es bs)
  filled es (v.less a b) = v.less (filled es a) (filled es b)
  filled es (v.lesseq a b) = v.lesseq (filled es a) (filled es b)
  filled es (v.greater a b) = v.greater (filled es a) (filled es b)
  filled es (v.greatereq a b) = v.greatereq (filled es a) (filled es b)
  filled es (v.is_eq a b) = v.is_eq (filled es a) (filled es b)
  filled es (v.noteq a b) = v.noteq (filled es a) (filled es b)
  filled es (v.is_in a b) = v.is_in (filled es a) (filled es b)
  filled es (v.like a pattern) = v.like (filled es a) pattern
  filled es (v.is_entity_type a entity_type) = v.is_entity_type (filled es a) entity_type
  filled es (v.is_in_entity_type a entity_type b) =
      v.is_in_entity_type (filled es a) entity_type (filled es b)
  filled es (v.extended_has_attr a first rest) = v.extended_has_attr (filled es a) first rest
  filled es (v.get_attr a attr) = v.get_attr (filled es a) attr
  filled es (v.contains a b) = v.contains (filled es a) (filled es b)
  filled es (v.contains_all a b) = v.contains_all (filled es a) (filled es b)
  filled es (v.contains_any a b) = v.contains_any (filled es a) (filled es b)
  filled es (v.is_empty a) = v.is_empty (filled es a)
  filled es (v.get_tag a b) = v.get_tag (filled es a) (filled es b)
  filled es (v.has_tag a b) = v.has_tag (filled es a) (filled es b)
  filled es (v.call_extension_fn name args) = v.call_extension_fn name (all_filled es args)
  filled es (v.set items) = v.set (all_filled es items)
  filled es (v.«record» pairs) = v.«record» (fields_filled es pairs)

  pub all_filled : SlotEntities → Values → Values
  all_filled es v.none = v.none
  all_filled es (v.more a bs) = v.more (filled es a) (all_filled es bs)

  pub terms_filled : SlotEntities → Terms → Terms
  terms_filled es v.no_terms = v.no_terms
  terms_filled es (v.term op a ts) = v.term op (filled es a) (terms_filled es ts)

  pub fields_filled : SlotEntities → Fields → Fields
  fields_filled es v.no_fields = v.no_fields
  fields_filled es (v.field key a fs) = v.field key (filled es a) (fields_filled es fs)
