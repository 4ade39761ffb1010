-- What is read of what was written: JSON can't tell operands that were joined from the left from
-- those that stand side by side, nor `a has b.c` from `a has b && a.b has c`, nor an `and` of two
-- from a conjunction; and slots have no places there.
use Rattle.std.specs.Prelude.{ℕ, List, [], ◌∷◌, map, None}
use Rattle.cedar_expressions.specs.Value as v
use Rattle.cedar_expressions.specs.Value.{Value, Values, Terms, Fields}
use Rattle.cedar_policy_store.specs.PlaceFree.{Policy, Policies, with_values}
use Rattle.cedar_json_writer.specs.PolicyForms.{conditions_listed}
use Rattle.cedar_json.specs.PolicyReadings.{joined}
use Rattle.cedar_json.specs.Readings.{or_with, and_with, mul_with, add_with}

-- what was asked so far, the value whose attributes come next, and these
abbrev pub sought_with : Value → Value → List (List ℕ) → Value
sought_with asked a [] = asked
sought_with asked a (attr ∷ attrs) =
    sought_with (and_with asked (v.extended_has_attr a attr [])) (v.get_attr a attr) attrs

unfoldable mutual
  pub as_read : Value → Value
  as_read (v.val literal) = v.val literal
  as_read (v.var x) = v.var x
  as_read (v.slot x) = v.slot (record { id = x.id; place = None })
  as_read (v.ite a b c) = v.ite (as_read a) (as_read b) (as_read c)
  as_read (v.not a) = v.not (as_read a)
  as_read (v.neg a) = v.neg (as_read a)
  as_read (v.and a b) = and_with (as_read a) (as_read b)
  as_read (v.or_nary a bs) = chain_as_read or_with (as_read a) bs
  as_read (v.and_naryl a bs) = chain_as_read and_with (as_read a) bs
  as_read (v.add_nary a ts) = sum_as_read (as_read a) ts
  as_read (v.mul_nary a bs) = chain_as_read mul_with (as_read a) bs
  as_read (v.less a b) = v.less (as_read a) (as_read b)
  as_read (v.lesseq a b) = v.lesseq (as_read a) (as_read b)
  as_read (v.greater a b) = v.greater (as_read a) (as_read b)
  as_read (v.greatereq a b) = v.greatereq (as_read a) (as_read b)
  as_read (v.is_eq a b) = v.is_eq (as_read a) (as_read b)
  as_read (v.noteq a b) = v.noteq (as_read a) (as_read b)
  as_read (v.is_in a b) = v.is_in (as_read a) (as_read b)
  as_read (v.contains a b) = v.contains (as_read a) (as_read b)
  as_read (v.contains_all a b) = v.contains_all (as_read a) (as_read b)
  as_read (v.contains_any a b) = v.contains_any (as_read a) (as_read b)
  as_read (v.get_tag a b) = v.get_tag (as_read a) (as_read b)
  as_read (v.has_tag a b) = v.has_tag (as_read a) (as_read b)
  as_read (v.like a pattern) = v.like (as_read a) pattern
  as_read (v.is_entity_type a t) = v.is_entity_type (as_read a) t
  as_read (v.is_in_entity_type a t b) = v.is_in_entity_type (as_read a) t (as_read b)
  as_read (v.extended_has_attr a first rest) =
      sought_with (v.extended_has_attr (as_read a) first []) (v.get_attr (as_read a) first) rest
  as_read (v.get_attr a attr) = v.get_attr (as_read a) attr
  as_read (v.is_empty a) = v.is_empty (as_read a)
  as_read (v.call_extension_fn name args) = v.call_extension_fn name (all_as_read args)
  as_read (v.set items) = v.set (all_as_read items)
  as_read (v.«record» pairs) = v.«record» (fields_as_read pairs)

  pub chain_as_read : (Value → Value → Value) → Value → Values → Value
  chain_as_read f a v.none = a
  chain_as_read f a (v.more b bs) = chain_as_read f (f a (as_read b)) bs

  pub sum_as_read : Value → Terms → Value
  sum_as_read a v.no_terms = a
  sum_as_read a (v.term o b ts) = sum_as_read (add_with o a (as_read b)) ts

  pub all_as_read : Values → Values
  all_as_read v.none = v.none
  all_as_read (v.more a bs) = v.more (as_read a) (all_as_read bs)

  pub fields_as_read : Fields → Fields
  fields_as_read v.no_fields = v.no_fields
  fields_as_read (v.field key a fs) = v.field key (as_read a) (fields_as_read fs)

-- of a policy the conditions
abbrev pub policy_as_read : Policy → Policy
policy_as_read p = record p { condition = joined (map as_read (conditions_listed p.condition)) }

abbrev pub set_as_read : Policies → Policies
set_as_read set = record {
  policies = with_values policy_as_read set.policies;
  templates = with_values policy_as_read set.templates;
}
