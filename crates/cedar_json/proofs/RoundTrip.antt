-- What was written of a value is read as the value, its operands joined from the left.
use Rattle.std.proofs.Common.{◌≡◌, ℕ, Bool, true, false, cond, ◌||◌, List, [], ◌∷◌, codes, drop, Option, Some, None, refl, ap, ap₂, ◌∙◌}
use Rattle.std.specs.Prelude.{ℤ, option_map, option_and_then}
use Rattle.std.specs.List.{list_any}
use Rattle.std.specs.Str.{bytes_eq}
use Rattle.json.specs.Json.{Json, array}
use Rattle.cedar_expressions.specs.declared.atoms.Literal.{Literal}
use Rattle.cedar_expressions.specs.declared.atoms.Literal.TheVariants as literals
use Rattle.cedar_expressions.specs.declared.atoms.Var.{Var}
use Rattle.cedar_expressions.specs.declared.atoms.Var.TheVariants as vars
use Rattle.cedar_expressions.specs.declared.atoms.SlotId.{SlotId}
use Rattle.cedar_expressions.specs.declared.atoms.SlotId.TheVariants as slots
use Rattle.cedar_expressions.specs.declared.entity.EntityUID.{EntityUID}
use Rattle.cedar_expressions.specs.declared.operators.AddOp.{AddOp}
use Rattle.cedar_expressions.specs.declared.operators.AddOp.TheVariants as op
use Rattle.cedar_expressions.specs.Keys.{repeats_key}
use Rattle.cedar_expressions.specs.Path.{Path, name_text}
use Rattle.cedar_expressions.specs.Value as v
use Rattle.cedar_expressions.specs.Value.{Value, Values, Terms, Fields}
use Rattle.cedar_expressions.specs.Written.{var_text, slot_text}
use Rattle.cedar_json_writer.specs.Forms.{value_json, chain, sum, two, sum_key, literal_json, items_json, members_json, has_json, get_json, sought_json}
use Rattle.cedar_json_writer.specs.FunctionKeys.{is_operator_key, operator_keys}
use Rattle.cedar_json.specs.AsRead.{as_read, chain_as_read, sum_as_read, all_as_read, fields_as_read, sought_with}
use Rattle.cedar_json.specs.Readings.{Known, Reading, expr_from, value_from, body_under, exprs_from, readings, fields_by, list_under, and_with, or_with, mul_with, add_with, var_from, slot_from, record_from, record_keys}
use Rattle.cedar_json.specs.Legible.{IsLegible, AreLegible, TermsAreLegible, FieldsAreLegible, IsLegibleLiteral}

both : {A B C : Type 0} (f : A → B → C) (x : Option A) (y : Option B) (a : A) (b : B) → x ≡ Some a → y ≡ Some b → option_and_then (λ p. option_map (f p) y) x ≡ Some (f a b)
both {A} {B} f x y a b e h = ap₂ (λ (p : Option A) (q : Option B). option_and_then (λ (z : A). option_map (f z) q) p) e h

unless : {A : Type 0} (b : Bool) (x y : A) → b ≡ false → cond b x y ≡ y
unless b x y e = ap (λ (c : Bool). cond c x y) e

var_read : (x : Var) → var_from (var_text x) ≡ Some (v.var x)
var_read vars.Principal = refl
var_read vars.Action = refl
var_read vars.Resource = refl
var_read vars.Context = refl

slot_read : (x : SlotId) → slot_from (slot_text x) ≡ Some (v.slot (record { id = x; place = None }))
slot_read slots.Principal = refl
slot_read slots.Resource = refl

literal_read : (k : Known) (l : Literal) → IsLegibleLiteral k l → value_from k (literal_json l) ≡ Some (v.val l)
unfolding expr_from
literal_read k (literals.Bool b) s = refl
literal_read k (literals.Long n) s = ap (option_map (λ (n : ℤ). v.val (literals.Long n))) s
literal_read k (literals.String text) s = refl
literal_read k (literals.EntityUID uid) s = ap (λ (o : Option Path). option_map (λ (e : EntityUID). v.val (literals.EntityUID e)) (option_and_then (λ (n : Path). Some (record { entity_type = record { name = n }; eid = record { text = uid.eid.text } })) o)) s

keys_kept : (fs : Fields) → record_keys (fields_as_read fs) ≡ record_keys fs
unfolding as_read
keys_kept v.no_fields = refl
keys_kept (v.field key a fs) = ap (λ (ks : List (List ℕ)). key ∷ ks) (keys_kept fs)

sum_step : (k : Known) (o : AddOp) (a b : Json) → expr_from k (two (sum_key o) a b) ≡ option_and_then (λ p. option_map (add_with o p) (expr_from k b)) (expr_from k a)
unfolding expr_from
sum_step k op.Plus a b = refl
sum_step k op.Minus a b = refl

abbrev Steps : Known → List ℕ → (Value → Value → Value) → Type 0
Steps k key f = (a b : Json) → expr_from k (two key a b) ≡ option_and_then (λ p. option_map (f p) (expr_from k b)) (expr_from k a)

or_step : (k : Known) → Steps k (codes "||") or_with
unfolding expr_from
or_step k a b = refl

and_step : (k : Known) → Steps k (codes "&&") and_with
unfolding expr_from
and_step k a b = refl

mul_step : (k : Known) → Steps k (codes "*") mul_with
unfolding expr_from
mul_step k a b = refl

sought_read : (k : Known) (asked a : Json) (p q : Value) (attrs : List (List ℕ)) → expr_from k asked ≡ Some p → expr_from k a ≡ Some q → expr_from k (sought_json asked a attrs) ≡ Some (sought_with p q attrs)
unfolding expr_from
sought_read k asked a p q [] e h = e
sought_read k asked a p q (attr ∷ attrs) e h =
    sought_read k (two (codes "&&") asked (has_json a attr)) (get_json a attr) (and_with p (v.extended_has_attr q attr [])) (v.get_attr q attr) attrs
    (and_step k asked (has_json a attr) ∙ both and_with _ _ _ _ e (ap (option_and_then (λ (x : Value). Some (v.extended_has_attr x attr []))) h))
    (ap (option_and_then (λ (x : Value). Some (v.get_attr x attr))) h)

neither : (a b : Bool) → a || b ≡ false → (a ≡ false) × (b ≡ false)
neither true b e = cc
neither false b e = (refl, e)

is_not_value : (key : List ℕ) → is_operator_key key ≡ false → bytes_eq key (codes "Value") ≡ false
is_not_value key e = (neither _ _ e).0

is_not_set : (key : List ℕ) → is_operator_key key ≡ false → bytes_eq key (codes "Set") ≡ false
is_not_set key e =
    let from = λ (n : ℕ). list_any (bytes_eq key) (drop n operator_keys) in
    let value = neither (bytes_eq key (codes "Value")) (from 1) e in
    let var = neither (bytes_eq key (codes "Var")) (from 2) value.1 in
    let slot = neither (bytes_eq key (codes "Slot")) (from 3) var.1 in
    (neither (bytes_eq key (codes "Set")) (from 4) slot.1).0

called : (k : Known) (name : Path) (args : Values) → k.function (name_text name) ≡ Some name → is_operator_key (name_text name) ≡ false → list_under k (name_text name) args ≡ Some (v.call_extension_fn name args)
called k name args known free =
    let key = name_text name in
    let call : Option Value = option_map (λ (f : Path). v.call_extension_fn f args) (k.function key) in
    unless (bytes_eq key (codes "Set")) (Some (v.set args)) (cond (is_operator_key key) None call) (is_not_set key free)
    ∙ unless (is_operator_key key) None call free
    ∙ ap (option_map (λ (f : Path). v.call_extension_fn f args)) known

mutual
  unfolding value_json expr_from as_read IsLegible

  pub round : (k : Known) (a : Value) → IsLegible k a → expr_from k (value_json a) ≡ Some (as_read a)
  round k (v.val l) s = literal_read k l s
  round k (v.var x) s = var_read x
  round k (v.slot x) s = slot_read x.id
  round k (v.ite a b c) s =
      ap₂ (λ (p : Option Value) (q : Option Value). option_and_then (λ (a : Value). option_and_then (λ (b : Value). option_map (v.ite a b) (expr_from k (value_json c))) q) p) (round k a s.0) (round k b s.1)
      ∙ ap (option_map (v.ite (as_read a) (as_read b))) (round k c s.2)
  round k (v.not a) s = ap (option_map v.not) (round k a s)
  round k (v.neg a) s = ap (option_map v.neg) (round k a s)
  round k (v.and a b) s = both and_with _ _ _ _ (round k a s.0) (round k b s.1)
  round k (v.or_nary a bs) s = chain_read k (codes "||") or_with (or_step k) (value_json a) (as_read a) bs (round k a s.0) s.1
  round k (v.and_naryl a bs) s = chain_read k (codes "&&") and_with (and_step k) (value_json a) (as_read a) bs (round k a s.0) s.1
  round k (v.add_nary a ts) s = sum_read k (value_json a) (as_read a) ts (round k a s.0) s.1
  round k (v.mul_nary a bs) s = chain_read k (codes "*") mul_with (mul_step k) (value_json a) (as_read a) bs (round k a s.0) s.1
  round k (v.less a b) s = both v.less _ _ _ _ (round k a s.0) (round k b s.1)
  round k (v.lesseq a b) s = both v.lesseq _ _ _ _ (round k a s.0) (round k b s.1)
  round k (v.greater a b) s = both v.greater _ _ _ _ (round k a s.0) (round k b s.1)
  round k (v.greatereq a b) s = both v.greatereq _ _ _ _ (round k a s.0) (round k b s.1)
  round k (v.is_eq a b) s = both v.is_eq _ _ _ _ (round k a s.0) (round k b s.1)
  round k (v.noteq a b) s = both v.noteq _ _ _ _ (round k a s.0) (round k b s.1)
  round k (v.is_in a b) s = both v.is_in _ _ _ _ (round k a s.0) (round k b s.1)
  round k (v.contains a b) s = both v.contains _ _ _ _ (round k a s.0) (round k b s.1)
  round k (v.contains_all a b) s = both v.contains_all _ _ _ _ (round k a s.0) (round k b s.1)
  round k (v.contains_any a b) s = both v.contains_any _ _ _ _ (round k a s.0) (round k b s.1)
  round k (v.get_tag a b) s = both v.get_tag _ _ _ _ (round k a s.0) (round k b s.1)
  round k (v.has_tag a b) s = both v.has_tag _ _ _ _ (round k a s.0) (round k b s.1)
  round k (v.like a pattern) s = both v.like _ _ _ _ (round k a s.0) s.1
  round k (v.is_entity_type a t) s = both (λ (a : Value) (n : Path). v.is_entity_type a (record { name = n })) _ _ _ _ (round k a s.0) s.1
  round k (v.is_in_entity_type a t b) s =
      ap₂ (λ (p : Option Value) (q : Option Path). option_and_then (λ (a : Value). option_and_then (λ (n : Path). option_map (λ (b : Value). v.is_in_entity_type a (record { name = n }) b) (expr_from k (value_json b))) q) p) (round k a s.0) s.1
      ∙ ap (option_map (λ (b : Value). v.is_in_entity_type (as_read a) t b)) (round k b s.2)
  round k (v.extended_has_attr a first rest) s =
      sought_read k (has_json (value_json a) first) (get_json (value_json a) first) (v.extended_has_attr (as_read a) first []) (v.get_attr (as_read a) first) rest
      (ap (option_and_then (λ (p : Value). Some (v.extended_has_attr p first []))) (round k a s)) (ap (option_and_then (λ (p : Value). Some (v.get_attr p first))) (round k a s))
  round k (v.get_attr a attr) s = ap (option_and_then (λ (p : Value). Some (v.get_attr p attr))) (round k a s)
  round k (v.is_empty a) s = ap (option_map v.is_empty) (round k a s)
  round k (v.call_extension_fn name args) s =
      let key = name_text name in
      let items = items_json args in
      unless (bytes_eq key (codes "Value")) (value_from k (array items)) (body_under k key (array items)) (is_not_value key s.1)
      ∙ ap (option_and_then (list_under k key)) (items_read k args s.2)
      ∙ called k name (all_as_read args) s.0 s.1
  round k (v.set items) s = ap (option_and_then (list_under k (codes "Set"))) (items_read k items s)
  round k (v.«record» pairs) s =
      ap (option_and_then record_from) (members_read k pairs s.0)
      ∙ unless (repeats_key (record_keys (fields_as_read pairs))) None (Some (v.«record» (fields_as_read pairs))) (ap repeats_key (keys_kept pairs) ∙ s.1)

  chain_read : (k : Known) (key : List ℕ) (f : Value → Value → Value) → Steps k key f → (j : Json) (a : Value) (bs : Values) → expr_from k j ≡ Some a → AreLegible k bs → expr_from k (chain key j bs) ≡ Some (chain_as_read f a bs)
  chain_read k key f step j a v.none e s = e
  chain_read k key f step j a (v.more b bs) e s =
      chain_read k key f step (two key j (value_json b)) (f a (as_read b)) bs (step j (value_json b) ∙ both f _ _ _ _ e (round k b s.0)) s.1

  sum_read : (k : Known) (j : Json) (a : Value) (ts : Terms) → expr_from k j ≡ Some a → TermsAreLegible k ts → expr_from k (sum j ts) ≡ Some (sum_as_read a ts)
  sum_read k j a v.no_terms e s = e
  sum_read k j a (v.term o b ts) e s =
      sum_read k (two (sum_key o) j (value_json b)) (add_with o a (as_read b)) ts (sum_step k o j (value_json b) ∙ both (add_with o) _ _ _ _ e (round k b s.0)) s.1

  items_read : (k : Known) (bs : Values) → AreLegible k bs → exprs_from k (items_json bs) ≡ Some (all_as_read bs)
  items_read k v.none s = refl
  items_read k (v.more a bs) s = both v.more _ _ _ _ (round k a s.0) (items_read k bs s.1)

  members_read : (k : Known) (fs : Fields) → FieldsAreLegible k fs → fields_by (λ (r : Reading). r.expr) (readings k (members_json fs)) ≡ Some (fields_as_read fs)
  members_read k v.no_fields s = refl
  members_read k (v.field key a fs) s = both (v.field key) _ _ _ _ (round k a s.0) (members_read k fs s.1)
