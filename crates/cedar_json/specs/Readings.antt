-- Which value a JSON value is: the table of Cedar's documentation, "JSON policy format", read.
-- Members come in any order, each once, and no other. Operands that are joined from the left by
-- one operator are read as one list of them.
use Rattle.std.specs.Prelude.{ℕ, ℤ, Bool, cond, List, [], ◌∷◌, ◌++◌, codes, map, Option, Some, None, option_map, option_and_then, is_some}
use Rattle.std.specs.List.{list_any}
use Rattle.std.specs.Str.{bytes_eq}
use Rattle.json.specs.Json.{Json, null, boolean, number, string, array, object, Items, no_items, item, Members, no_members, member}
use Rattle.cedar_expressions.specs.declared.atoms.Literal.TheVariants as literals
use Rattle.cedar_expressions.specs.declared.atoms.Var.TheVariants as vars
use Rattle.cedar_expressions.specs.declared.atoms.SlotId.TheVariants as slots
use Rattle.cedar_expressions.specs.declared.atoms.PatternElem.{PatternElem}
use Rattle.cedar_expressions.specs.declared.atoms.PatternElem.TheVariants.{Wildcard}
use Rattle.cedar_expressions.specs.declared.entity.EntityUID.{EntityUID}
use Rattle.cedar_expressions.specs.declared.operators.AddOp.{AddOp}
use Rattle.cedar_expressions.specs.declared.operators.AddOp.TheVariants as op
use Rattle.cedar_expressions.specs.Keys.{repeats_key}
use Rattle.cedar_expressions.specs.Path.{Path}
use Rattle.cedar_expressions.specs.Value as v
use Rattle.cedar_expressions.specs.Value.{Value, Values, Terms, Fields}
use Rattle.cedar_json_writer.specs.FunctionKeys.{is_operator_key}
use Rattle.cedar_json.specs.Members.{are_among, string_from, text_at, members_among}

-- the texts that stand for something: names, the functions and methods of a table, integers of 64
-- bits, and the characters of a text
pub record Known : Type 0 where
  pub name : List ℕ → Option Path
  pub function : List ℕ → Option Path
  pub long : List ℕ → Option ℤ
  pub elems : List ℕ → List PatternElem

-- ---- operands joined to others

abbrev pub with_operand : Values → Value → Values
with_operand v.none b = v.more b v.none
with_operand (v.more a bs) b = v.more a (with_operand bs b)

abbrev pub with_term : Terms → AddOp → Value → Terms
with_term v.no_terms o b = v.term o b v.no_terms
with_term (v.term p a ts) o b = v.term p a (with_term ts o b)

abbrev pub or_with : Value → Value → Value
or_with (v.or_nary a bs) b = v.or_nary a (with_operand bs b)
or_with a b = v.or_nary a (v.more b v.none)

abbrev pub and_with : Value → Value → Value
and_with (v.and_naryl a bs) b = v.and_naryl a (with_operand bs b)
and_with a b = v.and_naryl a (v.more b v.none)

abbrev pub mul_with : Value → Value → Value
mul_with (v.mul_nary a bs) b = v.mul_nary a (with_operand bs b)
mul_with a b = v.mul_nary a (v.more b v.none)

abbrev pub add_with : AddOp → Value → Value → Value
add_with o (v.add_nary a ts) b = v.add_nary a (with_term ts o b)
add_with o a b = v.add_nary a (v.term o b v.no_terms)

-- ---- leaves

abbrev pub var_from : List ℕ → Option Value
var_from s =
    cond (bytes_eq s (codes "principal")) (Some (v.var vars.Principal))
    (cond (bytes_eq s (codes "action")) (Some (v.var vars.Action))
    (cond (bytes_eq s (codes "resource")) (Some (v.var vars.Resource))
    (cond (bytes_eq s (codes "context")) (Some (v.var vars.Context)) None)))

abbrev pub slot_from : List ℕ → Option Value
slot_from s =
    cond (bytes_eq s (codes "?principal"))
    (Some (v.slot (record { id = slots.Principal; place = None })))
    (cond (bytes_eq s (codes "?resource"))
    (Some (v.slot (record { id = slots.Resource; place = None }))) None)

-- ---- entities

-- an entity where nothing else can stand
abbrev pub entity_from : Known → Json → Option EntityUID
entity_from k j =
    option_and_then (λ ms. option_and_then (λ n. option_map (λ id.
    record { entity_type = record { name = n }; eid = record { text = id } })
    (text_at (codes "id") ms)) (option_and_then k.name (text_at (codes "type") ms)))
    (members_among (codes "type" ∷ codes "id" ∷ []) j)

-- ---- patterns

abbrev pub literal_part : Known → Members → Option (List PatternElem)
literal_part k no_members = None
literal_part k (member key j no_members) =
    cond (bytes_eq key (codes "Literal")) (option_map k.elems (string_from j)) None
literal_part k (member key j (member other i ms)) = None

abbrev pub part_from : Known → Json → Option (List PatternElem)
part_from k null = None
part_from k (boolean b) = None
part_from k (number s) = None
part_from k (string s) =
    cond (bytes_eq s (codes "Wildcard")) (Some (Wildcard ∷ [])) None
part_from k (array js) = None
part_from k (object ms) = literal_part k ms

abbrev pub parts_from : Known → Items → Option (List PatternElem)
parts_from k no_items = Some []
parts_from k (item j js) =
    option_and_then (λ ps. option_map (λ qs. ps ++ qs) (parts_from k js)) (part_from k j)

abbrev pub pattern_from : Known → Json → Option (List PatternElem)
pattern_from k null = None
pattern_from k (boolean b) = None
pattern_from k (number s) = None
pattern_from k (string s) = None
pattern_from k (array js) = parts_from k js
pattern_from k (object ms) = None

-- ---- what a member stands for, by what is wanted of it

pub record Reading : Type 0 where
  pub expr : Option Value
  pub value : Option Value
  pub values : Option Values
  pub call : Option Value
  pub entity : Option EntityUID
  pub text : Option (List ℕ)
  pub pattern : Option (List PatternElem)

abbrev pub Parts : Type 0
Parts = List (List ℕ × Reading)

abbrev pub among : List (List ℕ) → Parts → Bool
among keys ms = are_among keys (map (λ m. m.0) ms)

abbrev pub found : List ℕ → Parts → Option Reading
found key [] = None
found key (m ∷ ms) = cond (bytes_eq m.0 key) (Some m.1) (found key ms)

abbrev pub expr_at : List ℕ → Parts → Option Value
expr_at key ms = option_and_then (λ r. r.expr) (found key ms)

abbrev pub text_read_at : List ℕ → Parts → Option (List ℕ)
text_read_at key ms = option_and_then (λ r. r.text) (found key ms)

-- one operand, two, and one with something beside it
abbrev pub arg_of : (Value → Value) → Parts → Option Value
arg_of f ms = cond (among (codes "arg" ∷ []) ms) (option_map f (expr_at (codes "arg") ms)) None

abbrev pub two_of : (Value → Value → Value) → Parts → Option Value
two_of f ms =
    cond (among (codes "left" ∷ codes "right" ∷ []) ms) (option_and_then (λ a.
    option_map (f a) (expr_at (codes "right") ms)) (expr_at (codes "left") ms)) None

abbrev pub beside_of : {A : Type 0} → List ℕ → (Reading → Option A) → (Value → A → Value)
    → Parts → Option Value
beside_of key get f ms =
    cond (among (codes "left" ∷ key ∷ []) ms) (option_and_then (λ a.
    option_map (f a) (option_and_then get (found key ms))) (expr_at (codes "left") ms)) None

abbrev pub typed_from : Known → Parts → Option Value
typed_from k ms =
    beside_of (codes "entity_type") (λ r. option_and_then k.name r.text)
    (λ a n. v.is_entity_type a (record { name = n })) ms

abbrev pub typed_in_of : Known → Parts → Option Value
typed_in_of k ms =
    cond (among (codes "left" ∷ codes "entity_type" ∷ codes "in" ∷ []) ms)
    (option_and_then (λ a. option_and_then (λ n. option_map (λ b.
    v.is_in_entity_type a (record { name = n }) b) (expr_at (codes "in") ms))
    (option_and_then k.name (text_read_at (codes "entity_type") ms)))
    (expr_at (codes "left") ms)) None

abbrev pub conditional_of : Parts → Option Value
conditional_of ms =
    cond (among (codes "if" ∷ codes "then" ∷ codes "else" ∷ []) ms)
    (option_and_then (λ a. option_and_then (λ b. option_map (v.ite a b)
    (expr_at (codes "else") ms)) (expr_at (codes "then") ms)) (expr_at (codes "if") ms)) None

-- the operator of a key, of these members
abbrev pub operator : Known → List ℕ → Parts → Option Value
operator k key ms =
    cond (bytes_eq key (codes "!")) (arg_of v.not ms)
    (cond (bytes_eq key (codes "neg")) (arg_of v.neg ms)
    (cond (bytes_eq key (codes "isEmpty")) (arg_of v.is_empty ms)
    (cond (bytes_eq key (codes "&&")) (two_of and_with ms)
    (cond (bytes_eq key (codes "||")) (two_of or_with ms)
    (cond (bytes_eq key (codes "*")) (two_of mul_with ms)
    (cond (bytes_eq key (codes "+")) (two_of (add_with op.Plus) ms)
    (cond (bytes_eq key (codes "-")) (two_of (add_with op.Minus) ms)
    (cond (bytes_eq key (codes "==")) (two_of v.is_eq ms)
    (cond (bytes_eq key (codes "!=")) (two_of v.noteq ms)
    (cond (bytes_eq key (codes "in")) (two_of v.is_in ms)
    (cond (bytes_eq key (codes "<")) (two_of v.less ms)
    (cond (bytes_eq key (codes "<=")) (two_of v.lesseq ms)
    (cond (bytes_eq key (codes ">")) (two_of v.greater ms)
    (cond (bytes_eq key (codes ">=")) (two_of v.greatereq ms)
    (cond (bytes_eq key (codes "contains")) (two_of v.contains ms)
    (cond (bytes_eq key (codes "containsAll")) (two_of v.contains_all ms)
    (cond (bytes_eq key (codes "containsAny")) (two_of v.contains_any ms)
    (cond (bytes_eq key (codes "getTag")) (two_of v.get_tag ms)
    (cond (bytes_eq key (codes "hasTag")) (two_of v.has_tag ms)
    (cond (bytes_eq key (codes ".")) (beside_of (codes "attr") (λ r. r.text) v.get_attr ms)
    (cond (bytes_eq key (codes "has"))
    (beside_of (codes "attr") (λ r. r.text) (λ a s. v.extended_has_attr a s []) ms)
    (cond (bytes_eq key (codes "like"))
    (beside_of (codes "pattern") (λ r. r.pattern) v.like ms)
    (cond (bytes_eq key (codes "is"))
    (cond (is_some (found (codes "in") ms)) (typed_in_of k ms) (typed_from k ms))
    (cond (bytes_eq key (codes "if-then-else")) (conditional_of ms) None))))))))))))))))))))))))

-- ---- values under `Value`

-- these keys stand for something else than a record's
abbrev pub reserved_keys : List (List ℕ)
reserved_keys = codes "__entity" ∷ codes "__extn" ∷ codes "__expr" ∷ []

abbrev pub is_reserved_key : List ℕ → Bool
is_reserved_key key = list_any (bytes_eq key) reserved_keys

abbrev pub record_keys : Fields → List (List ℕ)
record_keys v.no_fields = []
record_keys (v.field key a fs) = key ∷ record_keys fs

abbrev pub record_from : Fields → Option Value
record_from fs = cond (repeats_key (record_keys fs)) None (Some (v.«record» fs))

abbrev pub fields_by : (Reading → Option Value) → Parts → Option Fields
fields_by get [] = Some v.no_fields
fields_by get (m ∷ ms) =
    option_and_then (λ a. option_map (v.field m.0 a) (fields_by get ms)) (get m.1)

-- an extension's call: a function, and its argument, or a list of them
abbrev pub call_with : Known → Option Values → Parts → Option Value
call_with k args ms =
    option_and_then (λ f. option_map (v.call_extension_fn f) args)
    (option_and_then k.function (text_read_at (codes "fn") ms))

abbrev pub call_from : Known → Parts → Option Value
call_from k ms =
    cond (among (codes "fn" ∷ codes "arg" ∷ []) ms)
    (call_with k (option_map (λ a. v.more a v.none)
    (option_and_then (λ r. r.value) (found (codes "arg") ms))) ms)
    (cond (among (codes "fn" ∷ codes "args" ∷ []) ms)
    (call_with k (option_and_then (λ r. r.values) (found (codes "args") ms)) ms) None)

-- an entity, an extension's call, or a record
abbrev pub object_value : Parts → Option Value
object_value ms =
    cond (is_some (found (codes "__entity") ms))
    (cond (among (codes "__entity" ∷ []) ms) (option_map (λ e. v.val (literals.EntityUID e))
    (option_and_then (λ r. r.entity) (found (codes "__entity") ms))) None)
    (cond (is_some (found (codes "__extn") ms))
    (cond (among (codes "__extn" ∷ []) ms)
    (option_and_then (λ r. r.call) (found (codes "__extn") ms)) None)
    (cond (list_any (λ m. is_reserved_key m.0) ms) None
    (option_and_then record_from (fields_by (λ r. r.value) ms))))

-- ---- expressions

-- a text under a key: a variable, or a slot
abbrev pub word_under : List ℕ → List ℕ → Option Value
word_under key s =
    cond (bytes_eq key (codes "Var")) (var_from s)
    (cond (bytes_eq key (codes "Slot")) (slot_from s) None)

-- the items under a key: a set's, or a call's arguments
abbrev pub list_under : Known → List ℕ → Values → Option Value
list_under k key items =
    cond (bytes_eq key (codes "Set")) (Some (v.set items))
    (cond (is_operator_key key) None
    (option_map (λ f. v.call_extension_fn f items) (k.function key)))

-- the members under a key: a record's pairs, or an operator's
abbrev pub object_under : Known → List ℕ → Parts → Option Value
object_under k key ms =
    cond (bytes_eq key (codes "Record"))
    (option_and_then record_from (fields_by (λ r. r.expr) ms)) (operator k key ms)

unfoldable mutual
  pub expr_from : Known → Json → Option Value
  expr_from k null = None
  expr_from k (boolean b) = None
  expr_from k (number s) = None
  expr_from k (string s) = None
  expr_from k (array js) = None
  expr_from k (object no_members) = None
  expr_from k (object (member key j no_members)) =
      cond (bytes_eq key (codes "Value")) (value_from k j) (body_under k key j)
  expr_from k (object (member key j (member other i ms))) = None

  -- what stands under an expression's key
  pub body_under : Known → List ℕ → Json → Option Value
  body_under k key null = None
  body_under k key (boolean b) = None
  body_under k key (number s) = None
  body_under k key (string s) = word_under key s
  body_under k key (array js) = option_and_then (list_under k key) (exprs_from k js)
  body_under k key (object ms) = object_under k key (readings k ms)

  pub value_from : Known → Json → Option Value
  value_from k null = None
  value_from k (boolean b) = Some (v.val (literals.Bool b))
  value_from k (number s) = option_map (λ n. v.val (literals.Long n)) (k.long s)
  value_from k (string s) = Some (v.val (literals.String s))
  value_from k (array js) = option_map v.set (values_from k js)
  value_from k (object ms) = object_value (readings k ms)

  pub exprs_from : Known → Items → Option Values
  exprs_from k no_items = Some v.none
  exprs_from k (item j js) =
      option_and_then (λ a. option_map (v.more a) (exprs_from k js)) (expr_from k j)

  pub values_from : Known → Items → Option Values
  values_from k no_items = Some v.none
  values_from k (item j js) =
      option_and_then (λ a. option_map (v.more a) (values_from k js)) (value_from k j)

  pub list_read : Known → Json → Option Values
  list_read k null = None
  list_read k (boolean b) = None
  list_read k (number s) = None
  list_read k (string s) = None
  list_read k (array js) = values_from k js
  list_read k (object ms) = None

  pub call_read : Known → Json → Option Value
  call_read k null = None
  call_read k (boolean b) = None
  call_read k (number s) = None
  call_read k (string s) = None
  call_read k (array js) = None
  call_read k (object ms) = call_from k (readings k ms)

  pub readings : Known → Members → Parts
  readings k no_members = []
  readings k (member key j ms) = (
    key,
    record {
      expr = expr_from k j;
      value = value_from k j;
      values = list_read k j;
      call = call_read k j;
      entity = entity_from k j;
      text = string_from j;
      pattern = pattern_from k j;
    },
  ) ∷ readings k ms
