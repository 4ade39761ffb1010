-- The calls that JSON has no form for: a call's key is its function's name, and these keys are
-- those of operators. None of Cedar's own functions bears one.
use Rattle.std.specs.Prelude.{ℕ, Bool, List, [], ◌∷◌, codes, cond}
use Rattle.std.specs.List.{list_any}
use Rattle.std.specs.Str.{bytes_eq}
use Rattle.cedar_expressions.specs.Path.{name_text}
use Rattle.cedar_expressions.specs.Value as v
use Rattle.cedar_expressions.specs.Value.{Value, Values, Terms, Fields}

-- the keys of `Forms`
abbrev pub operator_keys : List (List ℕ)
operator_keys =
    codes "Value" ∷ codes "Var" ∷ codes "Slot" ∷ codes "Set" ∷ codes "Record" ∷ codes "!"
    ∷ codes "neg" ∷ codes "isEmpty" ∷ codes "==" ∷ codes "!=" ∷ codes "in" ∷ codes "<"
    ∷ codes "<=" ∷ codes ">" ∷ codes ">=" ∷ codes "&&" ∷ codes "||" ∷ codes "+" ∷ codes "-"
    ∷ codes "*" ∷ codes "contains" ∷ codes "containsAll" ∷ codes "containsAny" ∷ codes "getTag"
    ∷ codes "hasTag" ∷ codes "." ∷ codes "has" ∷ codes "like" ∷ codes "is"
    ∷ codes "if-then-else" ∷ []

abbrev pub is_operator_key : List ℕ → Bool
is_operator_key key = list_any (bytes_eq key) operator_keys

-- a function's name before others, if it is an operator's key
abbrev pub key_before : List ℕ → List (List ℕ) → List (List ℕ)
key_before name others = cond (is_operator_key name) (name ∷ others) others

-- once for each of some texts
abbrev pub as_often : {A : Type 0} → List (List ℕ) → (A → A) → A → A
as_often [] f x = x
as_often (text ∷ texts) f x = f (as_often texts f x)

-- the functions with such a name that a value calls, in the order in which they are written and as
-- often, before others
unfoldable mutual
  pub keys_called : Value → List (List ℕ) → List (List ℕ)
  keys_called (v.val literal) others = others
  keys_called (v.var x) others = others
  keys_called (v.slot x) others = others
  keys_called (v.ite a b c) others = keys_called a (keys_called b (keys_called c others))
  keys_called (v.not a) others = keys_called a others
  keys_called (v.neg a) others = keys_called a others
  keys_called (v.and a b) others = keys_called a (keys_called b others)
  keys_called (v.or_nary a bs) others = keys_called a (keys_in_all bs others)
  keys_called (v.and_naryl a bs) others = keys_called a (keys_in_all bs others)
  keys_called (v.add_nary a ts) others = keys_called a (keys_in_terms ts others)
  keys_called (v.mul_nary a bs) others = keys_called a (keys_in_all bs others)
  keys_called (v.less a b) others = keys_called a (keys_called b others)
  keys_called (v.lesseq a b) others = keys_called a (keys_called b others)
  keys_called (v.greater a b) others = keys_called a (keys_called b others)
  keys_called (v.greatereq a b) others = keys_called a (keys_called b others)
  keys_called (v.is_eq a b) others = keys_called a (keys_called b others)
  keys_called (v.noteq a b) others = keys_called a (keys_called b others)
  keys_called (v.is_in a b) others = keys_called a (keys_called b others)
  keys_called (v.like a pattern) others = keys_called a others
  keys_called (v.is_entity_type a t) others = keys_called a others
  keys_called (v.is_in_entity_type a t b) others = keys_called a (keys_called b others)
  keys_called (v.extended_has_attr a first rest) others =
      keys_called a (as_often rest (λ xs. keys_called a xs) others)
  keys_called (v.get_attr a attr) others = keys_called a others
  keys_called (v.contains a b) others = keys_called a (keys_called b others)
  keys_called (v.contains_all a b) others = keys_called a (keys_called b others)
  keys_called (v.contains_any a b) others = keys_called a (keys_called b others)
  keys_called (v.is_empty a) others = keys_called a others
  keys_called (v.get_tag a b) others = keys_called a (keys_called b others)
  keys_called (v.has_tag a b) others = keys_called a (keys_called b others)
  keys_called (v.call_extension_fn name args) others =
      key_before (name_text name) (keys_in_all args others)
  keys_called (v.set items) others = keys_in_all items others
  keys_called (v.«record» pairs) others = keys_in_fields pairs others

  pub keys_in_all : Values → List (List ℕ) → List (List ℕ)
  keys_in_all v.none others = others
  keys_in_all (v.more a bs) others = keys_called a (keys_in_all bs others)

  pub keys_in_terms : Terms → List (List ℕ) → List (List ℕ)
  keys_in_terms v.no_terms others = others
  keys_in_terms (v.term op a ts) others = keys_called a (keys_in_terms ts others)

  pub keys_in_fields : Fields → List (List ℕ) → List (List ℕ)
  keys_in_fields v.no_fields others = others
  keys_in_fields (v.field key a fs) others = keys_called a (keys_in_fields fs others)
