-- What a writer without recursion has still to write: its tokens, the functions in it that are
-- called by an operator's key, and how much of it there is.
use Rattle.std.specs.Prelude.{◌≡◌, ℕ, ◌+◌, ◌*◌, ◌<◌, zero, suc, List, [], ◌∷◌, ◌++◌, codes, map, length, take, drop, Result, OnOk}
use Rattle.std.specs.Fmt.{signed_decimal}
use Rattle.json.specs.Token.{Token}
use Rattle.json.specs.Json.{Json}
use Rattle.json.specs.Written.{Written}
use Rattle.json.specs.Tree.{json_tokens, items_tokens, members_tokens}
use Rattle.cedar_expressions.specs.declared.expr.Expr.{Expr}
use Rattle.cedar_expressions.specs.declared.operators.AddOp.{AddOp}
use Rattle.cedar_expressions.specs.Meaning.{expr_meaning}
use Rattle.cedar_expressions.specs.Path.{name_text}
use Rattle.cedar_expressions.specs.Value as v
use Rattle.cedar_expressions.specs.Value.{Value, Values, Terms, Fields, values, terms, fields}
use Rattle.cedar_json_writer.specs.declared.todo.Todo.{Todo}
use Rattle.cedar_json_writer.specs.declared.todo.Todo.TheVariants as todo
use Rattle.cedar_json_writer.specs.Forms.{value_json, items_json, members_json, pattern_items, sum_key, get_json, has_json}
use Rattle.cedar_json_writer.specs.FunctionKeys.{keys_called, keys_in_all, keys_in_terms, keys_in_fields, key_before, as_often}

abbrev pub term_value : AddOp × Expr → AddOp × Value
term_value t = (t.0, expr_meaning t.1)

abbrev pub field_value : List ℕ × Expr → List ℕ × Value
field_value f = (f.0, expr_meaning f.1)

-- what opens an object that joins two operands, before the left one
abbrev pub head_tokens : List ℕ → List Token
head_tokens key =
    Token.begin_object ∷ Token.key key ∷ Token.begin_object ∷ Token.key (codes "left") ∷ []

-- a right operand, and what closes the object
abbrev pub tail_tokens : Value → List Token
tail_tokens b =
    Token.key (codes "right") ∷ (json_tokens (value_json b)
    ++ Token.end_object ∷ Token.end_object ∷ [])

-- what opens as many of them within one another
abbrev pub heads : List ℕ → ℕ → List Token
heads key zero = []
heads key (suc n) = head_tokens key ++ heads key n

abbrev pub tails : Values → List Token
tails v.none = []
tails (v.more b bs) = tail_tokens b ++ tails bs

abbrev pub sum_heads : Terms → List Token
sum_heads v.no_terms = []
sum_heads (v.term o b ts) = sum_heads ts ++ head_tokens (sum_key o)

abbrev pub sum_tails : Terms → List Token
sum_tails v.no_terms = []
sum_tails (v.term o b ts) = tail_tokens b ++ sum_tails ts

-- the attributes that are asked for behind a value, one of what is found by the one before
abbrev pub get_tails : List (List ℕ) → List Token
get_tails [] = []
get_tails (attr ∷ attrs) =
    Token.key (codes "attr") ∷ Token.string attr ∷ Token.end_object ∷ Token.end_object
    ∷ get_tails attrs

-- the value that is found by attributes
abbrev pub found_by : List (List ℕ) → Json → Json
found_by [] a = a
found_by (attr ∷ attrs) a = found_by attrs (get_json a attr)

-- the later questions of a `has`
abbrev pub has_tails : Json → List (List ℕ) → List Token
has_tails a [] = []
has_tails a (attr ∷ attrs) =
    (Token.key (codes "right") ∷ (json_tokens (has_json a attr)
    ++ Token.end_object ∷ Token.end_object ∷ [])) ++ has_tails (get_json a attr) attrs

abbrev pub todo_tokens : Todo → List Token
todo_tokens todo.Open = Token.begin_object ∷ []
todo_tokens todo.Close = Token.end_object ∷ []
todo_tokens todo.OpenList = Token.begin_array ∷ []
todo_tokens todo.CloseList = Token.end_array ∷ []
todo_tokens (todo.Key text) = Token.key text.now ∷ []
todo_tokens (todo.Text text) = Token.string text.now ∷ []
todo_tokens (todo.Truth b) = Token.boolean b ∷ []
todo_tokens (todo.Number n) = Token.number (signed_decimal n) ∷ []
todo_tokens (todo.Name name) = Token.string (name_text name.now) ∷ []
todo_tokens (todo.Function name) = Token.key (name_text name.now) ∷ []
todo_tokens (todo.Pattern elems) = items_tokens (pattern_items [] elems.now)
todo_tokens (todo.Expr e) = json_tokens (value_json (expr_meaning e.now))
todo_tokens (todo.Items es) = items_tokens (items_json (values (map expr_meaning es.now)))
todo_tokens (todo.Pairs ps) = members_tokens (members_json (fields (map field_value ps.now)))
todo_tokens (todo.Heads key n) = heads key.now n
todo_tokens (todo.GetTails attrs) = get_tails attrs.now
todo_tokens (todo.HasTails e first rest n) =
    has_tails (found_by (first.now ∷ take n rest.now) (value_json (expr_meaning e.now)))
    (drop n rest.now)
todo_tokens (todo.Tails es) = tails (values (map expr_meaning es.now))
todo_tokens (todo.SumHeads ts) = sum_heads (terms (map term_value ts.now))
todo_tokens (todo.SumTails ts) = sum_tails (terms (map term_value ts.now))

abbrev pub all_tokens : List Todo → List Token
all_tokens [] = []
all_tokens (t ∷ ts) = todo_tokens t ++ all_tokens ts

-- ---- which functions are called by an operator's key

abbrev pub todo_called : Todo → List (List ℕ) → List (List ℕ)
todo_called (todo.Function name) others = key_before (name_text name.now) others
todo_called (todo.Expr e) others = keys_called (expr_meaning e.now) others
todo_called (todo.Items es) others = keys_in_all (values (map expr_meaning es.now)) others
todo_called (todo.Pairs ps) others = keys_in_fields (fields (map field_value ps.now)) others
todo_called (todo.Tails es) others = keys_in_all (values (map expr_meaning es.now)) others
todo_called (todo.SumTails ts) others = keys_in_terms (terms (map term_value ts.now)) others
todo_called (todo.HasTails e first rest n) others =
    as_often (drop n rest.now) (λ xs. keys_called (expr_meaning e.now) xs) others
todo_called next others = others

abbrev pub all_called : List Todo → List (List ℕ)
all_called [] = []
all_called (t ∷ ts) = todo_called t (all_called ts)

-- a function's name that is next, if it is an operator's key
abbrev pub key_next : Todo → List (List ℕ)
key_next (todo.Function name) = key_before (name_text name.now) []
key_next next = []

-- ---- how much is still to be done: each value weighs more than what is put in its place

-- the later questions of a `has`, of which each has one attribute more
abbrev pub has_weights : ℕ → List (List ℕ) → ℕ
has_weights n [] = 0
has_weights n (attr ∷ attrs) = n + has_weights (n + 10) attrs + 30

unfoldable mutual
  pub weight : Value → ℕ
  weight (v.val literal) = 20
  weight (v.var x) = 20
  weight (v.slot x) = 20
  weight (v.ite a b c) = weight a + weight b + weight c + 20
  weight (v.not a) = weight a + 20
  weight (v.neg a) = weight a + 20
  weight (v.and a b) = weight a + weight b + 20
  weight (v.or_nary a bs) = weight a + weights bs + 20
  weight (v.and_naryl a bs) = weight a + weights bs + 20
  weight (v.add_nary a ts) = weight a + term_weights ts + 20
  weight (v.mul_nary a bs) = weight a + weights bs + 20
  weight (v.less a b) = weight a + weight b + 20
  weight (v.lesseq a b) = weight a + weight b + 20
  weight (v.greater a b) = weight a + weight b + 20
  weight (v.greatereq a b) = weight a + weight b + 20
  weight (v.is_eq a b) = weight a + weight b + 20
  weight (v.noteq a b) = weight a + weight b + 20
  weight (v.is_in a b) = weight a + weight b + 20
  weight (v.like a elems) = weight a + 20
  weight (v.is_entity_type a t) = weight a + 20
  weight (v.is_in_entity_type a t b) = weight a + weight b + 20
  weight (v.extended_has_attr a first rest) =
      weight a + 5 * length rest + has_weights (weight a) rest + 20
  weight (v.get_attr a attr) = weight a + 20
  weight (v.contains a b) = weight a + weight b + 20
  weight (v.contains_all a b) = weight a + weight b + 20
  weight (v.contains_any a b) = weight a + weight b + 20
  weight (v.is_empty a) = weight a + 20
  weight (v.get_tag a b) = weight a + weight b + 20
  weight (v.has_tag a b) = weight a + weight b + 20
  weight (v.call_extension_fn n args) = weights args + 20
  weight (v.set items) = weights items + 20
  weight (v.«record» fs) = field_weights fs + 20

  -- with what stands around each operand of a chain, on both sides
  pub weights : Values → ℕ
  weights v.none = 0
  weights (v.more b bs) = weight b + weights bs + 10

  pub term_weights : Terms → ℕ
  term_weights v.no_terms = 0
  term_weights (v.term o b ts) = weight b + term_weights ts + 10

  pub field_weights : Fields → ℕ
  field_weights v.no_fields = 0
  field_weights (v.field text a fs) = weight a + field_weights fs + 10

-- how much the heads of a sum are
abbrev pub sum_head_weights : List (AddOp × Expr) → ℕ
sum_head_weights [] = 0
sum_head_weights (t ∷ ts) = sum_head_weights ts + 5

-- how much the tails of a chain are
abbrev pub tail_weights : List Expr → ℕ
tail_weights [] = 0
tail_weights (e ∷ es) = weight (expr_meaning e) + tail_weights es + 5

abbrev pub sum_tail_weights : List (AddOp × Expr) → ℕ
sum_tail_weights [] = 0
sum_tail_weights (t ∷ ts) = weight (expr_meaning t.1) + sum_tail_weights ts + 5

abbrev pub todo_weight : Todo → ℕ
todo_weight todo.Open = 1
todo_weight todo.Close = 1
todo_weight todo.OpenList = 1
todo_weight todo.CloseList = 1
todo_weight (todo.Key text) = 1
todo_weight (todo.Text text) = 1
todo_weight (todo.Truth b) = 1
todo_weight (todo.Number n) = 1
todo_weight (todo.Name name) = 1
todo_weight (todo.Function name) = 1
todo_weight (todo.Pattern elems) = 1
todo_weight (todo.Expr e) = weight (expr_meaning e.now)
todo_weight (todo.Items es) = weights (values (map expr_meaning es.now)) + 2
todo_weight (todo.Pairs ps) = field_weights (fields (map field_value ps.now)) + 2
todo_weight (todo.Heads key n) = suc (5 * n)
todo_weight (todo.GetTails attrs) = suc (5 * length attrs.now)
todo_weight (todo.HasTails e first rest n) =
    suc (has_weights (weight (expr_meaning e.now) + 10 * n) (drop n rest.now))
todo_weight (todo.Tails es) = suc (tail_weights es.now)
todo_weight (todo.SumHeads ts) = suc (sum_head_weights ts.now)
todo_weight (todo.SumTails ts) = suc (sum_tail_weights ts.now)

abbrev pub all_weights : List Todo → ℕ
all_weights [] = 0
all_weights (t ∷ ts) = todo_weight t + all_weights ts

-- ---- steps

-- what is still to be written is that of a value before what was
abbrev pub PutsValue : Value → {E : Type 0} → Result (Unit {0}) E → List Todo → List Todo → Type 0
PutsValue a r old new =
    OnOk r ((all_tokens new ≡ json_tokens (value_json a) ++ all_tokens old)
    × (all_weights new < weight a + all_weights old)
    × (all_called new ≡ keys_called a (all_called old)))

-- the same of something else that is still to be written
abbrev pub Replaces : Todo → {E : Type 0} → Result (Unit {0}) E → List Todo → List Todo → Type 0
Replaces next r old new =
    OnOk r ((all_tokens new ≡ todo_tokens next ++ all_tokens old)
    × (all_weights new < todo_weight next + all_weights old)
    × (all_called new ≡ todo_called next (all_called old)))

-- what was next was written, or others stand in its place
abbrev pub Advances : Todo → {E : Type 0} → Result (Unit {0}) E → Written → Written
    → List Todo → List Todo → Type 0
Advances next r out out' old new =
    OnOk r ((out'.before ≡ out.before)
    × (out'.tokens ++ all_tokens new ≡ out.tokens ++ (todo_tokens next ++ all_tokens old))
    × (all_weights new < todo_weight next + all_weights old)
    × (todo_called next (all_called old) ≡ key_next next ++ all_called new))
