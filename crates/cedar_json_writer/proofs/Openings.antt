-- What stands in the place of a value is what it is written as, and is less to do.
use Rattle.std.proofs.Common.{◌≡◌, ℕ, ◌+◌, ◌*◌, ◌<◌, suc, List, [], ◌∷◌, ◌++◌, codes, refl, ap, ◌∙◌, append_assoc, map, arith, Result, subst, length}
use Rattle.json.specs.Token.{Token}
use Rattle.json.specs.Json.{Json, string, array, object, Items, member, no_members}
use Rattle.json.specs.Tree.{json_tokens, items_tokens}
use Rattle.cedar_expressions.specs.declared.expr.Expr.{Expr}
use Rattle.cedar_expressions.specs.declared.expr.BinaryOp.{BinaryOp}
use Rattle.cedar_expressions.specs.declared.expr.BinaryOp.TheVariants as between
use Rattle.cedar_expressions.specs.declared.expr.NaryOp.{NaryOp}
use Rattle.cedar_expressions.specs.declared.expr.NaryOp.TheVariants as nary
use Rattle.cedar_expressions.specs.declared.operators.AddOp.{AddOp}
use Rattle.cedar_expressions.specs.Meaning.{expr_meaning, between_call, nary_call}
use Rattle.cedar_expressions.specs.Value.{Value, Values, Terms, values, terms}
use Rattle.cedar_json_writer.specs.declared.todo.Todo.{Todo}
use Rattle.cedar_json_writer.specs.Forms.{value_json, chain, sum, wrapped, beside, two, between_key, chain_key, sought_json, has_json, get_json}
use Rattle.cedar_json_writer.specs.FunctionKeys.{keys_called, keys_in_all}
use Rattle.cedar_json_writer.specs.machines.Pending.{heads, tails, has_tails, has_weights, sum_heads, sum_tails, weight, weights, term_weights, tail_weights, sum_head_weights, sum_tail_weights, term_value, PutsValue}
use Rattle.cedar_json_writer.proofs.Chained.{chain_tokens, sum_tokens, sought_tokens, chain_load, sum_load}

-- ---- tokens

pub beside_tokens : (key other : List ℕ) (a j : Json) (old : List Token) → json_tokens (beside key a other j) ++ old ≡ Token.begin_object ∷ Token.key key ∷ Token.begin_object ∷ Token.key (codes "left") ∷ (json_tokens a ++ (Token.key other ∷ (json_tokens j ++ (Token.end_object ∷ Token.end_object ∷ old))))
beside_tokens key other a j old =
    let ends : List Token = Token.end_object ∷ [] in
    let more : List Token = Token.key other ∷ (json_tokens j ++ ends) in
    ap (λ (ts : List Token). Token.begin_object ∷ Token.key key ∷ Token.begin_object ∷ Token.key (codes "left") ∷ ts)
    (append_assoc (json_tokens a ++ more) ends old
    ∙ append_assoc (json_tokens a) more (Token.end_object ∷ old)
    ∙ ap (λ (ts : List Token). json_tokens a ++ (Token.key other ∷ ts)) (append_assoc (json_tokens j) ends (Token.end_object ∷ old)))

-- three members, the first and the last of which are whole values
pub three_tokens : (key first second third : List ℕ) (a j b : Json) (old : List Token) → json_tokens (wrapped key (object (member first a (member second j (member third b no_members))))) ++ old ≡ Token.begin_object ∷ Token.key key ∷ Token.begin_object ∷ Token.key first ∷ (json_tokens a ++ (Token.key second ∷ (json_tokens j ++ (Token.key third ∷ (json_tokens b ++ (Token.end_object ∷ Token.end_object ∷ old))))))
three_tokens key first second third a j b old =
    let ends : List Token = Token.end_object ∷ [] in
    let last : List Token = Token.key third ∷ (json_tokens b ++ ends) in
    let more : List Token = Token.key second ∷ (json_tokens j ++ last) in
    ap (λ (ts : List Token). Token.begin_object ∷ Token.key key ∷ Token.begin_object ∷ Token.key first ∷ ts)
    (append_assoc (json_tokens a ++ more) ends old
    ∙ append_assoc (json_tokens a) more (Token.end_object ∷ old)
    ∙ ap (λ (ts : List Token). json_tokens a ++ (Token.key second ∷ ts)) (append_assoc (json_tokens j) last (Token.end_object ∷ old)
    ∙ ap (λ (ts : List Token). json_tokens j ++ (Token.key third ∷ ts)) (append_assoc (json_tokens b) ends (Token.end_object ∷ old))))

-- an array as what stands beside an operand
pub array_tokens : (key other : List ℕ) (a : Json) (js : Items) (old : List Token) → json_tokens (beside key a other (array js)) ++ old ≡ Token.begin_object ∷ Token.key key ∷ Token.begin_object ∷ Token.key (codes "left") ∷ (json_tokens a ++ (Token.key other ∷ Token.begin_array ∷ (items_tokens js ++ (Token.end_object ∷ Token.end_object ∷ old))))
array_tokens key other a js old = beside_tokens key other a (array js) old

pub chained : (key : List ℕ) (a : Json) (es : List Expr) (old : List Token) → json_tokens (chain key a (values (map expr_meaning es))) ++ old ≡ heads key (length es) ++ (json_tokens a ++ (tails (values (map expr_meaning es)) ++ old))
chained key a es old =
    ap (λ (ts : List Token). ts ++ old) (chain_tokens key a es)
    ∙ append_assoc (heads key (length es)) (json_tokens a ++ tails (values (map expr_meaning es))) old
    ∙ ap (λ (ts : List Token). heads key (length es) ++ ts) (append_assoc (json_tokens a) (tails (values (map expr_meaning es))) old)

pub sought : (asked a : Json) (attrs : List (List ℕ)) (old : List Token) → json_tokens (sought_json asked a attrs) ++ old ≡ heads (codes "&&") (length attrs) ++ (json_tokens asked ++ (has_tails a attrs ++ old))
sought asked a attrs old =
    ap (λ (ts : List Token). ts ++ old) (sought_tokens asked a attrs)
    ∙ append_assoc (heads (codes "&&") (length attrs)) (json_tokens asked ++ has_tails a attrs) old
    ∙ ap (λ (ts : List Token). heads (codes "&&") (length attrs) ++ ts) (append_assoc (json_tokens asked) (has_tails a attrs) old)

pub has_tokens : (a : Json) (first : List ℕ) (rest : List (List ℕ)) (old : List Token) → json_tokens (sought_json (has_json a first) (get_json a first) rest) ++ old ≡ heads (codes "&&") (length rest) ++ (Token.begin_object ∷ Token.key (codes "has") ∷ Token.begin_object ∷ Token.key (codes "left") ∷ (json_tokens a ++ (Token.key (codes "attr") ∷ Token.string first ∷ Token.end_object ∷ Token.end_object ∷ (has_tails (get_json a first) rest ++ old))))
has_tokens a first rest old =
    sought (has_json a first) (get_json a first) rest old
    ∙ ap (λ (ts : List Token). heads (codes "&&") (length rest) ++ ts) (beside_tokens (codes "has") (codes "attr") a (string first) (has_tails (get_json a first) rest ++ old))

pub summed : (a : Json) (ts : Terms) (old : List Token) → json_tokens (sum a ts) ++ old ≡ sum_heads ts ++ (json_tokens a ++ (sum_tails ts ++ old))
summed a ts old =
    ap (λ (us : List Token). us ++ old) (sum_tokens a ts)
    ∙ append_assoc (sum_heads ts) (json_tokens a ++ sum_tails ts) old
    ∙ ap (λ (us : List Token). sum_heads ts ++ us) (append_assoc (json_tokens a) (sum_tails ts) old)

-- ---- by operator

pub between_json : (op : BinaryOp) (a b : Value) → value_json (between_call op a b) ≡ two (between_key op) (value_json a) (value_json b)
unfolding value_json
between_json between.And a b = refl
between_json between.Less a b = refl
between_json between.LessEq a b = refl
between_json between.Greater a b = refl
between_json between.GreaterEq a b = refl
between_json between.Eq a b = refl
between_json between.NotEq a b = refl
between_json between.In a b = refl
between_json between.Contains a b = refl
between_json between.ContainsAll a b = refl
between_json between.ContainsAny a b = refl
between_json between.GetTag a b = refl
between_json between.HasTag a b = refl

pub between_load : (op : BinaryOp) (a b : Value) → weight (between_call op a b) ≡ weight a + weight b + 20
unfolding weight
between_load between.And a b = refl
between_load between.Less a b = refl
between_load between.LessEq a b = refl
between_load between.Greater a b = refl
between_load between.GreaterEq a b = refl
between_load between.Eq a b = refl
between_load between.NotEq a b = refl
between_load between.In a b = refl
between_load between.Contains a b = refl
between_load between.ContainsAll a b = refl
between_load between.ContainsAny a b = refl
between_load between.GetTag a b = refl
between_load between.HasTag a b = refl

pub nary_json : (op : NaryOp) (a : Value) (bs : Values) → value_json (nary_call op a bs) ≡ chain (chain_key op) (value_json a) bs
unfolding value_json
nary_json nary.Or a bs = refl
nary_json nary.And a bs = refl
nary_json nary.Mul a bs = refl

pub nary_load : (op : NaryOp) (a : Value) (bs : Values) → weight (nary_call op a bs) ≡ weight a + weights bs + 20
unfolding weight
nary_load nary.Or a bs = refl
nary_load nary.And a bs = refl
nary_load nary.Mul a bs = refl

pub between_called : (op : BinaryOp) (a b : Value) (others : List (List ℕ)) → keys_called (between_call op a b) others ≡ keys_called a (keys_called b others)
unfolding keys_called
between_called between.And a b others = refl
between_called between.Less a b others = refl
between_called between.LessEq a b others = refl
between_called between.Greater a b others = refl
between_called between.GreaterEq a b others = refl
between_called between.Eq a b others = refl
between_called between.NotEq a b others = refl
between_called between.In a b others = refl
between_called between.Contains a b others = refl
between_called between.ContainsAll a b others = refl
between_called between.ContainsAny a b others = refl
between_called between.GetTag a b others = refl
between_called between.HasTag a b others = refl

pub nary_called : (op : NaryOp) (a : Value) (bs : Values) (others : List (List ℕ)) → keys_called (nary_call op a bs) others ≡ keys_called a (keys_in_all bs others)
unfolding keys_called
nary_called nary.Or a bs others = refl
nary_called nary.And a bs others = refl
nary_called nary.Mul a bs others = refl

-- ---- loads

pub beside_less : (a old new : ℕ) → new ≡ 1 + (1 + (1 + (1 + (a + (1 + (1 + (1 + (1 + old)))))))) → new < a + 20 + old
beside_less a old new e = omega (arith, e)

pub array_less : (a old new : ℕ) → new ≡ 1 + (1 + (1 + (1 + (a + (1 + (1 + (1 + (1 + (1 + old))))))))) → new < a + 20 + old
array_less a old new e = omega (arith, e)

pub two_less : (a b old new : ℕ) → new ≡ 1 + (1 + (1 + (1 + (a + (1 + (b + (1 + (1 + old)))))))) → new < a + b + 20 + old
two_less a b old new e = omega (arith, e)

pub typed_less : (a b old new : ℕ) → new ≡ 1 + (1 + (1 + (1 + (a + (1 + (1 + (1 + (b + (1 + (1 + old)))))))))) → new < a + b + 20 + old
typed_less a b old new e = omega (arith, e)

pub three_less : (a b c old new : ℕ) → new ≡ 1 + (1 + (1 + (1 + (a + (1 + (b + (1 + (c + (1 + (1 + old)))))))))) → new < a + b + c + 20 + old
three_less a b c old new e = omega (arith, e)

pub chain_less : (a : ℕ) (es : List Expr) (old new : ℕ) → new ≡ suc (5 * length es) + (a + (suc (tail_weights es) + old)) → new < a + weights (values (map expr_meaning es)) + 20 + old
chain_less a es old new e = let so = chain_load es in omega (arith, e, so)

-- the questions of a `has`, and what opens their objects
pub has_less : (a : ℕ) (attrs : List (List ℕ)) (old new : ℕ) → new ≡ suc (5 * length attrs) + (1 + (1 + (1 + (1 + (a + (1 + (1 + (1 + (1 + (suc (has_weights (a + 10 * 0) attrs) + old)))))))))) → new < a + 5 * length attrs + has_weights a attrs + 20 + old
has_less a attrs old new e =
    let same : has_weights (a + 10 * 0) attrs ≡ has_weights a attrs = ap (λ (n : ℕ). has_weights n attrs) (omega arith) in
    omega (arith, e, same)

pub sum_less : (a : ℕ) (ts : List (AddOp × Expr)) (old new : ℕ) → new ≡ suc (sum_head_weights ts) + (a + (suc (sum_tail_weights ts) + old)) → new < a + term_weights (terms (map term_value ts)) + 20 + old
sum_less a ts old new e = let so = sum_load ts in omega (arith, e, so)

-- ---- one value for another

pub told : {E : Type 0} (r : Result (Unit {0}) E) (old new : List Todo) {a b : Value} → a ≡ b → PutsValue a r old new → PutsValue b r old new
told r old new e h = subst (λ (x : Value). PutsValue x r old new) e h
