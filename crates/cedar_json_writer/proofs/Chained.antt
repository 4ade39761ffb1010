-- Operands that are joined from the left: what opens their objects stands before the first of
-- them, and what closes each behind its right operand.
use Rattle.std.proofs.Common.{◌≡◌, ℕ, ◌+◌, ◌*◌, zero, suc, length, List, [], ◌∷◌, ◌++◌, codes, refl, ap, sym, ◌∙◌, append_assoc, append-nil, map, arith}
use Rattle.json.specs.Token.{Token}
use Rattle.json.specs.Json.{Json, string}
use Rattle.json.specs.Tree.{json_tokens}
use Rattle.cedar_expressions.specs.declared.expr.Expr.{Expr}
use Rattle.cedar_expressions.specs.declared.operators.AddOp.{AddOp}
use Rattle.cedar_expressions.specs.Meaning.{expr_meaning}
use Rattle.cedar_expressions.specs.Value as v
use Rattle.cedar_expressions.specs.Value.{Value, Values, Terms, values, terms}
use Rattle.cedar_json_writer.specs.Forms.{value_json, chain, sum, two, sum_key, beside, get_json, has_json, sought_json}
use Rattle.cedar_json_writer.specs.machines.Pending.{head_tokens, tail_tokens, heads, tails, get_tails, found_by, has_tails, sum_heads, sum_tails, weight, weights, term_weights, tail_weights, sum_head_weights, sum_tail_weights, term_value}

-- the object of an operand and of what stands beside it
pub beside_parts : (key other : List ℕ) (a j : Json) → json_tokens (beside key a other j) ≡ head_tokens key ++ (json_tokens a ++ (Token.key other ∷ (json_tokens j ++ Token.end_object ∷ Token.end_object ∷ [])))
beside_parts key other a j =
    ap (λ (ts : List Token). head_tokens key ++ ts) (append_assoc (json_tokens a) (Token.key other ∷ (json_tokens j ++ Token.end_object ∷ [])) (Token.end_object ∷ [])
    ∙ ap (λ (ts : List Token). json_tokens a ++ Token.key other ∷ ts) (append_assoc (json_tokens j) (Token.end_object ∷ []) (Token.end_object ∷ [])))

pub heads_first : (key : List ℕ) (n : ℕ) → heads key n ++ head_tokens key ≡ head_tokens key ++ heads key n
heads_first key zero = sym (append-nil (head_tokens key))
heads_first key (suc n) =
    append_assoc (head_tokens key) (heads key n) (head_tokens key)
    ∙ ap (λ (ts : List Token). head_tokens key ++ ts) (heads_first key n)

-- an object more around what is joined, and what closes it behind that
pub head_in : (key : List ℕ) (n : ℕ) (a b more : List Token) → heads key n ++ ((head_tokens key ++ (a ++ b)) ++ more) ≡ heads key (suc n) ++ (a ++ (b ++ more))
head_in key n a b more =
    ap (λ (ts : List Token). heads key n ++ ts) (append_assoc (head_tokens key) (a ++ b) more ∙ ap (λ (ts : List Token). head_tokens key ++ ts) (append_assoc a b more))
    ∙ sym (append_assoc (heads key n) (head_tokens key) (a ++ (b ++ more)))
    ∙ ap (λ (ts : List Token). ts ++ (a ++ (b ++ more))) (heads_first key n)

pub chain_tokens : (key : List ℕ) (a : Json) (es : List Expr) → json_tokens (chain key a (values (map expr_meaning es))) ≡ heads key (length es) ++ (json_tokens a ++ tails (values (map expr_meaning es)))
unfolding value_json
chain_tokens key a [] = sym (append-nil (json_tokens a))
chain_tokens key a (e ∷ es) =
    let b = expr_meaning e in
    let bs = values (map expr_meaning es) in
    chain_tokens key (two key a (value_json b)) es
    ∙ ap (λ (ts : List Token). heads key (length es) ++ (ts ++ tails bs)) (beside_parts key (codes "right") a (value_json b))
    ∙ head_in key (length es) (json_tokens a) (tail_tokens b) (tails bs)

pub sum_tokens : (a : Json) (ts : Terms) → json_tokens (sum a ts) ≡ sum_heads ts ++ (json_tokens a ++ sum_tails ts)
unfolding value_json
sum_tokens a v.no_terms = sym (append-nil (json_tokens a))
sum_tokens a (v.term o b ts) =
    sum_tokens (two (sum_key o) a (value_json b)) ts
    ∙ ap (λ (us : List Token). sum_heads ts ++ (us ++ sum_tails ts)) (beside_parts (sum_key o) (codes "right") a (value_json b))
    ∙ ap (λ (us : List Token). sum_heads ts ++ us) (append_assoc (head_tokens (sum_key o)) (json_tokens a ++ tail_tokens b) (sum_tails ts) ∙ ap (λ (us : List Token). head_tokens (sum_key o) ++ us) (append_assoc (json_tokens a) (tail_tokens b) (sum_tails ts)))
    ∙ sym (append_assoc (sum_heads ts) (head_tokens (sum_key o)) (json_tokens a ++ (tail_tokens b ++ sum_tails ts)))

-- the head of the last operand stands first
pub last_first : (xs : List (AddOp × Expr)) (x : AddOp × Expr) → sum_heads (terms (map term_value (xs ++ x ∷ []))) ≡ head_tokens (sum_key x.0) ++ sum_heads (terms (map term_value xs))
last_first [] x = sym (append-nil (head_tokens (sum_key x.0)))
last_first (y ∷ ys) x =
    ap (λ (ts : List Token). ts ++ head_tokens (sum_key y.0)) (last_first ys x)
    ∙ append_assoc (head_tokens (sum_key x.0)) (sum_heads (terms (map term_value ys))) (head_tokens (sum_key y.0))

-- ---- attributes

pub found_tokens : (attrs : List (List ℕ)) (a : Json) → json_tokens (found_by attrs a) ≡ heads (codes ".") (length attrs) ++ (json_tokens a ++ get_tails attrs)
found_tokens [] a = sym (append-nil (json_tokens a))
found_tokens (attr ∷ attrs) a =
    found_tokens attrs (get_json a attr)
    ∙ ap (λ (ts : List Token). heads (codes ".") (length attrs) ++ (ts ++ get_tails attrs)) (beside_parts (codes ".") (codes "attr") a (string attr))
    ∙ head_in (codes ".") (length attrs) (json_tokens a) (Token.key (codes "attr") ∷ Token.string attr ∷ Token.end_object ∷ Token.end_object ∷ []) (get_tails attrs)

pub found_last : (attrs : List (List ℕ)) (attr : List ℕ) (a : Json) → found_by (attrs ++ attr ∷ []) a ≡ get_json (found_by attrs a) attr
found_last [] attr a = refl
found_last (x ∷ xs) attr a = found_last xs attr (get_json a x)

pub sought_tokens : (asked a : Json) (attrs : List (List ℕ)) → json_tokens (sought_json asked a attrs) ≡ heads (codes "&&") (length attrs) ++ (json_tokens asked ++ has_tails a attrs)
sought_tokens asked a [] = sym (append-nil (json_tokens asked))
sought_tokens asked a (attr ∷ attrs) =
    let more = has_tails (get_json a attr) attrs in
    sought_tokens (two (codes "&&") asked (has_json a attr)) (get_json a attr) attrs
    ∙ ap (λ (ts : List Token). heads (codes "&&") (length attrs) ++ (ts ++ more)) (beside_parts (codes "&&") (codes "right") asked (has_json a attr))
    ∙ head_in (codes "&&") (length attrs) (json_tokens asked) (Token.key (codes "right") ∷ (json_tokens (has_json a attr) ++ Token.end_object ∷ Token.end_object ∷ [])) more

-- ---- loads

pub chain_load : (es : List Expr) → weights (values (map expr_meaning es)) ≡ 5 * length es + tail_weights es
unfolding weight
chain_load [] = omega arith
chain_load (e ∷ es) = let so = chain_load es in omega (arith, so)

pub sum_load : (ts : List (AddOp × Expr)) → term_weights (terms (map term_value ts)) ≡ sum_head_weights ts + sum_tail_weights ts
unfolding weight
sum_load [] = omega arith
sum_load (t ∷ ts) = let so = sum_load ts in omega (arith, so)

pub more_heads : (xs : List (AddOp × Expr)) (x : AddOp × Expr) → sum_head_weights (xs ++ x ∷ []) ≡ sum_head_weights xs + 5
more_heads [] x = omega arith
more_heads (y ∷ ys) x = let so = more_heads ys x in omega (arith, so)
