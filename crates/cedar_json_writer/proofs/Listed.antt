-- What stands in the place of lists: their first part, and the others.
use Rattle.std.proofs.Common.{◌≡◌, ℕ, ◌+◌, ◌*◌, ◌<◌, ◌≤◌, suc, List, [], ◌∷◌, ◌++◌, codes, refl, ap, ap₂, sym, ◌∙◌, append_assoc, map, arith, length, subst, take, drop, get_or}
use Rattle.std.proofs.Math.Seq.{drop-cons, take-suc}
use Rattle.std.proofs.lemmas.List.{nil_from_length, length-take-le, drop_all}
use Rattle.json.specs.Token.{Token}
use Rattle.json.specs.Json.{Json, string}
use Rattle.json.specs.Tree.{json_tokens, items_tokens, members_tokens}
use Rattle.cedar_expressions.specs.declared.expr.Expr.{Expr}
use Rattle.cedar_expressions.specs.declared.operators.AddOp.{AddOp}
use Rattle.cedar_expressions.specs.Meaning.{expr_meaning}
use Rattle.cedar_expressions.specs.Value.{values, terms, fields}
use Rattle.cedar_json_writer.specs.declared.todo.Todo.{Todo}
use Rattle.cedar_json_writer.specs.Forms.{value_json, items_json, members_json, sum_key, has_json, get_json}
use Rattle.cedar_json_writer.specs.FunctionKeys.{keys_called, keys_in_all, keys_in_terms, keys_in_fields, as_often}
use Rattle.cedar_json_writer.specs.machines.Pending.{head_tokens, heads, tails, sum_heads, sum_tails, get_tails, found_by, has_tails, has_weights, all_tokens, all_weights, all_called, weight, weights, field_weights, tail_weights, sum_head_weights, sum_tail_weights, term_value, field_value}
use Rattle.cedar_json_writer.proofs.Chained.{beside_parts, found_tokens, found_last, last_first, more_heads}

abbrev pub Goes : List Token → ℕ → (List (List ℕ) → List (List ℕ)) → List Todo → List Todo → Type 0
Goes ts n called old new = (all_tokens new ≡ ts ++ all_tokens old) × (all_weights new < n + all_weights old) × (all_called new ≡ called (all_called old))

abbrev pub same : List (List ℕ) → List (List ℕ)
same called = called

-- ---- expressions

abbrev ItemsGo : List Todo → List Todo → List Expr → Type 0
ItemsGo old new es = Goes (items_tokens (items_json (values (map expr_meaning es)))) (weights (values (map expr_meaning es)) + 2) (λ c. keys_in_all (values (map expr_meaning es)) c) old new

pub items_none : (es : List Expr) (old new : List Todo) → length es ≡ 0 → all_tokens new ≡ Token.end_array ∷ all_tokens old → all_weights new ≡ 1 + all_weights old → all_called new ≡ all_called old → ItemsGo old new es
unfolding value_json weight keys_called
items_none es old new e t l c = subst (ItemsGo old new) (sym (nil_from_length es e)) (t, omega (arith, l), c)

pub items_some : (es : List Expr) (x : Expr) (xs : List Expr) (old new : List Todo) → es ≡ x ∷ xs → all_tokens new ≡ json_tokens (value_json (expr_meaning x)) ++ (items_tokens (items_json (values (map expr_meaning xs))) ++ all_tokens old) → all_weights new ≡ weight (expr_meaning x) + ((weights (values (map expr_meaning xs)) + 2) + all_weights old) → all_called new ≡ keys_called (expr_meaning x) (keys_in_all (values (map expr_meaning xs)) (all_called old)) → ItemsGo old new es
unfolding value_json weight keys_called
items_some es x xs old new e t l c =
    subst (ItemsGo old new) (sym e)
    (t ∙ sym (append_assoc (json_tokens (value_json (expr_meaning x))) (items_tokens (items_json (values (map expr_meaning xs)))) (all_tokens old)), omega (arith, l), c)

-- ---- pairs

abbrev PairsGo : List Todo → List Todo → List (List ℕ × Expr) → Type 0
PairsGo old new ps = Goes (members_tokens (members_json (fields (map field_value ps)))) (field_weights (fields (map field_value ps)) + 2) (λ c. keys_in_fields (fields (map field_value ps)) c) old new

pub pairs_none : (ps : List (List ℕ × Expr)) (old new : List Todo) → length ps ≡ 0 → all_tokens new ≡ Token.end_object ∷ all_tokens old → all_weights new ≡ 1 + all_weights old → all_called new ≡ all_called old → PairsGo old new ps
unfolding value_json weight keys_called
pairs_none ps old new e t l c = subst (PairsGo old new) (sym (nil_from_length ps e)) (t, omega (arith, l), c)

pub pairs_some : (k : List ℕ) (ps : List (List ℕ × Expr)) (x : List ℕ × Expr) (xs : List (List ℕ × Expr)) (old new : List Todo) → k ≡ x.0 → ps ≡ x ∷ xs → all_tokens new ≡ Token.key k ∷ (json_tokens (value_json (expr_meaning x.1)) ++ (members_tokens (members_json (fields (map field_value xs))) ++ all_tokens old)) → all_weights new ≡ 1 + (weight (expr_meaning x.1) + ((field_weights (fields (map field_value xs)) + 2) + all_weights old)) → all_called new ≡ keys_called (expr_meaning x.1) (keys_in_fields (fields (map field_value xs)) (all_called old)) → PairsGo old new ps
unfolding value_json weight keys_called
pairs_some k ps x xs old new i e t l c =
    let rest : List Token = json_tokens (value_json (expr_meaning x.1)) ++ (members_tokens (members_json (fields (map field_value xs))) ++ all_tokens old) in
    subst (PairsGo old new) (sym e)
    (t ∙ ap (λ (j : List ℕ). Token.key j ∷ rest) i ∙ ap (λ (ts : List Token). Token.key x.0 ∷ ts) (sym (append_assoc (json_tokens (value_json (expr_meaning x.1))) (members_tokens (members_json (fields (map field_value xs)))) (all_tokens old))), omega (arith, l), c)

-- ---- chains

pub heads_some : (key : List ℕ) (n m : ℕ) (old new : List Todo) → n ≡ suc m → all_tokens new ≡ head_tokens key ++ (heads key m ++ all_tokens old) → all_weights new ≡ 1 + (1 + (1 + (1 + (suc (5 * m) + all_weights old)))) → all_called new ≡ all_called old → Goes (heads key n) (suc (5 * n)) same old new
heads_some key n m old new e t l c =
    subst (λ k. Goes (heads key k) (suc (5 * k)) same old new) (sym e)
    (t ∙ sym (append_assoc (head_tokens key) (heads key m) (all_tokens old)), omega (arith, l), c)

abbrev TailsGo : List Todo → List Todo → List Expr → Type 0
TailsGo old new es = Goes (tails (values (map expr_meaning es))) (suc (tail_weights es)) (λ c. keys_in_all (values (map expr_meaning es)) c) old new

tail_assoc : (tb ts old : List Token) → Token.key (codes "right") ∷ (tb ++ (Token.end_object ∷ Token.end_object ∷ (ts ++ old))) ≡ ((Token.key (codes "right") ∷ (tb ++ (Token.end_object ∷ Token.end_object ∷ []))) ++ ts) ++ old
tail_assoc tb ts old =
    ap (λ (us : List Token). Token.key (codes "right") ∷ us)
    (sym (append_assoc tb (Token.end_object ∷ Token.end_object ∷ ts) old)
    ∙ ap (λ (us : List Token). us ++ old) (sym (append_assoc tb (Token.end_object ∷ Token.end_object ∷ []) ts)))

pub tails_some : (es : List Expr) (x : Expr) (xs : List Expr) (old new : List Todo) → es ≡ x ∷ xs → all_tokens new ≡ Token.key (codes "right") ∷ (json_tokens (value_json (expr_meaning x)) ++ (Token.end_object ∷ Token.end_object ∷ (tails (values (map expr_meaning xs)) ++ all_tokens old))) → all_weights new ≡ 1 + (weight (expr_meaning x) + (1 + (1 + (suc (tail_weights xs) + all_weights old)))) → all_called new ≡ keys_called (expr_meaning x) (keys_in_all (values (map expr_meaning xs)) (all_called old)) → TailsGo old new es
unfolding keys_called
tails_some es x xs old new e t l c =
    subst (TailsGo old new) (sym e)
    (t ∙ tail_assoc (json_tokens (value_json (expr_meaning x))) (tails (values (map expr_meaning xs))) (all_tokens old), omega (arith, l), c)

abbrev SumHeadsGo : List Todo → List Todo → List (AddOp × Expr) → Type 0
SumHeadsGo old new ts = Goes (sum_heads (terms (map term_value ts))) (suc (sum_head_weights ts)) same old new

pub sum_heads_some : (k : List ℕ) (ts : List (AddOp × Expr)) (x : AddOp × Expr) (xs : List (AddOp × Expr)) (old new : List Todo) → k ≡ sum_key x.0 → ts ≡ xs ++ x ∷ [] → all_tokens new ≡ head_tokens k ++ (sum_heads (terms (map term_value xs)) ++ all_tokens old) → all_weights new ≡ 1 + (1 + (1 + (1 + (suc (sum_head_weights xs) + all_weights old)))) → all_called new ≡ all_called old → SumHeadsGo old new ts
sum_heads_some k ts x xs old new i e t l c =
    let more = more_heads xs x in
    subst (SumHeadsGo old new) (sym e)
    (t ∙ ap (λ (j : List ℕ). head_tokens j ++ (sum_heads (terms (map term_value xs)) ++ all_tokens old)) i ∙ sym (append_assoc (head_tokens (sum_key x.0)) (sum_heads (terms (map term_value xs))) (all_tokens old)) ∙ ap (λ (us : List Token). us ++ all_tokens old) (sym (last_first xs x)), omega (arith, l, more), c)

abbrev SumTailsGo : List Todo → List Todo → List (AddOp × Expr) → Type 0
SumTailsGo old new ts = Goes (sum_tails (terms (map term_value ts))) (suc (sum_tail_weights ts)) (λ c. keys_in_terms (terms (map term_value ts)) c) old new

pub sum_tails_some : (ts : List (AddOp × Expr)) (x : AddOp × Expr) (xs : List (AddOp × Expr)) (old new : List Todo) → ts ≡ x ∷ xs → all_tokens new ≡ Token.key (codes "right") ∷ (json_tokens (value_json (expr_meaning x.1)) ++ (Token.end_object ∷ Token.end_object ∷ (sum_tails (terms (map term_value xs)) ++ all_tokens old))) → all_weights new ≡ 1 + (weight (expr_meaning x.1) + (1 + (1 + (suc (sum_tail_weights xs) + all_weights old)))) → all_called new ≡ keys_called (expr_meaning x.1) (keys_in_terms (terms (map term_value xs)) (all_called old)) → SumTailsGo old new ts
unfolding keys_called
sum_tails_some ts x xs old new e t l c =
    subst (SumTailsGo old new) (sym e)
    (t ∙ tail_assoc (json_tokens (value_json (expr_meaning x.1))) (sum_tails (terms (map term_value xs))) (all_tokens old), omega (arith, l), c)

-- ---- attributes

pub gets_some : (key : List ℕ) (attrs : List (List ℕ)) (x : List ℕ) (xs : List (List ℕ)) (old new : List Todo) → key ≡ x → attrs ≡ x ∷ xs → all_tokens new ≡ Token.key (codes "attr") ∷ Token.string key ∷ Token.end_object ∷ Token.end_object ∷ (get_tails xs ++ all_tokens old) → all_weights new ≡ 1 + (1 + (1 + (1 + (suc (5 * length xs) + all_weights old)))) → all_called new ≡ all_called old → Goes (get_tails attrs) (suc (5 * length attrs)) same old new
gets_some key attrs x xs old new i e t l c =
    subst (λ ys. Goes (get_tails ys) (suc (5 * length ys)) same old new) (sym e)
    (t ∙ ap (λ (k : List ℕ). Token.key (codes "attr") ∷ Token.string k ∷ Token.end_object ∷ Token.end_object ∷ (get_tails xs ++ all_tokens old)) i, omega (arith, l), c)

-- the tokens of one question, with what closes its object, before others
abbrev pub asked_tokens : Json → ℕ → List ℕ → List (List ℕ) → List ℕ → List Token → List Token
asked_tokens a n first before attr more =
    Token.key (codes "right") ∷ Token.begin_object ∷ Token.key (codes "has") ∷ Token.begin_object ∷ Token.key (codes "left")
    ∷ (heads (codes ".") n ++ (json_tokens a
    ++ (Token.key (codes "attr") ∷ Token.string first ∷ Token.end_object ∷ Token.end_object
    ∷ (get_tails before ++ (Token.key (codes "attr") ∷ Token.string attr ∷ Token.end_object ∷ Token.end_object ∷ Token.end_object ∷ Token.end_object ∷ more)))))

asked : (a : Json) (first : List ℕ) (before : List (List ℕ)) (attr : List ℕ) (after : List (List ℕ)) (old : List Token) → has_tails (found_by (first ∷ before) a) (attr ∷ after) ++ old ≡ asked_tokens a (suc (length before)) first before attr (has_tails (found_by (first ∷ (before ++ attr ∷ [])) a) after ++ old)
asked a first before attr after old =
    let found = found_by (first ∷ before) a in
    let later = has_tails (get_json found attr) after in
    let h : List Token = json_tokens (has_json found attr) in
    let ends : List Token = Token.end_object ∷ Token.end_object ∷ [] in
    let left : List Token = Token.key (codes "attr") ∷ Token.string attr ∷ Token.end_object ∷ Token.end_object ∷ [] in
    let more : List Token = Token.end_object ∷ Token.end_object ∷ (later ++ old) in
    ap (λ (ts : List Token). Token.key (codes "right") ∷ ts)
    (ap (λ (ts : List Token). ts ++ old) (append_assoc h ends later)
    ∙ append_assoc h (Token.end_object ∷ Token.end_object ∷ later) old
    ∙ ap (λ (ts : List Token). ts ++ more) (beside_parts (codes "has") (codes "attr") found (string attr))
    ∙ append_assoc (head_tokens (codes "has")) (json_tokens found ++ left) more
    ∙ ap (λ (ts : List Token). head_tokens (codes "has") ++ ts)
    (append_assoc (json_tokens found) left more
    ∙ ap (λ (ts : List Token). ts ++ (left ++ more)) (found_tokens (first ∷ before) a)
    ∙ append_assoc (heads (codes ".") (suc (length before))) (json_tokens a ++ get_tails (first ∷ before)) (left ++ more)
    ∙ ap (λ (ts : List Token). heads (codes ".") (suc (length before)) ++ ts) (append_assoc (json_tokens a) (get_tails (first ∷ before)) (left ++ more)
    ∙ ap (λ (j : Json). json_tokens a ++ (get_tails (first ∷ before) ++ (left ++ (Token.end_object ∷ Token.end_object ∷ (has_tails j after ++ old))))) (sym (found_last before attr (get_json a first))))))

abbrev HasGo : (a : Json) (n : ℕ) (called : List (List ℕ) → List (List ℕ)) → List ℕ → List (List ℕ) → ℕ → List Todo → List Todo → Type 0
HasGo a heft called first rest n old new =
    Goes (has_tails (found_by (first ∷ take n rest) a) (drop n rest)) (suc (has_weights (heft + 10 * n) (drop n rest))) (λ c. as_often (drop n rest) called c) old new

pub has_none : (a : Json) (heft : ℕ) (called : List (List ℕ) → List (List ℕ)) (first : List ℕ) (rest : List (List ℕ)) (n : ℕ) (old : List Todo) → length rest ≤ n → HasGo a heft called first rest n old old
has_none a heft called first rest n old e =
    subst (λ ds. Goes (has_tails (found_by (first ∷ take n rest) a) ds) (suc (has_weights (heft + 10 * n) ds)) (λ c. as_often ds called c) old old)
    (sym (drop_all n rest e)) (refl, omega arith, refl)

-- what the next question, and the others behind it, weigh
abbrev pub weighed : ℕ → ℕ → List (List ℕ) → List (List ℕ) → ℕ → ℕ
weighed heft n before after old =
    1 + (1 + (1 + (1 + (1 + (suc (5 * n) + (heft + (1 + (1 + (1 + (1 + (suc (5 * length before)
    + (1 + (1 + (1 + (1 + (1 + (1 + (suc (has_weights (heft + 10 * n) after) + old))))))))))))))))))

next_asked : (a : Json) (heft : ℕ) (called : List (List ℕ) → List (List ℕ)) (first attr : List ℕ) (rest : List (List ℕ)) (n : ℕ) (old new : List Todo) → n < length rest → (d : List ℕ) → attr ≡ get_or rest n d → all_tokens new ≡ asked_tokens a (suc n) first (take n rest) attr (has_tails (found_by (first ∷ take (suc n) rest) a) (drop (suc n) rest) ++ all_tokens old) → all_weights new ≡ weighed heft (suc n) (take n rest) (drop (suc n) rest) (all_weights old) → all_called new ≡ called (as_often (drop (suc n) rest) called (all_called old)) → HasGo a heft called first rest n old new
next_asked a heft called first attr rest n old new e d i t l c =
    let after = drop (suc n) rest in
    let here : drop n rest ≡ attr ∷ after = drop-cons rest n d e ∙ ap (λ x. x ∷ after) (sym i) in
    let past : take (suc n) rest ≡ take n rest ++ attr ∷ [] = take-suc rest n d e ∙ ap (λ x. take n rest ++ x ∷ []) (sym i) in
    let count : length (take n rest) ≡ n = length-take-le n rest (omega (arith, e)) in
    let more : has_weights ((heft + 10 * n) + 10) after ≡ has_weights (heft + 10 * suc n) after = ap (λ k. has_weights k after) (omega arith) in
    subst (λ ds. Goes (has_tails (found_by (first ∷ take n rest) a) ds) (suc (has_weights (heft + 10 * n) ds)) (λ c. as_often ds called c) old new)
    (sym here) (
      t
          ∙ ap₂ (λ (k : ℕ) (b : List (List ℕ)). asked_tokens a (suc k) first (take n rest) attr (has_tails (found_by (first ∷ b) a) after ++ all_tokens old)) (sym count) past
          ∙ sym (asked a first (take n rest) attr after (all_tokens old)),
      omega (arith, l, count, more),
      c,
    )

pub has_some : (a : Json) (heft : ℕ) (called : List (List ℕ) → List (List ℕ)) (first attr : List ℕ) (rest : List (List ℕ)) (n k : ℕ) (old new : List Todo) → n < length rest → k ≡ suc n → (d : List ℕ) → attr ≡ get_or rest n d → all_tokens new ≡ asked_tokens a k first (take n rest) attr (has_tails (found_by (first ∷ take k rest) a) (drop k rest) ++ all_tokens old) → all_weights new ≡ weighed heft k (take n rest) (drop k rest) (all_weights old) → all_called new ≡ called (as_often (drop k rest) called (all_called old)) → HasGo a heft called first rest n old new
has_some a heft called first attr rest n k old new e same_count d i =
    subst (λ (m : ℕ). all_tokens new ≡ asked_tokens a m first (take n rest) attr (has_tails (found_by (first ∷ take m rest) a) (drop m rest) ++ all_tokens old) → all_weights new ≡ weighed heft m (take n rest) (drop m rest) (all_weights old) → all_called new ≡ called (as_often (drop m rest) called (all_called old)) → HasGo a heft called first rest n old new)
    (sym same_count) (next_asked a heft called first attr rest n old new e d i)
