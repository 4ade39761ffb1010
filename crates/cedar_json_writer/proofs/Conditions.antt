-- Conditions that were joined, one after another.
use Rattle.std.proofs.Common.{◌≡◌, ℕ, ◌+◌, ◌<◌, true, false, List, [], ◌∷◌, ◌++◌, codes, refl, ap, sym, ◌∙◌, append-nil, append_assoc, arith, Result, Ok, Err, subst}
use Rattle.std.proofs.lemmas.Result.{on_ok_weaker}
use Rattle.std.specs.List.{flat_map}
use Rattle.std.specs.Result.{IsErrAnd}
use Rattle.json.specs.Token.{Token}
use Rattle.json.specs.Json.{Json}
use Rattle.json.specs.Written.{Written}
use Rattle.json.specs.Tree.{json_tokens, items_tokens}
use Rattle.cedar_expressions.specs.declared.expr.Expr.{Expr}
use Rattle.cedar_expressions.specs.Meaning.{expr_meaning, unplaced}
use Rattle.cedar_expressions.specs.Value as v
use Rattle.cedar_expressions.specs.Value.{Value}
use Rattle.cedar_expressions.specs.WithoutPlaces.{without_places}
use Rattle.cedar_expressions.specs.Path.{name_text}
use Rattle.cedar_json_writer.specs.declared.todo.Todo.{Todo}
use Rattle.cedar_json_writer.specs.declared.todo.Todo.TheVariants as todo
use Rattle.cedar_json_writer.specs.declared.refusal.ToJsonError.{ToJsonError}
use Rattle.cedar_json_writer.specs.declared.refusal.ToJsonError.TheVariants.{Memory, OperatorKey}
use Rattle.cedar_json_writer.specs.Forms.{value_json}
use Rattle.cedar_json_writer.specs.FunctionKeys.{keys_called, key_before, is_operator_key}
use Rattle.cedar_json_writer.specs.PolicyForms.{body_json, condition_json, condition_items, conditions_apart}
use Rattle.cedar_json_writer.specs.Texts.{TellsFirst}
use Rattle.cedar_json_writer.specs.machines.Outputs.{Appends, Checks}
use Rattle.cedar_json_writer.specs.machines.Pending.{weight, key_next, todo_called}
use Rattle.cedar_json_writer.specs.machines.Shapes.{is_a_negation, is_conjoined}
use Rattle.cedar_json_writer.proofs.Steps.{Wrote, wrote_more, wrote_all, split, Added, in_turn}
use Rattle.cedar_json_writer.proofs.WithoutPlaces.{same_form, same_keys}

pub true_false : true ≡ false → ⊥
true_false e = cc

-- ---- by the form

pub when_form : (a : Value) → is_a_negation a ≡ false → condition_json (without_places a) ≡ body_json (codes "when") (without_places a)
unfolding without_places
when_form (v.not a) e = absurd (true_false e)
when_form a e = refl

pub unless_form : (a b : Value) → a ≡ v.not b → condition_json (without_places a) ≡ body_json (codes "unless") (without_places b)
unfolding without_places
unless_form a b e = ap (λ (x : Value). condition_json (without_places x)) e

pub unless_called : (a b : Value) → a ≡ v.not b → keys_called (without_places a) [] ≡ keys_called (without_places b) []
unfolding without_places keys_called
unless_called a b e = ap (λ (x : Value). keys_called (without_places x) []) e

alone_apart : (a : Value) → is_conjoined a ≡ false → conditions_apart (without_places a) ≡ without_places a ∷ []
unfolding without_places conditions_apart
alone_apart (v.and a b) e = absurd (true_false e)
alone_apart a e = refl

both_apart : (a b c : Value) → a ≡ v.and b c → conditions_apart (without_places a) ≡ without_places b ∷ conditions_apart (without_places c)
unfolding without_places conditions_apart
both_apart a b c e = ap (λ (x : Value). conditions_apart (without_places x)) e

-- ---- one after another

abbrev pub apart : Expr → List Value
apart e = conditions_apart (unplaced e)

abbrev pub apart_tokens : List Value → List Token
apart_tokens cs = flat_map (λ c. json_tokens (condition_json c)) cs

abbrev pub apart_called : List Value → List (List ℕ)
apart_called cs = flat_map (λ c. keys_called c []) cs

now_both : (left x y : Expr) → expr_meaning left ≡ v.and (expr_meaning x) (expr_meaning y) → apart left ≡ unplaced x ∷ apart y
unfolding unplaced
now_both left x y e = both_apart (expr_meaning left) (expr_meaning x) (expr_meaning y) e

now_alone : (left : Expr) → is_conjoined (expr_meaning left) ≡ false → apart left ≡ unplaced left ∷ []
unfolding unplaced
now_alone left e = alone_apart (expr_meaning left) e

-- those that are left of all
pub record Parted (first out : Written) (all left : Expr) : Type 0 where
  pub wrote : Wrote first out (apart_tokens (apart all)) (apart_tokens (apart left))
  pub called : apart_called (apart all) ≡ apart_called (apart left)

pub none_parted : (out : Written) (all : Expr) → Parted out out all all
none_parted out all = record { wrote = record { before = refl; tokens = refl }; called = refl }

pub parted_more : (first out next : Written) (all left x y : Expr) → expr_meaning left ≡ v.and (expr_meaning x) (expr_meaning y) → Parted first out all left → (next.before ≡ out.before) × (next.tokens ≡ out.tokens ++ json_tokens (condition_json (unplaced x))) → keys_called (unplaced x) [] ≡ [] → Parted first next all y
parted_more first out next all left x y e p h free =
    let both = now_both left x y e in
    record {
      wrote = wrote_more first out next (apart_tokens (apart all)) (apart_tokens (apart left)) (json_tokens (condition_json (unplaced x))) (apart_tokens (apart y)) (ap apart_tokens both) p.wrote h;
      called = p.called ∙ ap apart_called both ∙ ap (λ (ks : List (List ℕ)). ks ++ apart_called (apart y)) free;
    }

pub less_left : (left x y : Expr) → expr_meaning left ≡ v.and (expr_meaning x) (expr_meaning y) → weight (expr_meaning y) < weight (expr_meaning left)
unfolding weight
less_left left x y e =
    let sum : weight (expr_meaning left) ≡ weight (expr_meaning x) + weight (expr_meaning y) + 20 = ap weight e in
    omega (arith, sum)

-- ---- refusals

-- a refusal tells the first of some, and so the first where others stand behind them
pub told_before : (whole part rest : List (List ℕ)) (e : ToJsonError) → whole ≡ part ++ rest → TellsFirst part e → TellsFirst whole e
told_before whole part rest (Memory want) is t = tt
told_before whole part rest (OperatorKey name) is t = (t.0 ++ rest, is ∙ ap (λ (ks : List (List ℕ)). ks ++ rest) t.1)

pub parted_refused : (first out : Written) (all left x y : Expr) (why : ToJsonError) → expr_meaning left ≡ v.and (expr_meaning x) (expr_meaning y) → Parted first out all left → TellsFirst (keys_called (unplaced x) []) why → TellsFirst (apart_called (apart all)) why
parted_refused first out all left x y why e p t =
    told_before (apart_called (apart all)) (keys_called (unplaced x) []) (apart_called (apart y)) why (p.called ∙ ap apart_called (now_both left x y e)) t

-- the last one
pub last_tokens : (r : Result (Unit {0}) ToJsonError) (first out next : Written) (all left : Expr) → is_conjoined (expr_meaning left) ≡ false → Parted first out all left → Appends r out next (json_tokens (condition_json (unplaced left))) → Appends r first next (apart_tokens (apart all))
last_tokens r first out next all left e p h =
    on_ok_weaker r (λ w. wrote_all first next (apart_tokens (apart all)) [] refl (wrote_more first out next (apart_tokens (apart all)) (apart_tokens (apart left)) (json_tokens (condition_json (unplaced left))) [] (ap apart_tokens (now_alone left e)) p.wrote w)) h

pub checks_same : (r : Result (Unit {0}) ToJsonError) (called same : List (List ℕ)) → same ≡ called → Checks called r → Checks same r
checks_same r called same e h = subst (λ (ks : List (List ℕ)). Checks ks r) (sym e) h

pub last_called : (r : Result (Unit {0}) ToJsonError) (first out : Written) (all left : Expr) → is_conjoined (expr_meaning left) ≡ false → Parted first out all left → Checks (keys_called (unplaced left) []) r → Checks (apart_called (apart all)) r
last_called r first out all left e p h =
    checks_same r (keys_called (unplaced left) []) (apart_called (apart all)) (p.called ∙ ap apart_called (now_alone left e) ∙ append-nil (keys_called (unplaced left) [])) h

-- ---- refusals that are handed on

pub handed_on : {T : Type 0} (r : Result T ToJsonError) (why : ToJsonError) (P : Result T ToJsonError → Type 0) → IsErrAnd r (λ e. e ≡ why) → P (Err why) → P r
handed_on (Ok x) why P is p = absurd is
handed_on (Err e) why P is p = subst (λ (x : ToJsonError). P (Err x)) (sym is) p

pub next_refused : (next : Todo) (others : List (List ℕ)) (why : ToJsonError) → TellsFirst (key_next next) why → TellsFirst (todo_called next others) why
next_refused next others (Memory want) t = tt
next_refused (todo.Function name) others (OperatorKey text) t =
    told_before (key_before (name_text name.now) others) (key_before (name_text name.now) []) others (OperatorKey text) (split (is_operator_key (name_text name.now)) (name_text name.now) others) t
next_refused next others (OperatorKey text) t = cc

-- ---- the items of an array

pub items_apart : (cs : List Value) → items_tokens (condition_items cs) ≡ apart_tokens cs ++ Token.end_array ∷ []
items_apart [] = refl
items_apart (c ∷ cs) =
    ap (λ (ts : List Token). json_tokens (condition_json c) ++ ts) (items_apart cs)
    ∙ sym (append_assoc (json_tokens (condition_json c)) (apart_tokens cs) (Token.end_array ∷ []))

-- ---- one condition

pub now_unless : (c a : Expr) → expr_meaning c ≡ v.not (expr_meaning a) → condition_json (unplaced c) ≡ body_json (codes "unless") (unplaced a)
unfolding unplaced
now_unless c a e = unless_form (expr_meaning c) (expr_meaning a) e

pub now_when : (c : Expr) → is_a_negation (expr_meaning c) ≡ false → condition_json (unplaced c) ≡ body_json (codes "when") (unplaced c)
unfolding unplaced
now_when c e = when_form (expr_meaning c) e

pub now_unless_called : (c a : Expr) → expr_meaning c ≡ v.not (expr_meaning a) → keys_called (unplaced c) [] ≡ keys_called (unplaced a) []
unfolding unplaced
now_unless_called c a e = unless_called (expr_meaning c) (expr_meaning a) e

pub called_unplaced : (e : Expr) → keys_called (unplaced e) [] ≡ keys_called (expr_meaning e) []
unfolding unplaced
called_unplaced e = same_keys (expr_meaning e) []

form_unplaced : (e : Expr) → value_json (unplaced e) ≡ value_json (expr_meaning e)
unfolding unplaced
form_unplaced e = same_form (expr_meaning e)

pub body_written : (a b c d : Written) (kind : List ℕ) (e : Expr) → Added a b (Token.begin_object ∷ Token.key (codes "kind") ∷ Token.string kind ∷ Token.key (codes "body") ∷ []) → Added b c (json_tokens (value_json (expr_meaning e))) → Added c d (Token.end_object ∷ []) → Added a d (json_tokens (body_json kind (unplaced e)))
body_written a b c d kind e h g f =
    let front : List Token = Token.begin_object ∷ Token.key (codes "kind") ∷ Token.string kind ∷ Token.key (codes "body") ∷ [] in
    let body : List Token = json_tokens (value_json (expr_meaning e)) in
    subst (λ (ts : List Token). Added a d ts)
    (append_assoc front body (Token.end_object ∷ []) ∙ ap (λ (j : Json). front ++ (json_tokens j ++ Token.end_object ∷ [])) (sym (form_unplaced e)))
    (in_turn a c d (front ++ body) (Token.end_object ∷ []) (in_turn a b c front body h g) f)

-- an array of them, as a member
pub array_written : (a b c d : Written) (cs : List Value) → Added a b (Token.key (codes "conditions") ∷ Token.begin_array ∷ []) → Added b c (apart_tokens cs) → Added c d (Token.end_array ∷ []) → Added a d (Token.key (codes "conditions") ∷ Token.begin_array ∷ items_tokens (condition_items cs))
array_written a b c d cs h g f =
    let front : List Token = Token.key (codes "conditions") ∷ Token.begin_array ∷ [] in
    subst (λ (ts : List Token). Added a d ts)
    (append_assoc front (apart_tokens cs) (Token.end_array ∷ []) ∙ ap (λ (ts : List Token). front ++ ts) (sym (items_apart cs)))
    (in_turn a c d (front ++ apart_tokens cs) (Token.end_array ∷ []) (in_turn a b c front (apart_tokens cs) h g) f)
