-- Parentheses around what stands whole change nothing of what all means.
use Rattle.std.proofs.Common.{◌≡◌, ℕ, List, [], ◌∷◌, ◌++◌, length, sym, ap, ◌∙◌, subst, append_assoc, append-nil}
use Rattle.cedar_lexer.specs.Token.{Lexeme}
use Rattle.cedar_lexer.specs.declared.token.TokenKind.{TokenKind}
use Rattle.cedar_lexer.specs.declared.token.TokenKind.TheVariants as kind
use Rattle.cedar_expressions.specs.Value.{Value}
use Rattle.cedar_expressions.specs.declared.entity.EntityUID.{EntityUID}
use Rattle.cedar_policy_store.specs.declared.constraints.ActionConstraint.{ActionConstraint}
use Rattle.cedar_policy_store.specs.declared.constraints.ActionConstraint.TheVariants as action
use Rattle.cedar_policy_store.specs.PlaceFree.{Constraint, equal_to, inside, typed_inside, Policy, Policies, Reference}
use Rattle.cedar_expressions.specs.Value as v
use Rattle.cedar_conversion.specs.strict.StrictWords.{path_value}
use Rattle.cedar_syntax.specs.tokens.Tokens.{Spot, one}
use Rattle.cedar_conversion.specs.strict.Extensions.{Extensions}
use Rattle.cedar_policy_conversion.specs.PolicyMeaning.{policy_id}
use Rattle.cedar_policy_parser.specs.meaning.StandsWhole as w
use Rattle.cedar_policy_parser.specs.meaning.StandsWhole.{InReference, InEntity, InAsks, InEntities, InActions, InAsksAction, InScope, InCondition, InConditions, InPolicy, InPolicies, StandsWhole}
use Rattle.cedar_conversion.specs.strict.Strict as m
use Rattle.cedar_conversion.specs.strict.Strict.{Means, expression}
use Rattle.cedar_policy_parser.specs.meaning.StrictPolicy as p
use Rattle.cedar_policy_parser.specs.meaning.StrictPolicy.{IsCondition, AreConditions, IsPolicy, ArePolicies, IsPolicySet}
use Rattle.cedar_policy_parser.specs.meaning.StrictScope as s
use Rattle.cedar_policy_parser.specs.meaning.StrictScope.{IsEntityAlone, IsReference, AreEntities, IsEntityList, AreActions, Asks, AsksAction, IsLastComma, IsScope}

-- tokens in parentheses
abbrev pub around : Spot → Spot → List Lexeme → List Lexeme
around l m vs = one kind.OpenParen l ++ vs ++ one kind.CloseParen m

-- the same holds with the tokens as they stand, and with parentheses around them
abbrev pub Twice : (List Lexeme → Type 0) → List Lexeme → List Lexeme → List Lexeme → Type 0
Twice P b vs a = P (b ++ vs ++ a) × ((l m : Spot) → P (b ++ around l m vs ++ a))

-- what stands around, one level further out
out : (P Q : List Lexeme → Type 0) (pre b vs a post : List Lexeme) → ((xs : List Lexeme) → P xs → Q (pre ++ xs ++ post)) → Twice P b vs a → Twice Q (pre ++ b) vs (a ++ post)
out P Q pre b vs a post rule h = (subst Q (regrouped vs) (rule (b ++ vs ++ a) h.0), λ l m. subst Q (regrouped (around l m vs)) (rule (b ++ around l m vs ++ a) (h.1 l m)))
  where
    regrouped : (xs : List Lexeme) → pre ++ (b ++ xs ++ a) ++ post ≡ (pre ++ b) ++ xs ++ (a ++ post)
    regrouped xs = ap (λ ys. ys ++ post) (sym (append_assoc pre (b ++ xs) a) ∙ ap (λ ys. ys ++ a) (sym (append_assoc pre b xs))) ∙ append_assoc ((pre ++ b) ++ xs) a post

-- the tokens themselves, at the end of others, and between two
at_end : (P Q : List Lexeme → Type 0) (pre vs : List Lexeme) → ((xs : List Lexeme) → P xs → Q (pre ++ xs)) → P vs → ((l m : Spot) → P (around l m vs)) → Twice Q pre vs []
at_end P Q pre vs rule h k = (subst Q (sym (append-nil (pre ++ vs))) (rule vs h), λ l m. subst Q (sym (append-nil (pre ++ around l m vs))) (rule (around l m vs) (k l m)))

between : (P Q : List Lexeme → Type 0) (pre vs post : List Lexeme) → ((xs : List Lexeme) → P xs → Q (pre ++ xs ++ post)) → P vs → ((l m : Spot) → P (around l m vs)) → Twice Q pre vs post
between P Q pre vs post rule h k = (rule vs h, λ l m. rule (around l m vs) (k l m))

-- with nothing behind
out_end : (P Q : List Lexeme → Type 0) (pre b vs a : List Lexeme) → ((xs : List Lexeme) → P xs → Q (pre ++ xs)) → Twice P b vs a → Twice Q (pre ++ b) vs a
out_end P Q pre b vs a rule h = subst (λ c. Twice Q (pre ++ b) vs c) (append-nil a) (out P Q pre b vs a [] (λ xs i. subst Q (sym (append-nil (pre ++ xs))) (rule xs i)) h)

in_reference : {slot : TokenKind} {b vs a : List Lexeme} {r : Reference} → InReference slot b vs a r → Twice (λ ts. IsReference slot ts r) b vs a
in_reference {slot = slot} (w.itself {vs = vs} {r = r} h) = at_end (λ ts. IsReference slot ts r) (λ ts. IsReference slot ts r) [] vs (λ xs i. i) h (λ l m. s.in_parentheses l m h)
in_reference {slot = slot} (w.in_parentheses {b = b} {vs = vs} {a = a} {r = r} l m i) = out (λ ts. IsReference slot ts r) (λ ts. IsReference slot ts r) (one kind.OpenParen l) b vs a (one kind.CloseParen m) (λ xs j. s.in_parentheses l m j) (in_reference i)

in_entity : {b vs a : List Lexeme} {uid : EntityUID} → InEntity b vs a uid → Twice (λ ts. IsEntityAlone ts uid) b vs a
in_entity (w.itself {vs = vs} {uid = uid} h) = at_end (λ ts. IsEntityAlone ts uid) (λ ts. IsEntityAlone ts uid) [] vs (λ xs i. i) h (λ l m. s.entity_in_parentheses l m h)
in_entity (w.in_parentheses {b = b} {vs = vs} {a = a} {uid = uid} l m i) = out (λ ts. IsEntityAlone ts uid) (λ ts. IsEntityAlone ts uid) (one kind.OpenParen l) b vs a (one kind.CloseParen m) (λ xs j. s.entity_in_parentheses l m j) (in_entity i)

in_asks : {slot : TokenKind} {b vs a : List Lexeme} {c : Constraint} → InAsks slot b vs a c → Twice (λ ts. Asks slot ts c) b vs a
in_asks {slot = slot} (w.to_be {b = b} {vs = vs} {a = a} {r = r} q i) = out_end (λ ts. IsReference slot ts r) (λ ts. Asks slot ts (equal_to r)) (one kind.EqEq q) b vs a (λ xs j. s.to_be q j) (in_reference i)
in_asks {slot = slot} (w.to_be_in {b = b} {vs = vs} {a = a} {r = r} q i) = out_end (λ ts. IsReference slot ts r) (λ ts. Asks slot ts (inside r)) (one kind.In q) b vs a (λ xs j. s.to_be_in q j) (in_reference i)
in_asks {slot = slot} (w.to_be_of_type_in {ts = ts} {b = b} {vs = vs} {a = a} {ids = ids} {id = id} {r = r} q o n i) =
    out_end (λ ts. IsReference slot ts r) (λ ts. Asks slot ts (typed_inside (record { name = path_value ids id }) r)) (one kind.Is q ++ ts ++ one kind.In o) b vs a (λ xs j. s.to_be_of_type_in q o n j) (in_reference i)

in_entities : {b vs a : List Lexeme} {uids : List EntityUID} → InEntities b vs a uids → Twice (λ ts. AreEntities ts uids) b vs a
in_entities (w.first {b = b} {vs = vs} {a = a} {uid = uid} i) = out_end (λ ts. IsEntityAlone ts uid) (λ ts. AreEntities ts (uid ∷ [])) [] b vs a (λ xs j. s.first_entity j) (in_entity i)
in_entities (w.last {ts = ts} {b = b} {vs = vs} {a = a} {uids = uids} {uid = uid} q h i) =
    out_end (λ ts. IsEntityAlone ts uid) (λ ts. AreEntities ts (uids ++ uid ∷ [])) (ts ++ one kind.Comma q) b vs a (λ xs j. s.more_entities q h j) (in_entity i)
in_entities (w.earlier {b = b} {vs = vs} {a = a} {us = us} {uids = uids} {uid = uid} q i h) =
    out (λ ts. AreEntities ts uids) (λ ts. AreEntities ts (uids ++ uid ∷ [])) [] b vs a (one kind.Comma q ++ us) (λ xs j. subst (λ ts. AreEntities ts (uids ++ uid ∷ [])) (append_assoc xs (one kind.Comma q) us) (s.more_entities q j h)) (in_entities i)

with_comma : {ts us : List Lexeme} {uids : List EntityUID} → AreEntities ts uids → IsLastComma us → IsEntityList (ts ++ us) uids
with_comma {ts = ts} {uids = uids} h s.no_comma = subst (λ xs. IsEntityList xs uids) (sym (append-nil ts)) (s.listed h)
with_comma h (s.last_comma q) = s.listed_comma q h

in_actions : {b vs a : List Lexeme} {uids : List EntityUID} → InActions b vs a uids → Twice (λ ts. AreActions ts uids) b vs a
in_actions (w.one_action {vs = vs} {uid = uid} h) = at_end (λ ts. AreActions ts (uid ∷ [])) (λ ts. AreActions ts (uid ∷ [])) [] vs (λ xs i. i) (s.one_action h) (λ l m. s.actions_in_parentheses l m (s.one_action h))
in_actions (w.in_set {b = b} {vs = vs} {a = a} {us = us} {uids = uids} l m i c) =
    out (λ ts. AreEntities ts uids) (λ ts. AreActions ts uids) (one kind.OpenBracket l) b vs a (us ++ one kind.CloseBracket m)
    (λ xs j. subst (λ ts. AreActions ts uids) (ap (λ ys. ys ++ one kind.CloseBracket m) (sym (append_assoc (one kind.OpenBracket l) xs us)) ∙ append_assoc (one kind.OpenBracket l ++ xs) us (one kind.CloseBracket m)) (s.action_set l m (with_comma j c))) (in_entities i)
in_actions (w.in_parentheses {b = b} {vs = vs} {a = a} {uids = uids} l m i) =
    out (λ ts. AreActions ts uids) (λ ts. AreActions ts uids) (one kind.OpenParen l) b vs a (one kind.CloseParen m) (λ xs j. s.actions_in_parentheses l m j) (in_actions i)

in_asks_action : {b vs a : List Lexeme} {c : ActionConstraint} → InAsksAction b vs a c → Twice (λ ts. AsksAction ts c) b vs a
in_asks_action (w.to_be {b = b} {vs = vs} {a = a} {uid = uid} q i t) = out_end (λ ts. IsEntityAlone ts uid) (λ ts. AsksAction ts (action.Eq uid)) (one kind.EqEq q) b vs a (λ xs j. s.to_be q j t) (in_entity i)
in_asks_action (w.to_be_in {b = b} {vs = vs} {a = a} {uids = uids} q i t) = out_end (λ ts. AreActions ts uids) (λ ts. AsksAction ts (action.In uids)) (one kind.In q) b vs a (λ xs j. s.to_be_in q j t) (in_actions i)

-- behind others, one after another
three : (z a b c : List Lexeme) → z ++ a ++ b ++ c ≡ z ++ (a ++ b ++ c)
three z a b c = append_assoc (z ++ a) b c ∙ append_assoc z a (b ++ c) ∙ ap (λ ys. z ++ ys) (sym (append_assoc a b c))

five : (z a b c d e : List Lexeme) → z ++ a ++ b ++ c ++ d ++ e ≡ z ++ (a ++ b ++ c ++ d ++ e)
five z a b c d e = three (z ++ a ++ b) c d e ∙ ap (λ ys. ys ++ (c ++ d ++ e)) (append_assoc z a b) ∙ append_assoc z (a ++ b) (c ++ d ++ e) ∙ ap (λ ys. z ++ ys) (sym (three (a ++ b) c d e))

in_scope : {b xs a : List Lexeme} {c d : Constraint} {e : ActionConstraint} → InScope b xs a c e d → Twice (λ ts. IsScope ts c e d) b xs a
in_scope {c = c} {d = d} {e = e} (w.in_principal {b = b} {xs = xs} {a = a} {us = us} {vs = vs} {ws = ws} p l q m r i j k n) =
    out (λ ts. Asks kind.PrincipalSlot ts c) (λ ts. IsScope ts c e d) (one kind.Principal p) b xs a (one kind.Comma l ++ (one kind.Action q ++ us) ++ one kind.Comma m ++ (one kind.Resource r ++ vs) ++ ws)
    (λ ys h. subst (λ ts. IsScope ts c e d) (five (one kind.Principal p ++ ys) (one kind.Comma l) (one kind.Action q ++ us) (one kind.Comma m) (one kind.Resource r ++ vs) ws) (s.scope p l q m r h j k n)) (in_asks i)
in_scope {c = c} {d = d} {e = e} (w.in_action {ts = ts} {b = b} {xs = xs} {a = a} {vs = vs} {ws = ws} p l q m r i j k n) =
    let pre = (one kind.Principal p ++ ts) ++ one kind.Comma l in
    out (λ ts. AsksAction ts e) (λ ts. IsScope ts c e d) (pre ++ one kind.Action q) b xs a (one kind.Comma m ++ (one kind.Resource r ++ vs) ++ ws)
    (λ ys h. subst (λ ts. IsScope ts c e d) (ap (λ zs. zs ++ one kind.Comma m ++ (one kind.Resource r ++ vs) ++ ws) (sym (append_assoc pre (one kind.Action q) ys)) ∙ three (pre ++ one kind.Action q ++ ys) (one kind.Comma m) (one kind.Resource r ++ vs) ws) (s.scope p l q m r i h k n)) (in_asks_action j)
in_scope {c = c} {d = d} {e = e} (w.in_resource {ts = ts} {us = us} {b = b} {xs = xs} {a = a} {ws = ws} p l q m r i j k n) =
    let pre = (one kind.Principal p ++ ts) ++ one kind.Comma l ++ (one kind.Action q ++ us) ++ one kind.Comma m in
    out (λ ts. Asks kind.ResourceSlot ts d) (λ ts. IsScope ts c e d) (pre ++ one kind.Resource r) b xs a ws
    (λ ys h. subst (λ ts. IsScope ts c e d) (ap (λ zs. zs ++ ws) (sym (append_assoc pre (one kind.Resource r) ys))) (s.scope p l q m r i j h n)) (in_asks k)

-- a whole expression in parentheses
enclosed : {e : Extensions} {limit : ℕ} {vs : List Lexeme} {a : Value} (l m : Spot) → Means e limit expression vs a → Means e limit expression (around l m vs) a
enclosed l n h = m.one_disjunction (m.one_conjunction (m.one_relation (m.one_sum (m.one_product (m.one_signed (m.unsigned (m.bare (m.parenthesized l n h))))))))

in_condition : {e : Extensions} {limit : ℕ} {b vs a : List Lexeme} {c : Value} → InCondition e limit b vs a c → Twice (λ ts. IsCondition e limit ts c) b vs a
in_condition {e = e} {limit = limit} {c = c} (w.when {vs = vs} q l n h t) =
    between (λ ts. Means e limit expression ts c) (λ ts. IsCondition e limit ts c) (one kind.When q ++ one kind.OpenBrace l) vs (one kind.CloseBrace n) (λ xs i. p.when q l n i t) h (λ l n. enclosed l n h)
in_condition {e = e} {limit = limit} (w.unless {vs = vs} {a = x} q l n h t) =
    between (λ ts. Means e limit expression ts x) (λ ts. IsCondition e limit ts (v.not x)) (one kind.Unless q ++ one kind.OpenBrace l) vs (one kind.CloseBrace n) (λ xs i. p.unless q l n i t) h (λ l n. enclosed l n h)

in_conditions : {e : Extensions} {limit : ℕ} {b vs a : List Lexeme} {cs : List Value} → InConditions e limit b vs a cs → Twice (λ ts. AreConditions e limit ts cs) b vs a
in_conditions {e = e} {limit = limit} (w.last {ts = ts} {b = b} {vs = vs} {a = a} {cs = cs} {c = c} h i) = out_end (λ ts. IsCondition e limit ts c) (λ ts. AreConditions e limit ts (cs ++ c ∷ [])) ts b vs a (λ xs j. p.more_conditions h j) (in_condition i)
in_conditions {e = e} {limit = limit} (w.earlier {b = b} {vs = vs} {a = a} {us = us} {cs = cs} {c = c} i h) = out (λ ts. AreConditions e limit ts cs) (λ ts. AreConditions e limit ts (cs ++ c ∷ [])) [] b vs a us (λ xs j. p.more_conditions j h) (in_conditions i)

in_policy : {e : Extensions} {limit : ℕ} {id : List ℕ} {b vs a : List Lexeme} {x : Policy} → InPolicy e limit id b vs a x → Twice (λ ts. IsPolicy e limit id ts x) b vs a
in_policy {e = e} {limit = limit} {id = id} {x = x} (w.in_scope {ts = ts} {b = b} {xs = xs} {a = a} {vs = vs} {k = k} {principal = principal} {resource = resource} {c = c} q l n z h d f i j) =
    let pre = ts ++ one k q ++ one kind.OpenParen l in
    out (λ ts. IsScope ts principal c resource) (λ ts. IsPolicy e limit id ts x) pre b xs a (one kind.CloseParen n ++ vs ++ one kind.Semicolon z)
    (λ ys o. subst (λ ts. IsPolicy e limit id ts x) (three (pre ++ ys) (one kind.CloseParen n) vs (one kind.Semicolon z)) (p.policy q l n z h d f o j)) (in_scope i)
in_policy {e = e} {limit = limit} {id = id} {x = x} (w.in_conditions {ts = ts} {us = us} {b = b} {xs = xs} {a = a} {k = k} {conditions = cs} q l n z h d f i j) =
    out (λ ts. AreConditions e limit ts cs) (λ ts. IsPolicy e limit id ts x) (ts ++ one k q ++ one kind.OpenParen l ++ us ++ one kind.CloseParen n) b xs a (one kind.Semicolon z) (λ ys o. p.policy q l n z h d f i o) (in_conditions j)

in_policies : {e : Extensions} {limit : ℕ} {b vs a : List Lexeme} {ps : List Policy} → InPolicies e limit b vs a ps → Twice (λ ts. ArePolicies e limit ts ps) b vs a
in_policies {e = e} {limit = limit} (w.last {ts = ts} {b = b} {vs = vs} {a = a} {ps = ps} {p = x} h i) = out_end (λ ts. IsPolicy e limit (policy_id (length ps)) ts x) (λ ts. ArePolicies e limit ts (ps ++ x ∷ [])) ts b vs a (λ xs j. p.more_policies h j) (in_policy i)
in_policies {e = e} {limit = limit} (w.earlier {b = b} {vs = vs} {a = a} {us = us} {ps = ps} {p = x} i h) = out (λ ts. ArePolicies e limit ts ps) (λ ts. ArePolicies e limit ts (ps ++ x ∷ [])) [] b vs a us (λ xs j. p.more_policies j h) (in_policies i)

pub set_in_parentheses : (e : Extensions) (limit : ℕ) (before vs after : List Lexeme) (set : Policies) → StandsWhole e limit before vs after set → IsPolicySet e limit (before ++ vs ++ after) set × ((l m : Spot) → IsPolicySet e limit (before ++ (one kind.OpenParen l ++ vs ++ one kind.CloseParen m) ++ after) set)
set_in_parentheses e limit before vs after _ (w.in_set i) = let h = in_policies i in (p.policy_set h.0, λ l m. p.policy_set (h.1 l m))
