-- What a text's policies are converted to is what their tokens mean.
use Rattle.std.proofs.Common.{◌≡◌, ◌+◌, ℕ, suc, List, [], ◌∷◌, ◌++◌, map, length, Option, Ok, refl, sym, ap, ◌∙◌, false}
use Rattle.std.specs.FinMap.{FinMap}
use Rattle.std.specs.List.{fold}
use Rattle.std.specs.Map.{keys_of}
use Rattle.cedar_lexer.specs.Token.{Lexeme}
use Rattle.cedar_lexer.specs.declared.token.TokenKind.{TokenKind}
use Rattle.cedar_lexer.specs.declared.token.TokenKind.TheVariants as kind
use Rattle.cedar_policy_store.specs.declared.effect.Effect.{Effect}
use Rattle.cedar_policy_store.specs.declared.effect.Effect.TheVariants as effects
use Rattle.cedar_policy_store.specs.PlaceFree as free
use Rattle.cedar_policy_store.specs.TextMap.{text_order}
use Rattle.cedar_syntax.specs.declared.loc.Loc.{Loc}
use Rattle.cedar_syntax.specs.declared.cst.Ident.{Ident}
use Rattle.cedar_syntax.specs.declared.cst.Policies.{Policies}
use Rattle.cedar_syntax.specs.declared.cst.Policy.{Policy}
use Rattle.cedar_syntax.specs.tokens.Signs.{sign_limit}
use Rattle.cedar_grammar.specs.grammar.LoosePolicies as l
use Rattle.cedar_grammar.specs.grammar.LoosePolicies.{ReadsMany, ReadsPolicies, ReadsPolicy}
use Rattle.cedar_grammar.specs.grammar.LooseWords as lw
use Rattle.cedar_grammar.specs.grammar.LooseWords.{ReadsAny}
use Rattle.cedar_grammar.specs.grammar.Place.{placed}
use Rattle.cedar_syntax.specs.tokens.Tokens.{Spot, one, any_of}
use Rattle.cedar_syntax.specs.trees.Trees.{Cell}
use Rattle.cedar_expressions.specs.Keys.{repeats_key}
use Rattle.cedar_policy_conversion.specs.AnnotationKeys.{AnnotationContent, annotations_outcome}
use Rattle.cedar_policy_conversion.specs.Conditions.{conditions_outcome}
use Rattle.cedar_conversion.specs.outcome.Conversion.{with_first}
use Rattle.cedar_conversion.specs.strict.Extensions.{Extensions}
use Rattle.cedar_conversion.specs.parts.Names.{content_outcome}
use Rattle.cedar_conversion.specs.outcome.Outcome.{Outcome, both, next, item_more}
use Rattle.cedar_policy_conversion.specs.Policies as k
use Rattle.cedar_policy_conversion.specs.Policies.{TemplateParts}
use Rattle.cedar_policy_conversion.specs.PolicyMeaning.{joint_condition, no_policies, policy_id, with_policy}
use Rattle.cedar_policy_conversion.specs.Scope.{elements_outcome}
use Rattle.cedar_policy_parser.specs.meaning.StrictPolicy as m
use Rattle.cedar_policy_parser.specs.meaning.StrictPolicy.{ArePolicies, IsEffect, IsPolicy, IsPolicySet, by_key}
use Rattle.cedar_conversion.proofs.Inverted.{ok_is, next_ok, both_ok}
use Rattle.cedar_conversion.proofs.Loops.{map_snoc}
use Rattle.cedar_policy_parser.proofs.sound.Annotated.{annotation_keys, annotations_meant, kept_by_key, texts}
use Rattle.cedar_policy_parser.proofs.sound.Clauses.{conditions_meant}
use Rattle.cedar_policy_parser.proofs.sound.Scopes.{scope_meant}
use Rattle.cedar_policy_conversion.proofs.SetSteps.{zero-plus, numbered_snoc}

-- ---- a policy

effect_as : {j : TokenKind} (a b : Effect) → a ≡ b → IsEffect j a → IsEffect j b
effect_as a b h i = rw (← h) i

kind_effect : (j : TokenKind) (text : List ℕ) (place : Option Loc) (x : Effect) → next (content_outcome place (any_of j text)) (k.effect_of place) ≡ Ok x → IsEffect j x
kind_effect kind.Permit text place x h = effect_as effects.Permit x (ok_is h) m.permit
kind_effect kind.Forbid text place x h = effect_as effects.Forbid x (ok_is h) m.forbid
kind_effect _ text place x h = cc

effect_word : (src : List ℕ) {ts : List Lexeme} {i : Ident} (x : Effect) → ReadsAny ts i → k.effect_outcome (placed src ts i) ≡ Ok x → (j : TokenKind) × (p : Spot) × IsEffect j x × (ts ≡ one j p)
effect_word src {ts = ts} {i = i} x (lw.any {k = j} p h) g =
    (j, p, kind_effect j p.text (placed src ts i).loc x (ap (λ o. next (content_outcome (placed src ts i).loc o) (k.effect_of (placed src ts i).loc)) h ∙ g), refl)

-- the keys of annotations with their texts are the annotations'
texts_differ : (all : List AnnotationContent) → repeats_key (annotation_keys all) ≡ false → repeats_key (keys_of (texts all)) ≡ false
texts_differ all h = rw (same_keys all) h
  where
    same_keys : (bs : List AnnotationContent) → keys_of (texts bs) ≡ annotation_keys bs
    same_keys [] = refl
    same_keys (b ∷ bs) = ap (λ ns. b.key ∷ ns) (same_keys bs)

-- what parts mean with these annotations
abbrev pub value_of : List ℕ → k.Given → FinMap text_order (List ℕ) → free.Policy
value_of id p notes = record {
  id = id;
  annotations = notes;
  effect = p.0.0;
  principal = free.constraint_meaning p.1.0.0.constraint;
  action = p.1.0.1;
  resource = free.constraint_meaning p.1.0.2.constraint;
  condition = joint_condition p.1.1;
}

-- a policy by its parts
policy_at : {e : Extensions} {id : List ℕ} {us vs : List Lexeme} (x y : free.Policy) → us ≡ vs → x ≡ y → IsPolicy e sign_limit id us x → IsPolicy e sign_limit id vs y
policy_at x y h g i = rw (← h, ← g) i

pub policy_meant : {src : List ℕ} {ts : List Lexeme} {x : Policy} (e : Extensions) (id : List ℕ) (t : TemplateParts) → ReadsPolicy src ts x → k.template_outcome e id (placed src ts x) ≡ Ok t → IsPolicy e sign_limit id ts (k.meaning_of t)
policy_meant {src = src} {ts = all} e id t (l.policy {ts = ts} {us = us} {vs = vs} {ws = ws} {xs = xs} {i = i} {ys = ys} {zs = zs} o c s ar r vr cr) h =
    let place = (placed src us i).loc in
    let a = next_ok (both (both (k.effect_outcome (placed src us i)) (k.kept_outcome xs)) (both (elements_outcome e place ys) (conditions_outcome e zs))) _ t h in
    let b = both_ok (both (k.effect_outcome (placed src us i)) (k.kept_outcome xs)) (both (elements_outcome e place ys) (conditions_outcome e zs)) a.0 a.1 in
    let f = both_ok (k.effect_outcome (placed src us i)) (k.kept_outcome xs) a.0.0 b.0 in
    let g = both_ok (elements_outcome e place ys) (conditions_outcome e zs) a.0.1 b.1 in
    let n = next_ok (annotations_outcome xs) _ a.0.0.1 f.1 in
    let notes = annotations_meant n.0 ar n.1 in
    let word = effect_word src a.0.0.0 r f.0 in
    let scope = scope_meant e place a.0.1.0 vr g.0 in
    let conds = conditions_meant e a.0.1.1 cr g.1 in
    let by_keys : free.with_values free.annotation_value a.0.0.1 ≡ by_key (texts n.0) = ap (free.with_values free.annotation_value) (sym (ok_is n.2)) ∙ kept_by_key n.0 in
    let value = ap (value_of id a.0) (sym by_keys) ∙ ap k.meaning_of (ok_is a.2) in
    let tokens = ap (λ ws2. ts ++ ws2 ++ one kind.OpenParen o ++ vs ++ one kind.CloseParen c ++ ws ++ one kind.Semicolon s) (sym word.3) in
    policy_at (value_of id a.0 (by_key (texts n.0))) (k.meaning_of t) tokens value (m.policy word.1 o c s notes.mean (texts_differ n.0 notes.differ) word.2 scope conds)

-- ---- sets

pub given_many : (e : Extensions) (i : ℕ) (ps : List (Cell Policy)) (ts : List TemplateParts) → k.policies_from e i ps ≡ Ok ts → length ts ≡ length ps
given_many e i [] ts h = ap length (sym (ok_is h))
given_many e i (p ∷ ps) ts h =
    let a = next_ok (both (k.template_outcome e (policy_id i) p) (k.policies_from e (suc i) ps)) with_first ts h in
    let b = both_ok (k.template_outcome e (policy_id i) p) (k.policies_from e (suc i) ps) a.0 a.1 in
    ap length (sym (ok_is a.2)) ∙ ap suc (given_many e (suc i) ps a.0.1 b.1)

pub meant_length : (ts : List TemplateParts) → length (map k.meaning_of ts) ≡ length ts
meant_length [] = refl
meant_length (t ∷ ts) = ap suc (meant_length ts)

policies_as : {e : Extensions} {ts : List Lexeme} (xs ys : List free.Policy) → xs ≡ ys → ArePolicies e sign_limit ts xs → ArePolicies e sign_limit ts ys
policies_as xs ys h i = rw (← h) i

more_ok : {X : Type 0} (o : Outcome (List X)) (x : Outcome X) (zs : List X) → item_more o x ≡ Ok zs → (ys : List X) × (y : X) × (o ≡ Ok ys) × (x ≡ Ok y) × (zs ≡ ys ++ y ∷ [])
more_ok o x zs h =
    let a = next_ok (both o x) _ zs h in
    let b = both_ok o x a.0 a.1 in
    (a.0.0, a.0.1, b.0, b.1, sym (ok_is a.2))

named_as : {e : Extensions} {ts : List Lexeme} {x : free.Policy} (i j : ℕ) → i ≡ j → IsPolicy e sign_limit (policy_id i) ts x → IsPolicy e sign_limit (policy_id j) ts x
named_as i j h p = rw (← h) p

policies_meant : {src : List ℕ} {ts : List Lexeme} {xs : List (Cell Policy)} (e : Extensions) (ps : List TemplateParts) → ReadsMany src (ReadsPolicy src) ts xs → k.policies_from e 0 xs ≡ Ok ps → ArePolicies e sign_limit ts (map k.meaning_of ps)
policies_meant e ps l.none h = policies_as [] (map k.meaning_of ps) (ap (map k.meaning_of) (ok_is h)) m.no_policy
policies_meant {src = src} e ps (l.more {us = us} {xs = xs} {y = y} r s) h =
    let n = placed src us y in
    let snoc = numbered_snoc e 0 xs n in
    let a = more_ok (k.policies_from e 0 xs) (k.template_outcome e (policy_id (0 + length xs)) n) ps (sym snoc ∙ h) in
    let count : 0 + length xs ≡ length (map k.meaning_of a.0) = zero-plus (length xs) ∙ sym (meant_length a.0 ∙ given_many e 0 xs a.0 a.2) in
    let last_one = named_as (0 + length xs) (length (map k.meaning_of a.0)) count (policy_meant e (policy_id (0 + length xs)) a.1 s a.3) in
    policies_as (map k.meaning_of a.0 ++ k.meaning_of a.1 ∷ []) (map k.meaning_of ps) (sym (ap (map k.meaning_of) a.4 ∙ map_snoc k.meaning_of a.0 a.1)) (m.more_policies (policies_meant e a.0 r a.2) last_one)

pub folded_meanings : (set : free.Policies) (ts : List TemplateParts) → fold k.with_parts set ts ≡ fold with_policy set (map k.meaning_of ts)
folded_meanings set [] = refl
folded_meanings set (t ∷ ts) = folded_meanings (with_policy set (k.meaning_of t)) ts

set_as : {e : Extensions} {ts : List Lexeme} (x y : free.Policies) → x ≡ y → IsPolicySet e sign_limit ts x → IsPolicySet e sign_limit ts y
set_as x y h i = rw (← h) i

pub set_meant : {src : List ℕ} {ts : List Lexeme} {x : Policies} (e : Extensions) (set : free.Policies) → ReadsPolicies src ts x → k.policies_outcome e (placed src ts x) ≡ Ok set → IsPolicySet e sign_limit ts set
set_meant e set (l.policies {xs = xs} r) h =
    let a = next_ok (k.policies_from e 0 xs) _ set h in
    set_as (fold with_policy no_policies (map k.meaning_of a.0)) set (sym (folded_meanings no_policies a.0) ∙ ok_is a.2) (m.policy_set (policies_meant e a.0 r a.1))
