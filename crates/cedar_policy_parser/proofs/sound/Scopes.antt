-- A scope is held of its tokens.
use Rattle.std.proofs.Common.{◌≡◌, ℕ, List, [], ◌∷◌, ◌++◌, append-nil, drop, slice_get, Option, Ok, Err, refl, sym, ap, ◌∙◌}
use Rattle.cedar_lexer.specs.Token.{Lexeme}
use Rattle.cedar_lexer.specs.declared.token.TokenKind.{TokenKind}
use Rattle.cedar_lexer.specs.declared.token.TokenKind.TheVariants as kind
use Rattle.cedar_expressions.specs.declared.atoms.Var.TheVariants as vars
use Rattle.cedar_policy_store.specs.declared.constraints.ActionConstraint.{ActionConstraint}
use Rattle.cedar_policy_store.specs.declared.constraints.PrincipalConstraint.{PrincipalConstraint}
use Rattle.cedar_policy_store.specs.declared.constraints.PrincipalOrResourceConstraint.{PrincipalOrResourceConstraint}
use Rattle.cedar_policy_store.specs.declared.constraints.ResourceConstraint.{ResourceConstraint}
use Rattle.cedar_policy_store.specs.PlaceFree.{Constraint, constraint_meaning}
use Rattle.cedar_syntax.specs.declared.loc.Loc.{Loc}
use Rattle.cedar_syntax.specs.declared.cst.VariableDef.{VariableDef}
use Rattle.cedar_grammar.specs.grammar.LoosePolicies.{ReadsVariableDef}
use Rattle.cedar_grammar.specs.grammar.LooseWords as lw
use Rattle.cedar_grammar.specs.grammar.LooseWords.{ReadsItems, ReadsList}
use Rattle.cedar_grammar.specs.grammar.Place.{placed}
use Rattle.cedar_syntax.specs.tokens.Tokens.{Spot, one}
use Rattle.cedar_syntax.specs.trees.Trees.{Cell}
use Rattle.cedar_conversion.specs.strict.Extensions.{Extensions}
use Rattle.cedar_conversion.specs.outcome.Outcome.{NamedFault, Outcome, both, next}
use Rattle.cedar_policy_conversion.specs.Scope as s
use Rattle.cedar_policy_conversion.specs.Scope.{Scope}
use Rattle.cedar_policy_parser.specs.meaning.StrictScope as z
use Rattle.cedar_policy_parser.specs.meaning.StrictScope.{IsLastComma, IsScope}
use Rattle.cedar_conversion.proofs.Inverted.{ok_is, next_ok, both_ok}
use Rattle.cedar_policy_parser.proofs.Lists.{no_snoc, snoc_one}
use Rattle.cedar_policy_parser.proofs.sound.Elements.{ActionMeant, ElementMeant, WordOf, principal_word, resource_word, action_meant, element_meant}
use Rattle.cedar_policy_parser.proofs.sound.Referred.{principal, resource}

-- ---- three elements and no more

parts_ok : (f : Outcome PrincipalConstraint) (g : Outcome ActionConstraint) (h : Outcome ResourceConstraint) (x : Outcome (Unit {0})) (t : Scope) → next (both (both f g) (both h x)) s.three ≡ Ok t
    → (f ≡ Ok t.0) × (g ≡ Ok t.1) × (h ≡ Ok t.2) × (u : Unit {0}) × (x ≡ Ok u)
parts_ok f g h x t e =
    let a = next_ok (both (both f g) (both h x)) s.three t e in
    let b = both_ok (both f g) (both h x) a.0 a.1 in
    let c = both_ok f g a.0.0 b.0 in
    let d = both_ok h x a.0.1 b.1 in
    let same = ok_is a.2 in
    (c.0 ∙ ap (λ q. Ok q.0) same, c.1 ∙ ap (λ q. Ok q.1) same, d.0 ∙ ap (λ q. Ok q.2) same, a.0.1.1, d.1)

pub record ThreeGiven (e : Extensions) (ns : List (Cell VariableDef)) (t : Scope) : Type 0 where
  pub first : Cell VariableDef
  pub second : Cell VariableDef
  pub third : Cell VariableDef
  pub these : ns ≡ first ∷ second ∷ third ∷ []
  pub principal : s.principal_outcome e first ≡ Ok t.0
  pub action : s.action_outcome e second ≡ Ok t.1
  pub resource : s.resource_outcome e third ≡ Ok t.2

abbrev first_of : Extensions → Option Loc → List (Cell VariableDef) → Outcome PrincipalConstraint
first_of e before ns = s.if_there vars.Principal (s.principal_outcome e) before (slice_get ns 0)

abbrev second_of : Extensions → Option Loc → List (Cell VariableDef) → Outcome ActionConstraint
second_of e before ns = s.if_there vars.Action (s.action_outcome e) (s.place_behind before (slice_get ns 0)) (slice_get ns 1)

abbrev third_of : Extensions → Option Loc → List (Cell VariableDef) → Outcome ResourceConstraint
third_of e before ns = s.if_there vars.Resource (s.resource_outcome e) (s.place_behind (s.place_behind before (slice_get ns 0)) (slice_get ns 1)) (slice_get ns 2)

elements_ok : (e : Extensions) (before : Option Loc) (ns : List (Cell VariableDef)) (t : Scope) → s.elements_outcome e before ns ≡ Ok t
    → (first_of e before ns ≡ Ok t.0) × (second_of e before ns ≡ Ok t.1) × (third_of e before ns ≡ Ok t.2) × (u : Unit {0}) × (s.no_extra (drop 3 ns) ≡ Ok u)
elements_ok e before ns t h = parts_ok (first_of e before ns) (second_of e before ns) (third_of e before ns) (s.no_extra (drop 3 ns)) t h

never : {Y : Type 0} (fs : List NamedFault) (y : Y) → Err fs ≡ Ok y → ⊥
never fs y h = cc

three_given : (e : Extensions) (before : Option Loc) (ns : List (Cell VariableDef)) (t : Scope) → s.elements_outcome e before ns ≡ Ok t → ThreeGiven e ns t
three_given e before [] t h = absurd (never _ t.0 (elements_ok e before [] t h).0)
three_given e before (a ∷ []) t h = absurd (never _ t.1 (elements_ok e before (a ∷ []) t h).1)
three_given e before (a ∷ b ∷ []) t h = absurd (never _ t.2 (elements_ok e before (a ∷ b ∷ []) t h).2)
three_given e before (a ∷ b ∷ c ∷ []) t h =
    let d = elements_ok e before (a ∷ b ∷ c ∷ []) t h in
    record { first = a; second = b; third = c; these = refl; principal = d.0; action = d.1; resource = d.2 }
three_given e before (a ∷ b ∷ c ∷ x ∷ others) t h = let d = elements_ok e before (a ∷ b ∷ c ∷ x ∷ others) t h in absurd (never _ d.3 d.4)

-- ---- their tokens

snoc_two : {A : Type 0} (xs : List A) (x a b : A) → xs ++ x ∷ [] ≡ a ∷ b ∷ [] → (xs ≡ a ∷ []) × (x ≡ b)
snoc_two [] x a b h = cc
snoc_two (y ∷ xs) x a b h =
    let rest : xs ++ x ∷ [] ≡ b ∷ [] = cc in
    let d = snoc_one xs x b rest in
    let head : y ≡ a = cc in
    (rw (head, d.0) refl, d.1)

snoc_three : {A : Type 0} (xs : List A) (x a b c : A) → xs ++ x ∷ [] ≡ a ∷ b ∷ c ∷ [] → (xs ≡ a ∷ b ∷ []) × (x ≡ c)
snoc_three [] x a b c h = cc
snoc_three (y ∷ xs) x a b c h =
    let rest : xs ++ x ∷ [] ≡ b ∷ c ∷ [] = cc in
    let d = snoc_two xs x b c rest in
    let head : y ≡ a = cc in
    (rw (head, d.0) refl, d.1)

-- an element's tokens and its tree
record Read (src : List ℕ) (ts : List Lexeme) (n : Cell VariableDef) : Type 0 where
  tree : VariableDef
  reads : ReadsVariableDef src ts tree
  same : placed src ts tree ≡ n

record TwoRead (src : List ℕ) (ts : List Lexeme) (a b : Cell VariableDef) : Type 0 where
  first : List Lexeme
  second : List Lexeme
  comma : Spot
  read_first : Read src first a
  read_second : Read src second b
  together : ts ≡ first ++ one kind.Comma comma ++ second

record ThreeRead (src : List ℕ) (ts : List Lexeme) (a b c : Cell VariableDef) : Type 0 where
  two : List Lexeme
  third : List Lexeme
  comma : Spot
  read_two : TwoRead src two a b
  read_third : Read src third c
  together : ts ≡ two ++ one kind.Comma comma ++ third

items_some : {src : List ℕ} {ts : List Lexeme} {xs : List (Cell VariableDef)} → ReadsItems src (ReadsVariableDef src) ts xs → xs ≡ [] → ⊥
items_some (lw.one_item r) h = cc
items_some {src = src} (lw.more_items {us = us} {xs = xs} {y = y} p r t) h = no_snoc xs (placed src us y) h

one_of : {src : List ℕ} {ts : List Lexeme} {xs : List (Cell VariableDef)} (a : Cell VariableDef) → ReadsItems src (ReadsVariableDef src) ts xs → xs ≡ a ∷ [] → Read src ts a
one_of a (lw.one_item {x = x} r) h = record { tree = x; reads = r; same = cc }
one_of {src = src} a (lw.more_items {us = us} {xs = xs} {y = y} p r t) h = absurd (items_some r (snoc_one xs (placed src us y) a h).0)

two_of : {src : List ℕ} {ts : List Lexeme} {xs : List (Cell VariableDef)} (a b : Cell VariableDef) → ReadsItems src (ReadsVariableDef src) ts xs → xs ≡ a ∷ b ∷ [] → TwoRead src ts a b
two_of a b (lw.one_item r) h = cc
two_of {src = src} a b (lw.more_items {ts = ts} {us = us} {xs = xs} {y = y} p r t) h =
    let d = snoc_two xs (placed src us y) a b h in
    record { first = ts; second = us; comma = p; read_first = one_of a r d.0; read_second = record { tree = y; reads = t; same = d.1 }; together = refl }

three_of : {src : List ℕ} {ts : List Lexeme} {xs : List (Cell VariableDef)} (a b c : Cell VariableDef) → ReadsItems src (ReadsVariableDef src) ts xs → xs ≡ a ∷ b ∷ c ∷ [] → ThreeRead src ts a b c
three_of a b c (lw.one_item r) h = cc
three_of {src = src} a b c (lw.more_items {ts = ts} {us = us} {xs = xs} {y = y} p r t) h =
    let d = snoc_three xs (placed src us y) a b c h in
    record { two = ts; third = us; comma = p; read_two = two_of a b r d.0; read_third = record { tree = y; reads = t; same = d.1 }; together = refl }

-- ---- the scope

is_principal : {k : TokenKind} → WordOf vars.Principal k → k ≡ kind.Principal
is_principal principal_word = refl

is_resource : {k : TokenKind} → WordOf vars.Resource k → k ≡ kind.Resource
is_resource resource_word = refl

-- three elements, each by its word and what stands behind it
scope_at : {ps bs rs qs : List Lexeme} {p r : PrincipalOrResourceConstraint} {a : ActionConstraint} (ts : List Lexeme) (l m : Spot) (x : ElementMeant vars.Principal kind.PrincipalSlot ps p) (y : ActionMeant bs a) (w : ElementMeant vars.Resource kind.ResourceSlot rs r)
    → IsLastComma qs → ts ≡ ((ps ++ one kind.Comma l ++ bs) ++ one kind.Comma m ++ rs) ++ qs → IsScope ts (constraint_meaning p) a (constraint_meaning r)
scope_at ts l m x y w q h = rw (h, x.together, y.together, w.together, is_principal x.is_word, is_resource w.is_word) (z.scope x.spot l y.spot m w.spot x.asks y.asks w.asks q)

scope_as : {ts : List Lexeme} {a : ActionConstraint} (p q r t : Constraint) → p ≡ q → r ≡ t → IsScope ts p a r → IsScope ts q a t
scope_as p q r t h g i = rw (← h, ← g) i

items_meant : {src : List ℕ} {us ts qs : List Lexeme} (e : Extensions) (ns : List (Cell VariableDef)) (t : Scope) → ReadsItems src (ReadsVariableDef src) us ns → ThreeGiven e ns t → IsLastComma qs → ts ≡ us ++ qs
    → IsScope ts (constraint_meaning t.0.constraint) t.1 (constraint_meaning t.2.constraint)
items_meant {src = src} {ts = ts} {qs = qs} e ns t r d q h =
    let three = three_of d.first d.second d.third r d.these in
    let two = three.read_two in
    let p = next_ok (s.element_outcome e vars.Principal d.first) _ t.0 d.principal in
    let w = next_ok (s.element_outcome e vars.Resource d.third) _ t.2 d.resource in
    let x = element_meant e p.0 principal two.read_first.reads (ap (s.element_outcome e vars.Principal) two.read_first.same ∙ p.1) in
    let y = action_meant e t.1 two.read_second.reads (ap (s.action_outcome e) two.read_second.same ∙ d.action) in
    let v = element_meant e w.0 resource three.read_third.reads (ap (s.element_outcome e vars.Resource) three.read_third.same ∙ w.1) in
    let whole = h ∙ ap (λ xs. xs ++ qs) (three.together ∙ ap (λ xs. xs ++ one kind.Comma three.comma ++ three.third) two.together) in
    scope_as (constraint_meaning p.0) (constraint_meaning t.0.constraint) (constraint_meaning w.0) (constraint_meaning t.2.constraint) (ap (λ c. constraint_meaning c.constraint) (ok_is p.2)) (ap (λ c. constraint_meaning c.constraint) (ok_is w.2))
    (scope_at ts two.comma three.comma x y v q whole)

pub scope_meant : {src : List ℕ} {ts : List Lexeme} {ns : List (Cell VariableDef)} (e : Extensions) (before : Option Loc) (t : Scope) → ReadsList src (ReadsVariableDef src) ts ns → s.elements_outcome e before ns ≡ Ok t
    → IsScope ts (constraint_meaning t.0.constraint) t.1 (constraint_meaning t.2.constraint)
scope_meant e before t lw.no_item h = let d = three_given e before [] t h in let no = d.these in cc
scope_meant {ts = ts} {ns = ns} e before t (lw.items r) h = items_meant e ns t r (three_given e before ns t h) z.no_comma (sym (append-nil ts))
scope_meant {ns = ns} e before t (lw.items_comma p r) h = items_meant e ns t r (three_given e before ns t h) (z.last_comma p) refl
