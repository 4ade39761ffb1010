-- A scope has elements that ask for it.
use Rattle.std.proofs.Common.{◌≡◌, ℕ, List, [], ◌∷◌, ◌++◌, append-nil, Option, Ok, refl, sym}
use Rattle.cedar_lexer.specs.Token.{Lexeme}
use Rattle.cedar_lexer.specs.declared.token.TokenKind.TheVariants as kind
use Rattle.cedar_expressions.specs.declared.atoms.Var.TheVariants as vars
use Rattle.cedar_policy_store.specs.declared.constraints.ActionConstraint.{ActionConstraint}
use Rattle.cedar_policy_store.specs.declared.constraints.PrincipalOrResourceConstraint.{PrincipalOrResourceConstraint}
use Rattle.cedar_policy_store.specs.PlaceFree.{Constraint, constraint_meaning}
use Rattle.cedar_syntax.specs.declared.loc.Loc.{Loc}
use Rattle.cedar_syntax.specs.declared.cst.VariableDef.{VariableDef}
use Rattle.cedar_grammar.specs.grammar.LoosePolicies.{ReadsVariableDef}
use Rattle.cedar_grammar.specs.grammar.LooseWords as lw
use Rattle.cedar_grammar.specs.grammar.LooseWords.{ReadsItems, ReadsList}
use Rattle.cedar_grammar.specs.grammar.Place.{placed}
use Rattle.cedar_syntax.specs.tokens.Tokens.{one}
use Rattle.cedar_syntax.specs.trees.Trees.{Cell}
use Rattle.cedar_conversion.specs.strict.Extensions.{Extensions}
use Rattle.cedar_policy_conversion.specs.Scope as s
use Rattle.cedar_policy_conversion.specs.Scope.{Scope}
use Rattle.cedar_policy_parser.specs.meaning.StrictScope as z
use Rattle.cedar_policy_parser.specs.meaning.StrictScope.{IsScope}
use Rattle.cedar_policy_parser.proofs.complete.Elements.{ActionRead, ElementRead, action_read, element_read}
use Rattle.cedar_policy_parser.proofs.sound.Referred.{principal, resource}

pub record ScopeRead (e : Extensions) (src : List ℕ) (ts : List Lexeme) (p : Constraint) (a : ActionConstraint) (r : Constraint) : Type 0 where
  pub cells : List (Cell VariableDef)
  pub reads : ReadsList src (ReadsVariableDef src) ts cells
  pub scope : Scope
  pub gives : (before : Option Loc) → s.elements_outcome e before cells ≡ Ok scope
  pub same_principal : constraint_meaning scope.0.constraint ≡ p
  pub same_action : scope.1 ≡ a
  pub same_resource : constraint_meaning scope.2.constraint ≡ r

scope_as : {e : Extensions} {src : List ℕ} {ts us : List Lexeme} {p r : Constraint} {a : ActionConstraint} → ts ≡ us → ScopeRead e src ts p a r → ScopeRead e src us p a r
scope_as h d = rw (← h) d

-- three elements that are given
three_given : (e : Extensions) (before : Option Loc) (x y w : Cell VariableDef) (p r : PrincipalOrResourceConstraint) (a : ActionConstraint) → s.element_outcome e vars.Principal x ≡ Ok p → s.action_outcome e y ≡ Ok a → s.element_outcome e vars.Resource w ≡ Ok r
    → s.elements_outcome e before (x ∷ y ∷ w ∷ []) ≡ Ok (record { constraint = p }, a, record { constraint = r })
three_given e before x y w p r a h k g = rw (h, k, g) refl

scope_built : (e : Extensions) (src : List ℕ) {ps qs rs ts : List Lexeme} {p r : Constraint} {a : ActionConstraint} (x : ElementRead e vars.Principal src ps p) (y : ActionRead e src qs a) (w : ElementRead e vars.Resource src rs r)
    → ReadsList src (ReadsVariableDef src) ts (placed src ps x.tree ∷ placed src qs y.tree ∷ placed src rs w.tree ∷ []) → ScopeRead e src ts p a r
scope_built e src {ps = ps} {qs = qs} {rs = rs} {a = a} x y w reads = record {
  cells = placed src ps x.tree ∷ placed src qs y.tree ∷ placed src rs w.tree ∷ [];
  reads = reads;
  scope = (record { constraint = x.asked }, a, record { constraint = w.asked });
  gives = λ before. three_given e before (placed src ps x.tree) (placed src qs y.tree) (placed src rs w.tree) x.asked w.asked a x.gives y.gives w.gives;
  same_principal = x.same;
  same_action = refl;
  same_resource = w.same;
}

pub scope_read : (e : Extensions) (src : List ℕ) {ts : List Lexeme} {p r : Constraint} {a : ActionConstraint} → IsScope ts p a r → ScopeRead e src ts p a r
scope_read e src (z.scope {ts = ts} {us = us} {vs = vs} p l q m r i j k z.no_comma) =
    let x = element_read e src p principal i in
    let y = action_read e src q j in
    let w = element_read e src r resource k in
    let all = ((one kind.Principal p ++ ts) ++ one kind.Comma l ++ (one kind.Action q ++ us)) ++ one kind.Comma m ++ (one kind.Resource r ++ vs) in
    scope_as (sym (append-nil all)) (scope_built e src x y w (lw.items (lw.more_items m (lw.more_items l (lw.one_item x.reads) y.reads) w.reads)))
scope_read e src (z.scope p l q m r i j k (z.last_comma c)) =
    let x = element_read e src p principal i in
    let y = action_read e src q j in
    let w = element_read e src r resource k in
    scope_built e src x y w (lw.items_comma c (lw.more_items m (lw.more_items l (lw.one_item x.reads) y.reads) w.reads))
