-- Conditions have trees that give them.
use Rattle.std.proofs.Common.{◌≡◌, ℕ, List, [], ◌∷◌, ◌++◌, map, Option, Some, Ok, true, false, refl, ap, ◌∙◌}
use Rattle.cedar_lexer.specs.Token.{Lexeme}
use Rattle.cedar_lexer.specs.declared.token.TokenKind.TheVariants as kind
use Rattle.cedar_expressions.specs.declared.place.Slot.{Slot}
use Rattle.cedar_expressions.specs.Value as v
use Rattle.cedar_expressions.specs.Value.{Value}
use Rattle.cedar_syntax.specs.declared.loc.Loc.{Loc}
use Rattle.cedar_syntax.specs.declared.cst.Cond.{Cond}
use Rattle.cedar_syntax.specs.declared.cst.Ident.TheVariants as ident
use Rattle.cedar_syntax.specs.tokens.Signs.{sign_limit}
use Rattle.cedar_syntax.specs.trees.Forms.{located, expr_form}
use Rattle.cedar_grammar.specs.grammar.LoosePolicies as l
use Rattle.cedar_grammar.specs.grammar.LoosePolicies.{ReadsCond, ReadsMany}
use Rattle.cedar_grammar.specs.grammar.LooseWords as lw
use Rattle.cedar_grammar.specs.grammar.Place.{placed}
use Rattle.cedar_syntax.specs.tokens.Tokens.{one}
use Rattle.cedar_syntax.specs.trees.Trees.{Cell, cond_of}
use Rattle.cedar_policy_conversion.specs.Conditions.{condition_of, condition_outcome, conditions_outcome, condition_slot_fault, condition_word, without_slots}
use Rattle.cedar_conversion.specs.outcome.Conversion.{value_outcome}
use Rattle.cedar_conversion.specs.strict.Extensions.{Extensions}
use Rattle.cedar_conversion.specs.parts.Names.{all_of}
use Rattle.cedar_conversion.specs.outcome.Outcome.{Outcome, both, next, faults_outcome}
use Rattle.cedar_policy_parser.specs.meaning.StrictPolicy as m
use Rattle.cedar_policy_parser.specs.meaning.StrictPolicy.{AreConditions, IsCondition}
use Rattle.cedar_expressions.specs.Slots.{slots_of}
use Rattle.cedar_conversion.proofs.Inverted.{ok_is, next_ok, both_ok}
use Rattle.cedar_policy_parser.proofs.complete.Whole.{complete}

record ConditionRead (e : Extensions) (src : List ℕ) (ts : List Lexeme) (c : Value) : Type 0 where
  tree : Cond
  reads : ReadsCond src ts tree
  gives : (place : Option Loc) → condition_of e place tree ≡ Ok c

none_there : (place : Option Loc) (word : List ℕ) (slots : List Slot) → slots ≡ [] → faults_outcome (map (condition_slot_fault place word) slots) ≡ Ok tt
none_there place word slots h = rw h refl

when_given : (place : Option Loc) (o : Outcome Value) (x : Value) → o ≡ Ok x → slots_of x ≡ [] → next o (without_slots place true) ≡ Ok x
when_given place o x h none = rw h (ap (λ u. next u (λ _. Ok x)) (none_there place (condition_word true) (slots_of x) none))

unless_given : (place : Option Loc) (o : Outcome Value) (x : Value) → o ≡ Ok x → slots_of x ≡ [] → next o (without_slots place false) ≡ Ok (v.not x)
unless_given place o x h none = rw h (ap (λ u. next u (λ _. Ok (v.not x))) (none_there place (condition_word false) (slots_of x) none))

condition_read : (e : Extensions) (src : List ℕ) {ts : List Lexeme} {c : Value} → IsCondition e sign_limit ts c → ConditionRead e src ts c
condition_read e src (m.when {ts = ts} {a = x} p a z i none) =
    let d = complete e src i in
    let n = placed src ts d.tree in
    record {
      tree = cond_of (placed src (one kind.When p) ident.When) (Some n);
      reads = l.cond a z (lw.any p refl) (l.body d.reads);
      gives = λ place. when_given place (value_outcome e (located expr_form n)) x (d.gives n.loc) none;
    }
condition_read e src (m.unless {ts = ts} {a = x} p a z i none) =
    let d = complete e src i in
    let n = placed src ts d.tree in
    record {
      tree = cond_of (placed src (one kind.Unless p) ident.Unless) (Some n);
      reads = l.cond a z (lw.any p refl) (l.body d.reads);
      gives = λ place. unless_given place (value_outcome e (located expr_form n)) x (d.gives n.loc) none;
    }

-- ---- all of a policy

all_more : {X Y : Type 0} (f : X → Outcome Y) (w : X) (xs : List X) (y : Y) (ys : List Y) → f w ≡ Ok y → all_of f xs ≡ Ok ys → all_of f (w ∷ xs) ≡ Ok (y ∷ ys)
all_more f w xs y ys h k = rw (h, k) refl

all_last : {X Y : Type 0} (f : X → Outcome Y) (xs : List X) (x : X) (ys : List Y) (y : Y) → all_of f xs ≡ Ok ys → f x ≡ Ok y → all_of f (xs ++ x ∷ []) ≡ Ok (ys ++ y ∷ [])
all_last f [] x ys y h k = all_more f x [] y [] k refl ∙ ap (λ zs. Ok (zs ++ y ∷ [])) (ok_is h)
all_last f (w ∷ xs) x ys y h k =
    let a = next_ok (both (f w) (all_of f xs)) _ ys h in
    let b = both_ok (f w) (all_of f xs) a.0 a.1 in
    all_more f w (xs ++ x ∷ []) a.0.0 (a.0.1 ++ y ∷ []) b.0 (all_last f xs x a.0.1 y b.1 k) ∙ ap (λ zs. Ok (zs ++ y ∷ [])) (ok_is a.2)

pub record ConditionsRead (e : Extensions) (src : List ℕ) (ts : List Lexeme) (cs : List Value) : Type 0 where
  pub cells : List (Cell Cond)
  pub reads : ReadsMany src (ReadsCond src) ts cells
  pub gives : conditions_outcome e cells ≡ Ok cs

pub conditions_read : (e : Extensions) (src : List ℕ) {ts : List Lexeme} {cs : List Value} → AreConditions e sign_limit ts cs → ConditionsRead e src ts cs
conditions_read e src m.no_condition = record { cells = []; reads = l.none; gives = refl }
conditions_read e src (m.more_conditions {us = us} {cs = cs} {c = c} i j) =
    let d = conditions_read e src i in
    let k = condition_read e src j in
    let n = placed src us k.tree in
    record {
      cells = d.cells ++ n ∷ [];
      reads = l.more d.reads k.reads;
      gives = all_last (condition_outcome e) d.cells n cs c d.gives (k.gives n.loc);
    }
