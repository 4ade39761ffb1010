-- Conditions are held of their tokens.
use Rattle.std.proofs.Common.{◌≡◌, ℕ, Bool, true, false, List, [], ◌∷◌, ◌++◌, Option, Some, None, Ok, refl, sym, ap, ◌∙◌}
use Rattle.cedar_lexer.specs.Token.{Lexeme}
use Rattle.cedar_lexer.specs.declared.token.TokenKind.{TokenKind}
use Rattle.cedar_lexer.specs.declared.token.TokenKind.TheVariants as kind
use Rattle.cedar_expressions.specs.Value.{Value}
use Rattle.cedar_syntax.specs.declared.loc.Loc.{Loc}
use Rattle.cedar_syntax.specs.declared.cst.Cond.{Cond}
use Rattle.cedar_syntax.specs.declared.cst.Ident.{Ident}
use Rattle.cedar_syntax.specs.tokens.Signs.{sign_limit}
use Rattle.cedar_grammar.specs.grammar.LoosePolicies as l
use Rattle.cedar_grammar.specs.grammar.LoosePolicies.{ReadsBody, ReadsCond, ReadsMany}
use Rattle.cedar_grammar.specs.grammar.LooseWords as lw
use Rattle.cedar_grammar.specs.grammar.LooseWords.{ReadsAny}
use Rattle.cedar_grammar.specs.grammar.Place.{placed}
use Rattle.cedar_syntax.specs.tokens.Tokens.{Spot, one, any_of}
use Rattle.cedar_syntax.specs.trees.Trees.{Cell}
use Rattle.cedar_policy_conversion.specs.Conditions.{clause, condition_of, condition_outcome, conditions_outcome, is_when, is_when_of, condition_value, condition_word, slots_outcome, without_slots}
use Rattle.cedar_conversion.specs.strict.Extensions.{Extensions}
use Rattle.cedar_conversion.specs.parts.Names.{content_outcome}
use Rattle.cedar_conversion.specs.outcome.Outcome.{next}
use Rattle.cedar_conversion.specs.strict.Strict.{Means, expression}
use Rattle.cedar_policy_parser.specs.meaning.StrictPolicy as m
use Rattle.cedar_policy_parser.specs.meaning.StrictPolicy.{AreConditions, IsCondition}
use Rattle.cedar_expressions.specs.Slots.{slots_of}
use Rattle.cedar_conversion.proofs.Inverted.{ok_is, next_ok}
use Rattle.cedar_policy_parser.proofs.sound.Whole.{sound_value}
use Rattle.cedar_policy_parser.proofs.sound.Words.{all_snoc}
use Rattle.cedar_policy_conversion.proofs.ConditionValues.{no_slots}

-- the token that is a condition's word
pub data ClauseOf : Bool → TokenKind → Type 0 where
  when_clause : ClauseOf true kind.When
  unless_clause : ClauseOf false kind.Unless

clause_as : {k : TokenKind} (a b : Bool) → a ≡ b → ClauseOf a k → ClauseOf b k
clause_as a b h i = rw (← h) i

kind_clause : (k : TokenKind) (text : List ℕ) (place : Option Loc) (b : Bool) → next (content_outcome place (any_of k text)) (is_when_of place) ≡ Ok b → ClauseOf b k
kind_clause kind.When text place b h = clause_as true b (ok_is h) when_clause
kind_clause kind.Unless text place b h = clause_as false b (ok_is h) unless_clause
kind_clause _ text place b h = cc

clause_word : (src : List ℕ) {ts : List Lexeme} {i : Ident} (b : Bool) → ReadsAny ts i → is_when (placed src ts i) ≡ Ok b → (k : TokenKind) × (p : Spot) × ClauseOf b k × (ts ≡ one k p)
clause_word src {ts = ts} {i = i} b (lw.any {k = k} p h) g =
    (k, p, kind_clause k p.text (placed src ts i).loc b (ap (λ o. next (content_outcome (placed src ts i).loc o) (is_when_of (placed src ts i).loc)) h ∙ g), refl)

clause_meant : {k : TokenKind} {ts us : List Lexeme} (e : Extensions) (b : Bool) (x c : Value) (p a z : Spot) → ClauseOf b k → ts ≡ one k p → Means e sign_limit expression us x → slots_of x ≡ [] → condition_value b x ≡ c
    → IsCondition e sign_limit (ts ++ one kind.OpenBrace a ++ us ++ one kind.CloseBrace z) c
clause_meant e _ x c p a z when_clause h i none same = rw (h, ← same) (m.when p a z i none)
clause_meant e _ x c p a z unless_clause h i none same = rw (h, ← same) (m.unless p a z i none)

condition_meant : {src : List ℕ} {ts : List Lexeme} {x : Cond} (e : Extensions) (place : Option Loc) (c : Value) → ReadsCond src ts x → condition_of e place x ≡ Ok c → IsCondition e sign_limit ts c
condition_meant {src = src} e place c (l.cond {ts = ts} {us = us} {i = i} a z r (l.body {x = x} b)) h =
    let f = next_ok (is_when (placed src ts i)) _ c h in
    let g = next_ok (clause e place (placed src ts i).node (Some (placed src us x))) (without_slots place f.0) c f.2 in
    let n = next_ok (slots_outcome place (condition_word f.0) g.0) _ c g.2 in
    let word = clause_word src f.0 r f.1 in
    clause_meant e f.0 g.0 c word.1 a z word.2 word.3 (sound_value e (placed src us x).loc g.0 b g.1) (no_slots place (condition_word f.0) (slots_of g.0) n.0 n.1) (ok_is n.2)
condition_meant {src = src} e place c (l.cond {ts = ts} {i = i} a z r l.no_body) h =
    let f = next_ok (is_when (placed src ts i)) _ c h in
    let g = next_ok (clause e place (placed src ts i).node None) (without_slots place f.0) c f.2 in
    let impossible = g.1 in cc

-- ---- all of a policy

conditions_as : {e : Extensions} {ts : List Lexeme} (cs ds : List Value) → cs ≡ ds → AreConditions e sign_limit ts cs → AreConditions e sign_limit ts ds
conditions_as cs ds h i = rw (← h) i

pub conditions_meant : {src : List ℕ} {ts : List Lexeme} {xs : List (Cell Cond)} (e : Extensions) (cs : List Value) → ReadsMany src (ReadsCond src) ts xs → conditions_outcome e xs ≡ Ok cs → AreConditions e sign_limit ts cs
conditions_meant e cs l.none h = conditions_as [] cs (ok_is h) m.no_condition
conditions_meant {src = src} e cs (l.more {us = us} {xs = xs} {y = y} r s) h =
    let a = all_snoc (condition_outcome e) xs (placed src us y) cs h in
    conditions_as (a.0 ++ a.1 ∷ []) cs (sym a.4) (m.more_conditions (conditions_meant e a.0 r a.2) (condition_meant e (placed src us y).loc a.1 s a.3))
