-- Primaries that hold no expression: what they give is held of their tokens.
use Rattle.std.proofs.Common.{◌≡◌, ℕ, nat_le, List, [], ◌∷◌, ◌++◌, Option, Some, None, Ok, refl, sym, ap, ◌∙◌, pos}
use Rattle.cedar_lexer.specs.Token.{Lexeme}
use Rattle.cedar_lexer.specs.declared.token.TokenKind.{TokenKind}
use Rattle.cedar_lexer.specs.declared.token.TokenKind.TheVariants as kind
use Rattle.cedar_expressions.specs.declared.atoms.Var.{Var}
use Rattle.cedar_expressions.specs.declared.atoms.Literal.TheVariants as literals
use Rattle.cedar_expressions.specs.Value as v
use Rattle.cedar_expressions.specs.Value.{Value}
use Rattle.cedar_syntax.specs.declared.loc.Loc.{Loc}
use Rattle.cedar_syntax.specs.declared.cst.Ident.{Ident}
use Rattle.cedar_syntax.specs.declared.cst.Name.{Name}
use Rattle.cedar_syntax.specs.declared.cst.Ref.{Ref}
use Rattle.cedar_syntax.specs.declared.cst.Slot.{Slot}
use Rattle.cedar_syntax.specs.declared.cst.Literal.{Literal}
use Rattle.cedar_grammar.specs.grammar.Place.{placed}
use Rattle.cedar_grammar.specs.grammar.LooseExpressions as l
use Rattle.cedar_grammar.specs.grammar.LooseExpressions.{ReadsSlot}
use Rattle.cedar_grammar.specs.grammar.LooseWords as lw
use Rattle.cedar_grammar.specs.grammar.LooseWords.{ReadsLiteral, ReadsAny, ReadsPath, ReadsName, ReadsRef}
use Rattle.cedar_syntax.specs.tokens.Tokens.{Spot, one, number_of, any_of}
use Rattle.cedar_syntax.specs.trees.Trees.{Cell, name_of}
use Rattle.cedar_conversion.specs.strict.Extensions.{Extensions}
use Rattle.cedar_conversion.specs.parts.Entities.{entity_outcome}
use Rattle.cedar_conversion.specs.outcome.Held.{Held, expression, as_expression}
use Rattle.cedar_conversion.specs.parts.Leaves.{name_leaf, variable_or_name, slot_leaf, entity_leaf}
use Rattle.cedar_conversion.specs.parts.Literals.{literal_outcome}
use Rattle.cedar_conversion.specs.parts.Names.{name_outcome, variable_in, lone_variable}
use Rattle.cedar_conversion.specs.outcome.Outcome.{next}
use Rattle.cedar_conversion.specs.strict.Strict as m
use Rattle.cedar_conversion.specs.strict.Strict.{Sort, largest}
use Rattle.cedar_conversion.specs.strict.StrictWords as w
use Rattle.cedar_conversion.specs.strict.StrictWords.{IsVariable, IsVariableWord}
use Rattle.cedar_conversion.proofs.Inverted.{ok_is, next_ok, unless_ok}
use Rattle.cedar_conversion.proofs.Signed.{literal_value}
use Rattle.cedar_policy_parser.proofs.sound.Bare.{HeldAs}
use Rattle.cedar_policy_parser.proofs.sound.Words.{name_meant, entity_meant}

pub held_as : (e : Extensions) (s : Sort) (ts : List Lexeme) (h k : Held) → h ≡ k → HeldAs e s ts h → HeldAs e s ts k
held_as e s ts h k same i = rw (← same) i

-- ---- literals

pub literal_held : {src : List ℕ} {ts : List Lexeme} {x : Literal} (e : Extensions) (place : Option Loc) (h : Held) → ReadsLiteral src ts x → literal_outcome place (Some x) ≡ Ok h → HeldAs e m.primary ts h
literal_held e place h (lw.truth p) k = held_as e m.primary _ _ h (ok_is k) (m.truth p)
literal_held e place h (lw.falsity p) k = held_as e m.primary _ _ h (ok_is k) (m.falsity p)
literal_held e place h (lw.number p fits) k =
    let d = unless_ok (nat_le largest (number_of p.text)) (Ok (expression place (v.val (literals.Long (pos (number_of p.text)))))) _ h k in
    let small = literal_value place (number_of p.text) _ (ap (λ o. next o as_expression) (k ∙ sym d.1)) in
    held_as e m.primary _ _ h (ok_is d.1) (m.numeral p small.0)
literal_held e place h (lw.string p) k = held_as e m.primary _ _ h (ok_is k) (p, refl, refl)

-- ---- slots and entities

pub slot_held_as : {k : TokenKind} {x : Slot} (e : Extensions) (src : List ℕ) (p : Spot) (h : Held) → ReadsSlot k p.text x → slot_leaf (placed src (one k p) x) ≡ Ok h → HeldAs e m.primary (one k p) h
slot_held_as e src p h l.principal_slot k = held_as e m.primary _ _ h (ok_is k) (m.principal_slot p)
slot_held_as e src p h l.resource_slot k = held_as e m.primary _ _ h (ok_is k) (m.resource_slot p)
slot_held_as e src p h l.other_slot k = cc

pub entity_held_as : {src : List ℕ} {ts : List Lexeme} {x : Ref} (e : Extensions) (h : Held) → ReadsRef src ts x → entity_leaf (placed src ts x) ≡ Ok h → HeldAs e m.primary ts h
entity_held_as {src = src} {ts = ts} {x = x} e h r k =
    let d = next_ok (entity_outcome (placed src ts x)) _ h k in
    held_as e m.primary _ _ h (ok_is d.2) (m.entity (entity_meant (placed src ts x).loc d.0 r d.1))

-- ---- names

variable_as : {k : TokenKind} (x y : Var) → x ≡ y → IsVariable k x → IsVariable k y
variable_as x y h i = rw (← h) i

some_is : {x y : Var} → Some x ≡ Some y → x ≡ y
some_is h = cc

kind_variable : (k : TokenKind) (text : List ℕ) (x : Var) → variable_in (any_of k text) ≡ Some x → IsVariable k x
kind_variable kind.Principal text x h = variable_as _ x (some_is h) w.principal
kind_variable kind.Action text x h = variable_as _ x (some_is h) w.action
kind_variable kind.Resource text x h = variable_as _ x (some_is h) w.resource
kind_variable kind.Context text x h = variable_as _ x (some_is h) w.context
kind_variable _ text x h = cc

no_variable : {k : TokenKind} {x : Var} (text : List ℕ) → IsVariable k x → variable_in (any_of k text) ≡ None → ⊥
no_variable text w.principal h = cc
no_variable text w.action h = cc
no_variable text w.resource h = cc
no_variable text w.context h = cc

word_there : {ts : List Lexeme} {i : Ident} (x : Var) → ReadsAny ts i → variable_in (Some i) ≡ Some x → (k : TokenKind) × (p : Spot) × IsVariable k x × (ts ≡ one k p)
word_there x (lw.any {k = k} p h) g = (k, p, kind_variable k p.text x (ap variable_in h ∙ g), refl)

no_word : {ts : List Lexeme} {i : Ident} → ReadsAny ts i → variable_in (Some i) ≡ None → IsVariableWord ts → ⊥
no_word (lw.any {k = k} p h) g i = no_variable p.text i.1 (ap variable_in h ∙ g)

common_named : {src : List ℕ} {ts : List Lexeme} {i : Ident} (e : Extensions) (place : Option Loc) (h : Held) (o : Option Var) → ReadsName src ts (name_of [] (placed src ts i)) → ReadsAny ts i → variable_in (Some i) ≡ o
    → variable_or_name place o (placed src ts (name_of [] (placed src ts i))) ≡ Ok h → HeldAs e m.primary ts h
common_named e place h (Some x) n r f k = held_as e m.primary _ _ h (ok_is k) (word_there x r f)
common_named {src = src} {ts = ts} {i = i} e place h None n r f k =
    let d = next_ok (name_outcome (placed src ts (name_of [] (placed src ts i)))) _ h k in
    held_as e m.primary _ _ h (ok_is d.2) (name_meant d.0 n d.1, no_word r f)

-- a path has a token
pub path_head : {src : List ℕ} {ts : List Lexeme} {xs : List (Cell Ident)} {x : Cell Ident} → ReadsPath src ts xs x → (t : Lexeme) × (rest : List Lexeme) × (ts ≡ t ∷ rest)
path_head (lw.one_word (lw.any p h)) = (_, [], refl)
path_head (lw.more_words {us = us} p r s) = let d = path_head r in (d.0, d.1 ++ one kind.ColonColon p ++ us, ap (λ xs. xs ++ one kind.ColonColon p ++ us) d.2)

two_words : (t : Lexeme) (rest us : List Lexeme) (p : Spot) → IsVariableWord ((t ∷ rest) ++ one kind.ColonColon p ++ us) → ⊥
two_words t [] us p h = h
two_words t (u ∷ rest) us p h = h

words_at : (ts : List Lexeme) (t : Lexeme) (rest us : List Lexeme) (p : Spot) → ts ≡ t ∷ rest → IsVariableWord (ts ++ one kind.ColonColon p ++ us) → ⊥
words_at ts t rest us p h i = two_words t rest us p (rw h at i)

many_words : {src : List ℕ} {ts : List Lexeme} {xs : List (Cell Ident)} {x : Cell Ident} (us : List Lexeme) (p : Spot) → ReadsPath src ts xs x → IsVariableWord (ts ++ one kind.ColonColon p ++ us) → ⊥
many_words {ts = ts} us p r h = let d = path_head r in words_at ts d.0 d.1 us p d.2 h

lone_none : (xs : List (Cell Ident)) (x : Cell Ident) (i : Option Ident) → lone_variable (xs ++ x ∷ []) i ≡ None
lone_none [] x i = refl
lone_none (y ∷ xs) x i = refl

pub name_held : {src : List ℕ} {ts : List Lexeme} {x : Name} (e : Extensions) (place : Option Loc) (h : Held) → ReadsName src ts x → name_leaf place (placed src ts x) ≡ Ok h → HeldAs e m.primary ts h
name_held e place h (lw.common {i = i} r fine) k = common_named e place h (variable_in (Some i)) (lw.common r fine) r refl k
name_held {src = src} {ts = all} e place h (lw.qualified {ts = ts} {us = us} {xs = xs} {x = x} {i = i} p r s) k =
    let n = placed src (ts ++ one kind.ColonColon p ++ us) (name_of (xs ++ x ∷ []) (placed src us i)) in
    let d = next_ok (name_outcome n) _ h (ap (λ o. variable_or_name place o n) (sym (lone_none xs x (Some i))) ∙ k) in
    held_as e m.primary _ _ h (ok_is d.2) (name_meant d.0 (lw.qualified p r s) d.1, many_words us p r)
