-- Operands with and without signs, of trees for their members.
use Rattle.std.proofs.Common.{◌≡◌, ◌≤◌, ◌<◌, ℕ, suc, ◌+◌, ◌^◌, List, [], ◌∷◌, ◌++◌, append-nil, Option, Some, None, refl, ap, ◌∙◌, arith, add-one, IsTrue}
use Rattle.cedar_lexer.specs.Token.{Lexeme}
use Rattle.cedar_lexer.specs.declared.token.TokenKind.TheVariants as kind
use Rattle.cedar_expressions.specs.Value as v
use Rattle.cedar_expressions.specs.Value.{Value}
use Rattle.cedar_syntax.specs.declared.loc.Loc.{Loc}
use Rattle.cedar_syntax.specs.declared.cst.Literal.{Literal}
use Rattle.cedar_syntax.specs.declared.cst.Literal.TheVariants as literal
use Rattle.cedar_syntax.specs.declared.cst.Member.{Member}
use Rattle.cedar_syntax.specs.declared.cst.MemAccess.{MemAccess}
use Rattle.cedar_syntax.specs.declared.cst.Primary.{Primary}
use Rattle.cedar_syntax.specs.declared.cst.Primary.TheVariants as primary
use Rattle.cedar_syntax.specs.trees.Forms.{located, member_form, primary_form}
use Rattle.cedar_syntax.specs.trees.Located.{at}
use Rattle.cedar_grammar.specs.grammar.LooseExpressions as l
use Rattle.cedar_grammar.specs.grammar.LooseExpressions.{ReadsSigns, ReadsMember, ReadsPrimary, ReadsAccesses}
use Rattle.cedar_grammar.specs.grammar.LooseWords as lw
use Rattle.cedar_grammar.specs.grammar.LooseWords.{ReadsLiteral}
use Rattle.cedar_grammar.specs.grammar.Place.{placed}
use Rattle.cedar_syntax.specs.tokens.Tokens.{Spot, one, number_of, fits}
use Rattle.cedar_syntax.specs.trees.Trees.{Cell, unary_of, member_of, bangs_of, dashes_of}
use Rattle.cedar_syntax.specs.tokens.Signs.{sign_limit}
use Rattle.cedar_conversion.specs.outcome.Conversion.{number_in, lone_literal, literal_alone}
use Rattle.cedar_conversion.specs.strict.Extensions.{Extensions}
use Rattle.cedar_conversion.specs.strict.Strict.{iteration, IsNumeral}
use Rattle.cedar_conversion.proofs.Inverted.{value_from}
use Rattle.cedar_policy_parser.proofs.Lists.{no_snoc}
use Rattle.cedar_policy_parser.proofs.Made.{gives_unary, lone_member, lone_accessed, lone_literally, lone_named, lone_slot, lone_referred, lone_paren, lone_set, lone_braces}
use Rattle.cedar_conversion.proofs.Signed.{bangs_give, dashes_give, negative_gives, literal_of}
use Rattle.cedar_policy_parser.proofs.complete.Lone.{alone_reads}
use Rattle.cedar_policy_parser.proofs.complete.Members.{tree_of, tree_reads, tree_gives}
use Rattle.cedar_policy_parser.proofs.complete.Reads.{UnaryRead, MemberRead}
use Rattle.cedar_policy_parser.proofs.sound.Signs.{signs_there}

-- ---- members that are no number

not_number : {src : List ℕ} {ts : List Lexeme} {x : Literal} → ReadsLiteral src ts x → (IsNumeral ts → ⊥) → number_in (Some x) ≡ None
not_number (lw.truth p) h = refl
not_number (lw.falsity p) h = refl
not_number (lw.number p fit) h = absurd (h refl)
not_number (lw.string p) h = refl

primary_not_number : {src : List ℕ} {ts : List Lexeme} {x : Primary} (place : Option Loc) → ReadsPrimary src ts x → (IsNumeral ts → ⊥) → number_in (literal_alone (at place (primary_form x))) ≡ None
primary_not_number {src = src} place (l.literally {ts = ts} {x = x} r) h = ap number_in (lone_literally place (placed src ts x)) ∙ not_number r h
primary_not_number {src = src} place (l.referred {ts = ts} {x = x} r) h = ap number_in (lone_referred place (placed src ts x))
primary_not_number {src = src} place (l.named {ts = ts} {x = x} r) h = ap number_in (lone_named place (placed src ts x))
primary_not_number {src = src} place (l.slotted {k = k} {x = x} p r) h = ap number_in (lone_slot place (placed src (one k p) x))
primary_not_number {src = src} place (l.paren {ts = ts} {x = x} a b r) h = ap number_in (lone_paren place (placed src ts x))
primary_not_number place (l.set {xs = xs} a b r) h = ap number_in (lone_set place xs)
primary_not_number place (l.in_braces {xs = xs} a b r) h = ap number_in (lone_braces place xs)

-- a member of a tree that is given, with its accesses or without any
list_not_number : (src : List ℕ) (place : Option Loc) (ts : List Lexeme) (x : Primary) (xs : List (Cell MemAccess)) → (xs ≡ [] → number_in (literal_alone (located primary_form (placed src ts x))) ≡ None) → number_in (lone_literal (at place (member_form (member_of (placed src ts x) xs)))) ≡ None
list_not_number src place ts x [] h = ap number_in (lone_member place (placed src ts x)) ∙ h refl
list_not_number src place ts x (y ∷ xs) h = ap number_in (lone_accessed place (placed src ts x) y xs)

numeral_tokens : (ts fs : List Lexeme) → ts ≡ fs → (IsNumeral ts → ⊥) → IsNumeral fs → ⊥
numeral_tokens ts fs h other i = other (rw h i)

tokens_behind : {src : List ℕ} {ts : List Lexeme} {xs : List (Cell MemAccess)} → ReadsAccesses src ts xs → xs ≡ [] → ts ≡ []
tokens_behind l.no_access h = refl
tokens_behind {src = src} (l.more_access {us = us} {xs = xs} {x = x} r s) h = absurd (no_snoc xs (placed src us x) h)

member_not_number : {e : Extensions} {src : List ℕ} {ts : List Lexeme} {a : Value} (place : Option Loc) (h : MemberRead e src ts a) → (IsNumeral ts → ⊥) → number_in (lone_literal (at place (member_form (tree_of h)))) ≡ None
member_not_number {src = src} {ts = ts} place h other =
    list_not_number src place h.first_tokens h.first h.others (λ f. primary_not_number (placed src h.first_tokens h.first).loc h.reads_first
    (numeral_tokens ts h.first_tokens (h.together ∙ ap (λ xs. h.first_tokens ++ xs) (tokens_behind h.reads_others f) ∙ append-nil h.first_tokens) other))

-- ---- operands

pub plain_read : {e : Extensions} {src : List ℕ} {ts : List Lexeme} {a : Value} → MemberRead e src ts a → UnaryRead e src ts a
plain_read {e = e} {src = src} {ts = ts} h = record {
  tree = unary_of None (placed src ts (tree_of h));
  reads = l.plain (tree_reads h);
  gives = λ p. value_from _ _ _ (gives_unary e p None (placed src ts (tree_of h))) (tree_gives h (placed src ts (tree_of h)).loc);
}

pub banged_read : {e : Extensions} {src : List ℕ} {ts us : List Lexeme} {a : Value} {n : ℕ} → ReadsSigns kind.Bang ts n → n ≤ sign_limit → MemberRead e src us a → UnaryRead e src (ts ++ us) (iteration n v.not a)
banged_read {e = e} {src = src} {us = us} {a = a} {n = n} r few h = record {
  tree = unary_of (Some (bangs_of n)) (placed src us (tree_of h));
  reads = l.banged r (tree_reads h);
  gives = λ p. value_from _ _ _ (gives_unary e p (Some (bangs_of n)) (placed src us (tree_of h))) (bangs_give p n _ _ a (signs_there r) few (tree_gives h (placed src us (tree_of h)).loc));
}

pub dashed_read : {e : Extensions} {src : List ℕ} {ts us : List Lexeme} {a : Value} {n : ℕ} → ReadsSigns kind.Minus ts n → n ≤ sign_limit → (IsNumeral us → ⊥) → MemberRead e src us a → UnaryRead e src (ts ++ us) (iteration n v.neg a)
dashed_read {e = e} {src = src} {us = us} {a = a} {n = n} r few other h = record {
  tree = unary_of (Some (dashes_of n)) (placed src us (tree_of h));
  reads = l.dashed r (tree_reads h);
  gives = λ p. value_from _ _ _ (gives_unary e p (Some (dashes_of n)) (placed src us (tree_of h))) (dashes_give p n _ _ a (signs_there r) few (member_not_number (placed src us (tree_of h)).loc h other) (tree_gives h (placed src us (tree_of h)).loc));
}

pub number_fits : (n : ℕ) (text : List ℕ) → n ≤ 2 ^ 63 → number_of text ≡ n → IsTrue (fits text)
number_fits n text h e = grind (arith, h, e)

-- a number before which the last `-` is part of the literal
pub negative_read : {e : Extensions} {src : List ℕ} {ts : List Lexeme} (n : ℕ) (p : Spot) → ReadsSigns kind.Minus ts (n + 1) → n < sign_limit → number_of p.text ≤ 2 ^ 63 → UnaryRead e src (ts ++ one kind.Number p) (literal_of n (number_of p.text))
negative_read {e = e} {src = src} {ts = ts} n p r few small =
    let us : List Lexeme = one kind.Number p in
    let number : Primary = primary.Literal (placed src us (literal.Num (number_of p.text))) in
    let item : Member = member_of (placed src us number) [] in
    let read : ReadsMember src us item = alone_reads src us number (l.literally (lw.number p (number_fits (number_of p.text) p.text small refl))) in
    let signs : ReadsSigns kind.Minus ts (suc n) = rw (← add-one) r in
    let bare : number_in (lone_literal (located member_form (placed src us item))) ≡ Some (number_of p.text) = ap number_in (lone_member (placed src us item).loc (placed src us number) ∙ lone_literally (placed src us number).loc (placed src us (literal.Num (number_of p.text)))) in
    record {
      tree = unary_of (Some (dashes_of (suc n))) (placed src us item);
      reads = l.dashed signs read;
      gives = λ q. value_from _ _ _ (gives_unary e q (Some (dashes_of (suc n))) (placed src us item)) (negative_gives q n (number_of p.text) _ _ few small bare);
    }
