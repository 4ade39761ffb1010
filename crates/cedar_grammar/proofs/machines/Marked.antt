-- A mark tells the kind, and no mark is a number's.
use Rattle.std.proofs.Common.{◌≡◌, Bool, true, false, List, ℕ, Option, Some, None, ap, ◌∙◌, refl}
use Rattle.cedar_lexer.specs.Token.{Lexeme}
use Rattle.cedar_lexer.specs.declared.token.TokenKind.{TokenKind}
use Rattle.cedar_lexer.specs.declared.token.TokenKind.TheVariants as kind
use Rattle.cedar_syntax.specs.declared.cst.Ident.{Ident}
use Rattle.cedar_syntax.specs.declared.cst.RelOp.{RelOp}
use Rattle.cedar_grammar.specs.declared.reading.mark.Mark.{Mark}
use Rattle.cedar_grammar.specs.declared.reading.mark.Mark.TheVariants as mark
use Rattle.cedar_syntax.specs.tokens.Tokens.{any_of, fits}
use Rattle.cedar_grammar.specs.grammar.LooseExpressions.{ReadsRelOp, less, less_eq, greater_eq, greater, not_eq, equal, within, single_eq}
use Rattle.cedar_grammar.specs.machines.Marks.{mark_of, relation_of}
use Rattle.cedar_grammar.proofs.machines.Laws.{false_true}

-- the kind behind a mark
pub data IsMarked : Mark → TokenKind → Type 0 where
  at : IsMarked mark.At kind.At
  open_paren : IsMarked mark.OpenParen kind.OpenParen
  close_paren : IsMarked mark.CloseParen kind.CloseParen
  open_brace : IsMarked mark.OpenBrace kind.OpenBrace
  close_brace : IsMarked mark.CloseBrace kind.CloseBrace
  comma : IsMarked mark.Comma kind.Comma
  colon : IsMarked mark.Colon kind.Colon
  semicolon : IsMarked mark.Semicolon kind.Semicolon
  is_word : IsMarked mark.Is kind.Is
  a_string : IsMarked mark.String kind.StringLit
  other : {k : TokenKind} → IsMarked mark.Other k

pub marked : (k : TokenKind) → IsMarked (mark_of k) k
marked kind.At = at
marked kind.OpenParen = open_paren
marked kind.CloseParen = close_paren
marked kind.OpenBrace = open_brace
marked kind.CloseBrace = close_brace
marked kind.Comma = comma
marked kind.Colon = colon
marked kind.Semicolon = semicolon
marked kind.Is = is_word
marked kind.StringLit = a_string
marked _ = other

-- the operator of a relation
pub data IsRelated : Option RelOp → TokenKind → Type 0 where
  related_by : {k : TokenKind} {o : RelOp} → ReadsRelOp k o → IsRelated (Some o) k
  unrelated : {k : TokenKind} → IsRelated None k

pub related : (k : TokenKind) → IsRelated (relation_of k) k
related kind.Less = related_by less
related kind.LessEq = related_by less_eq
related kind.GreaterEq = related_by greater_eq
related kind.Greater = related_by greater
related kind.NotEq = related_by not_eq
related kind.EqEq = related_by equal
related kind.In = related_by within
related kind.Eq = related_by single_eq
related _ = unrelated

abbrev pub is_part : Mark → Bool
is_part mark.Other = false
is_part _ = true

-- a token with a mark is no number
pub marked_fits : (t : Lexeme) (c : Mark) → mark_of t.kind ≡ c → is_part c ≡ true → (t.kind ≡ kind.Number) → fits t.text ≡ true
marked_fits t c h i e = absurd (false_true (ap (λ k. is_part (mark_of k)) e) (ap (λ c. is_part c) h ∙ i))

abbrev pub is_there : {A : Type 0} → Option A → Bool
is_there (Some x) = true
is_there None = false

-- nor is a word, or an operator of a relation

pub word_fits : (t : Lexeme) (i : Ident) → any_of t.kind t.text ≡ Some i → (t.kind ≡ kind.Number) → fits t.text ≡ true
word_fits t i h e = absurd (false_true (ap (λ k. is_there (any_of k t.text)) e) (ap (λ o. is_there o) h))

pub related_fits : (t : Lexeme) (o : RelOp) → relation_of t.kind ≡ Some o → (t.kind ≡ kind.Number) → fits t.text ≡ true
related_fits t o h e = absurd (false_true (ap (λ k. is_there (relation_of k)) e) (ap (λ o. is_there o) h))

-- the mark of a word

abbrev pub is_word_mark : Mark → Bool
is_word_mark mark.Is = true
is_word_mark mark.Other = true
is_word_mark _ = false

pub words_mark : (k : TokenKind) (text : List ℕ) (i : Ident) → any_of k text ≡ Some i → is_word_mark (mark_of k) ≡ true
words_mark kind.At text i e = absurd (cc)
words_mark kind.OpenParen text i e = absurd (cc)
words_mark kind.CloseParen text i e = absurd (cc)
words_mark kind.OpenBrace text i e = absurd (cc)
words_mark kind.CloseBrace text i e = absurd (cc)
words_mark kind.Comma text i e = absurd (cc)
words_mark kind.Colon text i e = absurd (cc)
words_mark kind.Semicolon text i e = absurd (cc)
words_mark kind.StringLit text i e = absurd (cc)
words_mark _ text i e = refl
