-- Which tokens a path or an entity literal is read from, as the machines build them.
use Rattle.std.specs.Prelude.{◌≡◌, ℕ, List, ◌++◌, Some}
use Rattle.cedar_lexer.specs.Token.{Lexeme}
use Rattle.cedar_lexer.specs.declared.token.TokenKind.{TokenKind}
use Rattle.cedar_lexer.specs.declared.token.TokenKind.TheVariants as kind
use Rattle.cedar_syntax.specs.declared.cst.Ident.{Ident}
use Rattle.cedar_syntax.specs.declared.cst.Ref.{Ref}
use Rattle.cedar_grammar.specs.declared.reading.extent.Extent.{Extent}
use Rattle.cedar_expression_machine.specs.declared.words.state.Word.{Word}
use Rattle.cedar_expression_machine.specs.declared.words.state.Path.{Path}
use Rattle.cedar_expression_machine.specs.declared.words.state.Words.{Words}
use Rattle.cedar_expression_machine.specs.declared.words.state.Words.TheVariants as words
use Rattle.cedar_grammar.specs.grammar.Place.{extent}
use Rattle.cedar_syntax.specs.tokens.Tokens.{Spot, one, any_of}
use Rattle.cedar_grammar.specs.grammar.LooseWords.{ReadsRef}
use Rattle.cedar_expression_machine.specs.machines.Words.{word_of, one_word_path, with_word, entity_with_extent}

abbrev pub word_at : Ident → Spot → Word
word_at i p = word_of i record { start = p.start; end = p.end }

pub data ReadsWholePath (src : List ℕ) : List Lexeme → Path → Type 0 where
  first : {k : TokenKind} {i : Ident} (p : Spot) → any_of k p.text ≡ Some i →
      ReadsWholePath src (one k p) (one_word_path (word_at i p))
  further : {ts : List Lexeme} {q : Path} {i : Ident} (k : TokenKind) (p r : Spot) →
      ReadsWholePath src ts q → any_of k r.text ≡ Some i →
      ReadsWholePath src (ts ++ one kind.ColonColon p ++ one k r) (with_word src q (word_at i r))

pub data ReadsWords (src : List ℕ) : List Lexeme → Words → Type 0 where
  a_path : {ts : List Lexeme} {q : Path} → ReadsWholePath src ts q →
      ReadsWords src ts (words.Path q)
  an_entity : {ts : List Lexeme} {x : Ref} (e : Extent) → extent ts ≡ Some e → ReadsRef src ts x →
      ReadsWords src ts (words.Entity (entity_with_extent src x e))
