-- What words are as trees: a path, which may be one word alone, or an entity literal; and what the
-- machine of expressions asks of the machine of words that it holds, besides that it is a
-- parser.
use Rattle.std.specs.Prelude.{◌≡◌, ℕ, Bool, true, false, List, [], ◌∷◌, ◌++◌, Some}
use Rattle.cedar_lexer.specs.Token.{Lexeme}
use Rattle.cedar_lexer.specs.declared.token.TokenKind.{TokenKind}
use Rattle.cedar_lexer.specs.declared.token.TokenKind.TheVariants as kind
use Rattle.cedar_syntax.specs.declared.cst.Ident.{Ident}
use Rattle.cedar_syntax.specs.declared.cst.Name.{Name}
use Rattle.cedar_syntax.specs.declared.cst.Ref.{Ref}
use Rattle.cedar_expression_machine.specs.declared.expression.state.Spanned.{Spanned}
use Rattle.cedar_expression_machine.specs.declared.words.state.Words.{Words}
use Rattle.cedar_expression_machine.specs.declared.words.state.Words.TheVariants as words
use Rattle.cedar_expression_machine.specs.declared.words.state.WordsState.{WordsState}
use Rattle.cedar_grammar.specs.grammar.Place.{extent, placed}
use Rattle.cedar_syntax.specs.tokens.Tokens.{Spot, one}
use Rattle.cedar_syntax.specs.trees.Trees.{Cell, name_of}
use Rattle.cedar_grammar.specs.grammar.LooseWords.{ReadsPath, ReadsRef}
use Rattle.cedar_expression_machine.specs.machines.Closing.{spanned_tree}
use Rattle.cedar_expression_machine.specs.declared.words.state.WordsAct.{WordsAct}
use Rattle.cedar_grammar.specs.machines.Machine.{Machine, ended, steps, is_some, Reader, machine_of}
use Rattle.cedar_expression_machine.specs.machines.Keeping.{kept_reader}
use Rattle.cedar_expression_machine.specs.machines.Words.{word_node, path_extent, words_end, words_reader}

pub data NameOrEntity : Type 0 where
  path : Spanned Name → NameOrEntity
  entity : Spanned (Cell Ref) → NameOrEntity

pub data ReadsNamed (src : List ℕ) : List Lexeme → NameOrEntity → Type 0 where
  a_path : {ts : List Lexeme} {xs : List (Cell Ident)} {x : Cell Ident} → ReadsPath src ts xs x →
      ReadsNamed src ts (path (spanned_tree (extent ts) (name_of xs x)))
  a_ref : {ts : List Lexeme} {x : Ref} → ReadsRef src ts x →
      ReadsNamed src ts (entity (spanned_tree (extent ts) (placed src ts x)))

-- words that have been read, as such a tree
abbrev pub words_tree : List ℕ → Words → NameOrEntity
words_tree src (words.Path p) =
    path (spanned_tree (Some (path_extent p)) (name_of p.before (word_node src p.last)))
words_tree src (words.Entity e) = entity (spanned_tree (Some e.extent) e.node)

-- words, with such trees
abbrev pub named_reader : Reader WordsState WordsAct NameOrEntity
named_reader =
    kept_reader (λ src x. Some (words_tree src x)) (λ s. is_some (words_end s)) words_reader

abbrev pub named_words : List ℕ → Machine Lexeme WordsState NameOrEntity
named_words src = machine_of src named_reader

-- `::`, by which alone words go on that could end
abbrev pub joins_words : TokenKind → Bool
joins_words kind.ColonColon = true
joins_words _ = false

-- `::` and an identifier behind a path: a path of more than one word
pub record IsLonger (names : Machine Lexeme WordsState NameOrEntity) (s : WordsState)
    (ts : List Lexeme) : Type 0 where
  pub last : WordsState
  pub longer : Spanned Name
  pub before : List (Cell Ident)
  pub word : Cell Ident
  pub goes : steps names (Some s) ts ≡ Some last
  pub ends : names.finish last ≡ Some (path longer)
  pub joined : longer.tree.path ≡ before ++ word ∷ []

pub record IsWords (names : Machine Lexeme WordsState NameOrEntity) : Type 0 where
  -- any other token has ended the words before it
  pub ends : (s : WordsState) (x : NameOrEntity) (t : Lexeme) → joins_words t.kind ≡ false →
      names.finish s ≡ Some x → names.step s t ≡ ended x
  -- a path can always go on
  pub longer : (s : WordsState) (x : Spanned Name) (p q : Spot) →
      names.finish s ≡ Some (path x) →
      IsLonger names s (one kind.ColonColon p ++ one kind.Identifier q)
