-- The tree of a whole text by a rule of the loose grammar. A rule relates the source, tokens and a
-- tree: `ReadsExpr` is one.
use Rattle.std.specs.Prelude.{◌≡◌, ℕ, List}
use Rattle.cedar_lexer.specs.Token.{Lexeme}
use Rattle.cedar_lexer.specs.Cut.{Cuts}
use Rattle.cedar_grammar.specs.grammar.Place.{placed_or_start}
use Rattle.cedar_syntax.specs.trees.Trees.{Cell}

abbrev pub Rule : Type 0 → Type 1
Rule T = List ℕ → List Lexeme → T → Type 0

-- the tokens have a tree by the rule, and the node is this tree at their place
pub record IsNodeOf {T : Type 0} (R : Rule T) (src : List ℕ) (ts : List Lexeme)
    (node : Cell T) : Type 0 where
  pub tree : T
  pub reads : R src ts tree
  pub is : node ≡ placed_or_start src ts tree

-- the text cuts into such tokens
pub record IsTreeOf {T : Type 0} (R : Rule T) (text : List ℕ) (node : Cell T) : Type 0 where
  pub tokens : List Lexeme
  pub cut : Cuts text tokens
  pub stands : IsNodeOf R text tokens node
