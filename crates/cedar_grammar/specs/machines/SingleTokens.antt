-- Single tokens: what is done where one is an identifier, and trees of one token as nodes.
use Rattle.std.specs.Prelude.{ℕ, List, [], Option, Some, None, cond}
use Rattle.cedar_lexer.specs.Token.{Lexeme}
use Rattle.cedar_lexer.specs.declared.token.TokenKind.{TokenKind}
use Rattle.cedar_syntax.specs.declared.cst.Str.{Str}
use Rattle.cedar_syntax.specs.declared.cst.Str.TheVariants as str
use Rattle.cedar_syntax.specs.tokens.Tokens.{any_of, between_quotes}
use Rattle.cedar_syntax.specs.trees.Trees.{Cell}
use Rattle.cedar_grammar.specs.grammar.Place.{extent_of, node_at}
use Rattle.cedar_grammar.specs.machines.Machine.{is_some}

-- this, where the kind is an identifier
abbrev pub if_any : {A : Type 0} → TokenKind → A → Option A
if_any k a = cond (is_some (any_of k [])) (Some a) None

-- a tree of one token, and a string, as a node
abbrev pub token_node : {T : Type 0} → List ℕ → Lexeme → T → Cell T
token_node src t x = node_at src (Some (extent_of t)) x

abbrev pub string_node : List ℕ → Lexeme → Cell Str
string_node src t = token_node src t (str.String (between_quotes t.text))
