-- How deep the tree of a text nests at most. By the loose grammar (`LooseExpressions` and
-- `LoosePolicies` of cedar_grammar) an expression is a part of another one in brackets or as a part
-- of an `if`, and of a policy in brackets alone; signs, accesses and operands are lists. So an
-- expression of a tree lies within at most as many others as, before it, brackets are open and
-- `if`s have begun in its policy.
use Rattle.std.specs.Prelude.{◌≡◌, ℕ, ◌+◌, ◌-◌, max, List, [], ◌∷◌, Option}
use Rattle.cedar_lexer.specs.Token.{Lexeme}
use Rattle.cedar_lexer.specs.declared.token.TokenKind.{TokenKind}
use Rattle.cedar_lexer.specs.declared.token.TokenKind.TheVariants as kind
use Rattle.cedar_lexer.specs.LexerState.{IsCutOrStop}

-- the depth behind a token, before which it is `depth`: a bracket that opens goes one deeper, one
-- that closes comes back, if anything is open; an `if` goes one deeper too, and isn't left before
-- its policy is; a `;` ends the policy
abbrev pub depth_behind : TokenKind → ℕ → ℕ
depth_behind kind.OpenParen depth = depth + 1
depth_behind kind.OpenBracket depth = depth + 1
depth_behind kind.OpenBrace depth = depth + 1
depth_behind kind.If depth = depth + 1
depth_behind kind.CloseParen depth = depth - 1
depth_behind kind.CloseBracket depth = depth - 1
depth_behind kind.CloseBrace depth = depth - 1
depth_behind kind.Semicolon depth = 0
depth_behind _ depth = depth

-- the depth where it is most: before these tokens, where it is `depth`, or behind one of them
abbrev pub deepest : ℕ → List Lexeme → ℕ
deepest depth [] = depth
deepest depth (t ∷ ts) = max depth (deepest (depth_behind t.kind depth) ts)

-- that of all tokens of a text, or of those before its bad place, where each parse ends
abbrev pub IsNesting : List ℕ → ℕ → Type 0
IsNesting text n =
    (ts : List Lexeme) × (bad : Option ℕ) × IsCutOrStop text 0 ts bad × (n ≡ deepest 0 ts)
