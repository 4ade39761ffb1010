-- Which tokens end what a machine has read.
use Rattle.std.proofs.Common.{◌≡◌, Some, None, true}
use Rattle.cedar_lexer.specs.Token.{Lexeme}
use Rattle.cedar_lexer.specs.declared.token.TokenKind.{TokenKind}
use Rattle.cedar_syntax.specs.declared.cst.Ident.{Ident}
use Rattle.cedar_syntax.specs.tokens.Tokens.{Spot, any_of}
use Rattle.cedar_grammar.specs.machines.Machine.{Machine, ended, refused, is_taken}

-- the tree of no tokens
abbrev pub NotEmpty : {S T : Type 0} → Machine Lexeme S T → Type 0
NotEmpty m = m.finish m.start ≡ None

-- such a token ends a tree that can end
abbrev pub EndsAt : {S T : Type 0} → Machine Lexeme S T → (Lexeme → Type 0) → Type 0
EndsAt {S = S} {T = T} m P = (s : S) (x : T) (t : Lexeme) → P t → m.finish s ≡ Some x → m.step s t ≡ ended x

-- no tree begins with such a token
abbrev pub Refuses : {S T : Type 0} → Machine Lexeme S T → (Lexeme → Type 0) → Type 0
Refuses m P = (t : Lexeme) → P t → m.step m.start t ≡ refused

-- a tree begins with the token
abbrev pub Begins : {S T : Type 0} → Machine Lexeme S T → Lexeme → Type 0
Begins m t = is_taken (m.step m.start t) ≡ true

abbrev pub IsKind : TokenKind → Lexeme → Type 0
IsKind k t = t.kind ≡ k

-- one of the words, or an identifier
abbrev pub IsWord : Lexeme → Type 0
IsWord t = (i : Ident) × (any_of t.kind t.text ≡ Some i)

abbrev pub spot_of : Lexeme → Spot
spot_of t = record { start = t.start; end = t.end; text = t.text }

abbrev pub token_at : TokenKind → Spot → Lexeme
token_at k p = record { kind = k; start = p.start; end = p.end; text = p.text }
