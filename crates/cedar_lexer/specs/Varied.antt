-- What may be put into a text without changing the words of its tokens.
use Rattle.std.specs.Prelude.{◌≡◌, ◌≢◌, ℕ, List, [], ◌∷◌, ◌++◌, ◌⊎◌, codes, IsTrue}
use Rattle.std.specs.Char.{encode_utf8, is_whitespace}
use Rattle.std.specs.List.{AllPass}
use Rattle.cedar_lexer.specs.Cut.{is_line_end, is_in_line}
use Rattle.cedar_lexer.specs.Token.{Lexeme}
use Rattle.cedar_lexer.specs.declared.token.TokenKind.TheVariants as kind

-- a character of white space, or a comment and the line feed or carriage return that ends it
pub data IsPadding : List ℕ → Type 0 where
  space : (c : ℕ) → IsTrue (is_whitespace c) → IsPadding (encode_utf8 c)
  comment : (line : List ℕ) (end : ℕ) → AllPass is_in_line line → IsTrue (is_line_end end) →
      IsPadding (codes "//" ++ (line ++ (end ∷ [])))

-- one of these tokens begins at this byte
abbrev pub BeginsAt : ℕ → List Lexeme → Type 0
BeginsAt place [] = ⊥
BeginsAt place (t ∷ ts) = (t.start ≡ place) ⊎ BeginsAt place ts

-- no `/` ends at this byte
abbrev pub NoSlashBefore : ℕ → List Lexeme → Type 0
NoSlashBefore place [] = Unit {0}
NoSlashBefore place (t ∷ ts) = (t.end ≡ place → t.kind ≢ kind.Slash) × NoSlashBefore place ts

-- white space may be put straight before each token, and a comment where no `/` stands straight
-- before
abbrev pub FitsBefore : {padding : List ℕ} → IsPadding padding → ℕ → List Lexeme → Type 0
FitsBefore (space c white) place ts = Unit {0}
FitsBefore (comment line end inside ends) place ts = NoSlashBefore place ts

-- where the last of these tokens ends
abbrev pub last_end : List Lexeme → ℕ
last_end [] = 0
last_end (t ∷ []) = t.end
last_end (t ∷ u ∷ us) = last_end (u ∷ us)
