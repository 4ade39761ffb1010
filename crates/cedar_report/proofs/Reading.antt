-- A text, cut token by token up to its end or its bad place.
use Rattle.std.proofs.Common.{◌≡◌, ◌<◌, ℕ, List, [], ◌∷◌, ◌++◌, false, length, refl, sym, subst, ◌∙◌, Option, Some, None, Result, Ok, Err, ⊎_elim}
use Rattle.std.specs.Str.{IsUtf8, IsCharBoundary}
use Rattle.std.proofs.lemmas.Bool.{false≢true}
use Rattle.cedar_lexer.specs.declared.token.Token.{Token}
use Rattle.cedar_lexer.specs.declared.token.InvalidToken.{InvalidToken}
use Rattle.cedar_lexer.specs.Token.{Lexeme, lexeme_of}
use Rattle.cedar_lexer.specs.Cut.{Layout, nothing}
use Rattle.cedar_lexer.specs.LexerState.{LexerState, LexerAnswers, IsCutOrStop, fresh_lexer}
use Rattle.cedar_lexer.proofs.Cuts.{laid_on}
use Rattle.cedar_lexer.proofs.Runs.{stand_in_order}

-- a lexer of the text that has come behind some tokens
pub record HasCome (text : List ℕ) (s : LexerState) : Type 0 where
  pub tokens : List Lexeme
  pub laid : Layout text 0 tokens s.offset
  pub source : s.source ≡ text
  pub goes_on : s.ended ≡ false

pub not_begun : (text : List ℕ) (s : LexerState) → s ≡ fresh_lexer text → HasCome text s
not_begun text s e =
    let P : LexerState → Type 0 = λ x. HasCome text x in
    subst P (sym e) (record { tokens = []; laid = nothing; source = refl; goes_on = refl })

pub one_more : (text : List ℕ) (s u : LexerState) (answer : Option (Result Token InvalidToken)) (token : Token) → HasCome text s → LexerAnswers s answer u → answer ≡ Some (Ok token) → HasCome text u
one_more text s u answer token h a e =
    let b : LexerAnswers s (Some (Ok token)) u = subst (λ (x : Option (Result Token InvalidToken)). LexerAnswers s x u) e a in
    let P : LexerState → Type 0 = λ x. HasCome text x in
    let next : Layout text s.offset (lexeme_of token ∷ []) token.end = subst (λ x. Layout x s.offset (lexeme_of token ∷ []) token.end) h.source b.1 in
    subst P (sym b.2) (record { tokens = h.tokens ++ lexeme_of token ∷ []; laid = laid_on h.laid next; source = h.source; goes_on = refl })

pub stops : (text : List ℕ) (s u : LexerState) (answer : Option (Result Token InvalidToken)) (invalid : InvalidToken) → HasCome text s → LexerAnswers s answer u → answer ≡ Some (Err invalid) → (tokens : List Lexeme) × IsCutOrStop text 0 tokens (Some invalid.location)
stops text s u answer invalid h a e =
    let b : LexerAnswers s (Some (Err invalid)) u = subst (λ (x : Option (Result Token InvalidToken)). LexerAnswers s x u) e a in
    let c = subst (λ x. IsCutOrStop x s.offset [] (Some invalid.location)) h.source b.1 in
    (h.tokens ++ [], (laid_on h.laid c.0, c.1, c.2))

-- a bad place lies between two characters
pub between : (text : List ℕ) (tokens : List Lexeme) (place : ℕ) → IsUtf8 text → IsCutOrStop text 0 tokens (Some place) → (place < length text) × IsCharBoundary text place
between text tokens place u s = (s.1, (stand_in_order text tokens place u s.0).1)

pub ends : (text : List ℕ) (s u : LexerState) (answer : Option (Result Token InvalidToken)) → HasCome text s → LexerAnswers s answer u → answer ≡ None → (tokens : List Lexeme) × IsCutOrStop text 0 tokens None
ends text s u answer h a e =
    let b : LexerAnswers s None u = subst (λ (x : Option (Result Token InvalidToken)). LexerAnswers s x u) e a in
    ⊎_elim (λ t. absurd (false≢true (sym h.goes_on ∙ t)))
    (λ c. (h.tokens ++ [], laid_on h.laid (subst (λ x. IsCutOrStop x s.offset [] None) h.source c))) b.0
