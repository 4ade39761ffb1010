-- The one fault of tokens that have no tree, and of a text: a token that is refused, an end that
-- is too early, a number that is too large, a place at which no token starts. What stands behind
-- the tokens is the end, or such a place; so it can be said also of tokens that are the cut of no
-- text.
use Rattle.std.specs.Prelude.{◌≡◌, ◌⊎◌, ℕ, false, List, [], ◌∷◌, ◌++◌, Option, Some, None, codes}
use Rattle.cedar_lexer.specs.Token.{Lexeme}
use Rattle.cedar_lexer.specs.LexerState.{IsCutOrStop}
use Rattle.cedar_lexer.specs.declared.token.TokenKind.{TokenKind}
use Rattle.cedar_lexer.specs.declared.token.TokenKind.TheVariants as kind
use Rattle.cedar_syntax.specs.faults.ParseErrors.{faults_of}
use Rattle.cedar_syntax.specs.declared.err.faults.Failure.{Failure}
use Rattle.cedar_syntax.specs.declared.err.faults.Failure.TheVariants.{Memory, Errors}
use Rattle.cedar_syntax.specs.declared.err.faults.ParseError.TheVariants.{ToCST}
use Rattle.cedar_syntax.specs.declared.err.to_cst.RawFault.{RawFault}
use Rattle.cedar_syntax.specs.declared.err.to_cst.RawFault.TheVariants as fault
use Rattle.cedar_grammar.specs.declared.reading.extent.Extent.{Extent}
use Rattle.cedar_grammar.specs.declared.reading.expected.ClosersOnly.{ClosersOnly}
use Rattle.cedar_grammar.specs.faults.Expected.{IsExpected}
use Rattle.cedar_grammar.specs.grammar.Grammar.{Rule}
use Rattle.cedar_grammar.specs.grammar.Place.{extent_of, extent, loc_at}
use Rattle.cedar_grammar.specs.grammar.Sentences.{kinds, HasTree, Starts, Allowed, IsFirstRefused}
use Rattle.cedar_syntax.specs.tokens.Tokens.{fits}

-- the end of the last token, or 0
abbrev pub end_at : Option Extent → ℕ
end_at None = 0
end_at (Some e) = e.end

abbrev pub tokens_end : List Lexeme → ℕ
tokens_end ts = end_at (extent ts)

-- the recorded words for a number that 64 bits don't hold
abbrev pub too_large : List ℕ
too_large = codes "integer parse error: number too large to fit in target type"

-- a refused token, the end too early, and such a number, as they are recorded
abbrev pub unexpected_fault : Lexeme → List TokenKind → RawFault
unexpected_fault t ks = fault.UnrecognizedToken t.start t.end t.text ks

abbrev pub early_at : ℕ → List TokenKind → RawFault
early_at end ks = fault.UnrecognizedEof end ks

abbrev pub large_at : List ℕ → Lexeme → RawFault
large_at src t = fault.User record { node = too_large; loc = loc_at src (Some (extent_of t)) }

-- the first fault by this rule: the tokens of the first group begin a sentence, those of the
-- second stand from the fault on, and behind them is the end, or the place at which no token
-- starts
pub data FirstFault {T : Type 0} (R : List Lexeme → T → Type 0) (n : ClosersOnly)
    (src : List ℕ) : List Lexeme → List Lexeme → Option ℕ → RawFault → Type 0 where
  -- no sentence goes on with the token behind the first group
  unexpected : {ts us : List Lexeme} {t : Lexeme} {bad : Option ℕ} {ks : List TokenKind} →
      IsFirstRefused R ts (Some t.kind) → IsExpected R n (kinds ts) (Some t.kind) ks →
      FirstFault R n src ts (t ∷ us) bad (unexpected_fault t ks)
  -- the end is behind it, and no sentence ends there
  early_end : {ts : List Lexeme} {ks : List TokenKind} → IsFirstRefused R ts None →
      IsExpected R n (kinds ts) None ks
      → FirstFault R n src ts [] None (early_at (tokens_end ts) ks)
  -- some sentence goes on with a number behind it, and the one there is past 64 bits
  large_number : {ts us : List Lexeme} {t : Lexeme} {bad : Option ℕ} → Starts R ts →
      Allowed R (kinds ts) (Some kind.Number) → t.kind ≡ kind.Number → fits t.text ≡ false →
      FirstFault R n src ts (t ∷ us) bad (large_at src t)
  -- no token starts behind it
  bad_place : {ts : List Lexeme} {place : ℕ} → Starts R ts →
      FirstFault R n src ts [] (Some place) (fault.InvalidToken place)

-- it is the first fault of these tokens
pub record IsFaultIn {T : Type 0} (R : List Lexeme → T → Type 0) (n : ClosersOnly) (src : List ℕ)
    (ts : List Lexeme) (bad : Option ℕ) (raw : RawFault) : Type 0 where
  pub before : List Lexeme
  pub rest : List Lexeme
  pub is : ts ≡ before ++ rest
  pub stands : FirstFault R n src before rest bad raw

-- and of a text
pub record IsFaultOf {T : Type 0} (R : Rule T) (n : ClosersOnly) (text : List ℕ)
    (raw : RawFault) : Type 0 where
  pub tokens : List Lexeme
  pub bad : Option ℕ
  pub cut : IsCutOrStop text 0 tokens bad
  pub fault : IsFaultIn (R text) n text tokens bad raw

-- a refusal is want of memory, or just this one fault
abbrev pub IsRefusal : {T : Type 0} → Rule T → ClosersOnly → List ℕ → Failure → Type 0
IsRefusal R n text (Memory m) = Unit {0}
IsRefusal R n text (Errors errors) =
    (raw : RawFault) × IsFaultOf R n text raw ×
    (faults_of errors ≡ ToCST record { raw = raw; src = text } ∷ [])

-- laws of a rule: tokens have at most one tree; they have a tree, or a first fault and then just
-- one, never both

abbrev pub HasOneTree : {T : Type 0} → Rule T → Type 0
HasOneTree {T = T} R = (src : List ℕ) (ts : List Lexeme) (x y : T) → R src ts x → R src ts y →
    x ≡ y

abbrev pub HasTreeOrFault : {T : Type 0} → Rule T → ClosersOnly → Type 0
HasTreeOrFault R n =
    (src : List ℕ) (ts : List Lexeme) (bad : Option ℕ) → (HasTree (R src) ts × (bad ≡ None)) ⊎
    ((raw : RawFault) × IsFaultIn (R src) n src ts bad raw)

abbrev pub HasOneFault : {T : Type 0} → Rule T → ClosersOnly → Type 0
HasOneFault R n =
    (src : List ℕ) (ts : List Lexeme) (bad : Option ℕ) (f g : RawFault) →
    IsFaultIn (R src) n src ts bad f → IsFaultIn (R src) n src ts bad g → f ≡ g

abbrev pub HasNotBoth : {T : Type 0} → Rule T → ClosersOnly → Type 0
HasNotBoth R n =
    (src : List ℕ) (ts : List Lexeme) (raw : RawFault) → HasTree (R src) ts →
    ¬ (IsFaultIn (R src) n src ts None raw)
