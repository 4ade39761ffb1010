-- The leftmost fault of a text in which reading goes on behind a fault: the one at which the
-- correct beginning of the text ends. Recovery skips tokens and takes reading up behind them, so
-- whatever else is told starts further on, though it may be told before.
use Rattle.std.specs.Prelude.{◌≡◌, ℕ, ◌<◌, IsTrue, List, ◌∷◌, ◌++◌, Option, Some, None, option_map}
use Rattle.std.specs.List.{AllByRecursion}
use Rattle.cedar_lexer.specs.Token.{Lexeme}
use Rattle.cedar_lexer.specs.declared.token.TokenKind.TheVariants as kind
use Rattle.cedar_syntax.specs.faults.ParseErrors.{faults_of, span_of}
use Rattle.cedar_syntax.specs.declared.err.faults.Failure.{Failure}
use Rattle.cedar_syntax.specs.declared.err.faults.Failure.TheVariants.{Memory, Errors}
use Rattle.cedar_syntax.specs.declared.err.faults.ParseError.{ParseError}
use Rattle.cedar_syntax.specs.declared.err.to_cst.RawFault.{RawFault}
use Rattle.cedar_grammar.specs.declared.reading.expected.ClosersOnly.TheVariants as narrowing
use Rattle.cedar_grammar.specs.faults.FirstFault.{IsFaultIn}
use Rattle.cedar_grammar.specs.grammar.Grammar.{Rule}
use Rattle.cedar_grammar.specs.faults.MendedFaults.{fault_of}
use Rattle.cedar_syntax.specs.tokens.Tokens.{fits}

-- if the token is a number, it fits 64 bits
abbrev pub IsFitting : Lexeme → Type 0
IsFitting t = t.kind ≡ kind.Number → IsTrue (fits t.text)

-- so does each number among the tokens; one that doesn't may stop the parse
abbrev pub NumbersFit : List Lexeme → Type 0
NumbersFit ts = AllByRecursion IsFitting ts

-- the first byte of a fault, where it has a place
abbrev pub start_of : ParseError → Option ℕ
start_of x = option_map (λ span. span.offset) (span_of x)

-- both are places, and the first stands before the second
abbrev pub IsBefore : Option ℕ → Option ℕ → Type 0
IsBefore None b = ⊥
IsBefore (Some i) None = ⊥
IsBefore (Some i) (Some j) = i < j

-- one fault starts before another
abbrev pub StartsBefore : ParseError → ParseError → Type 0
StartsBefore x y = IsBefore (start_of x) (start_of y)

-- a fault of the list starts before all others there
pub record StandsLeftmost (x : ParseError) (xs : List ParseError) : Type 0 where
  pub earlier : List ParseError
  pub later : List ParseError
  pub is : xs ≡ earlier ++ x ∷ later
  pub before_others : AllByRecursion (λ y. StartsBefore x y) (earlier ++ later)

-- a refusal of these tokens, which are a whole text, is want of memory; or the leftmost of its
-- faults is the first fault by the rule, that of the first token, or the end, that no sentence
-- allows
abbrev pub HasLeftmost : {T : Type 0} → Rule T → List ℕ → List Lexeme → Failure → Type 0
HasLeftmost R src ts (Memory e) = Unit {0}
HasLeftmost R src ts (Errors errors) =
    (raw : RawFault) × IsFaultIn (R src) narrowing.Tokens src ts None raw ×
    StandsLeftmost (fault_of src raw) (faults_of errors)
