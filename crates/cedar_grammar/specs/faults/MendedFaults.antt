-- All faults of a text in which reading goes on behind a fault, as they are recorded.
use Rattle.std.specs.Prelude.{◌≡◌, ◌⊎◌, ℕ, List, [], ◌∷◌, ◌++◌, Option, Some, None}
use Rattle.cedar_lexer.specs.Token.{Lexeme}
use Rattle.cedar_lexer.specs.LexerState.{IsCutOrStop}
use Rattle.cedar_lexer.specs.declared.token.TokenKind.{TokenKind}
use Rattle.cedar_syntax.specs.faults.ParseErrors.{faults_of}
use Rattle.cedar_syntax.specs.declared.err.faults.Failure.{Failure}
use Rattle.cedar_syntax.specs.declared.err.faults.Failure.TheVariants.{Memory, Errors}
use Rattle.cedar_syntax.specs.declared.err.faults.ParseError.{ParseError}
use Rattle.cedar_syntax.specs.declared.err.faults.ParseError.TheVariants.{ToCST}
use Rattle.cedar_syntax.specs.declared.err.to_cst.RawFault.{RawFault}
use Rattle.cedar_syntax.specs.declared.err.to_cst.RawFault.TheVariants as fault
use Rattle.cedar_grammar.specs.declared.reading.expected.ClosersOnly.{ClosersOnly}
use Rattle.cedar_grammar.specs.declared.reading.expected.ClosersOnly.TheVariants as narrowing
use Rattle.cedar_grammar.specs.faults.Expected.{IsExpected}
use Rattle.cedar_grammar.specs.faults.FirstFault.{tokens_end, unexpected_fault, early_at, large_at}
use Rattle.cedar_grammar.specs.grammar.Grammar.{Rule, IsNodeOf}
use Rattle.cedar_grammar.specs.grammar.LoosePolicies.{ReadsMany, ReadsPolicy}
use Rattle.cedar_grammar.specs.faults.Mended.{Faults}
use Rattle.cedar_grammar.specs.grammar.Sentences.{kinds, HasTree}

-- a fault of this text
abbrev pub fault_of : List ℕ → RawFault → ParseError
fault_of src raw = ToCST record { raw = raw; src = src }

-- the fault of a token, or of the end, that no sentence allows behind these tokens
pub data Unallowed {T : Type 0} (R : List Lexeme → T → Type 0) (n : ClosersOnly)
    (src : List ℕ) : List Lexeme → Option Lexeme → ParseError → Type 0 where
  a_token : {ts : List Lexeme} {t : Lexeme} {ks : List TokenKind} →
      IsExpected R n (kinds ts) (Some t.kind) ks →
      Unallowed R n src ts (Some t) (fault_of src (unexpected_fault t ks))
  the_end : {ts : List Lexeme} {ks : List TokenKind} → IsExpected R n (kinds ts) None ks →
      Unallowed R n src ts None (fault_of src (early_at (tokens_end ts) ks))

-- and that of a number that doesn't fit
abbrev pub IsLarge : List ℕ → Lexeme → ParseError → Type 0
IsLarge src t x = x ≡ fault_of src (large_at src t)

-- the fault at which the parse stops is listed first
abbrev pub faults_with_last : {F : Type 0} → Option F → List F → List F
faults_with_last None xs = xs
faults_with_last (Some x) xs = x ∷ xs

-- what may stand before the policy that is begun: policies, or nothing
abbrev pub PoliciesBefore : List ℕ → List Lexeme → Type 0
PoliciesBefore src ts = HasTree (ReadsMany src (ReadsPolicy src)) ts

abbrev pub NothingBefore : List ℕ → List Lexeme → Type 0
NothingBefore src ts = ts ≡ []

-- the faults of tokens that are read by this rule: those that are mended, and the one at which the
-- parse stops
abbrev pub FaultsOf : {T : Type 0} → Rule T → (List ℕ → List Lexeme → Type 0) → List ℕ →
    List Lexeme → List ParseError → Option ParseError → Type 0
FaultsOf R W src ts ys y = Faults src (IsNodeOf R src) (W src)
    (Unallowed (IsNodeOf R src) narrowing.Tokens src) (IsLarge src) ts ys y

-- the parse has stopped at the last of these faults: they stand whatever tokens follow
abbrev pub HasStopped : {T : Type 0} → Rule T → (List ℕ → List Lexeme → Type 0) → List ℕ →
    List Lexeme → List ParseError → Option ParseError → Type 0
HasStopped R W src ts ys y =
    (x : ParseError) × (y ≡ Some x) × ((us : List Lexeme) → FaultsOf R W src (ts ++ us) ys y)

-- The list of the faults of these tokens, behind which the text ends, or has a bad place. There the
-- fault in hand is given up, and that of the bad place stands for it, unless the parse has stopped
-- before.
abbrev pub IsListed : {T : Type 0} → Rule T → (List ℕ → List Lexeme → Type 0) → List ℕ →
    List Lexeme → Option ℕ → List ParseError → Option ParseError → List ParseError → Type 0
IsListed R W src ts None ys y xs = xs ≡ faults_with_last y ys
IsListed R W src ts (Some place) ys y xs =
    (HasStopped R W src ts ys y × (xs ≡ faults_with_last y ys)) ⊎
    (¬ HasStopped R W src ts ys y × (xs ≡ fault_of src (fault.InvalidToken place) ∷ ys))

-- all faults of a text that is read by this rule
pub record IsFaultList {T : Type 0} (R : Rule T) (W : List ℕ → List Lexeme → Type 0)
    (text : List ℕ) (xs : List ParseError) : Type 0 where
  pub tokens : List Lexeme
  pub bad : Option ℕ
  pub cut : IsCutOrStop text 0 tokens bad
  pub mended : List ParseError
  pub last : Option ParseError
  pub stands : FaultsOf R W text tokens mended last
  pub is : IsListed R W text tokens bad mended last xs

-- a refusal is want of memory, or just these faults
abbrev pub IsMendedRefusal : {T : Type 0} → Rule T → (List ℕ → List Lexeme → Type 0) → List ℕ →
    Failure → Type 0
IsMendedRefusal R W text (Memory e) = Unit {0}
IsMendedRefusal R W text (Errors errors) = IsFaultList R W text (faults_of errors)

-- laws of a rule: tokens have a list of faults, so that mending comes to an end, and just one

abbrev pub HasFaultList : {T : Type 0} → Rule T → (List ℕ → List Lexeme → Type 0) → Type 0
HasFaultList R W = (src : List ℕ) (ts : List Lexeme) →
    (ys : List ParseError) × (y : Option ParseError) × FaultsOf R W src ts ys y

abbrev pub HasOneFaultList : {T : Type 0} → Rule T → (List ℕ → List Lexeme → Type 0) → Type 0
HasOneFaultList R W = (src : List ℕ) (ts : List Lexeme) (xs ys : List ParseError)
    (x y : Option ParseError) → FaultsOf R W src ts xs x → FaultsOf R W src ts ys y →
    (xs ≡ ys) × (x ≡ y)
