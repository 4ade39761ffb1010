-- How a machine reads a text by a rule, token after token, and what it says where it stops.
use Rattle.std.specs.Prelude.{◌≡◌, ℕ, Bool, true, false, ◌||◌, ◌&&◌, not, cond, IsTrue, ◌↔◌, List, [], ◌∷◌, ◌++◌, Option, Some, None, Ok}
use Rattle.cedar_lexer.specs.Token.{Lexeme}
use Rattle.cedar_lexer.specs.Cut.{Cuts, StopsFrom}
use Rattle.cedar_lexer.specs.LexerState.{LexerState, LexerAnswers, IsCutOrStop}
use Rattle.cedar_lexer.specs.declared.token.Token.{Token}
use Rattle.cedar_lexer.specs.declared.token.TokenKind.{TokenKind}
use Rattle.cedar_lexer.specs.declared.token.TokenKind.TheVariants as kind
use Rattle.cedar_syntax.specs.faults.ParseErrors.{faults_of}
use Rattle.cedar_syntax.specs.declared.err.faults.Failure.{Failure}
use Rattle.cedar_syntax.specs.declared.err.faults.Failure.TheVariants.{Memory, Errors}
use Rattle.cedar_syntax.specs.declared.err.faults.ParseErrors.{ParseErrors}
use Rattle.cedar_syntax.specs.declared.err.faults.ParseError.TheVariants.{ToCST}
use Rattle.cedar_syntax.specs.declared.err.to_cst.RawFault.{RawFault}
use Rattle.cedar_syntax.specs.declared.err.to_cst.RawFault.TheVariants as fault
use Rattle.cedar_grammar.specs.declared.reading.expected.ClosersOnly.{ClosersOnly}
use Rattle.cedar_grammar.specs.declared.reading.token_read.TokenRead.{TokenRead}
use Rattle.cedar_grammar.specs.declared.reading.token_read.TokenRead.TheVariants.{Done, TooLarge}
use Rattle.cedar_grammar.specs.faults.Expected.{by_name, is_closer, can_narrow}
use Rattle.cedar_grammar.specs.faults.FirstFault.{tokens_end, unexpected_fault, early_at, large_at}
use Rattle.cedar_grammar.specs.grammar.Sentences.{kinds, Allowed}
use Rattle.cedar_grammar.specs.machines.Machine.{Answer, next, ended, refused, too_large, Machine, Comes, RunsTo, IsParser, is_some, Reader, machine_of, allowed_by}

-- what an act made of a state: nothing is said of it where a number is too large
abbrev pub done_as : {S : Type 0} → TokenRead → S → Option S
done_as Done s = Some s
done_as TooLarge s = None

-- whether a kind is allowed, by what a machine answers to a token of it
abbrev pub may_take : {S T : Type 0} → Answer S T → Bool
may_take (next s) = true
may_take (ended x) = false
may_take refused = false
may_take too_large = true

-- a form is read by a rule: its machine is the rule's parser, and its states allow just what some
-- sentence has next, a kind or the end
pub record ReadsBy {S A T : Type 0} (src : List ℕ) (r : Reader S A T)
    (R : List Lexeme → T → Type 0) : Type 0 where
  pub parser : IsParser (machine_of src r) R
  pub ends : (s : S) → is_some (r.finish src s) ≡ r.ends s
  pub exact : (ts : List Lexeme) (s : S) (after : Option TokenKind) →
      Comes (machine_of src r) ts s → IsTrue (allowed_by r s after) ↔ Allowed R (kinds ts) after

-- ---- what is expected, by what a state allows

abbrev pub any_closer : (TokenKind → Bool) → List TokenKind → Bool
any_closer p [] = false
any_closer p (k ∷ ks) = (is_closer k && p k) || any_closer p ks

abbrev pub is_narrowed : (Option TokenKind → Bool) → ClosersOnly → Option TokenKind → Bool
is_narrowed p n after =
    can_narrow n after &&
    ((p (Some kind.Star) || p (Some kind.AndAnd)) && any_closer (λ k. p (Some k)) by_name)

abbrev pub picks : Bool → (Option TokenKind → Bool) → TokenKind → Bool
picks b p k = (not b || is_closer k) && p (Some k)

abbrev pub picked_kinds : Bool → (Option TokenKind → Bool) → List TokenKind → List TokenKind
picked_kinds b p [] = []
picked_kinds b p (k ∷ ks) = cond (picks b p k) (k ∷ picked_kinds b p ks) (picked_kinds b p ks)

abbrev pub wanted_kinds : (Option TokenKind → Bool) → ClosersOnly → Option TokenKind
    → List TokenKind
wanted_kinds p n after = picked_kinds (is_narrowed p n after) p by_name

-- ---- what the driver answers

-- a tree that the tokens of the text run to
pub record IsRead {S T : Type 0} (m : Machine Lexeme S T) (text : List ℕ) (x : T) : Type 0 where
  pub tokens : List Lexeme
  pub cut : Cuts text tokens
  pub runs : RunsTo m tokens x

-- the one fault of this text
abbrev pub IsFault : List ℕ → ParseErrors → RawFault → Type 0
IsFault src errors raw = faults_of errors ≡ ToCST record { raw = raw; src = src } ∷ []

abbrev pub FailsWith : List ℕ → RawFault → Failure → Type 0
FailsWith src raw (Memory m) = Unit {0}
FailsWith src raw (Errors errors) = IsFault src errors raw

-- the lexer's next token, if there is one
abbrev pub GivesToken : LexerState → Option Token → LexerState → Type 0
GivesToken l (Some t) u = LexerAnswers l (Some (Ok t)) u
GivesToken l None u = LexerAnswers l None u

-- its bad place
abbrev pub StopsBadly : List ℕ → LexerState → Failure → Type 0
StopsBadly src l (Memory m) = Unit {0}
StopsBadly src l (Errors errors) =
    (place : ℕ) × StopsFrom l.source l.offset [] place ×
    IsFault src errors (fault.InvalidToken place)

-- ---- where it stops

-- a number past 64 bits stops a machine where a number is allowed
abbrev pub large_fault : {S T : Type 0} → List ℕ → Answer S T → Lexeme → Option RawFault
large_fault src (next s) t = None
large_fault src (ended x) t = None
large_fault src refused t = None
large_fault src too_large t = Some (large_at src t)

-- what it tells in this state behind the tokens of the first group: of the token behind them, of
-- the end, or of the bad place there
abbrev pub stop_fault : {S T : Type 0} → Machine Lexeme S T → (S → Option TokenKind → Bool) →
    ClosersOnly → List ℕ → S → List Lexeme → List Lexeme → Option ℕ → Option RawFault
stop_fault m p n src s ts (t ∷ us) bad =
    cond (p s (Some t.kind)) (large_fault src (m.step s t) t)
    (Some (unexpected_fault t (wanted_kinds (p s) n (Some t.kind))))
stop_fault m p n src s ts [] None =
    cond (p s None) None (Some (early_at (tokens_end ts) (wanted_kinds (p s) n None)))
stop_fault m p n src s ts [] (Some place) = Some (fault.InvalidToken place)

-- a text at which the machine stops with this fault
pub record StopsWith {S T : Type 0} (m : Machine Lexeme S T) (p : S → Option TokenKind → Bool)
    (n : ClosersOnly) (text : List ℕ) (raw : RawFault) : Type 0 where
  pub before : List Lexeme
  pub rest : List Lexeme
  pub bad : Option ℕ
  pub state : S
  pub cut : IsCutOrStop text 0 (before ++ rest) bad
  pub comes : Comes m before state
  pub is : stop_fault m p n text state before rest bad ≡ Some raw

abbrev pub IsStop : {S T : Type 0} → Machine Lexeme S T → (S → Option TokenKind → Bool) →
    ClosersOnly → List ℕ → Failure → Type 0
IsStop m p n text (Memory e) = Unit {0}
IsStop m p n text (Errors errors) =
    (raw : RawFault) × StopsWith m p n text raw × IsFault text errors raw

-- a state that doesn't take the token behind it, or stops at it
abbrev pub StopsAtToken : {S T : Type 0} → Machine Lexeme S T → (S → Option TokenKind → Bool) →
    ClosersOnly → List ℕ → S → Lexeme → Failure → Type 0
StopsAtToken m p n src s t (Memory e) = Unit {0}
StopsAtToken m p n src s t (Errors errors) =
    (raw : RawFault) × (stop_fault m p n src s [] (t ∷ []) None ≡ Some raw)
    × IsFault src errors raw

-- and one that can't end
abbrev pub StopsAtEnd : {S T : Type 0} → Machine Lexeme S T → (S → Option TokenKind → Bool) →
    ClosersOnly → List ℕ → S → ℕ → Failure → Type 0
StopsAtEnd m p n src s end (Memory e) = Unit {0}
StopsAtEnd m p n src s end (Errors errors) =
    (p s None ≡ false) × IsFault src errors (early_at end (wanted_kinds (p s) n None))
