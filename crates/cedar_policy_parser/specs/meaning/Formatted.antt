-- The lines of a text of policies, each policy on one: they mean what the text means, and their own
-- lines are the same.
use Rattle.std.specs.Prelude.{◌≡◌, ℕ, List, Result, IfOk, IfErr, MatchResult, String, string_bytes}
use Rattle.cedar_lexer.specs.Cut.{Cuts}
use Rattle.cedar_lexer.specs.Token.{Lexeme}
use Rattle.cedar_policy_store.specs.PlaceFree as free
use Rattle.cedar_syntax.specs.declared.cst.Policies.{Policies}
use Rattle.cedar_syntax.specs.declared.err.faults.Failure.{Failure}
use Rattle.cedar_syntax.specs.faults.ParseErrors.{IsMemory}
use Rattle.cedar_grammar.specs.printing.Formatted.{formatted}
use Rattle.cedar_grammar.specs.grammar.Grammar.{IsTreeOf}
use Rattle.cedar_grammar.specs.grammar.LoosePolicies.{ReadsPolicies}
use Rattle.cedar_syntax.specs.tokens.Signs.{sign_limit}
use Rattle.cedar_syntax.specs.trees.Trees.{Cell}
use Rattle.cedar_conversion.specs.strict.Extensions.{Extensions}
use Rattle.cedar_policy_parser.specs.meaning.StrictPolicy.{IsPolicySet}

-- the text's tokens mean this set under this table
abbrev pub MeansSet : Extensions → List ℕ → free.Policies → Type 0
MeansSet table text set = (ts : List Lexeme) × Cuts text ts × IsPolicySet table sign_limit ts set

-- the lines are the policies of the text's tree, each as it is printed, a line feed behind each
abbrev pub AreLinesOf : List ℕ → List ℕ → Type 0
AreLinesOf lines text =
    (tree : Cell Policies) × IsTreeOf ReadsPolicies text tree × (lines ≡ formatted tree)

-- both texts mean a set, and the same one, places aside
abbrev pub MeanTheSame : Extensions → List ℕ → List ℕ → Type 0
MeanTheSame table text other =
    (set : free.Policies) × MeansSet table text set × MeansSet table other set

-- the lines of its own tree are the text itself
abbrev pub IsInLines : List ℕ → Type 0
IsInLines text = (tree : Cell Policies) → IsTreeOf ReadsPolicies text tree → formatted tree ≡ text

-- what a call of the formatter may answer: the lines of the text, and where the text means a set,
-- nothing else but want of memory
pub record Formats {A : Type 0} (table : Extensions) (text : List ℕ)
    (answer : Result (String A) Failure) : Type 0 where
  pub lines : IfOk answer (λ out. AreLinesOf (string_bytes out) text)
  pub only : (set : free.Policies) → MeansSet table text set → IfErr answer IsMemory

-- of these lines a call may answer the same bytes alone, or want of memory
abbrev pub IsAnsweredAgain : {A : Type 0} → Extensions → String A → Type 0
IsAnsweredAgain {A = A} table lines =
    (second : Result (String A) Failure) → Formats table (string_bytes lines) second
    → MatchResult second (λ more. string_bytes more ≡ string_bytes lines) IsMemory
