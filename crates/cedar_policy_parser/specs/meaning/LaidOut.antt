-- A text of policies laid out over lines, and what stays of it: all but where its lines end and
-- what space stands between its words.
use Rattle.std.specs.Prelude.{◌≡◌, ◌↔◌, ◌⊎◌, ℕ, List, [], ◌++◌, codes, Result, IfOk, IfErr, MatchResult, String, string_bytes}
use Rattle.cedar_lexer.specs.Cut.{Cuts}
use Rattle.cedar_lexer.specs.Token.{Lexeme}
use Rattle.cedar_lexer.specs.Words.{words_of}
use Rattle.cedar_layout.specs.declared.options.LayoutOptions.{LayoutOptions}
use Rattle.cedar_layout.specs.Ends.{EndCleanly}
use Rattle.cedar_layout.specs.Entries.{entries_of}
use Rattle.cedar_layout.specs.Layouts.{laid_out}
use Rattle.cedar_layout.specs.Pieces.{SpacedItem, IsReadAs, items_of}
use Rattle.cedar_layout.specs.Style.{style}
use Rattle.cedar_policy_store.specs.PlaceFree as free
use Rattle.cedar_syntax.specs.declared.cst.Policies.{Policies}
use Rattle.cedar_syntax.specs.declared.err.faults.Failure.{Failure}
use Rattle.cedar_syntax.specs.faults.ParseErrors.{IsMemory}
use Rattle.cedar_syntax.specs.trees.Trees.{Cell}
use Rattle.cedar_syntax.specs.trees.UnlocatedTrees.{unlocated_policies}
use Rattle.cedar_grammar.specs.grammar.Grammar.{IsTreeOf}
use Rattle.cedar_grammar.specs.grammar.LoosePolicies.{ReadsPolicies}
use Rattle.cedar_grammar.specs.printing.PrintLaw.{HasSameTree}
use Rattle.cedar_conversion.specs.strict.Extensions.{Extensions}
use Rattle.cedar_policy_parser.specs.meaning.Formatted.{MeansSet}

-- ---- what stays

-- both texts cut into tokens, and these are the same words
abbrev pub HaveSameWords : List ℕ → List ℕ → Type 0
HaveSameWords text other = (ts : List Lexeme) × (us : List Lexeme) × Cuts text ts × Cuts other us
    × (words_of us ≡ words_of ts)

-- and the same comments between the same words
abbrev pub HaveSameComments : List ℕ → List ℕ → Type 0
HaveSameComments text other = (ts : List Lexeme) × (us : List Lexeme) × (cut : Cuts text ts)
    × (again : Cuts other us) × (entries_of again ≡ entries_of cut)

-- a comment stands on the line of the word before it in both, or in neither
abbrev pub HaveSameItems : List ℕ → List ℕ → Type 0
HaveSameItems text other = (ps : List SpacedItem) × (qs : List SpacedItem) × IsReadAs text ps
    × IsReadAs other qs × (items_of qs ≡ items_of ps)

-- the tree that the text has the other has too, places aside, and no other one
abbrev pub KeepsTree : List ℕ → List ℕ → Type 0
KeepsTree text other = (tree : Cell Policies) → IsTreeOf ReadsPolicies text tree
    → HasSameTree ReadsPolicies unlocated_policies tree other

-- under every table the other means the set that the text means, and one only where it does
abbrev pub KeepsMeaning : List ℕ → List ℕ → Type 0
KeepsMeaning text other = (table : Extensions) (set : free.Policies)
    → MeansSet table text set ↔ MeansSet table other set

-- what the other keeps of the text
pub record Keeps (text other : List ℕ) : Type 0 where
  pub words : HaveSameWords text other
  pub comments : HaveSameComments text other
  pub items : HaveSameItems text other
  pub tree : KeepsTree text other
  pub meaning : KeepsMeaning text other

-- no line ends with a space, a tab, a vertical tab or a form feed, but within a word, and a line
-- feed ends the text where it isn't empty
pub record EndsItsLines (text : List ℕ) : Type 0 where
  pub cleanly : (ts : List Lexeme) → Cuts text ts → EndCleanly text 0 ts
  pub last : (text ≡ []) ⊎ ((front : List ℕ) × (text ≡ front ++ codes "\n"))

-- ---- which text it is

-- what the style makes under these options of the words and comments that the text is read as
abbrev pub IsLayoutOf : LayoutOptions → List ℕ → List ℕ → Type 0
IsLayoutOf options text out =
    (ps : List SpacedItem) × IsReadAs text ps × (out ≡ laid_out (style options) ps)

-- what a call may answer: that, of a text that has a tree, and then nothing else but want of
-- memory
pub record LaysOut {A : Type 0} (options : LayoutOptions) (text : List ℕ)
    (answer : Result (String A) Failure) : Type 0 where
  pub laid : IfOk answer (λ out. IsLayoutOf options text (string_bytes out))
  pub read : IfOk answer (λ _. (tree : Cell Policies) × IsTreeOf ReadsPolicies text tree)
  pub only : (tree : Cell Policies) → IsTreeOf ReadsPolicies text tree → IfErr answer IsMemory

-- of this text a call under the same options may answer the same bytes alone, or want of memory
abbrev pub IsLeftAlone : {A : Type 0} → LayoutOptions → String A → Type 0
IsLeftAlone {A = A} options out =
    (second : Result (String A) Failure) → LaysOut options (string_bytes out) second
    → MatchResult second (λ more. string_bytes more ≡ string_bytes out) IsMemory
