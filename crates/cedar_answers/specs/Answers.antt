-- What each call answers of a text under Cedar's table: what each status says, and all that the
-- answer holds then.
use Rattle.std.specs.Prelude.{◌≡◌, ℕ, List, [], length, map}
use Rattle.std.specs.Str.{IsUtf8}
use Rattle.cedar_lexer.specs.Cut.{Cuts}
use Rattle.cedar_lexer.specs.Token.{Lexeme}
use Rattle.cedar_layout.specs.declared.options.LayoutOptions.{LayoutOptions}
use Rattle.cedar_layout.specs.Pieces.{SpacedItem, IsReadAs}
use Rattle.cedar_layout.specs.Widths.{KeepsWidth}
use Rattle.cedar_expressions.specs.Value.{Value}
use Rattle.cedar_policy_store.specs.PlaceFree as free
use Rattle.cedar_policy_store.specs.PlaceFree.{set_meaning}
use Rattle.cedar_policy_store.specs.PolicyMaps.{PolicyMaps}
use Rattle.cedar_syntax.specs.declared.cst.Expr.{Expr}
use Rattle.cedar_syntax.specs.declared.cst.Policies.{Policies}
use Rattle.cedar_syntax.specs.declared.err.faults.Failure.{Failure}
use Rattle.cedar_syntax.specs.declared.err.faults.Failure.TheVariants.{Errors}
use Rattle.cedar_syntax.specs.declared.err.faults.ParseErrors.{ParseErrors}
use Rattle.cedar_syntax.specs.faults.ParseErrors.{faults_of}
use Rattle.cedar_syntax.specs.tokens.Signs.{sign_limit}
use Rattle.cedar_syntax.specs.trees.Trees.{Cell}
use Rattle.cedar_syntax.specs.trees.Unplaced.{expr_tree}
use Rattle.cedar_grammar.specs.faults.MendedFaults.{IsMendedRefusal, PoliciesBefore}
use Rattle.cedar_grammar.specs.grammar.Grammar.{IsTreeOf}
use Rattle.cedar_grammar.specs.grammar.LooseExpressions.{ReadsExpr}
use Rattle.cedar_grammar.specs.grammar.LoosePolicies.{ReadsPolicies}
use Rattle.cedar_grammar.specs.printing.PrintLaw.{node_text}
use Rattle.cedar_conversion.specs.strict.Extensions.{Extensions}
use Rattle.cedar_conversion.specs.strict.Strict.{Means, expression}
use Rattle.cedar_policy_parser.specs.faults.Refused.{RefusesSet, RefusesText}
use Rattle.cedar_policy_parser.specs.meaning.Formatted.{AreLinesOf, IsInLines, MeanTheSame, MeansSet}
use Rattle.cedar_policy_parser.specs.meaning.LaidOut.{EndsItsLines, IsLayoutOf, Keeps}
use Rattle.cedar_writer.specs.WrittenTexts.{IsTextOfSet}
use Rattle.cedar_answers.specs.Faults.{AreFaultsTold}
use Rattle.cedar_answers.specs.Told.{nodes_of, policies_told, policy_read}
use Rattle.cedar_answers.specs.declared.answer.CedarAnswer.{CedarAnswer}
use Rattle.cedar_answers.specs.declared.answer.CedarPolicy.{CedarPolicy}

-- ---- what a text is, under a table of extensions

abbrev pub MeansPolicySet : Extensions → List ℕ → Type 0
MeansPolicySet table text = (set : free.Policies) × MeansSet table text set

abbrev pub MeansExpression : Extensions → List ℕ → Type 0
MeansExpression table text = (value : Value) × (ts : List Lexeme) × Cuts text ts
    × Means table sign_limit expression ts value

-- it has a tree of policies, whether that means something or not
abbrev pub HasPolicyTree : List ℕ → Type 0
HasPolicyTree text = (tree : Cell Policies) × IsTreeOf ReadsPolicies text tree

-- and where it has none, with which faults that is refused
abbrev pub RefusesTree : Failure → List ℕ → Type 0
RefusesTree failure text = IsMendedRefusal ReadsPolicies PoliciesBefore text failure

-- ---- what is told of a text that is accepted

-- these policies are those of the set that the text means, one for each policy of its tree, with
-- the bytes that it stands at
pub record ArePoliciesOf (table : Extensions) (text : List ℕ)
    (policies : List CedarPolicy) : Type 0 where
  pub set : PolicyMaps
  pub tree : Cell Policies
  pub meant : MeansSet table text (set_meaning set)
  pub stands : IsTreeOf ReadsPolicies text tree
  pub each : length policies ≡ length (nodes_of tree.node)
  pub told : map policy_read policies ≡ policies_told text set tree

-- what `Display` writes of the text's tree
pub record IsPrintOf (text printed : List ℕ) : Type 0 where
  pub tree : Cell Expr
  pub stands : IsTreeOf ReadsExpr text tree
  pub is : printed ≡ node_text expr_tree tree

-- the text's policies in lines, which mean the same and which a second call leaves
pub record AreLinesFor (table : Extensions) (text lines : List ℕ) : Type 0 where
  pub lines_of : AreLinesOf lines text
  pub same : MeanTheSame table text lines
  pub stay : IsInLines lines

-- the policies that the text means written anew: a line for each, in the order of their names,
-- and these lines mean the same set
pub record IsWrittenOf (table : Extensions) (text out : List ℕ) : Type 0 where
  pub set : PolicyMaps
  pub meant : MeansSet table text (set_meaning set)
  pub written : IsTextOfSet table sign_limit set out
  pub same : MeansSet table out (set_meaning set)

-- the text laid out: its words and its comments, within the width where its words let it be
pub record IsLaidOutText (options : LayoutOptions) (text out : List ℕ) : Type 0 where
  pub laid : IsLayoutOf options text out
  pub keeps : Keeps text out
  pub lines : EndsItsLines out
  pub width : (ps : List SpacedItem) → IsReadAs text ps → KeepsWidth options.width ps out

-- ---- answers

pub record TellsPolicies (table : Extensions) (text : List ℕ) (answer : CedarAnswer) : Type 0 where
  pub policies : ArePoliciesOf table text answer.policies.now
  pub faults : answer.faults.now ≡ []
  pub written : answer.text.now ≡ []

-- a text alone
pub record TellsText (Is : List ℕ → Type 0) (answer : CedarAnswer) : Type 0 where
  pub written : Is answer.text.now
  pub policies : answer.policies.now ≡ []
  pub faults : answer.faults.now ≡ []

-- the faults for which a text is refused, in their order
pub record TellsEachFault (Refuses : Failure → List ℕ → Type 0) (text : List ℕ)
    (answer : CedarAnswer) : Type 0 where
  pub errors : ParseErrors
  pub refused : Refuses (Errors errors) text
  pub faults : AreFaultsTold text (faults_of errors) answer.faults.now
  pub policies : answer.policies.now ≡ []
  pub written : answer.text.now ≡ []

pub record TellsNothing (answer : CedarAnswer) : Type 0 where
  pub policies : answer.policies.now ≡ []
  pub faults : answer.faults.now ≡ []
  pub written : answer.text.now ≡ []

-- what is told of a failure: its faults in order, or that there was no memory, for them either
pub data TellsFailure (text : List ℕ) (failure : Failure) (answer : CedarAnswer) : Type 0 where
  faults : (errors : ParseErrors) → failure ≡ Errors errors → answer.status ≡ 1
      → AreFaultsTold text (faults_of errors) answer.faults.now → answer.policies.now ≡ []
      → answer.text.now ≡ [] → TellsFailure text failure answer
  memory : answer.status ≡ 3 → TellsNothing answer → TellsFailure text failure answer

-- What a call answers: by its status what the text is and all that the answer holds.
pub data AnswersHost (Meant : Type 0) (Tells : CedarAnswer → Type 0)
    (Refuses : Failure → List ℕ → Type 0) (text : List ℕ) (answer : CedarAnswer) : Type 0 where
  accepted : answer.status ≡ 0 → Meant → Tells answer → AnswersHost Meant Tells Refuses text answer
  refused : answer.status ≡ 1 → ¬ Meant → TellsEachFault Refuses text answer
      → AnswersHost Meant Tells Refuses text answer
  no_text : answer.status ≡ 2 → ¬ IsUtf8 text → TellsNothing answer
      → AnswersHost Meant Tells Refuses text answer
  no_memory : answer.status ≡ 3 → IsUtf8 text → TellsNothing answer
      → AnswersHost Meant Tells Refuses text answer

-- ---- the calls

abbrev pub AnswersPolicies : Extensions → List ℕ → CedarAnswer → Type 0
AnswersPolicies table text answer = AnswersHost (MeansPolicySet table text)
    (TellsPolicies table text) (RefusesSet table) text answer

abbrev pub AnswersExpression : Extensions → List ℕ → CedarAnswer → Type 0
AnswersExpression table text answer = AnswersHost (MeansExpression table text)
    (TellsText (IsPrintOf text)) (RefusesText table) text answer

abbrev pub AnswersLines : Extensions → List ℕ → CedarAnswer → Type 0
AnswersLines table text answer = AnswersHost (MeansPolicySet table text)
    (TellsText (AreLinesFor table text)) (RefusesSet table) text answer

abbrev pub AnswersWritten : Extensions → List ℕ → CedarAnswer → Type 0
AnswersWritten table text answer = AnswersHost (MeansPolicySet table text)
    (TellsText (IsWrittenOf table text)) (RefusesSet table) text answer

abbrev pub AnswersLayout : LayoutOptions → List ℕ → CedarAnswer → Type 0
AnswersLayout options text answer = AnswersHost (HasPolicyTree text)
    (TellsText (IsLaidOutText options text)) RefusesTree text answer
