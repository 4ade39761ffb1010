-- Which trees and which texts are refused, and with which faults: those of the tokens, or, where
-- these have a tree, those of the tree.
use Rattle.std.specs.Prelude.{◌⊎◌, ℕ, List}
use Rattle.cedar_syntax.specs.declared.cst.Expr.{Expr}
use Rattle.cedar_syntax.specs.declared.cst.Policies.{Policies}
use Rattle.cedar_syntax.specs.declared.err.faults.Failure.{Failure}
use Rattle.cedar_syntax.specs.trees.Forms.{located, expr_form}
use Rattle.cedar_grammar.specs.declared.reading.expected.ClosersOnly.TheVariants as narrowing
use Rattle.cedar_grammar.specs.faults.FirstFault.{IsRefusal}
use Rattle.cedar_grammar.specs.grammar.Grammar.{IsTreeOf}
use Rattle.cedar_grammar.specs.grammar.LooseExpressions.{ReadsExpr}
use Rattle.cedar_grammar.specs.grammar.LoosePolicies.{ReadsPolicies}
use Rattle.cedar_grammar.specs.faults.MendedFaults.{IsMendedRefusal, PoliciesBefore}
use Rattle.cedar_syntax.specs.trees.Trees.{Cell}
use Rattle.cedar_conversion.specs.outcome.Conversion.{value_outcome}
use Rattle.cedar_conversion.specs.strict.Extensions.{Extensions}
use Rattle.cedar_policy_conversion.specs.Policies.{policies_outcome}
use Rattle.cedar_conversion.specs.outcome.Seen.{Refuses}

-- a tree is refused with its faults, all that there are
abbrev pub TellsTree : Extensions → Failure → Cell Expr → Type 0
TellsTree table failure tree = Refuses failure (value_outcome table (located expr_form tree))

-- a text is refused for its first fault where it has no tree, else with the faults of its tree
abbrev pub RefusesText : Extensions → Failure → List ℕ → Type 0
RefusesText table failure text = IsRefusal ReadsExpr narrowing.TokensAndEnd text failure
    ⊎ ((tree : Cell Expr) × IsTreeOf ReadsExpr text tree × TellsTree table failure tree)

-- the same of the tree of policies
abbrev pub TellsSet : Extensions → Failure → Cell Policies → Type 0
TellsSet table failure tree = Refuses failure (policies_outcome table tree)

-- a text of policies is refused with its mended faults where it has no tree, else with the faults
-- of its tree
abbrev pub RefusesSet : Extensions → Failure → List ℕ → Type 0
RefusesSet table failure text = IsMendedRefusal ReadsPolicies PoliciesBefore text failure
    ⊎ ((tree : Cell Policies) × IsTreeOf ReadsPolicies text tree × TellsSet table failure tree)
